-- How the answer of a public function stands.
use Rattle.std.proofs.Common.{◌≡◌, None, refl}
use Rattle.cl_types.specs.declared.sized.Access.TheVariants.{Public}
use Rattle.cl_values.specs.Tree.{Tree as Val, ResponseV}
use Rattle.cl_events.specs.State.{State}
use Rattle.cl_meaning.specs.Answers.{wrong}
use Rattle.cl_meaning.specs.Calls.{closing}
use Rattle.cl_audit_walk.specs.Calls.{response_of}

pub closing_wrong : (v : Val) (before s : State) → None ≡ response_of v → closing Public before v s ≡ wrong s
closing_wrong (ResponseV good v) before s h = absurd cc
closing_wrong v before s h = refl

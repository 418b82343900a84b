-- What is found of an expression: what the plain program finds, but for the bound, and a typed tree that stands for it.
use Rattle.std.specs.Prelude.{◌≡◌, Result, Ok, Err}
use Rattle.cl_types.specs.declared.fault.Fault.{Fault}
use Rattle.cl_types.specs.declared.fault.Fault.TheVariants.{Refused, NoMemory}
use Rattle.cl_sexpr.specs.declared.rule.Break.{Break}
use Rattle.cl_rules.specs.Context.{Context, Names}
use Rattle.cl_rules.specs.Verdicts.{Found}
use Rattle.cl_rules.specs.Judging.{Judged, Holds, Fails}
use Rattle.cl_contracts.specs.Standing.{Stands}
use Rattle.cl_typing.specs.declared.concluding.Checked.{Checked}
use Rattle.cl_typing.specs.Verdicts.{facts, facts_of}

abbrev pub Judges : Context → Names → Judged Found → Result Checked (Fault Break) → Type 0
Judges G B j (Ok c) = (f : Found) × (j ≡ Holds f) × (facts f ≡ facts_of c) × Stands G B c.code f
Judges G B j (Err (Refused b)) = j ≡ Fails b.rule b.span
Judges G B j (Err NoMemory) = Unit {0}

use Rattle.std.proofs.Common.{subst}
use Rattle.cl_types.specs.Types.{PlainType}
use Rattle.cl_judging.specs.Walking.{FineAs}
use Rattle.cl_judging.proofs.literals.local.Goals as goal

pub returns-clause-found : goal.returns-clause-found
returns-clause-found c = subst (λ (t : PlainType). FineAs t c.args.span c.typed.result) c.in_ok-ty.ensures c.typed.ensures.found

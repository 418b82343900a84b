use Rattle.std.proofs.Common.{ℕ, ◌<◌, get_or}
use Rattle.cl_c32.specs.declared.principal.Principal.{Principal}
use Rattle.cl_values.specs.Valid.{IsPrincipal}
use Rattle.cl_nodes.proofs.parts.are_holders.Given as goal

abbrev pub invariant-loop-holder : goal.invariant-loop-holder
invariant-loop-holder l = (k : ℕ) (d : Principal × ℕ) → k < l.holder-index → IsPrincipal (get_or l.holders k d).0

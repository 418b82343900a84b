-- Answers of calls that compute what a native is.
use Rattle.std.proofs.Common.{◌≡◌, Result, sym, subst}
use Rattle.cl_types.specs.declared.fault.Fault.{Fault}
use Rattle.cl_values.specs.declared.no_value.NoValue.{NoValue}
use Rattle.cl_values.specs.Tree.{Tree}
use Rattle.cl_values.specs.Computed.{Computed}
use Rattle.cl_values.specs.Applied.{Answered, Applied}

pub applied_so : (x y : Computed) (r : Result Tree (Fault NoValue)) → x ≡ y → Applied y r → Applied x r
applied_so x y r h k = subst (λ z. Applied z r) (sym h) k

pub answered_so : (x y : Computed) (r : Result Tree NoValue) → x ≡ y → Answered y r → Answered x r
answered_so x y r h k = subst (λ z. Answered z r) (sym h) k

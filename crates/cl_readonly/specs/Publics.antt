-- Whether a deployed contract has a public function of a name.
use Rattle.std.specs.Prelude.{ℕ, Bool, false, List, Option, Some, None}
use Rattle.cl_code.specs.declared.definition.Function.{Function as TypedFunction}
use Rattle.cl_rules.specs.Acceptance.{is_public}
use Rattle.cl_contracts.specs.declared.checked.Checked.{Checked}
use Rattle.cl_contracts.specs.declared.contract.Contract.{Contract}
use Rattle.cl_contracts.specs.Seen.{function_under}

abbrev pub public_if : Option TypedFunction → Bool
public_if None = false
public_if (Some f) = is_public f.access

abbrev pub public_in : List ℕ → Checked → Bool
public_in x c = public_if (function_under x c)

abbrev pub public_under : List ℕ → Option Contract → Bool
public_under x None = false
public_under x (Some c) = public_in x c.checked

-- Functions of other contracts.
use Rattle.std.specs.Prelude.{ℕ, List, Option, None, if◌then◌else◌, option_and_then}
use Rattle.cl_c32.specs.declared.principal.Principal.{Principal}
use Rattle.cl_sexpr.specs.Tree.{Tree, LeafAt}
use Rattle.cl_forms.specs.Shapes.{open_to_others}
use Rattle.cl_rules.specs.Context.{same_principal}
use Rattle.cl_rules.specs.CallShapes.{contract_literal}
use Rattle.cl_code.specs.declared.definition.Function.{Function}
use Rattle.cl_contracts.specs.declared.contract.Contract.{Contract}
use Rattle.cl_contracts.specs.Seen.{contract_under, function_under}

-- the contract that an item is the literal of
abbrev pub literal_of : Principal → Tree → Option Principal
literal_of own (LeafAt leaf at) = contract_literal own leaf
literal_of own e = None

-- a contract that is deployed under another principal than the own one
abbrev pub another_under : Principal → List (Principal × Contract) → Principal → Option Contract
another_under own entries p = if same_principal p own then None else contract_under p entries

-- a function that other contracts may call
abbrev pub if_open : Function → Option Function
if_open f = open_to_others f.access f

abbrev pub open_function : List ℕ → Contract → Option Function
open_function x c = option_and_then if_open (function_under x c.checked)

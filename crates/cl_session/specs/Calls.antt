-- A call in parts.
use Rattle.std.specs.Prelude.{ℕ, List, [], ◌∷◌, Option, Some, None, option_and_then, is_some, if◌then◌else◌}
use Rattle.std.specs.Result.{result_ok}
use Rattle.cl_c32.specs.Address.{AddressParts}
use Rattle.cl_c32.specs.declared.principal.Principal.{Principal}
use Rattle.cl_values.specs.Tree.{Tree, PrincipalV}
use Rattle.cl_values.specs.Reading.{decoded}
use Rattle.cl_post.specs.declared.condition.Mode.TheVariants.{Allow}
use Rattle.cl_file.specs.Entries.{no_limit}
use Rattle.cl_file.specs.declared.entry.Entry.{Entry}
use Rattle.cl_file.specs.declared.entry.Entry.TheVariants.{Call}
use Rattle.cl_request.specs.Pieces.{before}
use Rattle.cl_request.specs.Request.{text_of}

-- the value that bytes spell
abbrev pub value_in : List ℕ → Option Tree
value_in bytes = result_ok (decoded bytes)

abbrev pub principal_of : Tree → Option Principal
principal_of (PrincipalV p) = Some p
principal_of v = None

-- the principal that bytes spell
abbrev pub principal_in : List ℕ → Option Principal
principal_in bytes = option_and_then principal_of (value_in bytes)

-- one that is no contract
abbrev pub address_of : Principal → Option AddressParts
address_of p = if is_some p.contract then None else Some p.address

abbrev pub sender_in : List ℕ → Option AddressParts
sender_in bytes = option_and_then address_of (principal_in bytes)

-- one that is a contract
abbrev pub contract_of : Principal → Option Principal
contract_of p = if is_some p.contract then Some p else None

abbrev pub contract_in : List ℕ → Option Principal
contract_in bytes = option_and_then contract_of (principal_in bytes)

-- the values that pieces spell
abbrev pub values_in : List (List ℕ) → Option (List Tree)
values_in [] = Some []
values_in (piece ∷ pieces) = before (value_in piece) (values_in pieces)

-- five limits, or the greatest ones where there are none
abbrev pub limit_of : List ℕ → Option (List ℕ)
limit_of [] = Some no_limit
limit_of (a ∷ b ∷ c ∷ d ∷ e ∷ []) = Some (a ∷ b ∷ c ∷ d ∷ e ∷ [])
limit_of limits = None

-- a call that is all there, in allow mode and without conditions
abbrev pub call_by : Option AddressParts → Option Principal → Option (List ℕ) → Option (List Tree) → List ℕ → Option Entry
call_by (Some sender) (Some contract) (Some function) (Some args) limit =
    Some (Call (record { sender = sender; limit = limit; mode = Allow; conditions = [] }) contract function args)
call_by sender contract function args limit = None

-- by its pieces: sender, contract, function and arguments
abbrev pub call_with : List (List ℕ) → List ℕ → Option Entry
call_with (sender ∷ contract ∷ function ∷ args) limit = call_by (sender_in sender) (contract_in contract) (text_of function) (values_in args) limit
call_with pieces limit = None

-- the call that pieces spell, with these limits
abbrev pub call_in : List ℕ → List (List ℕ) → Option Entry
call_in limits pieces = option_and_then (call_with pieces) (limit_of limits)

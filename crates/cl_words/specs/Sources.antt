-- The paths of sources, and whose contracts they are.
use Rattle.std.specs.Prelude.{ℕ, ◌-◌, Bool, true, false, not, List, [], ◌∷◌, length, take, drop, codes, is_some, Option, None, if◌then◌else◌, ◌==◌, ◌&&◌}
use Rattle.std.specs.List.{list_all, list_any}
use Rattle.std.specs.Str.{bytes_eq}
use Rattle.cl_c32.specs.Address.{AddressParts}
use Rattle.cl_c32.specs.declared.principal.Principal.{Principal}
use Rattle.cl_rules.specs.Context.{same_part}
use Rattle.cl_file.specs.Kinds.{short_name}

-- `/`
abbrev pub is_slash : ℕ → Bool
is_slash b = b == 47

-- what stands behind the last `/` of a path
abbrev pub last_component : List ℕ → List ℕ
last_component [] = []
last_component (b ∷ bytes) = if list_any is_slash (b ∷ bytes) then last_component bytes else b ∷ bytes

-- the contract's name in NAME.clar
abbrev pub name_of_file : List ℕ → Option (List ℕ)
name_of_file file = if bytes_eq (drop (length file - 5) file) (codes ".clar") then short_name (take (length file - 5) file) else None

-- the name of the contract whose source has this path
abbrev pub source_name : List ℕ → Option (List ℕ)
source_name path = name_of_file (last_component path)

abbrev pub has_name : List ℕ → Bool
has_name path = is_some (source_name path)

abbrev pub have_one_name : List ℕ → List ℕ → Bool
have_one_name path other = same_part (source_name path) (source_name other)

-- no two paths have one name
abbrev pub names_differ : List (List ℕ) → Bool
names_differ [] = true
names_differ (path ∷ paths) = not (list_any (have_one_name path) paths) && names_differ paths

-- at least one path; each has a name, and these differ
abbrev pub are_sources : List (List ℕ) → Bool
are_sources [] = false
are_sources (path ∷ paths) = list_all has_name (path ∷ paths) && names_differ (path ∷ paths)

-- the contract whose source has this path, under an address
abbrev pub contract_at : AddressParts → List ℕ → Principal
contract_at address path = record { address = address; contract = source_name path }

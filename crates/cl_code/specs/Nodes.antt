-- What a node needs besides its parts: as many of them as it takes, and names that are its own.
use Rattle.std.specs.Prelude.{ℕ, suc, ◌==◌, ◌&&◌, not, nat_lt, Bool, true, List, [], ◌∷◌, length, map, is_some}
use Rattle.std.specs.List.{list_any}
use Rattle.std.specs.Str.{bytes_eq}
use Rattle.cl_forms.specs.declared.head.Head.TheVariants.{OnValues}
use Rattle.cl_forms.specs.Names.{is_one_of}
use Rattle.cl_forms.specs.Keywords.{keywords}
use Rattle.cl_forms.specs.declared.version.Version.{Version}
use Rattle.cl_forms.specs.declared.version.Version.TheVariants.{One, Two}
use Rattle.cl_forms.specs.Heads.{native, takes, row_of}
use Rattle.cl_forms.specs.HeadNames.{has_head}
use Rattle.cl_code.specs.declared.op.Applied.{Applied}
use Rattle.cl_code.specs.declared.op.Applied.TheVariants.{Function, OnValues as OnValuesBy}
use Rattle.cl_code.specs.declared.op.Binding.{Binding}
use Rattle.cl_code.specs.declared.op.Op.{Op}
use Rattle.cl_code.specs.declared.op.Op.TheVariants.{Bound, Constant, OnValues as OnValuesOp, OnParts, OnName, Iterate, AsMaxLen, Tuple, TupleOf, Let, MatchOptional, MatchResponse, Call, ContractCall}
use Rattle.cl_code.specs.Typed.{Versions}
use Rattle.cl_code.specs.OpNames.{parts_head, name_head, iteration_head}

-- what is given by name: a native can be given by name
unfoldable pub has_own_applied : Applied → Bool
has_own_applied (OnValuesBy native at) = (row_of (OnValues native)).by_name
has_own_applied applied = true

-- no name stands twice
abbrev pub are_once : List (List ℕ) → Bool
are_once [] = true
are_once (x ∷ xs) = not (list_any (bytes_eq x) xs) && are_once xs

-- the names in brackets
abbrev pub bound_names : List Binding → List (List ℕ)
bound_names = map (λ (b : Binding). b.word.name)

-- no keyword is a binding or a constant, what is given by name can be, and no key of a tuple stands twice
unfoldable pub has_own_name : Op → Bool
has_own_name (Bound x) = not (is_one_of keywords x)
has_own_name (Constant x) = not (is_one_of keywords x)
has_own_name (Iterate iteration head applied) = has_own_applied applied
has_own_name (Tuple keys) = are_once keys.items
has_own_name (TupleOf head pairs) = are_once (bound_names pairs.items)
has_own_name op = true

-- what is given by name in a text of a version: the version has the native, and has none with the function's name
unfoldable pub goes_applied : Version → Applied → Bool
goes_applied version (Function f) = not (is_some (native version f.name))
goes_applied version (OnValuesBy native at) = has_head version (OnValues native)
goes_applied version applied = true

-- Whether a node can stand in a text of a version: the version has its native, and has none with the name of a function
-- that it calls or applies. The natives that aren't on values are in each version.
unfoldable pub goes_op : Version → Op → Bool
goes_op version (OnValuesOp native head) = has_head version (OnValues native)
goes_op version (Iterate iteration head applied) = goes_applied version applied
goes_op version (Call f) = not (is_some (native version f.name))
goes_op version op = true

-- the versions in which a node can stand
abbrev pub versions_of : Op → Versions
versions_of op = record { one = goes_op One op; two = goes_op Two op }

-- whether a node has so many parts: as many as its native takes besides what isn't evaluated; literals and names have none
abbrev pub has_parts : Op → ℕ → Bool
has_parts (OnValuesOp native head) count = takes (row_of (OnValues native)).arity count
has_parts (OnParts native head) count = takes (row_of (parts_head native)).arity count
has_parts (OnName native head name) count = takes (row_of (name_head native)).arity (suc count)
has_parts (Iterate iteration head applied) count = takes (row_of (iteration_head iteration)).arity (suc count)
has_parts (AsMaxLen head most at) count = count == 1
has_parts (Tuple keys) count = count == length keys.items
has_parts (TupleOf head pairs) count = count == length pairs.items
has_parts (Let head at bindings) count = nat_lt (length bindings.items) count
has_parts (MatchOptional head part) count = count == 3
has_parts (MatchResponse head good bad) count = count == 3
has_parts (Call f) count = true
has_parts (ContractCall head target function callee) count = true
has_parts op count = count == 0

-- Variables and maps of the contract whose code is evaluated.
use Rattle.std.specs.Prelude.{ℕ, ◌+◌, Bool, true, false, List, [], ◌∷◌, is_some, Option, Some, None}
use Rattle.cl_shapes.specs.declared.name.CostName.TheVariants.{ReadVar, WriteVar, ReadMap, WriteMap}
use Rattle.cl_sexpr.specs.Tree.{Tree, LeafAt, Named}
use Rattle.cl_values.specs.Tree.{Tree as Val, BoolV}
use Rattle.cl_values.specs.Wire.{size_of}
use Rattle.cl_values.specs.Computed.{Gives}
use Rattle.cl_values.specs.Sequences.{optional}
use Rattle.cl_maps.specs.Maps.{get, put, without}
use Rattle.cl_events.specs.State.{State, place, spot, with_variables, with_entries}
use Rattle.cl_meaning.specs.Answers.{Answer, stop, give, wrong, charged, and_then, with_known, outcome_of}
use Rattle.cl_meaning.specs.Deployed.{has_map}
use Rattle.cl_meaning.specs.Scope.{Scope, home, Take, parts, sizes}

-- the key of the contract's own variable or token
abbrev pub here : Scope → List ℕ → List ℕ
here S x = place S.frame.contract x

-- charged by the value that is found
unfoldable pub var_get_form : Scope → List Tree → State → Answer Val
var_get_form S (LeafAt (Named x) at ∷ []) s = with_known (get (here S x) s.variables) (λ v t. charged ReadVar (size_of v) (give v t)) s
var_get_form S es s = wrong s

-- a variable that is there has another value
abbrev pub variable_set : List ℕ → Val → Val → State → Answer Val
variable_set at v old s = give (BoolV true) (with_variables (put at v s.variables) s)

unfoldable pub var_set_form : Take → Scope → List Tree → State → Answer Val
var_set_form take S (LeafAt (Named x) at ∷ e ∷ []) s =
    and_then (take S e s) (λ v t. charged WriteVar (size_of v) (with_known (get (here S x) t.variables) (variable_set (here S x) v) t))
var_set_form take S es s = wrong s

abbrev pub only_if : Bool → (State → Answer Val) → State → Answer Val
only_if true go_on s = go_on s
only_if false go_on s = wrong s

-- goes on where the contract has a map of this name
abbrev pub with_map : Scope → List ℕ → (State → Answer Val) → State → Answer Val
with_map S m go_on s = only_if (has_map m (home S)) go_on s

-- what stands under a key of the contract's map
abbrev pub entry_at : Scope → List ℕ → Val → State → Option Val
entry_at S m key s = get (spot S.frame.contract m key) s.entries

-- charged by the key and by what was found
abbrev pub found_at : Val → Val → State → Answer Val
found_at key found s = charged ReadMap (size_of key + size_of found) (stop (outcome_of (Gives found)) s)

unfoldable pub map_get_form : Take → Scope → List Tree → State → Answer Val
map_get_form take S (LeafAt (Named m) at ∷ k ∷ []) s =
    and_then (take S k s) (λ key. with_map S m (λ t. found_at key (optional (entry_at S m key t)) t))
map_get_form take S es s = wrong s

-- gives true
abbrev pub set_entry : Scope → List ℕ → Val → Val → State → Answer Val
set_entry S m key v s = give (BoolV true) (with_entries (put (spot S.frame.contract m key) v s.entries) s)

-- writes nothing and gives false where the key is there
abbrev pub insert_entry : Scope → List ℕ → Val → Val → Option Val → State → Answer Val
insert_entry S m key v (Some old) s = give (BoolV false) s
insert_entry S m key v None s = set_entry S m key v s

-- gives whether the key was there
abbrev pub delete_entry : Scope → List ℕ → Val → State → Answer Val
delete_entry S m key s = give (BoolV (is_some (entry_at S m key s))) (with_entries (without (spot S.frame.contract m key) s.entries) s)

abbrev pub key_and_value : (Val → Val → State → Answer Val) → List Val → State → Answer Val
key_and_value act (key ∷ v ∷ []) s = act key v s
key_and_value act vs s = wrong s

-- a key and a value are taken and charged, and then written
abbrev pub write_form : (Val → Val → State → Answer Val) → List ℕ → Take → Scope → List Tree → State → Answer Val
write_form act m take S es s = and_then (parts take S es s) (λ vs t. charged WriteMap (sizes vs) (with_map S m (key_and_value act vs) t))

unfoldable pub map_set_form : Take → Scope → List Tree → State → Answer Val
map_set_form take S (LeafAt (Named m) at ∷ es) s = write_form (set_entry S m) m take S es s
map_set_form take S es s = wrong s

unfoldable pub map_insert_form : Take → Scope → List Tree → State → Answer Val
map_insert_form take S (LeafAt (Named m) at ∷ es) s = write_form (λ key v t. insert_entry S m key v (entry_at S m key t) t) m take S es s
map_insert_form take S es s = wrong s

unfoldable pub map_delete_form : Take → Scope → List Tree → State → Answer Val
map_delete_form take S (LeafAt (Named m) at ∷ k ∷ []) s = and_then (take S k s) (λ key t. charged WriteMap (size_of key) (with_map S m (delete_entry S m key) t))
map_delete_form take S es s = wrong s

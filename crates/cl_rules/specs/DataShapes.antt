-- Shapes of tuples, of lengths that are literals, of variables, maps and tokens.
use Rattle.std.specs.Prelude.{ℕ, ◌+◌, not, Bool, true, false, List, [], ◌∷◌, map, take, length, filter_map, Option, Some, None, is_some}
use Rattle.std.specs.List.{list_any}
use Rattle.cl_types.specs.Types.{PlainType, UintType, BoolType, TupleType, OptionalType, ResponseType, Fields, NoField, size_of}
use Rattle.cl_types.specs.Sized.{placed}
use Rattle.cl_shapes.specs.declared.name.CostName.TheVariants.{Make}
use Rattle.cl_sexpr.specs.Tree.{Tree, LeafAt, Unsigned}
pub use Rattle.cl_forms.specs.Names.{stands_twice}
use Rattle.cl_forms.specs.Heads.{Row}
use Rattle.cl_forms.specs.declared.head.TokenNative.{TokenNative}
use Rattle.cl_forms.specs.declared.head.TokenNative.TheVariants.{MintFt, BurnFt, SendFt, MintNft, BurnNft, SendNft, SendStx, BurnStx}
use Rattle.cl_forms.specs.Shapes.{binding_of, bindings_of}
use Rattle.cl_rules.specs.Faults.{ShapeFaults, sound_shape}
use Rattle.cl_rules.specs.NativeTypes.{Ruled, fine, made, one, get_row, max_len_row}
use Rattle.cl_rules.specs.Bills.{Charge}
use Rattle.cl_rules.specs.Context.{Context, Names, same, named_in}
use Rattle.cl_rules.specs.Verdicts.{Found, Verdict, types_of, sizes_of, summed}
use Rattle.cl_rules.specs.Shapes.{Shape, parts, no_verdict, is_miscounted, evaluated, native_shape, Wanted, AUint, APrincipal, Admitted, stated, First, Absent, NoSuch, There, first_named, is_no_such, named_faults, named_shape}

-- ---- tuples

abbrev pub keys_of : List (List ℕ × Tree) → List (List ℕ)
keys_of = map (λ (p : List ℕ × Tree). p.0)

-- these keys with these types, in rising order
abbrev pub fields_by : List (List ℕ) → List PlainType → Fields
fields_by (k ∷ ks) (t ∷ ts) = placed k t (fields_by ks ts)
fields_by ks ts = NoField

abbrev pub tuple_row : List (List ℕ) → List PlainType → Ruled
tuple_row keys ts = made (TupleType (fields_by keys ts))

abbrev pub tuple_verdict : List (List ℕ) → List Found → Verdict
tuple_verdict keys fs = summed (tuple_row keys (types_of fs)) (Charge Make (sizes_of (types_of fs))) fs

-- a tuple of these pairs, whose expressions are evaluated in the order of the text
abbrev pub tuple_shape : ShapeFaults → Names → List (List ℕ × Tree) → Shape
tuple_shape faults B ps = record {
  faults = record faults { key_twice = stands_twice (keys_of ps) };
  plan = parts B (map (λ (p : List ℕ × Tree). p.1) ps);
  verdict = tuple_verdict (keys_of ps);
}

-- (tuple (k e) ..)
abbrev pub pairs_shape : Row → Names → List Tree → Shape
pairs_shape row B es = tuple_shape (record sound_shape { argument_count = is_miscounted row es; bad_binding = not (is_some (bindings_of es)) }) B (filter_map binding_of es)

-- get with a key that isn't evaluated
abbrev pub get_shape : Row → Names → List Tree → Shape
get_shape row B es =
    let key = first_named (λ x. Some x) es in
    named_shape (named_faults row es key) key (λ k. evaluated row (one (get_row k))) B es

-- the uint of a literal in second place: there is no such place, or no such literal
abbrev pub literal_at : List Tree → First ℕ
literal_at (e ∷ LeafAt (Unsigned m) at ∷ es) = There m
literal_at (e ∷ d ∷ es) = NoSuch
literal_at es = Absent

abbrev pub at_literal : Row → First ℕ → List Found → Verdict
at_literal row (There m) fs = evaluated row (one (max_len_row m)) fs
at_literal row length fs = no_verdict fs

abbrev pub max_len_shape : Row → Names → List Tree → Shape
max_len_shape row B es = record {
  faults = record sound_shape { argument_count = is_miscounted row es; literal_expected = is_no_such (literal_at es) };
  plan = parts B (take 1 es);
  verdict = at_literal row (literal_at es);
}

-- ---- variables and maps

abbrev pub variable_shape : Row → (PlainType → List Found → Verdict) → Context → Names → List Tree → Shape
variable_shape row verdict G B es =
    let first = first_named (λ x. named_in x G.variables) es in
    named_shape (record (named_faults row es first) { no_such_variable = is_no_such first }) first verdict B es

abbrev pub map_shape : Row → (PlainType × PlainType → List Found → Verdict) → Context → Names → List Tree → Shape
map_shape row verdict G B es =
    let first = first_named (λ x. named_in x G.maps) es in
    named_shape (record (named_faults row es first) { no_such_map = is_no_such first }) first verdict B es

-- a read is charged by the size of what is read
abbrev pub var_get : Row → PlainType → List Found → Verdict
var_get row t fs = summed (fine t) (Charge row.cost (size_of t)) fs

abbrev pub var_set : Row → PlainType → List Found → Verdict
var_set row t = evaluated row (stated (Admitted t ∷ []) (fine BoolType))

-- a read of a map is charged by the key and what is given
abbrev pub map_get : Row → PlainType × PlainType → List Found → Verdict
map_get row m fs = summed (stated (Admitted m.0 ∷ []) (made (OptionalType m.1)) (types_of fs)) (Charge row.cost (sizes_of (types_of fs) + size_of (OptionalType m.1))) fs

abbrev pub map_put : Row → PlainType × PlainType → List Found → Verdict
map_put row m = evaluated row (stated (Admitted m.0 ∷ Admitted m.1 ∷ []) (fine BoolType))

abbrev pub map_delete : Row → PlainType × PlainType → List Found → Verdict
map_delete row m = evaluated row (stated (Admitted m.0 ∷ []) (fine BoolType))

-- ---- tokens

abbrev pub if_fungible : Bool → Option (Unit {0})
if_fungible true = Some tt
if_fungible false = None

-- a fungible token, and arguments of these kinds
abbrev pub fungible_shape : Row → List Wanted → PlainType → Context → Names → List Tree → Shape
fungible_shape row ws answer G B es =
    let first = first_named (λ x. if_fungible (list_any (same x) G.fungibles)) es in
    named_shape (record (named_faults row es first) { no_such_token = is_no_such first }) first (λ _. evaluated row (stated ws (fine answer))) B es

-- a non-fungible token, an asset's id, and arguments of these kinds
abbrev pub nonfungible_shape : Row → List Wanted → PlainType → Context → Names → List Tree → Shape
nonfungible_shape row ws answer G B es =
    let first = first_named (λ x. named_in x G.nonfungibles) es in
    named_shape (record (named_faults row es first) { no_such_token = is_no_such first }) first (λ id. evaluated row (stated (Admitted id ∷ ws) (fine answer))) B es

-- arguments of these kinds alone
abbrev pub stated_shape : Row → List Wanted → PlainType → Names → List Tree → Shape
stated_shape row ws answer B es = native_shape row (evaluated row (stated ws (fine answer))) B es

abbrev pub act_answer : PlainType
act_answer = ResponseType BoolType UintType

abbrev pub token_shape : TokenNative → Row → Context → Names → List Tree → Shape
token_shape MintFt row G B es = fungible_shape row (AUint ∷ APrincipal ∷ []) act_answer G B es
token_shape BurnFt row G B es = fungible_shape row (AUint ∷ APrincipal ∷ []) act_answer G B es
token_shape SendFt row G B es = fungible_shape row (AUint ∷ APrincipal ∷ APrincipal ∷ []) act_answer G B es
token_shape MintNft row G B es = nonfungible_shape row (APrincipal ∷ []) act_answer G B es
token_shape BurnNft row G B es = nonfungible_shape row (APrincipal ∷ []) act_answer G B es
token_shape SendNft row G B es = nonfungible_shape row (APrincipal ∷ APrincipal ∷ []) act_answer G B es
token_shape SendStx row G B es = stated_shape row (AUint ∷ APrincipal ∷ APrincipal ∷ []) act_answer B es
token_shape BurnStx row G B es = stated_shape row (AUint ∷ APrincipal ∷ []) act_answer B es

-- Shapes of what applies functions: calls, map, filter and fold.
use Rattle.std.specs.Prelude.{ℕ, ◌||◌, ◌&&◌, not, min, nat_eq, Bool, true, false, List, [], ◌∷◌, map, drop, length, if◌then◌else◌, Option, Some, None, option_map, option_and_then}
use Rattle.std.specs.List.{list_all, list_any}
use Rattle.cl_types.specs.Types.{PlainType, NoType, ListType, admits}
use Rattle.cl_types.specs.Lattice.{least_supertype}
use Rattle.cl_types.specs.Sized.{length_of}
use Rattle.cl_c32.specs.declared.principal.Principal.{Principal}
use Rattle.cl_sexpr.specs.Tree.{Tree, LeafAt, Named, Leaf}
use Rattle.cl_forms.specs.Heads.{Row, native, takes, given_by_name}
use Rattle.cl_forms.specs.declared.head.Head.{Head}
use Rattle.cl_forms.specs.declared.head.Head.TheVariants.{OnValues, And, Or}
use Rattle.cl_forms.specs.Shapes.{principal_named}
use Rattle.cl_rules.specs.Faults.{sound_shape}
use Rattle.cl_types.specs.TypeKinds.{is_bool, is_undetermined, is_sequence, entry_of}
use Rattle.cl_rules.specs.NativeTypes.{Ruled, fine, of_kind, if_kind, wrong_kind, undetermined, made, and_lub, and_ruled, native_type}
use Rattle.cl_rules.specs.Bills.{Bill, Charge, Both, Times}
use Rattle.cl_rules.specs.Context.{Context, Names, Signature, Known, signature_in, if_callable, target_at}
use Rattle.cl_rules.specs.Verdicts.{Found, Verdict, types_of, sizes_of, number_at, applying}
use Rattle.cl_rules.specs.Shapes.{Shape, parts, unlooked, is_miscounted, Admitted, are_wanted, First, Absent, NoName, NoSuch, There, there_or_not, first_named, is_no_name, is_no_such, at_first}
use Rattle.cl_rules.specs.ControlShapes.{truth_row}

-- ---- functions of the contract

abbrev pub param_types : Signature → List PlainType
param_types f = map (λ (p : List ℕ × PlainType). p.1) f.params

-- each parameter admits the argument in its place
abbrev pub all_admit : List PlainType → List PlainType → Bool
all_admit ps ts = are_wanted (map Admitted ps) ts

abbrev pub is_unlike : Signature → List Tree → Bool
is_unlike f es = not (nat_eq (length es) (length f.params))

abbrev pub call_row : Signature → List PlainType → Ruled
call_row f ts = of_kind (all_admit (param_types f) ts) f.returns

abbrev pub call_verdict : Signature → Bill → List Found → Verdict
call_verdict f own fs = applying (call_row f (types_of fs)) f.height own fs

abbrev pub call_shape : Option Signature → Names → List Tree → Shape
call_shape None B es = unlooked (record sound_shape { unknown_name = true })
call_shape (Some f) B es = record { faults = record sound_shape { argument_count = is_unlike f es }; plan = parts B es; verdict = call_verdict f f.bound }

-- ---- functions of other contracts

-- a principal that is a contract
abbrev pub contract_of : Principal → Option Principal
contract_of p = elim p.contract [ None ↦ None | Some name ↦ Some p ]

-- the contract that a literal names
abbrev pub contract_literal : Principal → Leaf → Option Principal
contract_literal own leaf = option_and_then contract_of (principal_named own leaf)

abbrev pub target_or_not : Context → Option Principal → First Known
target_or_not G None = NoName
target_or_not G (Some p) = there_or_not (target_at G p)

-- the target: there is none; it is no such literal; not deployed; this contract
abbrev pub target_of : Context → List Tree → First Known
target_of G [] = Absent
target_of G (LeafAt leaf at ∷ es) = target_or_not G (contract_literal G.principal leaf)
target_of G (e ∷ es) = NoName

-- The function behind the target: there is no such place, or no deployed target to look into; it is no name; the target hasn't
-- it; this function.
abbrev pub function_of : First Known → List Tree → First Signature
function_of (There k) es = first_named (λ x. if_callable (signature_in x k.functions)) (drop 1 es)
function_of target es = elim (first_named (λ x. Some x) (drop 1 es)) [ NoName ↦ NoName | _ ↦ Absent ]

abbrev pub is_unlike_function : First Signature → List Tree → Bool
is_unlike_function (There f) es = is_unlike f es
is_unlike_function first es = false

abbrev pub length_at : First Known → ℕ
length_at (There k) = k.length
length_at target = 0

-- the charge of the call, with the length of the target's text, and then the function's application
abbrev pub contract_call_shape : Row → Context → Names → List Tree → Shape
contract_call_shape row G B es =
    let target = target_of G es in
    let function = function_of target es in
    record {
      faults = record sound_shape {
        argument_count = is_miscounted row es || is_unlike_function function (drop 2 es);
        no_such_contract = is_no_such target;
        no_such_function = is_no_such function;
        literal_expected = is_no_name target;
        bad_binding = is_no_name function;
      };
      plan = parts B (drop 2 es);
      verdict = at_first function (λ f. call_verdict f (Both (Charge row.cost (length_at target)) f.bound));
    }

-- ---- what is given by name

-- a function of the contract, or a native by its row
pub data Usable : Type 0 where
  AFunction : Signature → Usable
  ANative : Row → Usable

abbrev pub usable_function : Option Signature → Option Usable
usable_function f = option_map AFunction f

abbrev pub usable_row : Option Row → Option Signature → Option Usable
usable_row row f = given_by_name ANative AFunction row f

abbrev pub usable : Context → List ℕ → Option Usable
usable G x = usable_row (native G.version x) (signature_in x G.functions)

-- what is to be applied: there is no such place; no function; this
abbrev pub used : Context → List Tree → First Usable
used G [] = Absent
used G (LeafAt (Named x) at ∷ es) = there_or_not (usable G x)
used G (e ∷ es) = NoSuch

abbrev pub takes_values : Usable → ℕ → Bool
takes_values (AFunction f) n = nat_eq n (length f.params)
takes_values (ANative row) n = takes row.arity n

abbrev pub takes_no : First Usable → ℕ → Bool
takes_no (There u) n = not (takes_values u n)
takes_no first n = false

-- the row of a native by name
abbrev pub by_name_row : Head → List PlainType → Ruled
by_name_row (OnValues n) ts = native_type n ts
by_name_row And ts = truth_row ts
by_name_row Or ts = truth_row ts
by_name_row head ts = fine NoType

-- what follows of an application to values of these types
abbrev pub use_row : Usable → List PlainType → Ruled
use_row (AFunction f) ts = call_row f ts
use_row (ANative row) ts = by_name_row row.head ts

-- one application to values of these types
abbrev pub use_bound : Usable → List PlainType → Bill
use_bound (AFunction f) ts = f.bound
use_bound (ANative row) ts = Charge row.cost (number_at row.cost ts)

abbrev pub use_height : Usable → ℕ
use_height (AFunction f) = f.height
use_height (ANative row) = 1

abbrev pub is_native : Usable → Bool
is_native (AFunction f) = false
is_native (ANative row) = true

-- an entry of no type can't be given to a native
abbrev pub entries_row : Usable → List PlainType → (Usable → Ruled) → Ruled
entries_row u entries row = if is_native u && list_any is_undetermined entries then undetermined else row u

-- the shape of a native that applies what is given by name
abbrev pub using_shape : Row → (Usable → List Found → Verdict) → Context → Names → List Tree → Shape
using_shape row verdict G B es =
    let first = used G es in
    record {
      faults = record sound_shape { argument_count = is_miscounted row es || takes_no first (length (drop 1 es)); not_a_function = is_no_such first };
      plan = parts B (drop 1 es);
      verdict = at_first first verdict;
    }

-- the iteration, charged by the sizes of these arguments, and so many applications to values of these types
abbrev pub iterating : Row → Usable → List PlainType → ℕ → List PlainType → Bill
iterating row u arguments n values = Both (Charge row.cost (sizes_of arguments)) (Times n (use_bound u values))

-- ---- map

abbrev pub least_length : List PlainType → ℕ
least_length [] = 0
least_length (t ∷ []) = length_of t
least_length (t ∷ u ∷ ts) = min (length_of t) (least_length (u ∷ ts))

abbrev pub map_row : Usable → List PlainType → Ruled
map_row u ts =
    let entries = map entry_of ts in
    if list_all is_sequence ts then and_ruled (entries_row u entries (λ v. use_row v entries)) (λ t. made (ListType (least_length ts) t)) else wrong_kind

abbrev pub map_verdict : Row → Usable → List Found → Verdict
map_verdict row u fs =
    let ts = types_of fs in
    applying (map_row u ts) (use_height u) (iterating row u ts (least_length ts) (map entry_of ts)) fs

-- ---- filter

abbrev pub filter_row : Usable → PlainType → Ruled
filter_row u s =
    if is_sequence s then and_ruled (entries_row u (entry_of s ∷ []) (λ v. use_row v (entry_of s ∷ []))) (λ t. of_kind (is_bool t) s) else wrong_kind

abbrev pub filter_verdict : Row → Usable → List Found → Verdict
filter_verdict row u (f ∷ []) = applying (filter_row u f.type) (use_height u) (iterating row u (f.type ∷ []) (length_of f.type) (entry_of f.type ∷ [])) (f ∷ [])
filter_verdict row u fs = applying wrong_kind 0 (Charge row.cost 0) fs

-- ---- fold

-- the parameter in a place admits the type
abbrev pub admits_first : List PlainType → PlainType → Bool
admits_first [] t = false
admits_first (p ∷ ps) t = admits p t

-- Of a function of the contract the first parameter admits the entry, and the second the type of the fold, which is the least
-- supertype of the initial value's type and the function's.
abbrev pub fold_function : Signature → PlainType → PlainType → Ruled
fold_function f s i =
    if_kind (is_sequence s && admits_first (param_types f) (entry_of s)) (and_lub (least_supertype i f.returns) (λ t. of_kind (admits_first (drop 1 (param_types f)) t) t))

-- A native by name has a type at the entry's and the initial value's types, and its row holds again at the entry's type and
-- that of the fold.
abbrev pub fold_native : Usable → PlainType → PlainType → Ruled
fold_native u x i = and_ruled (use_row u (x ∷ i ∷ [])) (λ r. and_lub (least_supertype i r) (λ t. record (use_row u (x ∷ t ∷ [])) { type = t }))

abbrev pub fold_row : Usable → PlainType → PlainType → Ruled
fold_row (AFunction f) s i = fold_function f s i
fold_row (ANative row) s i =
    if is_sequence s then entries_row (ANative row) (entry_of s ∷ []) (λ u. fold_native u (entry_of s) i) else wrong_kind

-- each application counts at the entry's type and that of the fold
abbrev pub fold_verdict : Row → Usable → List Found → Verdict
fold_verdict row u (s ∷ i ∷ []) =
    let ruled = fold_row u s.type i.type in
    applying ruled (use_height u) (iterating row u (s.type ∷ i.type ∷ []) (length_of s.type) (entry_of s.type ∷ ruled.type ∷ [])) (s ∷ i ∷ [])
fold_verdict row u fs = applying wrong_kind 0 (Charge row.cost 0) fs

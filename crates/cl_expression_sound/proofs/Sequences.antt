-- map, filter and fold.
use Rattle.std.proofs.Common.{◌≡◌, ℕ, suc, Bool, true, false, List, [], ◌∷◌, map, drop, length, refl, sym, ap, subst, ◌∙◌, arith}
use Rattle.std.proofs.lemmas.List.{length-map}
use Rattle.std.specs.Prelude.{◌&&◌, not, if◌then◌else◌}
use Rattle.std.specs.List.{list_all}
use Rattle.std.proofs.lemmas.Bool.{eqb-true}
use Rattle.cl_types.specs.Types.{PlainType, BoolType, ListType, admits}
use Rattle.cl_types.specs.Lattice.{least_supertype}
use Rattle.cl_values.specs.declared.native.Native.{Native}
use Rattle.cl_values.specs.declared.native.Native.TheVariants.{Same, DefaultTo, UnwrapPanic, UnwrapErrPanic, MakeList, Merge, Append, Concat, ElementAt, IndexOf}
use Rattle.cl_values.specs.Tree.{Tree as Val}
use Rattle.cl_forms.specs.declared.head.Head.{Head}
use Rattle.cl_forms.specs.declared.head.Head.TheVariants.{OnValues, And, Or}
use Rattle.cl_forms.specs.Heads.{Row, row_of}
use Rattle.cl_rules.specs.Faults.{type_rules}
use Rattle.cl_rules.specs.NativeTypes.{Ruled, fine, of_kind, wrong_kind, made, and_lub, and_ruled, native_type}
use Rattle.cl_rules.specs.Context.{Signature}
use Rattle.cl_rules.specs.Shapes.{Admitted, are_wanted}
use Rattle.cl_rules.specs.CallShapes.{param_types, call_row, Usable, AFunction, ANative, takes_values, by_name_row, use_row, entries_row, least_length, map_row, filter_row, admits_first, fold_function, fold_native, fold_row}
use Rattle.cl_expression_sound.proofs.Rules.{fine_types, no_type_rules, not_false}
use Rattle.cl_expression_sound.proofs.Thrown.{of_left, of_right}
use Rattle.cl_expression_sound.proofs.Choices.{unbroken_kind, lub_is}
use Rattle.cl_expression_sound.proofs.Sides.{first_true, rest_true}
use Rattle.cl_expression_sound.proofs.Uses.{IsByName, and_ruled_is, entries_are}
use Rattle.cl_values.specs.Typed.{IsOf}
use Rattle.cl_types.specs.TypeKinds.{is_bool, is_sequence, entry_of}

-- ---- rulings

pub same_map_length : (ts : List PlainType) → length (map entry_of ts) ≡ length ts
same_map_length [] = refl
same_map_length (t ∷ ts) = ap suc (same_map_length ts)

-- what map's ruling says where nothing is broken
pub record IsMapped (u : Usable) (ts : List PlainType) : Type 0 where
  pub sequences : list_all is_sequence ts ≡ true
  pub rules : type_rules (use_row u (map entry_of ts)).faults ≡ []
  pub small : type_rules (made (ListType (least_length ts) (use_row u (map entry_of ts)).type)).faults ≡ []
  pub type : (map_row u ts).type ≡ ListType (least_length ts) (use_row u (map entry_of ts)).type

mapped_by : (u : Usable) (ts : List PlainType) (b : Bool) → list_all is_sequence ts ≡ b → type_rules (if b then and_ruled (entries_row u (map entry_of ts) (λ v. use_row v (map entry_of ts))) (λ t. made (ListType (least_length ts) t)) else wrong_kind).faults ≡ [] → map_row u ts ≡ (if b then and_ruled (entries_row u (map entry_of ts) (λ v. use_row v (map entry_of ts))) (λ t. made (ListType (least_length ts) t)) else wrong_kind) → IsMapped u ts
mapped_by u ts false is h e = absurd cc
mapped_by u ts true is h e =
    let entries = map entry_of ts in
    let row = λ (v : Usable). use_row v entries in
    let make = λ (t : PlainType). made (ListType (least_length ts) t) in
    let a = and_ruled_is (entries_row u entries row) make h in
    let same : entries_row u entries row ≡ use_row u entries = entries_are u entries row a.0 in
    let whole : and_ruled (entries_row u entries row) make ≡ make (use_row u entries).type = a.1 ∙ ap (λ (r : Ruled). make r.type) same in
    record {
      sequences = is;
      rules = subst (λ (r : Ruled). type_rules r.faults ≡ []) same a.0;
      small = subst (λ (r : Ruled). type_rules r.faults ≡ []) whole h;
      type = ap (λ (r : Ruled). r.type) (e ∙ whole);
    }

pub is_mapped : (u : Usable) (ts : List PlainType) → type_rules (map_row u ts).faults ≡ [] → IsMapped u ts
is_mapped u ts h = mapped_by u ts (list_all is_sequence ts) refl h refl

pub record IsFiltered (u : Usable) (s : PlainType) : Type 0 where
  pub sequence : is_sequence s ≡ true
  pub rules : type_rules (use_row u (entry_of s ∷ [])).faults ≡ []
  pub bool : is_bool (use_row u (entry_of s ∷ [])).type ≡ true
  pub type : (filter_row u s).type ≡ s

filtered_by : (u : Usable) (s : PlainType) (b : Bool) → is_sequence s ≡ b → type_rules (if b then and_ruled (entries_row u (entry_of s ∷ []) (λ v. use_row v (entry_of s ∷ []))) (λ t. of_kind (is_bool t) s) else wrong_kind).faults ≡ [] → filter_row u s ≡ (if b then and_ruled (entries_row u (entry_of s ∷ []) (λ v. use_row v (entry_of s ∷ []))) (λ t. of_kind (is_bool t) s) else wrong_kind) → IsFiltered u s
filtered_by u s false is h e = absurd cc
filtered_by u s true is h e =
    let entries = entry_of s ∷ [] in
    let row = λ (v : Usable). use_row v entries in
    let make = λ (t : PlainType). of_kind (is_bool t) s in
    let a = and_ruled_is (entries_row u entries row) make h in
    let same : entries_row u entries row ≡ use_row u entries = entries_are u entries row a.0 in
    let whole : and_ruled (entries_row u entries row) make ≡ make (use_row u entries).type = a.1 ∙ ap (λ (r : Ruled). make r.type) same in
    let fine_m = fine_types (make (use_row u entries).type).faults (subst (λ (r : Ruled). type_rules r.faults ≡ []) whole h) in
    record {
      sequence = is;
      rules = subst (λ (r : Ruled). type_rules r.faults ≡ []) same a.0;
      bool = not_false (is_bool (use_row u entries).type) fine_m.argument_kind;
      type = ap (λ (r : Ruled). r.type) (e ∙ whole);
    }

pub is_filtered : (u : Usable) (s : PlainType) → type_rules (filter_row u s).faults ≡ [] → IsFiltered u s
is_filtered u s h = filtered_by u s (is_sequence s) refl h refl

-- what fold's ruling says: the start is of its type, and so is what each application gives
pub record IsFold (u : Usable) (s i : PlainType) : Type 0 where
  pub sequence : is_sequence s ≡ true
  pub rules : type_rules (use_row u (entry_of s ∷ (fold_row u s i).type ∷ [])).faults ≡ []
  pub start : (v : Val) → IsOf v i → IsOf v (fold_row u s i).type
  pub back : (v : Val) → IsOf v (use_row u (entry_of s ∷ (fold_row u s i).type ∷ [])).type → IsOf v (fold_row u s i).type

two_admit : (ps : List PlainType) (x t : PlainType) → length ps ≡ 2 → admits_first ps x ≡ true → admits_first (drop 1 ps) t ≡ true → are_wanted (map Admitted ps) (x ∷ t ∷ []) ≡ true
two_admit (p ∷ q ∷ []) x t e h k = by (admits p x) (admits q t) h k
  where
    by : (a b : Bool) → a ≡ true → b ≡ true → elim a [ true ↦ elim b [ true ↦ true | false ↦ false ] | false ↦ false ] ≡ true
    by true true h k = refl
    by true false h k = absurd cc
    by false b h k = absurd cc
two_admit [] x t e h k = absurd (omega (arith, e))
two_admit (p ∷ []) x t e h k = absurd (omega (arith, e))
two_admit (p ∷ q ∷ o ∷ ps) x t e h k = absurd (omega (arith, e))

function_fold : (f : Signature) (s i : PlainType) → takes_values (AFunction f) 2 ≡ true → type_rules (fold_function f s i).faults ≡ [] → IsFold (AFunction f) s i
function_fold f s i count h =
    let make = λ (t : PlainType). of_kind (admits_first (drop 1 (param_types f)) t) t in
    let a = unbroken_kind (is_sequence s && admits_first (param_types f) (entry_of s)) (and_lub (least_supertype i f.returns) make) (fine_types (fold_function f s i).faults h) in
    let l = lub_is (least_supertype i f.returns) make a.1 in
    let same : (fold_function f s i).type ≡ l.type = ap (λ (r : Ruled). r.type) l.made in
    let fine_m = fine_types (make l.type).faults (subst (λ (r : Ruled). type_rules r.faults ≡ []) l.made a.1) in
    let two : length (param_types f) ≡ 2 = length-map f.params (λ (p : List ℕ × PlainType). p.1) ∙ sym (eqb-true 2 (length f.params) count) in
    let all = two_admit (param_types f) (entry_of s) l.type two (rest_true (is_sequence s) _ a.0) (not_false (admits_first (drop 1 (param_types f)) l.type) fine_m.argument_kind) in
    record {
      sequence = first_true (is_sequence s) _ a.0;
      rules = subst (λ t. type_rules (call_row f (entry_of s ∷ t ∷ [])).faults ≡ []) (sym same) (no_type_rules (call_row f (entry_of s ∷ l.type ∷ [])).faults (record { argument_kind = ap not all; not_same = refl; too_large = refl; too_deep = refl; undetermined = refl; thrown_differ = refl; unused_response = refl; no_such_key = refl }));
      start = λ v k. subst (λ t. IsOf v t) (sym same) (of_left v i f.returns l.type l.found k);
      back = λ v k. subst (λ t. IsOf v t) (sym same) (of_right v i f.returns l.type l.found k);
    }

equal_types : (x t i : PlainType) → type_rules (native_type Same (x ∷ t ∷ [])).faults ≡ [] → type_rules (native_type Same (x ∷ i ∷ [])).faults ≡ [] → (native_type Same (x ∷ t ∷ [])).type ≡ (native_type Same (x ∷ i ∷ [])).type
unfolding native_type
equal_types x t i h k =
    let a = lub_is (least_supertype x t) (λ c. fine BoolType) h in
    let b = lub_is (least_supertype x i) (λ c. fine BoolType) k in
    ap (λ (r : Ruled). r.type) a.made ∙ sym (ap (λ (r : Ruled). r.type) b.made)

-- a native by name gives the same type whatever its second argument's
same_native : (n : Native) → (row_of (OnValues n)).by_name ≡ true → (x t i : PlainType) → type_rules (native_type n (x ∷ t ∷ [])).faults ≡ [] → type_rules (native_type n (x ∷ i ∷ [])).faults ≡ [] → (native_type n (x ∷ t ∷ [])).type ≡ (native_type n (x ∷ i ∷ [])).type
unfolding native_type
same_native Same b x t i h k = equal_types x t i h k
same_native DefaultTo b x t i h k = absurd cc
same_native UnwrapPanic b x t i h k = absurd cc
same_native UnwrapErrPanic b x t i h k = absurd cc
same_native MakeList b x t i h k = absurd cc
same_native Merge b x t i h k = absurd cc
same_native Append b x t i h k = absurd cc
same_native Concat b x t i h k = absurd cc
same_native ElementAt b x t i h k = absurd cc
same_native IndexOf b x t i h k = absurd cc
same_native n b x t i h k = refl

same_result : (head : Head) → (row_of head).by_name ≡ true → (x t i : PlainType) → type_rules (by_name_row head (x ∷ t ∷ [])).faults ≡ [] → type_rules (by_name_row head (x ∷ i ∷ [])).faults ≡ [] → (by_name_row head (x ∷ t ∷ [])).type ≡ (by_name_row head (x ∷ i ∷ [])).type
same_result (OnValues n) b x t i h k = same_native n b x t i h k
same_result And b x t i h k = refl
same_result Or b x t i h k = refl
same_result head b x t i h k = refl

native_fold_by : (row : Row) → IsByName (ANative row) → (s i : PlainType) (b : Bool) → is_sequence s ≡ b → type_rules (if b then entries_row (ANative row) (entry_of s ∷ []) (λ u. fold_native u (entry_of s) i) else wrong_kind).faults ≡ [] → fold_row (ANative row) s i ≡ (if b then entries_row (ANative row) (entry_of s ∷ []) (λ u. fold_native u (entry_of s) i) else wrong_kind) → IsFold (ANative row) s i
native_fold_by row named s i false is h e = absurd cc
native_fold_by row named s i true is h e =
    let x = entry_of s in
    let u = ANative row in
    let same : entries_row u (x ∷ []) (λ u. fold_native u x i) ≡ fold_native u x i = entries_are u (x ∷ []) (λ u. fold_native u x i) h in
    let make = λ (r : PlainType). and_lub (least_supertype i r) (λ t. record (use_row u (x ∷ t ∷ [])) { type = t }) in
    let a = and_ruled_is (use_row u (x ∷ i ∷ [])) make (subst (λ (r : Ruled). type_rules r.faults ≡ []) same h) in
    let r : PlainType = (use_row u (x ∷ i ∷ [])).type in
    let l = lub_is (least_supertype i r) (λ t. record (use_row u (x ∷ t ∷ [])) { type = t }) (subst (λ (r : Ruled). type_rules r.faults ≡ []) (same ∙ a.1) h) in
    let whole = e ∙ same ∙ a.1 ∙ l.made in
    let type_is : (fold_row u s i).type ≡ l.type = ap (λ (r : Ruled). r.type) whole in
    let rules : type_rules (use_row u (x ∷ l.type ∷ [])).faults ≡ [] = subst (λ (r : Ruled). type_rules r.faults ≡ []) (same ∙ a.1 ∙ l.made) h in
    let back : (use_row u (x ∷ l.type ∷ [])).type ≡ r = same_result row.head (subst (λ (q : Row). q.by_name ≡ true) named.0 named.1) x l.type i rules a.0 in
    record {
      sequence = is;
      rules = subst (λ t. type_rules (use_row u (x ∷ t ∷ [])).faults ≡ []) (sym type_is) rules;
      start = λ v k. subst (λ t. IsOf v t) (sym type_is) (of_left v i r l.type l.found k);
      back = λ v k. subst (λ t. IsOf v (use_row u (x ∷ t ∷ [])).type → IsOf v t) (sym type_is) (λ k. of_right v i r l.type l.found (subst (λ t. IsOf v t) back k)) k;
    }

pub is_fold : (u : Usable) (s i : PlainType) → IsByName u → takes_values u 2 ≡ true → type_rules (fold_row u s i).faults ≡ [] → IsFold u s i
is_fold (AFunction f) s i named count h = function_fold f s i count h
is_fold (ANative row) s i named count h = native_fold_by row named s i (is_sequence s) refl h refl

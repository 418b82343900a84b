-- Rows of map, filter and fold.
use Rattle.std.proofs.Common.{◌≡◌, ℕ, Bool, true, false, List, [], ◌∷◌, map, length, drop, get_or, min, None, Result, Ok, Err, refl, sym, ap, subst, ◌∙◌, arith}
use Rattle.std.specs.Prelude.{◌&&◌, if◌then◌else◌}
use Rattle.std.specs.List.{list_all}
use Rattle.cl_types.specs.Types.{PlainType, NoType, ListType}
use Rattle.cl_types.specs.TypeKinds.{is_sequence, entry_of}
use Rattle.cl_types.specs.Lattice.{least_supertype}
use Rattle.cl_types.specs.Sized.{length_of}
use Rattle.cl_types.specs.declared.fault.Fault.{Fault}
use Rattle.cl_types.specs.declared.fault.Fault.TheVariants.{Refused}
use Rattle.cl_types.specs.declared.sized.TyRefusal.{TyRefusal}
use Rattle.cl_types.specs.declared.sized.TyRefusal.TheVariants.{Differ, TooLarge as LargeTy, TooDeep as DeepTy, EmptyTuple, KeyTwice}
use Rattle.cl_sexpr.specs.declared.rule.Rule.{Rule}
use Rattle.cl_sexpr.specs.declared.rule.Rule.TheVariants.{ArgumentKind}
use Rattle.cl_rules.specs.NativeTypes.{Ruled, made, of_kind, if_kind, wrong_kind, and_lub, and_ruled}
use Rattle.cl_rules.specs.Bills.{Both}
use Rattle.cl_rules.specs.Context.{Signature}
use Rattle.cl_rules.specs.Verdicts.{types_of, sum_of, concluded}
use Rattle.cl_rules.specs.CallShapes.{Usable, AFunction, ANative, use_row, use_height, entries_row, least_length, map_row, filter_row, fold_row, fold_function, admits_first, iterating, map_verdict, filter_verdict, fold_verdict}
use Rattle.cl_code.specs.Typed.{type_of}
use Rattle.cl_typing.specs.declared.concluding.Checked.{Checked}
use Rattle.cl_typing.specs.declared.concluding.Concluded.{Concluded}
use Rattle.cl_typing.specs.declared.uses.Usable.{Usable as CodeUsable}
use Rattle.cl_typing.specs.declared.uses.Usable.TheVariants.{Function, OnValues, And, Or}
use Rattle.cl_typing.specs.Verdicts.{types_at, Rules, Lubs, Concludes, ConcludesAs}
use Rattle.cl_typing.specs.Uses.{IsUsed, RulesUse, Iterates}
use Rattle.cl_typing.proofs.JoinedTypes.{made_of_lub, lub_fails}
use Rattle.cl_typing.proofs.StatedRows.{where_holds, where_fails}
use Rattle.cl_typing.proofs.UseRows.{ruled_not, native_used}
use Rattle.cl_typing.proofs.VerdictLaws.{types_seen}

where_sequence : (b : Bool) (R : Ruled) (r : Result PlainType (Fault Rule)) → b ≡ true → Rules R r → Rules (if b then R else wrong_kind) r
where_sequence true R r is h = h
where_sequence false R r is h = absurd cc

-- ---- map

-- the least of a length and of those of further types
abbrev pub least_from : ℕ → List PlainType → ℕ
least_from n [] = n
least_from n (t ∷ ts) = min n (least_length (t ∷ ts))

pub map_fails : (used : CodeUsable) (ts : List PlainType) (b : Bool) → b ≡ list_all is_sequence ts → b ≡ true → (es : List PlainType) → es ≡ map entry_of ts → (f : Fault Rule) → RulesUse (λ u. entries_row u es (λ v. use_row v es)) used (Err f) → RulesUse (λ u. map_row u ts) used (Err f)
map_fails used ts b all holds es entries f h u is =
    where_sequence (list_all is_sequence ts) (and_ruled (entries_row u (map entry_of ts) (λ v. use_row v (map entry_of ts))) (λ t. made (ListType (least_length ts) t))) (Err f) (sym all ∙ holds)
    (ruled_not (entries_row u (map entry_of ts) (λ v. use_row v (map entry_of ts))) (λ t. made (ListType (least_length ts) t)) f (subst (λ (xs : List PlainType). Rules (entries_row u xs (λ v. use_row v xs)) (Err f)) entries (h u is)))

-- ---- fold

quiet : (r : Result PlainType TyRefusal) (make : PlainType → Ruled) → ((t : PlainType) → (make t).throws ≡ None) → (and_lub r make).throws ≡ None
quiet (Ok t) make h = h t
quiet (Err Differ) make h = refl
quiet (Err LargeTy) make h = refl
quiet (Err DeepTy) make h = refl
quiet (Err EmptyTuple) make h = refl
quiet (Err KeyTwice) make h = refl

-- the fold by a function with these types of its parameters and this type
abbrev pub function_fold : List PlainType → PlainType → PlainType → PlainType → Ruled
function_fold ps returns s i = if_kind (is_sequence s && admits_first ps (entry_of s)) (and_lub (least_supertype i returns) (λ t. of_kind (admits_first (drop 1 ps) t) t))

pub folds_alike : (params : List (List ℕ × PlainType)) (returns s i : PlainType) (r : Result PlainType (Fault Rule)) → Rules (function_fold (map (λ (p : List ℕ × PlainType). p.1) params) returns s i) r → (f : Signature) → f.params ≡ params → f.returns ≡ returns → Rules (fold_function f s i) r
folds_alike params returns s i r h f same also =
    subst (λ (ps : List (List ℕ × PlainType)). Rules (function_fold (map (λ (p : List ℕ × PlainType). p.1) ps) f.returns s i) r) (sym same) (subst (λ (t : PlainType). Rules (function_fold (map (λ (p : List ℕ × PlainType). p.1) params) t s i) r) (sym also) h)

module _ (ps : List PlainType) (returns s i : PlainType) where
  pub fold_wrong : (is_sequence s && admits_first ps (entry_of s)) ≡ false → Rules (function_fold ps returns s i) (Err (Refused ArgumentKind))
  fold_wrong fails = where_fails (is_sequence s && admits_first ps (entry_of s)) (and_lub (least_supertype i returns) (λ t. of_kind (admits_first (drop 1 ps) t) t)) (quiet (least_supertype i returns) (λ t. of_kind (admits_first (drop 1 ps) t) t) (λ t. refl)) fails

  module _ (yes : (is_sequence s && admits_first ps (entry_of s)) ≡ true) where
    pub fold_unlubbed : (f : Fault Rule) → Lubs (least_supertype i returns) (Err f) → Rules (function_fold ps returns s i) (Err f)
    fold_unlubbed f h = where_holds (is_sequence s && admits_first ps (entry_of s)) (and_lub (least_supertype i returns) (λ t. of_kind (admits_first (drop 1 ps) t) t)) (Err f) yes (lub_fails (least_supertype i returns) (λ t. of_kind (admits_first (drop 1 ps) t) t) f h)

    pub fold_lubbed : (t : PlainType) (holds : Bool) (r : Result PlainType (Fault Rule)) → Lubs (least_supertype i returns) (Ok t) → holds ≡ admits_first (drop 1 ps) t → Rules (of_kind holds t) r → Rules (function_fold ps returns s i) r
    fold_lubbed t holds r h so k = where_holds (is_sequence s && admits_first ps (entry_of s)) (and_lub (least_supertype i returns) (λ t. of_kind (admits_first (drop 1 ps) t) t)) r yes (made_of_lub (least_supertype i returns) t (λ t. of_kind (admits_first (drop 1 ps) t) t) r h (subst (λ (c : Bool). Rules (of_kind c t) r) so k))

-- the parameters and the type of a function that is applied
abbrev pub params_used : CodeUsable → List (List ℕ × PlainType)
params_used (Function params returns height) = params.now
params_used used = []

abbrev pub returns_used : CodeUsable → PlainType
returns_used (Function params returns height) = returns.now
returns_used used = NoType

pub fold_of_function : (used : CodeUsable) (s i : PlainType) (r : Result PlainType (Fault Rule)) → native_used used ≡ false → ((f : Signature) → f.params ≡ params_used used → f.returns ≡ returns_used used → Rules (fold_function f s i) r) → RulesUse (λ u. fold_row u s i) used r
fold_of_function (Function params returns height) s i r fails h (AFunction f) is = h f is.0 is.1
fold_of_function (Function params returns height) s i r fails h (ANative row) is = absurd is
fold_of_function (OnValues n) s i r fails h u is = absurd cc
fold_of_function And s i r fails h u is = absurd cc
fold_of_function Or s i r fails h u is = absurd cc

-- ---- verdicts

pub one_item : {A : Type 0} (xs : List A) (x : A) → length xs ≡ 1 → get_or xs 0 x ≡ x → xs ≡ x ∷ []
one_item [] x h at = absurd (omega (arith, h))
one_item (y ∷ []) x h at = ap (λ z. z ∷ []) at
one_item (y ∷ z ∷ xs) x h at = absurd (omega (arith, h))

pub two_items : {A : Type 0} (xs : List A) (x y : A) → length xs ≡ 2 → get_or xs 0 x ≡ x → get_or xs 1 y ≡ y → xs ≡ x ∷ y ∷ []
two_items [] x y h at also = absurd (omega (arith, h))
two_items (a ∷ []) x y h at also = absurd (omega (arith, h))
two_items (a ∷ b ∷ []) x y h at also = λ i. at i ∷ also i ∷ []
two_items (a ∷ b ∷ c ∷ xs) x y h at also = absurd (omega (arith, h))

abbrev first_type : List PlainType → PlainType
first_type [] = NoType
first_type (t ∷ ts) = t

abbrev second_type : List PlainType → PlainType
second_type (t ∷ u ∷ ts) = u
second_type ts = NoType

module _ (used : CodeUsable) (height : ℕ) (high : (u : Usable) → IsUsed used u → height ≡ use_height u) (ruled : Result PlainType (Fault Rule)) (result : Result Concluded (Fault Rule)) where
  pub map_judged : (cs : List Checked) (ts : List PlainType) → ts ≡ types_at cs → RulesUse (λ u. map_row u ts) used ruled → ConcludesAs ruled None height cs result → Iterates map_verdict used cs result
  map_judged cs ts types h k u is row fs same =
      subst (λ (n : ℕ). Concludes (concluded (map_row u (types_of fs)) n (Both (iterating row u (types_of fs) (least_length (types_of fs)) (map entry_of (types_of fs))) (sum_of fs)) fs) result) (high u is)
      (k (map_row u (types_of fs)) (Both (iterating row u (types_of fs) (least_length (types_of fs)) (map entry_of (types_of fs))) (sum_of fs)) fs (subst (λ (us : List PlainType). Rules (map_row u us) ruled) (types ∙ sym (types_seen fs cs same)) (h u is)) same)

  pub filter_judged : (c : Checked) → RulesUse (λ u. filter_row u (type_of c.code)) used ruled → ConcludesAs ruled None height (c ∷ []) result → Iterates filter_verdict used (c ∷ []) result
  filter_judged c h k u is row [] same = absurd cc
  filter_judged c h k u is row (f ∷ []) same =
      let type : f.type ≡ type_of c.code = ap first_type (types_seen (f ∷ []) (c ∷ []) same) in
      subst (λ (n : ℕ). Concludes (concluded (filter_row u f.type) n (Both (iterating row u (f.type ∷ []) (length_of f.type) (entry_of f.type ∷ [])) (sum_of (f ∷ []))) (f ∷ [])) result) (high u is)
      (k (filter_row u f.type) (Both (iterating row u (f.type ∷ []) (length_of f.type) (entry_of f.type ∷ [])) (sum_of (f ∷ []))) (f ∷ []) (subst (λ (t : PlainType). Rules (filter_row u t) ruled) (sym type) (h u is)) same)
  filter_judged c h k u is row (f ∷ g ∷ fs) same = absurd cc

  pub fold_judged : (c d : Checked) → RulesUse (λ u. fold_row u (type_of c.code) (type_of d.code)) used ruled → ConcludesAs ruled None height (c ∷ d ∷ []) result → Iterates fold_verdict used (c ∷ d ∷ []) result
  fold_judged c d h k u is row [] same = absurd cc
  fold_judged c d h k u is row (f ∷ []) same = absurd cc
  fold_judged c d h k u is row (f ∷ g ∷ []) same =
      let types : f.type ∷ g.type ∷ [] ≡ type_of c.code ∷ type_of d.code ∷ [] = types_seen (f ∷ g ∷ []) (c ∷ d ∷ []) same in
      let first : f.type ≡ type_of c.code = ap first_type types in
      let second : g.type ≡ type_of d.code = ap second_type types in
      let R = fold_row u f.type g.type in
      let bound = Both (iterating row u (f.type ∷ g.type ∷ []) (length_of f.type) (entry_of f.type ∷ R.type ∷ [])) (sum_of (f ∷ g ∷ [])) in
      subst (λ (n : ℕ). Concludes (concluded R n bound (f ∷ g ∷ [])) result) (high u is)
      (k R bound (f ∷ g ∷ []) (subst (λ (t : PlainType). Rules (fold_row u t g.type) ruled) (sym first) (subst (λ (t : PlainType). Rules (fold_row u (type_of c.code) t) ruled) (sym second) (h u is))) same)
  fold_judged c d h k u is row (f ∷ g ∷ e ∷ fs) same = absurd cc

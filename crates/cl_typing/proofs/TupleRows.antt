-- Rows of tuples.
use Rattle.std.proofs.Common.{◌≡◌, ℕ, ◌+◌, ◌<◌, ◌≤◌, max, Bool, true, false, List, [], ◌∷◌, ◌++◌, map, length, drop, get_or, Some, Result, refl, sym, ap, subst, ◌∙◌, arith, append_assoc, append-nil}
use Rattle.std.specs.Prelude.{◌||◌, not, nat_eq, if◌then◌else◌}
use Rattle.std.specs.List.{list_any}
use Rattle.std.specs.Cmp.Lexicographic.{pointwise}
use Rattle.std.proofs.lemmas.Bool.{and_parts, and_from}
use Rattle.std.proofs.lemmas.List.{drop_all}
use Rattle.cl_types.specs.Types.{PlainType, TupleType, Fields, NoField, Field, fields, depth_of, depths_of}
use Rattle.cl_types.specs.Sized.{everywhere, everywhere_in, keys_rise, has_key, differ, is_among, rises, placed, in_order, is_below, IsSized}
use Rattle.cl_types.proofs.Rising.{rises_differ, rising_again}
use Rattle.cl_types.proofs.Made.{everywhere_ordered}
use Rattle.cl_types.specs.declared.fault.Fault.{Fault}
use Rattle.cl_values.proofs.Lists.{rest_of}
use Rattle.cl_sexpr.specs.declared.rule.Rule.{Rule}
use Rattle.cl_rules.specs.Context.{same}
use Rattle.cl_rules.specs.NativeTypes.{made, merged, merge_row, type_of_key}
use Rattle.cl_rules.specs.DataShapes.{stands_twice, fields_by, tuple_row}
use Rattle.cl_typing.specs.Verdicts.{Rules}
use Rattle.cl_typing.specs.Tuples.{paired, unlike}

abbrev Row : Type 0
Row = List (List ℕ × PlainType)

-- ---- in rising order

one_placed : (b : Bool) (k j : List ℕ) (t u : PlainType) (fs : Fields) → depths_of (placed k t fs) ≡ max (depth_of t) (depths_of fs) → depths_of (if b then Field j u (placed k t fs) else Field k t (Field j u fs)) ≡ max (depth_of t) (max (depth_of u) (depths_of fs))
one_placed true k j t u fs h = omega (arith, h)
one_placed false k j t u fs h = refl

depths_placed : (k : List ℕ) (t : PlainType) (fs : Fields) → depths_of (placed k t fs) ≡ max (depth_of t) (depths_of fs)
depths_placed k t NoField = omega arith
depths_placed k t (Field j u fs) = one_placed (is_below j k) k j t u fs (depths_placed k t fs)

pub depths_ordered : (fs : Fields) → depths_of (in_order fs) ≡ depths_of fs
depths_ordered NoField = refl
depths_ordered (Field k t fs) = depths_placed k t (in_order fs) ∙ ap (max (depth_of t)) (depths_ordered fs)

pub ordered_rise : (fs : Fields) → everywhere_in keys_rise fs ≡ true → has_key (TupleType fs) ≡ true → differ fs ≡ true → everywhere keys_rise (TupleType (in_order fs)) ≡ true
ordered_rise fs parts keyed keys = and_from (rises (in_order fs)) (everywhere_in keys_rise (in_order fs)) (rises_differ fs keyed ∙ keys) (everywhere_ordered keys_rise fs ∙ parts)

-- ---- fields put together

everywhere_both : (test : PlainType → Bool) (xs ys : Row) → everywhere_in test (fields xs) ≡ true → everywhere_in test (fields ys) ≡ true → everywhere_in test (fields (xs ++ ys)) ≡ true
everywhere_both test [] ys h k = k
everywhere_both test (x ∷ xs) ys h k =
    let p = and_parts (everywhere test x.1) (everywhere_in test (fields xs)) h in
    and_from (everywhere test x.1) (everywhere_in test (fields (xs ++ ys))) p.0 (everywhere_both test xs ys p.1 k)

depths_both : (xs ys : Row) → depths_of (fields (xs ++ ys)) ≡ max (depths_of (fields xs)) (depths_of (fields ys))
depths_both [] ys = omega arith
depths_both (x ∷ xs) ys = omega (arith, depths_both xs ys)

pub rise_more : (xs : Row) (k : List ℕ) (t : PlainType) → everywhere_in keys_rise (fields xs) ≡ true → IsSized t → everywhere_in keys_rise (fields (xs ++ (k, t) ∷ [])) ≡ true
rise_more xs k t h sized = everywhere_both keys_rise xs ((k, t) ∷ []) h (and_from (everywhere keys_rise t) true sized.keys refl)

pub depths_more : (xs : Row) (k : List ℕ) (t : PlainType) → depths_of (fields xs) ≤ 32 → IsSized t → depths_of (fields (xs ++ (k, t) ∷ [])) ≤ 32
depths_more xs k t h sized = omega (arith, h, sized.depth, depths_both xs ((k, t) ∷ []))

-- ---- keys with the types in their places

pub by_pairs : (ks : List (List ℕ)) (ts : List PlainType) → in_order (fields (paired ks ts)) ≡ fields_by ks ts
by_pairs [] [] = refl
by_pairs [] (t ∷ ts) = refl
by_pairs (k ∷ ks) [] = refl
by_pairs (k ∷ ks) (t ∷ ts) = ap (placed k t) (by_pairs ks ts)

among_pairs : (k : List ℕ) (ks : List (List ℕ)) (ts : List PlainType) → length ks ≡ length ts → is_among k (fields (paired ks ts)) ≡ list_any (same k) ks
among_pairs k [] [] h = refl
among_pairs k [] (t ∷ ts) h = absurd (omega (arith, h))
among_pairs k (j ∷ ks) [] h = absurd (omega (arith, h))
among_pairs k (j ∷ ks) (t ∷ ts) h = ap (λ (b : Bool). pointwise nat_eq k j || b) (among_pairs k ks ts (omega (arith, h)))

neither : (a b : Bool) → (a || b) ≡ false → (a ≡ false) × (b ≡ false)
neither true b h = absurd cc
neither false b h = (refl, h)

pub pairs_differ : (ks : List (List ℕ)) (ts : List PlainType) → length ks ≡ length ts → stands_twice ks ≡ false → differ (fields (paired ks ts)) ≡ true
pairs_differ [] [] h once = refl
pairs_differ [] (t ∷ ts) h once = refl
pairs_differ (k ∷ ks) [] h once = refl
pairs_differ (k ∷ ks) (t ∷ ts) h once =
    let p = neither (list_any (same k) ks) (stands_twice ks) once in
    and_from (not (is_among k (fields (paired ks ts)))) (differ (fields (paired ks ts))) (ap not (among_pairs k ks ts (omega (arith, h)) ∙ p.0)) (pairs_differ ks ts (omega (arith, h)) p.1)

pub pairs_keyed : (ks : List (List ℕ)) (ts : List PlainType) → length ks ≡ length ts → 0 < length ks → has_key (TupleType (fields (paired ks ts))) ≡ true
pairs_keyed [] ts h some = absurd (omega (arith, some))
pairs_keyed (k ∷ ks) [] h some = absurd (omega (arith, h))
pairs_keyed (k ∷ ks) (t ∷ ts) h some = refl

pub pairs_rules : (ks : List (List ℕ)) (ts : List PlainType) (row : Row) (r : Result PlainType (Fault Rule)) → row ≡ paired ks ts → Rules (made (TupleType (in_order (fields row)))) r → Rules (tuple_row ks ts) r
pairs_rules ks ts row r is k = subst (λ (hs : Fields). Rules (made (TupleType hs)) r) (ap (λ (xs : Row). in_order (fields xs)) is ∙ by_pairs ks ts) k

-- the keys with the types of these
module _ {A : Type 0} (type : A → PlainType) (keys : List (List ℕ)) (types : List A) where
  abbrev pub Paired : Row → ℕ → Type 0
  Paired row i = row ++ paired (drop i keys) (map type (drop i types)) ≡ paired keys (map type types)

  pub paired_next : (row : Row) (i : ℕ) (k : List ℕ) (x : A) → i < length keys → length keys ≡ length types → get_or keys i k ≡ k → get_or types i x ≡ x → Paired row i → Paired (row ++ (k, type x) ∷ []) (i + 1)
  paired_next row i k x lt same_count at_k at_x left =
      append_assoc row ((k, type x) ∷ []) (paired (drop (i + 1) keys) (map type (drop (i + 1) types)))
      ∙ sym (ap (λ (ks : List (List ℕ)). row ++ paired ks (map type (drop i types))) (rest_of keys i k lt at_k) ∙ ap (λ (xs : List A). row ++ paired (k ∷ drop (i + 1) keys) (map type xs)) (rest_of types i x (omega (arith, lt, same_count)) at_x))
      ∙ left

-- ---- two tuples put together

one_kept : (b : Bool) (f : List ℕ × PlainType) (fs : Row) → (if b then fs else f ∷ fs) ≡ (if b then [] else f ∷ []) ++ fs
one_kept true f fs = refl
one_kept false f fs = refl

module _ (gs : Row) where
  -- one more field of the first, unless the second has its key
  pub unlike_next : (xs row more whole : Row) (i : ℕ) (f : List ℕ × PlainType) → i < length xs → get_or xs i f ≡ f → more ≡ row ++ unlike gs (f ∷ []) → row ++ unlike gs (drop i xs) ≡ whole → more ++ unlike gs (drop (i + 1) xs) ≡ whole
  unlike_next xs row more whole i f lt at grown so_far =
      ap (λ (r : Row). r ++ unlike gs (drop (i + 1) xs)) grown
      ∙ append_assoc row (unlike gs (f ∷ [])) (unlike gs (drop (i + 1) xs))
      ∙ ap (λ (r : Row). row ++ r) (sym (ap (unlike gs) (rest_of xs i f lt at) ∙ one_kept (is_among f.0 (fields gs)) f (unlike gs (drop (i + 1) xs))))
      ∙ so_far

  -- the first are at their end
  pub unlike_end : (xs row whole : Row) (i : ℕ) → length xs ≤ i → row ++ unlike gs (drop i xs) ≡ whole → row ++ gs ≡ whole ++ gs
  unlike_end xs row whole i far so_far = ap (λ (r : Row). r ++ gs) (sym (append-nil row) ∙ ap (λ (ys : Row). row ++ unlike gs ys) (sym (drop_all i xs far)) ∙ so_far)

  pub like_next : (row more whole : Row) (i : ℕ) (f : List ℕ × PlainType) → i < length gs → get_or gs i f ≡ f → more ≡ row ++ f ∷ [] → row ++ drop i gs ≡ whole → more ++ drop (i + 1) gs ≡ whole
  like_next row more whole i f lt at grown so_far =
      ap (λ (r : Row). r ++ drop (i + 1) gs) grown ∙ append_assoc row (f ∷ []) (drop (i + 1) gs) ∙ ap (λ (r : Row). row ++ r) (sym (rest_of gs i f lt at)) ∙ so_far

  pub like_end : (row whole : Row) (i : ℕ) → length gs ≤ i → row ++ drop i gs ≡ whole → row ≡ whole
  like_end row whole i far so_far = sym (append-nil row) ∙ ap (λ (ys : Row). row ++ ys) (sym (drop_all i gs far)) ∙ so_far

  among_both : (k : List ℕ) (xs ys : Row) → is_among k (fields (xs ++ ys)) ≡ (is_among k (fields xs) || is_among k (fields ys))
  among_both k [] ys = refl
  among_both k (x ∷ xs) ys = ap (λ (b : Bool). pointwise nat_eq k x.0 || b) (among_both k xs ys) ∙ grouped (pointwise nat_eq k x.0) (is_among k (fields xs)) (is_among k (fields ys)) where
    grouped : (a b c : Bool) → (a || (b || c)) ≡ ((a || b) || c)
    grouped true b c = refl
    grouped false b c = refl

  abbrev one_more : Bool → List ℕ × PlainType → Row → Row
  one_more b f fs = if b then fs else f ∷ fs

  one_absent : (b : Bool) (k : List ℕ) (f : List ℕ × PlainType) (fs : Row) → pointwise nat_eq k f.0 ≡ false → is_among k (fields fs) ≡ false → is_among k (fields (one_more b f fs)) ≡ false
  one_absent true k f fs h e = e
  one_absent false k f fs h e = ap (λ (b : Bool). b || is_among k (fields fs)) h ∙ e

  absent_unlike : (k : List ℕ) (fs : Row) → is_among k (fields fs) ≡ false → is_among k (fields (unlike gs fs)) ≡ false
  absent_unlike k [] h = refl
  absent_unlike k (f ∷ fs) h =
      let p : (pointwise nat_eq k f.0 ≡ false) × (is_among k (fields fs) ≡ false) = neither (pointwise nat_eq k f.0) (is_among k (fields fs)) h in
      one_absent (is_among f.0 (fields gs)) k f (unlike gs fs) p.0 (absent_unlike k fs p.1)

  not_so : (b : Bool) → not b ≡ true → b ≡ false
  not_so true e = absurd cc
  not_so false e = refl

  one_differs : (b : Bool) (f : List ℕ × PlainType) (fs : Row) → b ≡ is_among f.0 (fields gs) → is_among f.0 (fields (unlike gs fs)) ≡ false → differ (fields (unlike gs fs ++ gs)) ≡ true → differ (fields (one_more b f (unlike gs fs) ++ gs)) ≡ true
  one_differs true f fs is absent rest = rest
  one_differs false f fs is absent rest =
      and_from (not (is_among f.0 (fields (unlike gs fs ++ gs)))) (differ (fields (unlike gs fs ++ gs)))
      (ap not (among_both f.0 (unlike gs fs) gs ∙ ap (λ (b : Bool). b || is_among f.0 (fields gs)) absent ∙ sym is)) rest

  pub unlike_differ : (fs : Row) → differ (fields fs) ≡ true → differ (fields gs) ≡ true → differ (fields (unlike gs fs ++ gs)) ≡ true
  unlike_differ [] h k = k
  unlike_differ (f ∷ fs) h k =
      let p = and_parts (not (is_among f.0 (fields fs))) (differ (fields fs)) h in
      one_differs (is_among f.0 (fields gs)) f fs refl (absent_unlike f.0 fs (not_so (is_among f.0 (fields fs)) p.0)) (unlike_differ fs p.1 k)

  one_everywhere : (test : PlainType → Bool) (b : Bool) (f : List ℕ × PlainType) (fs : Row) → everywhere test f.1 ≡ true → everywhere_in test (fields fs) ≡ true → everywhere_in test (fields (one_more b f fs)) ≡ true
  one_everywhere test true f fs h rest = rest
  one_everywhere test false f fs h rest = and_from (everywhere test f.1) (everywhere_in test (fields fs)) h rest

  unlike_everywhere : (test : PlainType → Bool) (fs : Row) → everywhere_in test (fields fs) ≡ true → everywhere_in test (fields (unlike gs fs)) ≡ true
  unlike_everywhere test [] h = refl
  unlike_everywhere test (f ∷ fs) h =
      let p = and_parts (everywhere test f.1) (everywhere_in test (fields fs)) h in
      one_everywhere test (is_among f.0 (fields gs)) f (unlike gs fs) p.0 (unlike_everywhere test fs p.1)

  pub unlike_rise : (fs : Row) → everywhere_in keys_rise (fields fs) ≡ true → everywhere_in keys_rise (fields gs) ≡ true → everywhere_in keys_rise (fields (unlike gs fs ++ gs)) ≡ true
  unlike_rise fs h k = everywhere_both keys_rise (unlike gs fs) gs (unlike_everywhere keys_rise fs h) k

  one_shallow : (b : Bool) (f : List ℕ × PlainType) (fs : Row) → depth_of f.1 ≤ 32 → depths_of (fields fs) ≤ 32 → depths_of (fields (one_more b f fs)) ≤ 32
  one_shallow true f fs h rest = rest
  one_shallow false f fs h rest = omega (arith, h, rest)

  unlike_depths : (fs : Row) → depths_of (fields fs) ≤ 32 → depths_of (fields (unlike gs fs)) ≤ 32
  unlike_depths [] h = omega arith
  unlike_depths (f ∷ fs) h = one_shallow (is_among f.0 (fields gs)) f (unlike gs fs) (omega (arith, h)) (unlike_depths fs (omega (arith, h)))

  pub unlike_shallow : (fs : Row) → depths_of (fields fs) ≤ 32 → depths_of (fields gs) ≤ 32 → depths_of (fields (unlike gs fs ++ gs)) ≤ 32
  unlike_shallow fs h k = omega (arith, k, unlike_depths fs h, depths_both (unlike gs fs) gs)

  some : (xs : Row) → rises (fields xs) ≡ true → has_key (TupleType (fields xs)) ≡ true
  some [] e = e
  some (x ∷ xs) e = refl

  one_keyed : (b : Bool) (f : List ℕ × PlainType) (fs : Row) → has_key (TupleType (fields (fs ++ gs))) ≡ true → has_key (TupleType (fields (one_more b f fs ++ gs))) ≡ true
  one_keyed true f fs rest = rest
  one_keyed false f fs rest = refl

  pub unlike_keyed : (fs : Row) → rises (fields gs) ≡ true → has_key (TupleType (fields (unlike gs fs ++ gs))) ≡ true
  unlike_keyed [] h = some gs h
  unlike_keyed (f ∷ fs) h = one_keyed (is_among f.0 (fields gs)) f (unlike gs fs) (unlike_keyed fs h)

  one_merged : (b : Bool) (f : List ℕ × PlainType) (fs : Row) → in_order (fields (unlike gs fs ++ gs)) ≡ merged (fields fs) (fields gs) → in_order (fields (one_more b f (unlike gs fs) ++ gs)) ≡ (if b then merged (fields fs) (fields gs) else placed f.0 f.1 (merged (fields fs) (fields gs)))
  one_merged true f fs rest = rest
  one_merged false f fs rest = ap (placed f.0 f.1) rest

  pub merged_in_order : (fs : Row) → rises (fields gs) ≡ true → in_order (fields (unlike gs fs ++ gs)) ≡ merged (fields fs) (fields gs)
  merged_in_order [] h = rising_again (fields gs) h
  merged_in_order (f ∷ fs) h = one_merged (is_among f.0 (fields gs)) f fs (merged_in_order fs h)

  pub merged_rules : (fs row : Row) (t u : PlainType) (r : Result PlainType (Fault Rule)) → TupleType (fields fs) ≡ t → TupleType (fields gs) ≡ u → rises (fields gs) ≡ true → row ≡ unlike gs fs ++ gs → Rules (made (TupleType (in_order (fields row)))) r → Rules (merge_row t u) r
  merged_rules fs row t u r first second h is k =
      subst (λ (s : PlainType). Rules (merge_row s u) r) first (subst (λ (s : PlainType). Rules (merge_row (TupleType (fields fs)) s) r) second
      (subst (λ (hs : Fields). Rules (made (TupleType hs)) r) (ap (λ (xs : Row). in_order (fields xs)) is ∙ merged_in_order fs h) k))

-- the type under a key of a first field that has another
pub other_key : (k j : List ℕ) (t : PlainType) (fs : Fields) → pointwise nat_eq k j ≡ false → type_of_key k (Field j t fs) ≡ type_of_key k fs
other_key k j t fs e = ap (λ (b : Bool). if b then Some t else type_of_key k fs) e

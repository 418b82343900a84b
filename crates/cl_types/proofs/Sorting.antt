-- The fields of a tuple put in order.
use Rattle.std.proofs.Common.{◌≡◌, ℕ, ◌+◌, ◌<◌, ◌≤◌, zero, suc, List, [], ◌∷◌, ◌++◌, map, length, take, drop, set, get_or, Bool as TruthValue, true, false, cond, Box, Vec, Global, if◌then◌else◌, refl, arith, ap, ◌∙◌, append-nil, take_all}
use Rattle.std.specs.Cmp.{IsStrictWeakOrder}
use Rattle.std.specs.Ordering.{nat_cmp, is_lt}
use Rattle.std.specs.Cmp.Lexicographic.{slice_cmp}
use Rattle.std.proofs.lemmas.List.Sorted.{ranks_by}
use Rattle.std.proofs.Math.ListN.{drop_of_length-le}
use Rattle.std.proofs.lemmas.Cmp.{nat_list_cmp_total}
use Rattle.std.specs.List.Sorted.{IsSortedBy, IsStableBy}
use Rattle.cl_types.specs.declared.name.Name.{Name}
use Rattle.cl_types.specs.declared.ty.Ty.{Ty}
use Rattle.cl_types.specs.declared.ty.TyKind.{TyKind}
use Rattle.cl_types.specs.declared.ty.TyKind.TheVariants.{NoType as NoKind, Int, Uint, Bool, Principal, Buff, Ascii, Utf8, List as ListKind, Tuple, Optional, Response}
use Rattle.cl_types.specs.TypeView.{plain_of}
use Rattle.cl_types.specs.Types.{PlainType, Fields, Field, fields}
use Rattle.cl_types.specs.Sized.{sorted, sorted_parts, placed, in_order}
use Rattle.cl_types.proofs.Stable.{put, arranged, sorted_is_arranged}

-- a field with its type sorted
abbrev pub part_sorted : List ℕ × PlainType → List ℕ × PlainType
part_sorted f = (f.0, sorted f.1)

pub parts_sorted : (fs : List (List ℕ × PlainType)) → fields (map part_sorted fs) ≡ sorted_parts (fields fs)
parts_sorted [] = refl
parts_sorted (f ∷ fs) = ap (λ (gs : Fields). Field f.0 (sorted f.1) gs) (parts_sorted fs)

sorted_in_place : (fs : List (List ℕ × PlainType)) (i : ℕ) (d : List ℕ × PlainType) → i < length fs → set (map part_sorted (take i fs) ++ drop i fs) i (part_sorted (get_or fs i d)) ≡ map part_sorted (take (i + 1) fs) ++ drop (i + 1) fs
sorted_in_place [] i d h = absurd (omega (arith, h))
sorted_in_place (f ∷ fs) zero d h = refl
sorted_in_place (f ∷ fs) (suc i) d h =
    let two : suc i + 1 ≡ suc (i + 1) = omega arith in
    rw two (ap (λ (gs : List (List ℕ × PlainType)). part_sorted f ∷ gs) (sorted_in_place fs i d (omega (arith, h))))

pub unsorted_yet : (fs : List (List ℕ × PlainType)) (i : ℕ) (d : List ℕ × PlainType) → i < length fs → get_or (map part_sorted (take i fs) ++ drop i fs) i d ≡ get_or fs i d
unsorted_yet [] i d h = absurd (omega (arith, h))
unsorted_yet (f ∷ fs) zero d h = refl
unsorted_yet (f ∷ fs) (suc i) d h = unsorted_yet fs i d (omega (arith, h))

-- one more field sorted in its place
pub sorted_more : (fs gs : List (List ℕ × PlainType)) (i : ℕ) (d : List ℕ × PlainType) (t : PlainType) → i < length fs → gs ≡ map part_sorted (take i fs) ++ drop i fs → t ≡ sorted (get_or gs i d).1 → set gs i ((get_or gs i d).0, t) ≡ map part_sorted (take (i + 1) fs) ++ drop (i + 1) fs
sorted_more fs gs i d t h is now =
    let here : get_or gs i d ≡ get_or fs i d = ap (λ (hs : List (List ℕ × PlainType)). get_or hs i d) is ∙ unsorted_yet fs i d h in
    let part : ((get_or gs i d).0, t) ≡ part_sorted (get_or fs i d) = ap (λ (u : PlainType). ((get_or gs i d).0, u)) now ∙ ap part_sorted here in
    ap (λ (f : List ℕ × PlainType). set gs i f) part ∙ ap (λ (hs : List (List ℕ × PlainType)). set hs i (part_sorted (get_or fs i d))) is ∙ sorted_in_place fs i d h

pub all_sorted : (fs gs : List (List ℕ × PlainType)) (i : ℕ) → length fs ≤ i → gs ≡ map part_sorted (take i fs) ++ drop i fs → fields gs ≡ sorted_parts (fields fs)
all_sorted fs gs i h is =
    let whole : map part_sorted (take i fs) ++ drop i fs ≡ map part_sorted fs = rw (take_all i fs h, drop_of_length-le fs h, append-nil) refl in
    ap fields (is ∙ whole) ∙ parts_sorted fs

-- whether a field's key stands before another's
abbrev pub stands_before : List ℕ × PlainType → List ℕ × PlainType → TruthValue
stands_before f g = is_lt (slice_cmp nat_cmp f.0 g.0)

pub standing : IsStrictWeakOrder stands_before
standing = ranks_by nat_list_cmp_total (λ (f : List ℕ × PlainType). f.0)

put_placed : (f : List ℕ × PlainType) (gs : List (List ℕ × PlainType)) → fields (put stands_before standing f gs) ≡ placed f.0 f.1 (fields gs)
put_placed f [] = refl
put_placed f (g ∷ gs) =
    elim (stands_before g f) as (λ b. fields (cond b (g ∷ put stands_before standing f gs) (f ∷ g ∷ gs)) ≡ (if b then Field g.0 g.1 (placed f.0 f.1 (fields gs)) else Field f.0 f.1 (Field g.0 g.1 (fields gs)))) [
      | true ↦ ap (λ (hs : Fields). Field g.0 g.1 hs) (put_placed f gs)
      | false ↦ refl
    ]

pub arranged_in_order : (fs : List (List ℕ × PlainType)) → fields (arranged stands_before standing fs) ≡ in_order (fields fs)
arranged_in_order [] = refl
arranged_in_order (f ∷ fs) =
    put_placed f (arranged stands_before standing fs) ∙ ap (λ (hs : Fields). placed f.0 f.1 hs) (arranged_in_order fs)

-- a row sorted by its keys, those of one key in their old order
pub stably_sorted : (xs ys : List (List ℕ × PlainType)) → IsSortedBy stands_before ys → IsStableBy stands_before xs ys → fields ys ≡ in_order (fields xs)
stably_sorted xs ys up stable = ap fields (sorted_is_arranged stands_before standing xs ys up stable) ∙ arranged_in_order xs

-- a type without parts is sorted
pub leaf_sorted : (k : TyKind) → ((n : ℕ) (t : Box Ty Global) → k ≡ ListKind n t → ⊥) → ((fs : Vec (Name × Ty) Global) → k ≡ Tuple fs → ⊥) → ((t : Box Ty Global) → k ≡ Optional t → ⊥) → ((t e : Box Ty Global) → k ≡ Response t e → ⊥) → sorted (plain_of k) ≡ plain_of k
leaf_sorted NoKind a b c d = refl
leaf_sorted Int a b c d = refl
leaf_sorted Uint a b c d = refl
leaf_sorted Bool a b c d = refl
leaf_sorted Principal a b c d = refl
leaf_sorted (Buff n) a b c d = refl
leaf_sorted (Ascii n) a b c d = refl
leaf_sorted (Utf8 n) a b c d = refl
leaf_sorted (ListKind n t) a b c d = absurd (a n t refl)
leaf_sorted (Tuple fs) a b c d = absurd (b fs refl)
leaf_sorted (Optional t) a b c d = absurd (c t refl)
leaf_sorted (Response t e) a b c d = absurd (d t e refl)

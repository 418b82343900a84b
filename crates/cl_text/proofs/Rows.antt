-- Rows of items and of pairs, from a place on.
use Rattle.std.proofs.Common.{◌≡◌, ◌==◌, false, ℕ, ◌+◌, ◌<◌, ◌≤◌, refl, zero, suc, List, [], ◌∷◌, ◌++◌, length, drop, get_or, arith, ap, sym, ◌∙◌, append_assoc}
use Rattle.std.specs.Prelude.{Option, Some, None}
use Rattle.std.proofs.lemmas.Bool.Decides.{nat_tests}
use Rattle.cl_sexpr.specs.Tree.{Tree as Item, Forest, Then, Pair, forest, pairs, tree_size, forest_size, pairs_size}
use Rattle.cl_text.specs.Literal.{is_one, pair_key, pair_keys, with_key}

pub forest_at : (ts : List Item) (i : ℕ) (t : Item) → i < length ts → t ≡ get_or ts i t → forest (drop i ts) ≡ Then t (forest (drop (i + 1) ts))
forest_at [] i t h is = absurd (omega (arith, h))
forest_at (u ∷ ts) zero t h is = ap (λ (x : Item). Then x (forest ts)) (sym is)
forest_at (u ∷ ts) (suc i) t h is =
    let two : suc i + 1 ≡ suc (i + 1) = omega arith in
    rw two (forest_at ts i t (omega (arith, h)) is)

pub pairs_at : (ps : List (List ℕ × Item)) (i : ℕ) (p : List ℕ × Item) → i < length ps → p ≡ get_or ps i p → pairs (drop i ps) ≡ Pair p.0 p.1 (pairs (drop (i + 1) ps))
pairs_at [] i p h is = absurd (omega (arith, h))
pairs_at (q ∷ ps) zero p h is = ap (λ (x : List ℕ × Item). Pair x.0 x.1 (pairs ps)) (sym is)
pairs_at (q ∷ ps) (suc i) p h is =
    let two : suc i + 1 ≡ suc (i + 1) = omega arith in
    rw two (pairs_at ps i p (omega (arith, h)) is)

-- an item is smaller than its row, and a pair's item than its pairs
pub item_smaller : (ts : List Item) (i : ℕ) (t : Item) → i < length ts → t ≡ get_or ts i t → tree_size t < forest_size (forest ts)
item_smaller [] i t h is = absurd (omega (arith, h))
item_smaller (u ∷ ts) zero t h is = rw is (omega arith)
item_smaller (u ∷ ts) (suc i) t h is = omega (arith, item_smaller ts i t (omega (arith, h)) is)

pub pair_smaller : (ps : List (List ℕ × Item)) (i : ℕ) (p : List ℕ × Item) → i < length ps → p ≡ get_or ps i p → tree_size p.1 < pairs_size (pairs ps)
pair_smaller [] i p h is = absurd (omega (arith, h))
pair_smaller (q ∷ ps) zero p h is = rw is (omega arith)
pair_smaller (q ∷ ps) (suc i) p h is = omega (arith, pair_smaller ps i p (omega (arith, h)) is)

pub one_by_length : (ts : List Item) → (length ts == 1) ≡ is_one (forest ts)
one_by_length [] = refl
one_by_length (t ∷ []) = refl
one_by_length (t ∷ u ∷ ts) = apart (length (t ∷ u ∷ ts)) (omega arith)
  where
    apart : (n : ℕ) → 2 ≤ n → (n == 1) ≡ false
    apart n h = grind (arith, nat_tests)

-- along the keys of pairs
abbrev pub behind_keys : List (List ℕ) → Option (List (List ℕ)) → Option (List (List ℕ))
behind_keys keys None = None
behind_keys keys (Some others) = Some (keys ++ others)

behind_key : (keys : List (List ℕ)) (k : List ℕ) (others : Option (List (List ℕ))) → behind_keys keys (with_key (Some k) others) ≡ behind_keys (keys ++ k ∷ []) others
behind_key keys k None = refl
behind_key keys k (Some others) = ap (λ (x : List (List ℕ)). Some x) (sym (append_assoc keys (k ∷ []) others))

pub pair_keys_begin : (o : Option (List (List ℕ))) → o ≡ behind_keys [] o
pair_keys_begin None = refl
pair_keys_begin (Some keys) = refl

pub pair_keys_more : (ts : List Item) (i : ℕ) (t : Item) (keys : List (List ℕ)) (k : List ℕ) → i < length ts → t ≡ get_or ts i t → Some k ≡ pair_key t → behind_keys keys (pair_keys (forest (drop i ts))) ≡ behind_keys (keys ++ k ∷ []) (pair_keys (forest (drop (i + 1) ts)))
pair_keys_more ts i t keys k h is key =
    ap (λ (x : Forest). behind_keys keys (pair_keys x)) (forest_at ts i t h is)
    ∙ (ap (λ (x : Option (List ℕ)). behind_keys keys (with_key x (pair_keys (forest (drop (i + 1) ts))))) (sym key)
    ∙ behind_key keys k (pair_keys (forest (drop (i + 1) ts))))

pub pair_keys_none : (ts : List Item) (i : ℕ) (t : Item) (keys : List (List ℕ)) → i < length ts → t ≡ get_or ts i t → None ≡ pair_key t → behind_keys keys (pair_keys (forest (drop i ts))) ≡ None
pair_keys_none ts i t keys h is key =
    ap (λ (x : Forest). behind_keys keys (pair_keys x)) (forest_at ts i t h is)
    ∙ ap (λ (x : Option (List ℕ)). behind_keys keys (with_key x (pair_keys (forest (drop (i + 1) ts))))) (sym key)

-- The first place of an item.
use Rattle.std.proofs.Common.{◌≡◌, ℕ, zero, suc, ◌+◌, ◌<◌, ◌≤◌, true, false, List, [], ◌∷◌, length, get_or, drop, option_map, Option, Some, None, if◌then◌else◌, refl, sym, ap, ◌∙◌, arith}
use Rattle.std.proofs.lemmas.List.{drop_all}
use Rattle.cl_values.specs.Tree.{Tree}
use Rattle.cl_values.specs.Sequences.{equal, place_of, singles}
use Rattle.cl_values.proofs.Lists.{next_part}
use Rattle.cl_values.proofs.Entries.{singles_many}

-- the place in the whole, of what is found from a place on
abbrev pub found_from : ℕ → Tree → List Tree → Option ℕ
found_from i item vs = option_map (λ k. k + i) (place_of item (drop i vs))

mapped : (i : ℕ) (o : Option ℕ) → option_map (λ k. k + i) (option_map suc o) ≡ option_map (λ k. k + (i + 1)) o
mapped i None = refl
mapped i (Some k) = ap Some (omega arith)

pub find_here : (item : Tree) (vs : List Tree) (i : ℕ) (v : Tree) → i < length vs → v ≡ get_or vs i v → true ≡ equal v item → found_from i item vs ≡ Some i
find_here item vs i v h k e =
    ap (λ l. option_map (λ n. n + i) (place_of item l)) (next_part vs i v h k)
    ∙ ap (λ b. option_map (λ n. n + i) (if b then Some 0 else option_map suc (place_of item (drop (i + 1) vs)))) (sym e)
    ∙ ap Some (omega arith)

pub find_on : (item : Tree) (vs : List Tree) (i : ℕ) (v : Tree) → i < length vs → v ≡ get_or vs i v → false ≡ equal v item → found_from i item vs ≡ found_from (i + 1) item vs
find_on item vs i v h k e =
    ap (λ l. option_map (λ n. n + i) (place_of item l)) (next_part vs i v h k)
    ∙ ap (λ b. option_map (λ n. n + i) (if b then Some 0 else option_map suc (place_of item (drop (i + 1) vs)))) (sym e)
    ∙ mapped i (place_of item (drop (i + 1) vs))

pub find_end : (item : Tree) (vs : List Tree) (i : ℕ) → length vs ≤ i → found_from i item vs ≡ None
find_end item vs i h = ap (λ l. option_map (λ n. n + i) (place_of item l)) (drop_all i vs h)

-- ---- the entries of buffers and strings

single_there : (make : List ℕ → Tree) (xs : List ℕ) (i x : ℕ) → i < length xs → x ≡ get_or xs i x → make (x ∷ []) ≡ get_or (singles make xs) i (make (x ∷ []))
single_there make [] i x h e = absurd (omega (arith, h))
single_there make (y ∷ xs) zero x h e = ap (λ z. make (z ∷ [])) e
single_there make (y ∷ xs) (suc i) x h e = single_there make xs i x (omega (arith, h)) e

pub default_there : (xs : List ℕ) (i : ℕ) → i < length xs → get_or xs i 0 ≡ get_or xs i (get_or xs i 0)
default_there [] i h = absurd (omega (arith, h))
default_there (y ∷ xs) zero h = refl
default_there (y ∷ xs) (suc i) h = default_there xs i (omega (arith, h))

pub single_here : (item : Tree) (make : List ℕ → Tree) (xs : List ℕ) (i x : ℕ) → i < length xs → x ≡ get_or xs i x → true ≡ equal (make (x ∷ [])) item → found_from i item (singles make xs) ≡ Some i
single_here item make xs i x h k e =
    find_here item (singles make xs) i (make (x ∷ [])) (omega (arith, h, singles_many make xs)) (single_there make xs i x h k) e

pub single_on : (item : Tree) (make : List ℕ → Tree) (xs : List ℕ) (i x : ℕ) → i < length xs → x ≡ get_or xs i x → false ≡ equal (make (x ∷ [])) item → found_from i item (singles make xs) ≡ found_from (i + 1) item (singles make xs)
single_on item make xs i x h k e =
    find_on item (singles make xs) i (make (x ∷ [])) (omega (arith, h, singles_many make xs)) (single_there make xs i x h k) e

pub single_end : (item : Tree) (make : List ℕ → Tree) (xs : List ℕ) (i : ℕ) → length xs ≤ i → found_from i item (singles make xs) ≡ None
single_end item make xs i h = find_end item (singles make xs) i (omega (arith, h, singles_many make xs))

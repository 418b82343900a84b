-- Characters and their digits.
use Rattle.std.proofs.Common.{◌≡◌, ℕ, zero, suc, ◌+◌, ◌<◌, ◌≤◌, ◌==◌, ◌&&◌, Bool, true, false, List, [], ◌∷◌, ◌++◌, length, map, take, replicate, get_or, Option, Some, None, cond, inl, inr, refl, sym, ap, subst, ◌∙◌, arith, lit<}
use Rattle.std.proofs.lemmas.Bool.{cases_order}
use Rattle.std.proofs.lemmas.Bool.Decides.{nat_tests}
use Rattle.std.proofs.lemmas.List.Elements.{All-append, All-map, All-replicate, All-take}
use Rattle.std.specs.List.{All, position_from}
use Rattle.std.specs.Cmp.{first_so, second_so}
use Rattle.std.specs.Option.{option_eq}
use Rattle.std.specs.Prelude.{unwrap_or, is_none, nat_eq}
use Rattle.cl_c32.specs.declared.alphabet.TheConstants.{DIGITS}
use Rattle.cl_c32.specs.Alphabet.{alphabet, character_of, digit_of, digit_value}

-- where the first element that passes stands
pub position-found : (p : ℕ → Bool) (i : ℕ) (xs : List ℕ) (k : ℕ) → position_from p i xs ≡ Some k → (j : ℕ) × ((k ≡ i + j) × (j < length xs) × (p (get_or xs j 0) ≡ true))
position-found p i [] k e = absurd (cc)
position-found p i (x ∷ xs) k e = found (p x) refl e (position-found p (i + 1) xs k)
  where
    found : (b : Bool) → p x ≡ b → cond b (Some i) (position_from p (i + 1) xs) ≡ Some k
        → (position_from p (i + 1) xs ≡ Some k → (j : ℕ) × ((k ≡ i + 1 + j) × (j < length xs) × (p (get_or xs j 0) ≡ true)))
        → (j : ℕ) × ((k ≡ i + j) × (j < length (x ∷ xs)) × (p (get_or (x ∷ xs) j 0) ≡ true))
    found true t h later = let same : i ≡ k = cc in (0, (omega (arith, same), omega arith, t))
    found false t h later =
        let rest = later h in
        (suc rest.0, (omega (arith, rest.1.0), omega (arith, rest.1.1), rest.1.2))

-- the digit that a character has
digit_of-found : (c d : ℕ) → digit_of c ≡ Some d → (d < 32) × (character_of d ≡ c)
unfolding alphabet digit_of
digit_of-found c d e =
    let place = position-found (λ a. a == c) 0 alphabet d e in
    let same : d ≡ place.0 = omega (arith, place.1.0) in
    let here : get_or alphabet place.0 0 ≡ c = grind (arith, nat_tests, place.1.2) in
    (omega (arith, same, place.1.1), ap (λ k. get_or alphabet k 0) same ∙ here)

pub digit_value-lt : (c : ℕ) → digit_value c < 32
digit_value-lt c = below (digit_of c) refl
  where
    below : (d : Option ℕ) → digit_of c ≡ d → unwrap_or d 0 < 32
    below None e = lit< tt
    below (Some d) e = (digit_of-found c d e).0

-- a character that has a digit is the character of that digit
pub character_of-digit_value : (c : ℕ) → is_none (digit_of c) ≡ false → character_of (digit_value c) ≡ c
character_of-digit_value c h = again (digit_of c) refl h
  where
    again : (d : Option ℕ) → digit_of c ≡ d → is_none d ≡ false → character_of (unwrap_or d 0) ≡ c
    again None e h = absurd (cc)
    again (Some d) e h = (digit_of-found c d e).1

-- the first digits are those of their characters
are_found : ℕ → Bool
are_found zero = true
are_found (suc d) = option_eq nat_eq (digit_of (character_of d)) (Some d) && are_found d

all_found : are_found 32 ≡ true
unfolding alphabet digit_of are_found
all_found = refl

same_option : (o : Option ℕ) (d : ℕ) → option_eq nat_eq o (Some d) ≡ true → o ≡ Some d
same_option None d e = absurd (cc)
same_option (Some x) d e = let same : x ≡ d = grind (arith, nat_tests, e) in ap Some same

found-below : (n d : ℕ) → are_found n ≡ true → d < n → digit_of (character_of d) ≡ Some d
unfolding are_found
found-below zero d e h = absurd (omega arith)
found-below (suc n) d e h =
    let here = same_option (digit_of (character_of n)) n (first_so (option_eq nat_eq (digit_of (character_of n)) (Some n)) (are_found n) e) in
    elim (cases_order d n) [
      | inl same ↦ subst (λ k. digit_of (character_of k) ≡ Some k) (sym same) here
      | inr (inl less) ↦ found-below n d (second_so (option_eq nat_eq (digit_of (character_of n)) (Some n)) (are_found n) e) less
      | inr (inr more) ↦ absurd (omega arith)
    ]

-- a digit is that of its character
pub digit_of-character_of : (d : ℕ) → d < 32 → digit_of (character_of d) ≡ Some d
digit_of-character_of d h = found-below 32 d all_found h

pub digit_value-character_of : (d : ℕ) → d < 32 → digit_value (character_of d) ≡ d
digit_value-character_of d h = ap (λ o. unwrap_or o 0) (digit_of-character_of d h)

-- ---- the table of digits

are_read : ℕ → List ℕ → Bool
are_read c [] = true
are_read c (d ∷ ds) = nat_eq d (unwrap_or (digit_of c) 255) && are_read (suc c) ds

all_read : are_read 0 DIGITS ≡ true
unfolding alphabet digit_of are_read
all_read = refl

read-at : (c : ℕ) (ds : List ℕ) (i k : ℕ) → are_read c ds ≡ true → i < length ds → k ≡ c + i → get_or ds i 0 ≡ unwrap_or (digit_of k) 255
unfolding are_read
read-at c [] i k e h n = absurd (omega arith)
read-at c (d ∷ ds) zero k e h n =
    let here : d ≡ unwrap_or (digit_of c) 255 = grind (arith, nat_tests, first_so (nat_eq d (unwrap_or (digit_of c) 255)) (are_read (suc c) ds) e) in
    here ∙ ap (λ x. unwrap_or (digit_of x) 255) (let same : c ≡ k = omega (arith, n) in same)
read-at c (d ∷ ds) (suc i) k e h n =
    read-at (suc c) ds i k (second_so (nat_eq d (unwrap_or (digit_of c) 255)) (are_read (suc c) ds) e) (omega (arith, h)) (omega (arith, n))

pub digit_of-read : (c : ℕ) → c < 256 → get_or DIGITS c 0 < 32 → Some (get_or DIGITS c 0) ≡ digit_of c
digit_of-read c h small = by (digit_of c) (read-at 0 DIGITS c c all_read h (omega arith))
  where
    by : (o : Option ℕ) → get_or DIGITS c 0 ≡ unwrap_or o 255 → Some (get_or DIGITS c 0) ≡ o
    by None e = absurd (omega (arith, e, small))
    by (Some d) e = ap Some e

pub digit_of-unread : (c : ℕ) → c < 256 → 32 ≤ get_or DIGITS c 0 → None ≡ digit_of c
digit_of-unread c h great = by (digit_of c) refl (read-at 0 DIGITS c c all_read h (omega arith))
  where
    by : (o : Option ℕ) → digit_of c ≡ o → get_or DIGITS c 0 ≡ unwrap_or o 255 → None ≡ o
    by None f e = refl
    by (Some d) f e = let below = (digit_of-found c d f).0 in absurd (omega (arith, e, great, below))

-- the digits of characters, and zeros behind them
pub digit_values-below : (cs ds : List ℕ) (k n : ℕ) → ds ≡ map digit_value cs ++ replicate k 0 → All (λ d. d < 32) (take n ds)
digit_values-below cs ds k n e =
    let values : All (λ d. d < 32) (map digit_value cs) = All-map (λ d. d < 32) digit_value cs (λ _ _ _. digit_value-lt _) in
    let behind : All (λ d. d < 32) (replicate k 0) = All-replicate (λ d. d < 32) k 0 (lit< tt) in
    All-take (λ d. d < 32) n ds
    (subst (All (λ d. d < 32)) (sym e) (All-append (λ d. d < 32) (map digit_value cs) (replicate k 0) values behind))

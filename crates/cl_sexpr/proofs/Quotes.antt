-- Strings, along the loops that read them.
use Rattle.std.proofs.Common.{◌≡◌, ℕ, suc, zero, ◌+◌, ◌-◌, ◌<◌, ◌≤◌, ◌==◌, List, [], ◌∷◌, ◌++◌, length, drop, get_or, Bool, true, false, Option, Some, None, Result, Ok, Err, refl, arith, append_assoc, sym, ap, ◌∙◌}
use Rattle.std.specs.Option.{option_map}
use Rattle.std.proofs.lemmas.List.{at_drop_more}
use Rattle.std.proofs.lemmas.Bool.Decides.{nat_tests}
use Rattle.cl_sexpr.specs.declared.rule.Break.{Break}
use Rattle.cl_sexpr.specs.Quote.{closing, characters, character_at, with_character, and_then}

abbrev pub plus : ℕ → Option ℕ → Option ℕ
plus i None = None
plus i (Some n) = Some (n + i)

plus_more : (i : ℕ) (o : Option ℕ) → plus i (option_map (λ n. n + 1) o) ≡ plus (i + 1) o
plus_more i None = refl
plus_more i (Some n) = ap (λ (k : ℕ). Some k) (omega arith)

pub plus_none : (o : Option ℕ) → plus 0 o ≡ o
plus_none None = refl
plus_none (Some n) = ap (λ (k : ℕ). Some k) (omega arith)

differs : (n m : ℕ) → (n ≡ m → ⊥) → (n == m) ≡ false
differs n m h = grind (arith, nat_tests)

-- behind a \
pub closing_escaped : (bs : List ℕ) (i : ℕ) → i < length bs → plus i (closing true (drop i bs)) ≡ plus (i + 1) (closing false (drop (i + 1) bs))
closing_escaped bs i h = ap (plus i) (at_drop_more (closing true) bs i 0 h) ∙ plus_more i (closing false (drop (i + 1) bs))

-- at any other byte
pub closing_more : (bs : List ℕ) (i : ℕ) → i < length bs → (get_or bs i 0 ≡ 34 → ⊥) → plus i (closing false (drop i bs)) ≡ plus (i + 1) (closing (get_or bs i 0 == 92) (drop (i + 1) bs))
closing_more bs i h e =
    let test : (get_or bs i 0 == 34) ≡ false = differs (get_or bs i 0) 34 e in
    let here : closing false (get_or bs i 0 ∷ drop (i + 1) bs) ≡ option_map (λ n. n + 1) (closing (get_or bs i 0 == 92) (drop (i + 1) bs)) = rw test refl in
    ap (plus i) (at_drop_more (closing false) bs i 0 h ∙ here) ∙ plus_more i (closing (get_or bs i 0 == 92) (drop (i + 1) bs))

-- characters in front of others
abbrev pub with_front : List ℕ → Result (List ℕ) Break → Result (List ℕ) Break
with_front xs (Ok ys) = Ok (xs ++ ys)
with_front xs (Err r) = Err r

with_front-character : (xs : List ℕ) (c : ℕ) (r : Result (List ℕ) Break) → with_front xs (with_character c r) ≡ with_front (xs ++ c ∷ []) r
with_front-character xs c (Ok ys) = ap (λ (z : List ℕ). Ok z) (sym (append_assoc xs (c ∷ []) ys))
with_front-character xs c (Err r) = refl

-- past the bytes of an escape
skipped : (u : Bool) (at k : ℕ) (cs : List ℕ) → k ≤ length cs → characters u at k cs ≡ characters u (at + k) 0 (drop k cs)
skipped u at zero cs h = ap (λ (n : ℕ). characters u n 0 cs) (omega arith)
skipped u at (suc k) [] h = absurd (omega (arith, h))
skipped u at (suc k) (c ∷ cs) h = skipped u (at + 1) k cs (omega (arith, h)) ∙ ap (λ (n : ℕ). characters u n 0 (drop k cs)) (omega arith)

-- past one character
pub characters_more : (u : Bool) (xs : List ℕ) (at : ℕ) (rest : List ℕ) (c : ℕ) (cs : List ℕ) (char size : ℕ) → rest ≡ c ∷ cs → Ok (char, size) ≡ character_at u at c cs → 0 < size → size ≤ length cs + 1 → with_front xs (characters u at 0 rest) ≡ with_front (xs ++ char ∷ []) (characters u (at + size) 0 (drop (size - 1) cs))
characters_more u xs at rest c cs char size e is some within =
    let here : characters u at 0 rest ≡ with_character char (characters u (at + 1) (size - 1) cs) = ap (characters u at 0) e ∙ ap (λ (r : Result (ℕ × ℕ) Break). and_then r (λ skip. characters u (at + 1) skip cs)) (sym is) in
    let place : at + 1 + (size - 1) ≡ at + size = omega (arith, some) in
    ap (with_front xs) here ∙ (with_front-character xs char (characters u (at + 1) (size - 1) cs) ∙ ap (with_front (xs ++ char ∷ [])) (skipped u (at + 1) (size - 1) cs (omega (arith, within, some)) ∙ ap (λ (n : ℕ). characters u n 0 (drop (size - 1) cs)) place))

-- Lists of texts side by side.
use Rattle.std.proofs.Common.{◌≡◌, ℕ, zero, suc, ◌+◌, ◌<◌, ◌≤◌, ◌&&◌, nat_le, List, [], ◌∷◌, length, drop, get_or, Bool, true, false, Some, bytes_eq, String, Global, true≢false, refl, sym, ◌∙◌, arith}
use Rattle.std.proofs.lemmas.Bool.Decides.{nat_tests}
use Rattle.std.proofs.lemmas.List.{at_drop_all, at_drop_more}
use Rattle.std.proofs.lemmas.Slice.Eq.{bytes_eq-Decides}
use Rattle.std.specs.Prelude.{Option}
use Rattle.cl_words.specs.declared.line.Flag.{Flag}
use Rattle.cl_words.specs.Words.{texts, same_texts, positional, line_in, keeps_rule, flags_in, only_flag}

none_left : (es : List (String Global)) (at : ℕ) → nat_le (length es) at ≡ same_texts [] (texts (drop at es))
none_left [] zero = refl
none_left [] (suc n) = let here : nat_le 0 (suc n) ≡ true = grind (arith, nat_tests) in here
none_left (e ∷ es) zero = let here : nat_le (length (e ∷ es)) 0 ≡ false = grind (arith, nat_tests) in here
none_left (e ∷ es) (suc n) = let here : nat_le (length (e ∷ es)) (suc n) ≡ nat_le (length es) n = grind (arith, nat_tests) in here ∙ none_left es n

pub ends : (ws : List (String Global)) (es : List (String Global)) (i at : ℕ) → length ws ≤ i → nat_le (length es) at ≡ same_texts (texts (drop i ws)) (texts (drop at es))
ends ws es i at h = none_left es at ∙ sym (at_drop_all (λ xs. same_texts (texts xs) (texts (drop at es))) ws i h)

pub ends_positional : (ws : List (String Global)) (es : List (String Global)) (i at : ℕ) → length ws ≤ i → nat_le (length es) at ≡ same_texts (positional (texts (drop i ws))) (texts (drop at es))
ends_positional ws es i at h = none_left es at ∙ sym (at_drop_all (λ xs. same_texts (positional (texts xs)) (texts (drop at es))) ws i h)

pub longer : (ws : List (String Global)) (es : List (String Global)) (i at : ℕ) → i < length ws → length es ≤ at → false ≡ same_texts (texts (drop i ws)) (texts (drop at es))
longer [] es i at h k = absurd (omega arith)
longer (w ∷ ws) es i at h k =
    sym (at_drop_more (λ xs. same_texts (texts xs) (texts (drop at es))) (w ∷ ws) i w h
    ∙ at_drop_all (λ ys. same_texts (texts (get_or (w ∷ ws) i w ∷ drop (i + 1) (w ∷ ws))) (texts ys)) es at k)

both : (a b : Bool) → (a && b) ≡ true → (a ≡ true) × (b ≡ true)
both true b h = (refl, h)
both false b h = absurd (true≢false (sym h))

pub same : (xs ys : List (List ℕ)) → same_texts xs ys ≡ true → xs ≡ ys
same [] [] h = refl
same [] (y ∷ ys) h = absurd (true≢false (sym h))
same (x ∷ xs) [] h = absurd (true≢false (sym h))
same (x ∷ xs) (y ∷ ys) h =
    let b = both (bytes_eq x y) (same_texts xs ys) h in
    let p : x ≡ y = (bytes_eq-Decides x y).0 b.0 in
    let q : xs ≡ ys = same xs ys b.1 in
    λ i. p i ∷ q i

pub line_is : (words given : List (List ℕ)) (flag flag' : Option Flag) → keeps_rule words ≡ true → Some flag ≡ only_flag (flags_in words) → flag' ≡ flag
    → same_texts (positional words) given ≡ true → Some (given, flag') ≡ line_in words
line_is words given flag flag' k f q h =
    let p : given ≡ positional words = sym (same _ _ h) in
    rw (k, ← f) (λ i. Some (p i, q i))

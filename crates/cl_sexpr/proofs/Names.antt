-- A name in front of a text, as the token that it is.
use Rattle.std.proofs.Common.{◌≡◌, ℕ, zero, suc, ◌+◌, ◌<◌, ◌≤◌, ◌==◌, ◌&&◌, ◌||◌, not, List, [], ◌∷◌, length, take, Bool, true, false, Option, None, Ok, refl, sym, arith, ap, ◌∙◌, subst}
use Rattle.std.specs.Prelude.{nat_le}
use Rattle.std.specs.List.{list_all}
use Rattle.std.proofs.lemmas.Bool.{and_parts, cond-true, cond-false}
use Rattle.std.proofs.lemmas.Bool.Decides.{nat_tests}
use Rattle.std.proofs.lemmas.List.{length-take-le}
use Rattle.cl_types.specs.Name.{IsName, is_digit, is_letter, is_name_byte, is_operator, fits_pattern}
use Rattle.cl_sexpr.specs.declared.sexpr.Span.{Span}
use Rattle.cl_sexpr.specs.declared.leaf.Leaf.TheVariants as found
use Rattle.cl_sexpr.specs.declared.lexer.Token.TheVariants as given
use Rattle.cl_sexpr.specs.Tree.{Named}
use Rattle.cl_sexpr.specs.Token.{Token, Is}
use Rattle.cl_sexpr.specs.Leaf.{is_separator, is_allowed, are_digits, begins, begins_name, leaf_of, in_span, allowed_run, unless_bad, run_token}
use Rattle.cl_sexpr.specs.Text.{run_length, with_length, run_at, mark_at, longer_at, token_by, token_at}
use Rattle.cl_sexpr.specs.Lexed.{Lexes}
use Rattle.cl_sexpr.proofs.Numbers.{all_so, none_else}

name_allowed : (c : ℕ) → is_name_byte c ≡ true → is_allowed c ≡ true
name_allowed c h = grind (arith, nat_tests)

letter_allowed : (c : ℕ) → is_letter c ≡ true → is_allowed c ≡ true
letter_allowed c h = grind (arith, nat_tests)

letter_above : (c k : ℕ) → is_letter c ≡ true → k < 65 → (c == k) ≡ false
letter_above c k h far = grind (arith, nat_tests)

letter_below : (c k : ℕ) → is_letter c ≡ true → 123 ≤ k → (c == k) ≡ false
letter_below c k h far = grind (arith, nat_tests)

letter_unspaced : (c : ℕ) → is_letter c ≡ true → is_separator c ≡ false
letter_unspaced c h = grind (arith, nat_tests)

pub letter_no_digit : (c : ℕ) → is_letter c ≡ true → is_digit c ≡ false
letter_no_digit c h = grind (arith, nat_tests)

begins_letter : (c : ℕ) (cs : List ℕ) → begins_name (c ∷ cs) ≡ true → is_letter c ≡ true
begins_letter c [] h = (and_parts (is_letter c) (not (c == 117)) h).0
begins_letter c (d ∷ ds) h = (and_parts (is_letter c) (not (c == 117) || is_letter d) h).0

either_false : (b l q : Bool) → (not b || l) ≡ true → (l ≡ true → q ≡ false) → (b && q) ≡ false
either_false false l q h so = refl
either_false true l q h so = so h

and_nothing : (b : Bool) → (b && false) ≡ false
and_nothing true = refl
and_nothing false = refl

no_quote : (c : ℕ) (cs : List ℕ) → begins_name (c ∷ cs) ≡ true → (c == 117 && begins 34 cs) ≡ false
no_quote c [] h = and_nothing (c == 117)
no_quote c (d ∷ ds) h =
    either_false (c == 117) (is_letter d) (d == 34) (and_parts (is_letter c) (not (c == 117) || is_letter d) h).1 (λ l. letter_above d 34 l (omega arith))

no_uint : (c m : ℕ) (cs : List ℕ) → begins_name (c ∷ cs) ≡ true → (c == 117 && are_digits (take m cs)) ≡ false
no_uint c zero cs h = and_nothing (c == 117)
no_uint c (suc m) [] h = and_nothing (c == 117)
no_uint c (suc m) (d ∷ ds) h =
    either_false (c == 117) (is_letter d) (are_digits (take (suc m) (d ∷ ds))) (and_parts (is_letter c) (not (c == 117) || is_letter d) h).1
    (λ l. ap (λ (b : Bool). b && list_all is_digit (take m ds)) (letter_no_digit d l))

name_leaf : (c m : ℕ) (cs : List ℕ) → begins_name (c ∷ cs) ≡ true → fits_pattern (c ∷ take m cs) ≡ true → nat_le (length (c ∷ take m cs)) 128 ≡ true → leaf_of (c ∷ take m cs) ≡ Ok (Named (c ∷ take m cs))
name_leaf c m cs begun fits few =
    let letter = begins_letter c cs begun in
    let plain : list_all is_digit (c ∷ take m cs) ≡ false = ap (λ (b : Bool). b && list_all is_digit (take m cs)) (letter_no_digit c letter) in
    let minus : (c == 45 && are_digits (take m cs)) ≡ false = ap (λ (b : Bool). b && are_digits (take m cs)) (letter_above c 45 letter (omega arith)) in
    let both : (fits_pattern (c ∷ take m cs) && nat_le (length (c ∷ take m cs)) 128) ≡ true = ap (λ (b : Bool). b && nat_le (length (c ∷ take m cs)) 128) fits ∙ few in
    cond-false (list_all is_digit (c ∷ take m cs)) _ _ plain
    ∙ (cond-false (c == 45 && are_digits (take m cs)) _ _ minus
    ∙ (cond-false (c == 117 && are_digits (take m cs)) _ _ (no_uint c m cs begun)
    ∙ (cond-false (c == 46) _ _ (letter_above c 46 letter (omega arith))
    ∙ cond-true (fits_pattern (c ∷ take m cs) && nat_le (length (c ∷ take m cs)) 128) _ _ both)))

name_run : (at c m : ℕ) (cs : List ℕ) → begins_name (c ∷ cs) ≡ true → fits_pattern (c ∷ take m cs) ≡ true → nat_le (length (c ∷ take m cs)) 128 ≡ true → run_token at (c ∷ take m cs) ≡ Ok (Is (Named (c ∷ take m cs)) (record { start = at; end = at + length (c ∷ take m cs) }))
unfolding run_token
name_run at c m cs begun fits few =
    let letter = begins_letter c cs begun in
    let span : Span = record { start = at; end = at + length (c ∷ take m cs) } in
    let rest : list_all is_name_byte (take m cs) ≡ true = sym (cond-true (is_letter c) (list_all is_name_byte (take m cs)) (is_operator c (take m cs)) letter) ∙ fits in
    let all : list_all is_allowed (c ∷ take m cs) ≡ true = ap (λ (b : Bool). b && list_all is_allowed (take m cs)) (letter_allowed c letter) ∙ all_so is_name_byte is_allowed name_allowed (take m cs) rest in
    ap (λ (o : Option ℕ). unless_bad at o (allowed_run span (c ∷ take m cs))) (none_else is_allowed (c ∷ take m cs) all)
    ∙ (cond-false (c == 39) _ _ (letter_above c 39 letter (omega arith))
    ∙ (cond-false (c == 48 && begins 120 (take m cs)) _ _ (ap (λ (b : Bool). b && begins 120 (take m cs)) (letter_above c 48 letter (omega arith)))
    ∙ ap (in_span span) (name_leaf c m cs begun fits few)))

letter_unmarked : (at c : ℕ) → is_letter c ≡ true → mark_at at c ≡ None
letter_unmarked at c h =
    rw (letter_unspaced c h, letter_above c 40 h (omega arith), letter_above c 41 h (omega arith), letter_below c 123 h (omega arith), letter_below c 125 h (omega arith), letter_above c 44 h (omega arith), letter_above c 58 h (omega arith)) refl

name_longer : (at c : ℕ) (cs : List ℕ) → begins_name (c ∷ cs) ≡ true → longer_at at (c ∷ cs) ≡ run_at at (c ∷ cs)
name_longer at c cs begun =
    let letter = begins_letter c cs begun in
    cond-false (c == 34) _ _ (letter_above c 34 letter (omega arith))
    ∙ (cond-false (c == 59) _ _ (letter_above c 59 letter (omega arith))
    ∙ cond-false (c == 117 && begins 34 cs) _ _ (no_quote c cs begun))

lexes : (at n : ℕ) (bytes : List ℕ) → n ≡ run_length bytes → n ≤ length bytes → begins_name bytes ≡ true → IsName (take n bytes) → Lexes (given.Item (found.Named (take n bytes))) n at bytes
unfolding token_at
lexes at n [] e h begun name = absurd cc
lexes at zero (c ∷ cs) e h begun name = let no_bytes : false ≡ true = name.pattern in absurd cc
lexes at (suc m) (c ∷ cs) e h begun name =
    let few : nat_le (length (c ∷ take m cs)) 128 ≡ true = let most = name.within in grind (arith, nat_tests) in
    record {
      some = omega arith;
      within = h;
      spells =
          ap (λ (o : Option Token). token_by o at (c ∷ cs)) (letter_unmarked at c (begins_letter c cs begun))
          ∙ (name_longer at c cs begun
          ∙ (ap (λ (k : ℕ). with_length k (run_token at (take k (c ∷ cs)))) (sym e)
          ∙ (ap (with_length (suc m)) (name_run at c m cs begun name.pattern few)
          ∙ ap (λ (k : ℕ). Ok (Is (Named (c ∷ take m cs)) (record { start = at; end = at + k }), suc m)) (length-take-le (suc m) (c ∷ cs) h))));
    }

pub name_lexes : (at n : ℕ) (bytes name : List ℕ) → n ≡ run_length bytes → n ≤ length bytes → begins_name bytes ≡ true → IsName (take n bytes) → name ≡ take n bytes → Lexes (given.Item (found.Named name)) n at bytes
name_lexes at n bytes name e h begun is same = subst (λ (x : List ℕ). Lexes (given.Item (found.Named x)) n at bytes) (sym same) (lexes at n bytes e h begun is)

-- Digits in front of a text, as the token that they are.
use Rattle.std.proofs.Common.{◌≡◌, ℕ, zero, suc, ◌+◌, ◌<◌, ◌≤◌, ◌==◌, ◌&&◌, ◌^◌, not, List, [], ◌∷◌, length, take, get_or, cond, Bool, true, false, Option, Some, None, Ok, refl, sym, arith, ap, ◌∙◌, subst}
use Rattle.std.specs.Prelude.{position, unwrap_or, nat_lt, pos}
use Rattle.std.specs.List.{list_all, prefix_len}
use Rattle.std.proofs.lemmas.Bool.{and_parts, ltb-false, cond-true, cond-false}
use Rattle.std.proofs.lemmas.Bool.Decides.{nat_tests}
use Rattle.std.proofs.lemmas.List.{length-take-le}
use Rattle.cl_types.specs.Name.{is_digit}
use Rattle.cl_sexpr.specs.declared.sexpr.Span.{Span}
use Rattle.cl_sexpr.specs.declared.number.Number.{Number}
use Rattle.cl_sexpr.specs.declared.number.Number.TheVariants as number
use Rattle.cl_sexpr.specs.declared.reading.Reading.{Reading}
use Rattle.cl_sexpr.specs.declared.lexer.Token.TheVariants as given
use Rattle.cl_sexpr.specs.Tree.{Signed, Unsigned, LeafAt}
use Rattle.cl_sexpr.specs.Token.{Token, Is, in_place}
use Rattle.cl_sexpr.specs.Leaf.{is_separator, is_allowed, is_run_byte, begins, value_of, leaf_of, in_span, allowed_run, unless_bad, run_token}
use Rattle.cl_sexpr.specs.Text.{run_length, with_length, run_at, mark_at, longer_at, token_by, token_at}
use Rattle.cl_sexpr.specs.Lexed.{leaf, token, number_leaf, Lexes, DigitRun}
use Rattle.cl_sexpr.specs.Progress.{opens, Takes, TakesItem}

-- ---- digits among the bytes

pub all_so : (p q : ℕ → Bool) → ((c : ℕ) → p c ≡ true → q c ≡ true) → (cs : List ℕ) → list_all p cs ≡ true → list_all q cs ≡ true
all_so p q so [] h = refl
all_so p q so (c ∷ cs) h =
    let parts = and_parts (p c) (list_all p cs) h in
    rw (so c parts.0, all_so p q so cs parts.1) refl

digit_runs : (c : ℕ) → is_digit c ≡ true → is_run_byte c ≡ true
digit_runs c h = grind (arith, nat_tests)

digit_allowed : (c : ℕ) → is_digit c ≡ true → is_allowed c ≡ true
digit_allowed c h = grind (arith, nat_tests)

digit_other : (c k : ℕ) → is_digit c ≡ true → 58 ≤ k → (c == k) ≡ false
digit_other c k h far = grind (arith, nat_tests)

digit_above : (c k : ℕ) → is_digit c ≡ true → k < 48 → (c == k) ≡ false
digit_above c k h far = grind (arith, nat_tests)

digit_unspaced : (c : ℕ) → is_digit c ≡ true → is_separator c ≡ false
digit_unspaced c h = grind (arith, nat_tests)

all_pass : (p : ℕ → Bool) (xs : List ℕ) → list_all p xs ≡ true → prefix_len (λ c. not (not (p c))) xs ≡ length xs
all_pass p [] h = refl
all_pass p (c ∷ cs) h =
    let parts = and_parts (p c) (list_all p cs) h in
    ap (λ (b : Bool). cond (not (not b)) (1 + prefix_len (λ c. not (not (p c))) cs) 0) parts.0 ∙ omega (arith, all_pass p cs parts.1)

not_below : (n : ℕ) → nat_lt n n ≡ false
not_below n = grind (arith, nat_tests)

pub none_else : (p : ℕ → Bool) (xs : List ℕ) → list_all p xs ≡ true → position (λ c. not (p c)) xs ≡ None
none_else p xs h =
    ap (λ (n : ℕ). cond (nat_lt n (length xs)) (Some n) None) (all_pass p xs h) ∙ ap (λ (b : Bool). cond b (Some (length xs)) None) (not_below (length xs))

run_prefix : (bytes : List ℕ) (n : ℕ) → n ≤ length bytes → list_all is_run_byte (take n bytes) ≡ true → (n < length bytes → is_run_byte (get_or bytes n 0) ≡ false) → prefix_len (λ c. not (not (is_run_byte c))) bytes ≡ n
run_prefix [] n h front ends = omega (arith, h)
run_prefix (c ∷ cs) zero h front ends = ap (λ (b : Bool). cond (not (not b)) (1 + prefix_len (λ c. not (not (is_run_byte c))) cs) 0) (ends (omega arith))
run_prefix (c ∷ cs) (suc m) h front ends =
    let parts = and_parts (is_run_byte c) (list_all is_run_byte (take m cs)) front in
    ap (λ (b : Bool). cond (not (not b)) (1 + prefix_len (λ c. not (not (is_run_byte c))) cs) 0) parts.0 ∙ omega (arith, run_prefix cs m (omega (arith, h)) parts.1 (λ l. ends (omega (arith, l))))

run_ends : (bytes : List ℕ) (n : ℕ) → n ≤ length bytes → list_all is_run_byte (take n bytes) ≡ true → (n < length bytes → is_run_byte (get_or bytes n 0) ≡ false) → run_length bytes ≡ n
run_ends bytes n h front ends =
    ap (λ (m : ℕ). unwrap_or (cond (nat_lt m (length bytes)) (Some m) None) (length bytes)) (run_prefix bytes n h front ends) ∙ by (nat_lt n (length bytes)) refl
  where
    by : (b : Bool) → nat_lt n (length bytes) ≡ b → unwrap_or (cond b (Some n) None) (length bytes) ≡ n
    by true e = refl
    by false e = let least = ltb-false n (length bytes) e in omega (arith, h, least)

-- ---- what a run of digits is

no_hex : (c : ℕ) (cs : List ℕ) → list_all is_digit cs ≡ true → (c == 48 && begins 120 cs) ≡ false
no_hex c cs h = by (c == 48) cs h
  where
    by : (b : Bool) (cs : List ℕ) → list_all is_digit cs ≡ true → (b && begins 120 cs) ≡ false
    by false cs h = refl
    by true [] h = refl
    by true (d ∷ ds) h = digit_other d 120 (and_parts (is_digit d) (list_all is_digit ds) h).0 (omega arith)

int_leaf : (c : ℕ) (cs : List ℕ) → list_all is_digit (c ∷ cs) ≡ true → value_of (c ∷ cs) < 2 ^ 64 → leaf_of (c ∷ cs) ≡ Ok (Signed (pos (value_of (c ∷ cs))))
int_leaf c cs h small =
    let fits : nat_lt (value_of (c ∷ cs)) (2 ^ 127) ≡ true = grind (arith, nat_tests) in
    cond-true (list_all is_digit (c ∷ cs)) _ _ h ∙ cond-true (nat_lt (value_of (c ∷ cs)) (2 ^ 127)) _ _ fits

uint_leaf : (d : ℕ) (ds : List ℕ) → list_all is_digit (d ∷ ds) ≡ true → value_of (d ∷ ds) < 2 ^ 64 → leaf_of (117 ∷ d ∷ ds) ≡ Ok (Unsigned (value_of (d ∷ ds)))
uint_leaf d ds h small =
    let fits : nat_lt (value_of (d ∷ ds)) (2 ^ 128) ≡ true = grind (arith, nat_tests) in
    cond-true (list_all is_digit (d ∷ ds)) _ _ h ∙ cond-true (nat_lt (value_of (d ∷ ds)) (2 ^ 128)) _ _ fits

int_run : (at c : ℕ) (cs : List ℕ) → list_all is_digit (c ∷ cs) ≡ true → value_of (c ∷ cs) < 2 ^ 64 → run_token at (c ∷ cs) ≡ Ok (Is (Signed (pos (value_of (c ∷ cs)))) (record { start = at; end = at + length (c ∷ cs) }))
unfolding run_token
int_run at c cs h small =
    let parts = and_parts (is_digit c) (list_all is_digit cs) h in
    let span : Span = record { start = at; end = at + length (c ∷ cs) } in
    ap (λ (o : Option ℕ). unless_bad at o (allowed_run span (c ∷ cs))) (none_else is_allowed (c ∷ cs) (all_so is_digit is_allowed digit_allowed (c ∷ cs) h))
    ∙ (cond-false (c == 39) _ _ (digit_above c 39 parts.0 (omega arith))
    ∙ (cond-false (c == 48 && begins 120 cs) _ _ (no_hex c cs parts.1)
    ∙ ap (in_span span) (int_leaf c cs h small)))

uint_run : (at d : ℕ) (ds : List ℕ) → list_all is_digit (d ∷ ds) ≡ true → value_of (d ∷ ds) < 2 ^ 64 → run_token at (117 ∷ d ∷ ds) ≡ Ok (Is (Unsigned (value_of (d ∷ ds))) (record { start = at; end = at + length (117 ∷ d ∷ ds) }))
unfolding run_token
uint_run at d ds h small =
    let span : Span = record { start = at; end = at + length (117 ∷ d ∷ ds) } in
    ap (λ (o : Option ℕ). unless_bad at o (allowed_run span (117 ∷ d ∷ ds))) (none_else is_allowed (117 ∷ d ∷ ds) (all_so is_digit is_allowed digit_allowed (d ∷ ds) h))
    ∙ ap (in_span span) (uint_leaf d ds h small)

-- ---- where it stands

digit_unmarked : (at c : ℕ) → is_digit c ≡ true → mark_at at c ≡ None
digit_unmarked at c h =
    rw (digit_unspaced c h, digit_above c 40 h (omega arith), digit_above c 41 h (omega arith), digit_other c 123 h (omega arith), digit_other c 125 h (omega arith), digit_above c 44 h (omega arith), digit_other c 58 h (omega arith)) refl

digit_longer : (at c : ℕ) (cs : List ℕ) → is_digit c ≡ true → longer_at at (c ∷ cs) ≡ run_at at (c ∷ cs)
digit_longer at c cs h =
    rw (digit_above c 34 h (omega arith), digit_other c 59 h (omega arith), digit_other c 117 h (omega arith)) refl

unsigned_longer : (at d : ℕ) (ds : List ℕ) → is_digit d ≡ true → longer_at at (117 ∷ d ∷ ds) ≡ run_at at (117 ∷ d ∷ ds)
unsigned_longer at d ds h = rw (digit_above d 34 h (omega arith)) refl

pub int_lexes : (at value n : ℕ) (bytes : List ℕ) → DigitRun value n bytes → Lexes (given.Item (number_leaf (number.Int value))) n at bytes
unfolding token_at
int_lexes at value zero bytes r = absurd (omega (arith, r.some))
int_lexes at value (suc m) [] r = absurd (omega (arith, r.within))
int_lexes at value (suc m) (c ∷ cs) r =
    let one = (and_parts (is_digit c) (list_all is_digit (take m cs)) r.digits).0 in
    let long : length (take (suc m) (c ∷ cs)) ≡ suc m = length-take-le (suc m) (c ∷ cs) r.within in
    let few : value_of (take (suc m) (c ∷ cs)) < 2 ^ 64 = subst (λ (v : ℕ). v < 2 ^ 64) r.spells r.small in
    record {
      some = r.some;
      within = r.within;
      spells =
          ap (λ (o : Option Token). token_by o at (c ∷ cs)) (digit_unmarked at c one)
          ∙ (digit_longer at c cs one
          ∙ (ap (λ (k : ℕ). with_length k (run_token at (take k (c ∷ cs)))) (run_ends (c ∷ cs) (suc m) r.within (all_so is_digit is_run_byte digit_runs (take (suc m) (c ∷ cs)) r.digits) r.ends)
          ∙ (ap (with_length (suc m)) (int_run at c (take m cs) r.digits few)
          ∙ (ap (λ (k : ℕ). Ok (Is (Signed (pos (value_of (take (suc m) (c ∷ cs))))) (record { start = at; end = at + k }), suc m)) long
          ∙ ap (λ (v : ℕ). Ok (Is (Signed (pos v)) (record { start = at; end = at + suc m }), suc m)) (sym r.spells)))));
    }

uint_next : (at value n : ℕ) (rest : List ℕ) → DigitRun value n rest → Lexes (given.Item (number_leaf (number.Uint value))) (suc n) at (117 ∷ rest)
unfolding token_at
uint_next at value zero rest r = absurd (omega (arith, r.some))
uint_next at value (suc m) [] r = absurd (omega (arith, r.within))
uint_next at value (suc m) (d ∷ ds) r =
    let one = (and_parts (is_digit d) (list_all is_digit (take m ds)) r.digits).0 in
    let long : length (take (suc (suc m)) (117 ∷ d ∷ ds)) ≡ suc (suc m) = length-take-le (suc (suc m)) (117 ∷ d ∷ ds) (omega (arith, r.within)) in
    let few : value_of (take (suc m) (d ∷ ds)) < 2 ^ 64 = subst (λ (v : ℕ). v < 2 ^ 64) r.spells r.small in
    record {
      some = omega arith;
      within = omega (arith, r.within);
      spells =
          unsigned_longer at d ds one
          ∙ (ap (λ (k : ℕ). with_length k (run_token at (take k (117 ∷ d ∷ ds)))) (run_ends (117 ∷ d ∷ ds) (suc (suc m)) (omega (arith, r.within)) (all_so is_digit is_run_byte digit_runs (take (suc m) (d ∷ ds)) r.digits) (λ l. r.ends (omega (arith, l))))
          ∙ (ap (with_length (suc (suc m))) (uint_run at d (take m ds) r.digits few)
          ∙ (ap (λ (k : ℕ). Ok (Is (Unsigned (value_of (take (suc m) (d ∷ ds)))) (record { start = at; end = at + k }), suc (suc m))) long
          ∙ ap (λ (v : ℕ). Ok (Is (Unsigned v) (record { start = at; end = at + suc (suc m) }), suc (suc m))) (sym r.spells))));
    }

pub uint_lexes : (at value n size c : ℕ) (bytes rest : List ℕ) → bytes ≡ c ∷ rest → c ≡ 117 → size ≡ n + 1 → DigitRun value n rest → Lexes (given.Item (number_leaf (number.Uint value))) size at bytes
uint_lexes at value n size c bytes rest e u k r =
    let longer : size ≡ suc n = omega (arith, k) in
    rw (e, u, longer) (uint_next at value n rest r)

-- ---- taking it

pub number_taken : (old new : Reading) (n : Number) (at end : ℕ) (b : Bool) → TakesItem old new (LeafAt (leaf (number_leaf n)) (record { start = at; end = end })) b → Takes old new (in_place (opens old) (token (given.Item (number_leaf n)) at end)) b
number_taken old new (number.Int v) at end true h = h
number_taken old new (number.Int v) at end false h = h
number_taken old new (number.Uint v) at end true h = h
number_taken old new (number.Uint v) at end false h = h

-- Runs of bytes and what they are as tokens, wherever they stand.
use Rattle.std.proofs.Common.{◌≡◌, ℕ, ◌+◌, ◌<◌, ◌==◌, ◌&&◌, ◌||◌, Bool, true, false, cond, not, refl, List, [], ◌∷◌, ◌++◌, length, take, arith, ap, sym, ◌∙◌, append-nil}
use Rattle.std.specs.Prelude.{Option, Some, None, Ok, position, unwrap_or}
use Rattle.std.specs.List.{list_all, position_from}
use Rattle.std.proofs.Math.Seq.{take-append_seam}
use Rattle.std.proofs.lemmas.Bool.{and_parts}
use Rattle.std.proofs.lemmas.Bool.Decides.{nat_tests}
use Rattle.std.proofs.lemmas.Iterator.Adapters.{position_from-zero}
use Rattle.cl_sexpr.specs.declared.sexpr.Span.{Span}
use Rattle.cl_sexpr.specs.Tree.{Leaf}
use Rattle.cl_sexpr.specs.Token.{Token, Is}
use Rattle.cl_sexpr.specs.Leaf.{is_separator, is_allowed, is_other_mark, is_run_byte, begins, leaf_of, in_span, allowed_run, unless_bad, run_token}
use Rattle.cl_sexpr.specs.Text.{run_length, with_length, run_at, mark_at, token_by, token_at}

pub yes : {A : Type 0} (b : Bool) (x y : A) → b ≡ true → cond b x y ≡ x
yes b x y e = ap (λ (c : Bool). cond c x y) e

pub no : {A : Type 0} (b : Bool) (x y : A) → b ≡ false → cond b x y ≡ y
no b x y e = ap (λ (c : Bool). cond c x y) e

-- ---- tests along lists

pub all_so : (p q : ℕ → Bool) → ((c : ℕ) → p c ≡ true → q c ≡ true) → (xs : List ℕ) → list_all p xs ≡ true → list_all q xs ≡ true
all_so p q so [] h = refl
all_so p q so (c ∷ cs) h =
    let parts = and_parts (p c) (list_all p cs) h in
    (λ i. so c parts.0 i && all_so p q so cs parts.1 i)

pub not_true : (b : Bool) → not b ≡ true → b ≡ false
not_true true e = absurd cc
not_true false e = refl

pub not_false : (b : Bool) → b ≡ false → not b ≡ true
not_false b e = ap not e

pub neither : (a b : Bool) → (a || b) ≡ false → (a ≡ false) × (b ≡ false)
neither true b e = absurd cc
neither false b e = (refl, e)

-- the first place at which a test passes is behind all where it fails
pub position_behind : (t : ℕ → Bool) (i : ℕ) (xs rest : List ℕ) → list_all (λ c. not (t c)) xs ≡ true → position_from t i (xs ++ rest) ≡ position_from t (i + length xs) rest
position_behind t i [] rest h = ap (λ (n : ℕ). position_from t n rest) (omega arith)
position_behind t i (c ∷ cs) rest h =
    let parts = and_parts (not (t c)) (list_all (λ c. not (t c)) cs) h in
    let place : i + 1 + length cs ≡ i + length (c ∷ cs) = omega arith in
    no (t c) (Some i) (position_from t (i + 1) (cs ++ rest)) (not_true (t c) parts.0)
    ∙ (position_behind t (i + 1) cs rest parts.1 ∙ ap (λ (n : ℕ). position_from t n rest) place)

pub position_none : (t : ℕ → Bool) (xs : List ℕ) → list_all (λ c. not (t c)) xs ≡ true → position t xs ≡ None
position_none t xs h =
    position_from-zero t xs
    ∙ (ap (λ (ys : List ℕ). position_from t 0 ys) (sym (append-nil xs)) ∙ position_behind t 0 xs [] h)

pub position_some : (t : ℕ → Bool) (xs : List ℕ) (c : ℕ) (cs : List ℕ) → list_all (λ c. not (t c)) xs ≡ true → t c ≡ true → position t (xs ++ c ∷ cs) ≡ Some (length xs)
position_some t xs c cs h e =
    let place : 0 + length xs ≡ length xs = omega arith in
    position_from-zero t (xs ++ c ∷ cs)
    ∙ (position_behind t 0 xs (c ∷ cs) h
    ∙ (yes (t c) (Some (0 + length xs)) (position_from t (0 + length xs + 1) cs) e ∙ ap (λ (n : ℕ). Some n) place))

-- how far a test fails, up to a byte at which it passes or the end
abbrev pub passes_first : (ℕ → Bool) → List ℕ → Bool
passes_first t [] = true
passes_first t (c ∷ cs) = t c

pub length_so_far : (t : ℕ → Bool) (xs rest : List ℕ) → list_all (λ c. not (t c)) xs ≡ true → passes_first t rest ≡ true → unwrap_or (position t (xs ++ rest)) (length (xs ++ rest)) ≡ length xs
length_so_far t xs [] h e =
    let all : xs ++ [] ≡ xs = append-nil xs in
    ap (λ (ys : List ℕ). unwrap_or (position t ys) (length ys)) all
    ∙ ap (λ (o : Option ℕ). unwrap_or o (length xs)) (position_none t xs h)
length_so_far t xs (c ∷ cs) h e = ap (λ (o : Option ℕ). unwrap_or o (length (xs ++ c ∷ cs))) (position_some t xs c cs h e)

-- ---- runs

-- what follows a run in the text of a value: the end, a space, a closing byte, a comma or a colon
abbrev pub stops : List ℕ → Bool
stops [] = true
stops (c ∷ cs) = c == 32 || c == 41 || c == 44 || c == 58 || c == 125

stop_breaks : (c : ℕ) → (c == 32 || c == 41 || c == 44 || c == 58 || c == 125) ≡ true → is_run_byte c ≡ false
stop_breaks c h = grind (arith, nat_tests)

stop_no_quote : (c : ℕ) → (c == 32 || c == 41 || c == 44 || c == 58 || c == 125) ≡ true → (c == 34) ≡ false
stop_no_quote c h = grind (arith, nat_tests)

stops_run : (rest : List ℕ) → stops rest ≡ true → passes_first (λ c. not (is_run_byte c)) rest ≡ true
stops_run [] h = refl
stops_run (c ∷ cs) h = not_false (is_run_byte c) (stop_breaks c h)

double : (b : Bool) → b ≡ true → not (not b) ≡ true
double true e = refl
double false e = e

pub run_length_is : (run rest : List ℕ) → list_all is_run_byte run ≡ true → stops rest ≡ true → run_length (run ++ rest) ≡ length run
run_length_is run rest h e =
    length_so_far (λ c. not (is_run_byte c)) run rest (all_so is_run_byte (λ c. not (not (is_run_byte c))) (λ c. double (is_run_byte c)) run h) (stops_run rest e)

-- a byte of a run is no mark
record NoMark (c : ℕ) : Type 0 where
  separator : is_separator c ≡ false
  opens : (c == 40) ≡ false
  closes : (c == 41) ≡ false
  brace : (c == 123) ≡ false
  unbrace : (c == 125) ≡ false
  comma : (c == 44) ≡ false
  colon : (c == 58) ≡ false
  quote : (c == 34) ≡ false
  semicolon : (c == 59) ≡ false

no_mark : (c : ℕ) → is_run_byte c ≡ true → NoMark c
no_mark c h =
    let a = neither (is_separator c || c == 40 || c == 41) (is_other_mark c) (not_true (is_separator c || c == 40 || c == 41 || is_other_mark c) h) in
    let b = neither (is_separator c || c == 40) (c == 41) a.0 in
    let d = neither (is_separator c) (c == 40) b.0 in
    let e = neither (c == 123 || c == 125 || c == 44 || c == 58 || c == 34) (c == 59) a.1 in
    let f = neither (c == 123 || c == 125 || c == 44 || c == 58) (c == 34) e.0 in
    let g = neither (c == 123 || c == 125 || c == 44) (c == 58) f.0 in
    let k = neither (c == 123 || c == 125) (c == 44) g.0 in
    let l = neither (c == 123) (c == 125) k.0 in
    record { separator = d.0; opens = d.1; closes = b.1; brace = l.0; unbrace = l.1; comma = k.1; colon = g.1; quote = f.1; semicolon = e.1 }

unmarked : (at c : ℕ) → NoMark c → mark_at at c ≡ None
unmarked at c n = rw (n.separator, n.opens, n.closes, n.brace, n.unbrace, n.comma, n.colon) refl

-- no quote stands behind the first byte of a run
no_quote : (cs rest : List ℕ) → list_all is_run_byte cs ≡ true → stops rest ≡ true → begins 34 (cs ++ rest) ≡ false
no_quote [] [] h e = refl
no_quote [] (r ∷ rest) h e = stop_no_quote r e
no_quote (c ∷ cs) rest h e = (no_mark c (and_parts (is_run_byte c) (list_all is_run_byte cs) h).0).quote

and_false : (b c : Bool) → c ≡ false → (b && c) ≡ false
and_false true c e = e
and_false false c e = refl

run_at_is : (at : ℕ) (run rest : List ℕ) → list_all is_run_byte run ≡ true → stops rest ≡ true → run_at at (run ++ rest) ≡ with_length (length run) (run_token at run)
run_at_is at run rest h e =
    ap (λ (n : ℕ). with_length n (run_token at (take n (run ++ rest)))) (run_length_is run rest h e)
    ∙ ap (λ (bytes : List ℕ). with_length (length run) (run_token at bytes)) (take-append_seam run rest)

run_token_at : (at c : ℕ) (cs rest : List ℕ) → list_all is_run_byte (c ∷ cs) ≡ true → stops rest ≡ true → token_at at (c ∷ (cs ++ rest)) ≡ with_length (length (c ∷ cs)) (run_token at (c ∷ cs))
unfolding token_at
run_token_at at c cs rest h e =
    let parts = and_parts (is_run_byte c) (list_all is_run_byte cs) h in
    let n = no_mark c parts.0 in
    ap (λ (o : Option Token). token_by o at (c ∷ (cs ++ rest))) (unmarked at c n)
    ∙ (no (c == 34) _ _ n.quote
    ∙ (no (c == 59) _ _ n.semicolon
    ∙ (no (c == 117 && begins 34 (cs ++ rest)) _ _ (and_false (c == 117) (begins 34 (cs ++ rest)) (no_quote cs rest parts.1 e))
    ∙ run_at_is at (c ∷ cs) rest h e)))

allowed_run_token : (at : ℕ) (run : List ℕ) → list_all is_allowed run ≡ true → run_token at run ≡ allowed_run (record { start = at; end = at + length run }) run
unfolding run_token
allowed_run_token at run h =
    ap (λ (o : Option ℕ). unless_bad at o (allowed_run (record { start = at; end = at + length run }) run))
    (position_none (λ c. not (is_allowed c)) run (all_so is_allowed (λ c. not (not (is_allowed c))) (λ c. double (is_allowed c)) run h))

-- a run that is a token by itself, wherever it stands
pub record IsRunOf (run : List ℕ) (leaf : Leaf) : Type 0 where
  pub bytes : list_all is_run_byte run ≡ true
  pub some : 0 < length run
  pub token : (at : ℕ) → run_token at run ≡ Ok (Is leaf (record { start = at; end = at + length run }))

pub run_spells : (at : ℕ) (run rest : List ℕ) (leaf : Leaf) → IsRunOf run leaf → stops rest ≡ true → token_at at (run ++ rest) ≡ Ok (Is leaf (record { start = at; end = at + length run }), length run)
run_spells at [] rest leaf r e = absurd (omega (arith, r.some))
run_spells at (c ∷ cs) rest leaf r e =
    run_token_at at c cs rest r.bytes e ∙ ap (with_length (length (c ∷ cs))) (r.token at)

-- a byte that a run may hold
abbrev pub is_plain : ℕ → Bool
is_plain c = is_run_byte c && is_allowed c

plain_run_bytes : (c : ℕ) → is_plain c ≡ true → is_run_byte c ≡ true
plain_run_bytes c h = (and_parts (is_run_byte c) (is_allowed c) h).0

plain_allowed : (c : ℕ) → is_plain c ≡ true → is_allowed c ≡ true
plain_allowed c h = (and_parts (is_run_byte c) (is_allowed c) h).1

-- a run of such bytes is what it is without regard to bad bytes
pub run_of : (run : List ℕ) (leaf : Leaf) → list_all is_plain run ≡ true → 0 < length run → ((span : Span) → allowed_run span run ≡ Ok (Is leaf span)) → IsRunOf run leaf
run_of run leaf h some is = record {
  bytes = all_so is_plain is_run_byte plain_run_bytes run h;
  some = some;
  token = λ at. allowed_run_token at run (all_so is_plain is_allowed plain_allowed run h) ∙ is (record { start = at; end = at + length run });
}

-- a run that is neither principal nor buffer
pub leaf_run : (c : ℕ) (cs : List ℕ) (leaf : Leaf) → list_all is_plain (c ∷ cs) ≡ true → (c == 39) ≡ false → (c == 48 && begins 120 cs) ≡ false → leaf_of (c ∷ cs) ≡ Ok leaf → IsRunOf (c ∷ cs) leaf
leaf_run c cs leaf h principal buffer is =
    run_of (c ∷ cs) leaf h (omega arith) (λ span. no (c == 39) _ _ principal ∙ (no (c == 48 && begins 120 cs) _ _ buffer ∙ ap (in_span span) is))

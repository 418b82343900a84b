-- The names and literals of a text that reads are within their limits.
use Rattle.std.proofs.Common.{◌≡◌, ℕ, zero, suc, ◌+◌, ◌≤◌, ◌^◌, ◌==◌, ◌&&◌, Bool, true, false, List, [], ◌∷◌, ◌++◌, length, take, drop, Option, Some, None, Result, Ok, Err, refl, subst, arith, cond, ◌-◌, ◌<◌}
use Rattle.std.specs.Prelude.{◌||◌, pos, neg_ℤ, FitsSigned, nat_lt, nat_le, if◌then◌else◌, position, not, option_map}
use Rattle.std.specs.Int.{w128}
use Rattle.std.proofs.lemmas.Bool.{ltb-true, leb-true, ltb-false, eqb-true}
use Rattle.std.proofs.lemmas.List.Elements.{All-from_recursion}
use Rattle.std.proofs.Math.Utf8.{scalar, low_scalar}
use Rattle.std.specs.List.{list_all, prefix_len, AllByRecursion}
use Rattle.std.specs.Str.{all_scalars}
use Rattle.hex.specs.Hex.{IsBytes}
use Rattle.hex.proofs.HexLemmas.{decode_of-ok}
use Rattle.cl_types.proofs.Lattice.{and_left, and_right, and_both}
use Rattle.cl_types.specs.Name.{IsName}
use Rattle.cl_c32.specs.Address.{AddressParts}
use Rattle.cl_c32.specs.Codec.{decoded}
use Rattle.cl_c32.specs.ContractName.{IsContractName, fits_pattern as fits_contract_pattern}
use Rattle.cl_c32.specs.declared.codec.C32Refusal.{C32Refusal}
use Rattle.cl_c32.proofs.RoundTrip.{address_text-decoded}
use Rattle.hex.specs.Hex.{decode_of}
use Rattle.hex.specs.declared.error.FromHexError.{FromHexError}
use Rattle.cl_types.specs.Name.{fits_pattern}
use Rattle.cl_c32.specs.declared.principal.Principal.{Principal}
use Rattle.cl_sexpr.specs.declared.sexpr.Span.{Span}
use Rattle.cl_sexpr.specs.declared.rule.Rule.{Rule}
use Rattle.cl_sexpr.specs.declared.rule.Rule.TheVariants.{NumberTooWide, BadToken}
use Rattle.cl_sexpr.specs.declared.rule.Break.{Break}
use Rattle.cl_sexpr.specs.Tree.{Tree, LeafAt, ListAt, TupleAt, Leaf, Named, Signed, Unsigned, Forest, Empty, Then, Pairs, NoPair, Pair}
use Rattle.cl_sexpr.specs.Token.{Token, Separator, Comment, Colon, Comma, Opens, Closes, OpensTuple, ClosesTuple, Key, Is, Faulty}
use Rattle.cl_sexpr.specs.Leaf.{is_separator, is_allowed, positive, negative, unsigned, named, own_contract, contract_name, leaf_of, begins, value_of, are_digits, buffer, standard_principal, contract_principal, principal_by, principal_of, principal_token, in_span, allowed_run, unless_bad, run_token}
use Rattle.cl_sexpr.specs.Quote.{escape, hex_number, digits_in_front, in_braces, code_of, escape_of, escaped, character_at, with_character, and_then, string_leaf, string_result, characters, text_in, mark, closed, not_closed, string_by, closing, string_at, is_string_byte}
use Rattle.cl_sexpr.specs.Grammar.{unspaced, IsItem, IsRow, ArePairs, AreMore}
use Rattle.cl_sexpr.specs.Fits.{is_ascii_byte, PrincipalFits, LeafFits, HasPair, Fits, AllFit, PairsFit}
use Rattle.cl_sexpr.specs.Text.{run_length, with_length, line_length, comment_at, mark_at, longer_at, token_by, token_at, Spells, Cuts, Reads}

-- ---- results

abbrev OkFits : {A E : Type 0} → (A → Type 0) → Result A E → Type 0
OkFits P (Ok a) = P a
OkFits P (Err e) = Unit {0}

either_fits : {A E : Type 0} (P : A → Type 0) (b : Bool) (x y : Result A E) → (b ≡ true → OkFits P x) → OkFits P y → OkFits P (if b then x else y)
either_fits P true x y h k = h refl
either_fits P false x y h k = k

-- ---- leaves

positive_fits : (n : ℕ) → OkFits LeafFits (positive n)
positive_fits n = either_fits LeafFits (nat_lt n (2 ^ 127)) (Ok (Signed (pos n))) (Err NumberTooWide) (λ e. record { sfits = ltb-true n (2 ^ 127) e }) tt

negative_fits : (n : ℕ) → n ≤ 2 ^ 127 → FitsSigned w128 (neg_ℤ (pos n))
negative_fits zero h = record { sfits = omega arith }
negative_fits (suc n) h = record { sfits = h }

minus_fits : (n : ℕ) → OkFits LeafFits (negative n)
minus_fits n = either_fits LeafFits (nat_le n (2 ^ 127)) (Ok (Signed (neg_ℤ (pos n)))) (Err NumberTooWide) (λ e. negative_fits n (leb-true n (2 ^ 127) e)) tt

unsigned_fits : (n : ℕ) → OkFits LeafFits (unsigned n)
unsigned_fits n = either_fits LeafFits (nat_lt n (2 ^ 128)) (Ok (Unsigned n)) (Err NumberTooWide) (λ e. ltb-true n (2 ^ 128) e) tt

named_fits : (run : List ℕ) → OkFits LeafFits (named run)
named_fits run = either_fits LeafFits (fits_pattern run && nat_le (length run) 128) (Ok (Named run)) (Err BadToken) (λ e. record { pattern = and_left (fits_pattern run) (nat_le (length run) 128) e; within = leb-true (length run) 128 (and_right (fits_pattern run) (nat_le (length run) 128) e) }) tt

contract_fits : (bytes : List ℕ) → OkFits LeafFits (own_contract (contract_name bytes))
contract_fits bytes = by (fits_contract_pattern bytes && nat_le (length bytes) 128) refl
  where
    by : (b : Bool) → (fits_contract_pattern bytes && nat_le (length bytes) 128) ≡ b → OkFits LeafFits (own_contract (if b then Some bytes else None))
    by true e = record { pattern = and_left (fits_contract_pattern bytes) (nat_le (length bytes) 128) e; within = leb-true (length bytes) 128 (and_right (fits_contract_pattern bytes) (nat_le (length bytes) 128) e) }
    by false e = tt

leaf_fits : (run : List ℕ) → OkFits LeafFits (leaf_of run)
leaf_fits [] = tt
leaf_fits (c ∷ cs) =
    either_fits LeafFits (are_digits (c ∷ cs)) _ _ (λ e. positive_fits (value_of (c ∷ cs)))
    (either_fits LeafFits (c == 45 && are_digits cs) _ _ (λ e. minus_fits (value_of cs))
    (either_fits LeafFits (c == 117 && are_digits cs) _ _ (λ e. unsigned_fits (value_of cs))
    (either_fits LeafFits (c == 46) _ _ (λ e. contract_fits cs) (named_fits (c ∷ cs)))))

bytes_all : (bytes : List ℕ) → IsBytes bytes → AllByRecursion (λ b. b < 256) bytes
bytes_all [] h = tt
bytes_all (b ∷ bytes) h = (h 0, bytes_all bytes (λ i. h (suc i)))

buffer_fits : (text : List ℕ) → OkFits LeafFits (buffer (decode_of text))
buffer_fits text = by (decode_of text) refl
  where
    by : (r : Result (List ℕ) FromHexError) → decode_of text ≡ r → OkFits LeafFits (buffer r)
    by (Ok bytes) e = All-from_recursion (λ b. b < 256) bytes (bytes_all bytes (decode_of-ok text bytes e).3)
    by (Err f) e = tt

-- ---- tokens

abbrev TokenFits : Token → Type 0
TokenFits (Is leaf span) = LeafFits leaf
TokenFits (Key name) = IsName name
TokenFits t = Unit {0}

abbrev FirstFits : Token × ℕ → Type 0
FirstFits p = TokenFits p.0

span_fits : (span : Span) (r : Result Leaf Rule) → OkFits LeafFits r → OkFits TokenFits (in_span span r)
span_fits span (Ok leaf) h = h
span_fits span (Err e) h = tt

some_principal : (p q : Principal) → Some p ≡ Some q → p ≡ q
some_principal p q e = cc

standing_by : (text : List ℕ) (r : Result AddressParts C32Refusal) → decoded text ≡ r → (p : Principal) → standard_principal r ≡ Some p → PrincipalFits p
standing_by text (Ok a) e p h = subst PrincipalFits (some_principal (record { address = a; contract = None }) p h) ((address_text-decoded text a e).0, tt)
standing_by text (Err f) e p h = absurd cc

contract_named : (bytes : List ℕ) (b : Bool) → (fits_contract_pattern bytes && nat_le (length bytes) 128) ≡ b → (name : List ℕ) → (if b then Some bytes else None) ≡ Some name → IsContractName name
contract_named bytes true e name h = subst IsContractName (same_name h) (record { pattern = and_left (fits_contract_pattern bytes) (nat_le (length bytes) 128) e; within = leb-true (length bytes) 128 (and_right (fits_contract_pattern bytes) (nat_le (length bytes) 128) e) })
  where
    same_name : Some bytes ≡ Some name → bytes ≡ name
    same_name h = cc
contract_named bytes false e name h = absurd cc

contract_by : (text bytes : List ℕ) (r : Result AddressParts C32Refusal) (o : Option (List ℕ)) → decoded text ≡ r → contract_name bytes ≡ o → (p : Principal) → contract_principal r o ≡ Some p → PrincipalFits p
contract_by text bytes (Ok a) (Some name) e f p h = subst PrincipalFits (some_principal (record { address = a; contract = Some name }) p h) ((address_text-decoded text a e).0, contract_named bytes (fits_contract_pattern bytes && nat_le (length bytes) 128) refl name f)
contract_by text bytes (Ok a) None e f p h = absurd cc
contract_by text bytes (Err g) (Some name) e f p h = absurd cc
contract_by text bytes (Err g) None e f p h = absurd cc

principal_valid : (text : List ℕ) (p : Principal) → principal_of text ≡ Some p → PrincipalFits p
unfolding principal_of
principal_valid text p h = by (position (λ c. c == 46) text) h
  where
    by : (o : Option ℕ) → principal_by text o ≡ Some p → PrincipalFits p
    by None h = standing_by text (decoded text) refl p h
    by (Some dot) h = contract_by (take dot text) (drop (dot + 1) text) (decoded (take dot text)) (contract_name (drop (dot + 1) text)) refl refl p h

principal_fits : (span : Span) (text : List ℕ) → TokenFits (principal_token span (principal_of text))
principal_fits span text = by (principal_of text) refl
  where
    by : (o : Option Principal) → principal_of text ≡ o → TokenFits (principal_token span o)
    by None e = tt
    by (Some p) e = principal_valid text p e

run_fits : (span : Span) (run : List ℕ) → OkFits TokenFits (allowed_run span run)
run_fits span [] = tt
run_fits span (c ∷ cs) =
    either_fits TokenFits (c == 39) _ _ (λ e. principal_fits span cs)
    (either_fits TokenFits (c == 48 && begins 120 cs) _ _ (λ e. span_fits span (buffer (decode_of (drop 1 cs))) (buffer_fits (drop 1 cs)))
    (span_fits span (leaf_of (c ∷ cs)) (leaf_fits (c ∷ cs))))

good_fits : {A : Type 0} (P : A → Type 0) (at : ℕ) (o : Option ℕ) (r : Result A Break) → OkFits P r → OkFits P (unless_bad at o r)
good_fits P at None r h = h
good_fits P at (Some k) r h = tt

run_token_fits : (at : ℕ) (run : List ℕ) → OkFits TokenFits (run_token at run)
unfolding run_token
run_token_fits at run = good_fits TokenFits at (position (λ c. not (is_allowed c)) run) _ (run_fits _ run)

with_length_fits : (n : ℕ) (r : Result Token Break) → OkFits TokenFits r → OkFits FirstFits (with_length n r)
with_length_fits n (Ok t) h = h
with_length_fits n (Err e) h = tt

-- ---- strings

prefix_all : (test : ℕ → Bool) (xs : List ℕ) → length xs ≤ prefix_len (λ c. not (not (test c))) xs → list_all test xs ≡ true
prefix_all test [] h = refl
prefix_all test (x ∷ xs) h = by (test x) h (prefix_all test xs)
  where
    by : (b : Bool) → suc (length xs) ≤ cond (not (not b)) (1 + prefix_len (λ c. not (not (test c))) xs) 0 → (length xs ≤ prefix_len (λ c. not (not (test c))) xs → list_all test xs ≡ true) → (b && list_all test xs) ≡ true
    by true h more = more (omega (arith, h))
    by false h more = absurd (omega (arith, h))

none_bad : (test : ℕ → Bool) (xs : List ℕ) → position (λ c. not (test c)) xs ≡ None → list_all test xs ≡ true
none_bad test xs h = by (nat_lt (prefix_len (λ c. not (not (test c))) xs) (length xs)) refl h
  where
    by : (b : Bool) → nat_lt (prefix_len (λ c. not (not (test c))) xs) (length xs) ≡ b → cond b (Some (prefix_len (λ c. not (not (test c))) xs)) None ≡ None → list_all test xs ≡ true
    by true e h = absurd cc
    by false e h = prefix_all test xs (ltb-false (prefix_len (λ c. not (not (test c))) xs) (length xs) e)

-- a character of a string
abbrev good : Bool → ℕ → Bool
good true c = scalar c
good false c = is_ascii_byte c

or_true : (a b : Bool) → a ≡ true → (a || b) ≡ true
or_true true b h = refl
or_true false b h = absurd cc

good_byte : (unicode : Bool) (c : ℕ) → is_string_byte c ≡ true → good unicode c ≡ true
good_byte true c h = let low : c ≤ 126 = leb-true c 126 (and_right (nat_le 32 c) (nat_le c 126) h) in low_scalar c (omega (arith, low))
good_byte false c h = or_true _ _ (or_true _ _ (or_true _ _ (or_true (nat_le 32 c && nat_le c 126) _ h)))

abbrev GoodCharacter : Bool → Option (ℕ × ℕ) → Type 0
GoodCharacter unicode None = Unit {0}
GoodCharacter unicode (Some e) = good unicode e.0 ≡ true

good_escape : (unicode : Bool) (c : ℕ) → GoodCharacter unicode (option_map (λ e. (e, 1)) (escape c))
good_escape unicode c = by (c == 34) (c == 92) (c == 110) (c == 114) (c == 116) (c == 48) unicode
  where
    by : (a b d e f g : Bool) (unicode : Bool) → GoodCharacter unicode (option_map (λ e. (e, 1)) (if a then Some 34 else (if b then Some 92 else (if d then Some 10 else (if e then Some 13 else (if f then Some 9 else (if g then Some 0 else None)))))))
    by true b d e f g true = refl
    by true b d e f g false = refl
    by false true d e f g true = refl
    by false true d e f g false = refl
    by false false true e f g true = refl
    by false false true e f g false = refl
    by false false false true f g true = refl
    by false false false true f g false = refl
    by false false false false true g true = refl
    by false false false false true g false = refl
    by false false false false false true true = refl
    by false false false false false true false = refl
    by false false false false false false unicode = tt

good_braces : (n : ℕ) (bytes : List ℕ) → GoodCharacter true (in_braces n bytes)
good_braces n bytes = by (nat_le 1 n && nat_le n 6 && begins 125 (drop n bytes)) (scalar (hex_number (take n bytes))) refl
  where
    by : (a b : Bool) → scalar (hex_number (take n bytes)) ≡ b → GoodCharacter true (if a && b then Some (hex_number (take n bytes), n + 3) else None)
    by true true e = e
    by true false e = tt
    by false b e = tt

good_code : (bytes : List ℕ) → GoodCharacter true (code_of bytes)
good_code [] = tt
good_code (c ∷ cs) = by (c == 123)
  where
    by : (b : Bool) → GoodCharacter true (if b then in_braces (digits_in_front cs) cs else None)
    by true = good_braces (digits_in_front cs) cs
    by false = tt

good_escaped : (unicode : Bool) (bytes : List ℕ) → GoodCharacter unicode (escape_of unicode bytes)
unfolding escape_of
good_escaped unicode [] = tt
good_escaped true (c ∷ cs) = by (c == 117)
  where
    by : (b : Bool) → GoodCharacter true (if b then code_of cs else option_map (λ e. (e, 1)) (escape c))
    by true = good_code cs
    by false = good_escape true c
good_escaped false (c ∷ cs) = good_escape false c

abbrev GoodResult : Bool → Result (ℕ × ℕ) Break → Type 0
GoodResult unicode (Ok c) = good unicode c.0 ≡ true
GoodResult unicode (Err r) = Unit {0}

good_at : (unicode : Bool) (at c : ℕ) (cs : List ℕ) → is_string_byte c ≡ true → GoodResult unicode (character_at unicode at c cs)
good_at unicode at c cs h = by (c == 92)
  where
    of_escape : (o : Option (ℕ × ℕ)) → GoodCharacter unicode o → GoodResult unicode (escaped at (length cs) o)
    of_escape None g = tt
    of_escape (Some e) g = g

    by : (b : Bool) → GoodResult unicode (if b then escaped at (length cs) (escape_of unicode cs) else Ok (c, 1))
    by true = of_escape (escape_of unicode cs) (good_escaped unicode cs)
    by false = good_byte unicode c h

abbrev GoodText : Bool → Result (List ℕ) Break → Type 0
GoodText unicode (Ok cs) = list_all (good unicode) cs ≡ true
GoodText unicode (Err r) = Unit {0}

good_more : (unicode : Bool) (c : ℕ) (r : Result (List ℕ) Break) → good unicode c ≡ true → GoodText unicode r → GoodText unicode (with_character c r)
good_more unicode c (Ok cs) h k = and_both (good unicode c) (list_all (good unicode) cs) h k
good_more unicode c (Err r) h k = tt

good_characters : (unicode : Bool) (at skip : ℕ) (bytes : List ℕ) → list_all is_string_byte bytes ≡ true → GoodText unicode (characters unicode at skip bytes)
good_characters unicode at skip [] h = refl
good_characters unicode at (suc skip) (c ∷ cs) h = good_characters unicode (at + 1) skip cs (and_right (is_string_byte c) (list_all is_string_byte cs) h)
good_characters unicode at zero (c ∷ cs) h = by (character_at unicode at c cs) (good_at unicode at c cs (and_left (is_string_byte c) (list_all is_string_byte cs) h)) (λ skip. good_characters unicode (at + 1) skip cs (and_right (is_string_byte c) (list_all is_string_byte cs) h))
  where
    by : (r : Result (ℕ × ℕ) Break) → GoodResult unicode r → ((skip : ℕ) → GoodText unicode (characters unicode (at + 1) skip cs)) → GoodText unicode (and_then r (λ skip. characters unicode (at + 1) skip cs))
    by (Ok c) g more = good_more unicode c.0 (characters unicode (at + 1) (c.1 - 1) cs) g (more (c.1 - 1))
    by (Err r) g more = tt

text_low : (c : ℕ) → is_ascii_byte c ≡ true → c < 256
text_low c h = by (nat_le 32 c && nat_le c 126) (c == 0) (c == 9) (c == 10) (c == 13) refl refl refl refl refl h
  where
    by : (a b d e f : Bool) → (nat_le 32 c && nat_le c 126) ≡ a → (c == 0) ≡ b → (c == 9) ≡ d → (c == 10) ≡ e → (c == 13) ≡ f → (a || b || d || e || f) ≡ true → c < 256
    by true b d e f p q r s t h = let low : c ≤ 126 = leb-true c 126 (and_right (nat_le 32 c) (nat_le c 126) p) in omega (arith, low)
    by false true d e f p q r s t h = let is : c ≡ 0 = eqb-true c 0 q in omega (arith, is)
    by false false true e f p q r s t h = let is : c ≡ 9 = eqb-true c 9 r in omega (arith, is)
    by false false false true f p q r s t h = let is : c ≡ 10 = eqb-true c 10 s in omega (arith, is)
    by false false false false true p q r s t h = let is : c ≡ 13 = eqb-true c 13 t in omega (arith, is)
    by false false false false false p q r s t h = absurd cc

texts_low : (cs : List ℕ) → list_all is_ascii_byte cs ≡ true → AllByRecursion (λ b. b < 256) cs
texts_low [] h = tt
texts_low (c ∷ cs) h = (text_low c (and_left (is_ascii_byte c) (list_all is_ascii_byte cs) h), texts_low cs (and_right (is_ascii_byte c) (list_all is_ascii_byte cs) h))

scalars_are : (cs : List ℕ) → list_all scalar cs ≡ true → all_scalars cs ≡ true
scalars_are [] h = refl
scalars_are (c ∷ cs) h = and_both (scalar c) (all_scalars cs) (and_left (scalar c) (list_all scalar cs) h) (scalars_are cs (and_right (scalar c) (list_all scalar cs) h))

string_leaf_fits : (unicode : Bool) (cs : List ℕ) → list_all (good unicode) cs ≡ true → LeafFits (string_leaf unicode cs)
string_leaf_fits true cs h = scalars_are cs h
string_leaf_fits false cs h = (All-from_recursion (λ b. b < 256) cs (texts_low cs h), h)

string_fits : (unicode : Bool) (r : Result (List ℕ) Break) → GoodText unicode r → OkFits LeafFits (string_result unicode r)
string_fits unicode (Ok cs) h = string_leaf_fits unicode cs h
string_fits unicode (Err e) h = tt

text_fits : (unicode : Bool) (at : ℕ) (bytes : List ℕ) → OkFits LeafFits (text_in unicode at bytes)
unfolding text_in
text_fits unicode at bytes = by (position (λ c. not (is_string_byte c)) bytes) refl
  where
    by : (o : Option ℕ) → position (λ c. not (is_string_byte c)) bytes ≡ o → OkFits LeafFits (unless_bad at o (string_result unicode (characters unicode at 0 bytes)))
    by None e = string_fits unicode (characters unicode at 0 bytes) (good_characters unicode at 0 bytes (none_bad is_string_byte bytes e))
    by (Some k) e = tt

closed_fits : (at n : ℕ) (r : Result Leaf Break) → OkFits LeafFits r → OkFits FirstFits (closed at n r)
closed_fits at n (Ok leaf) h = h
closed_fits at n (Err e) h = tt

not_closed_fits : (quote n : ℕ) (r : Result Leaf Break) → OkFits FirstFits (not_closed quote n r)
not_closed_fits quote n (Ok leaf) = tt
not_closed_fits quote n (Err e) = tt

string_by_fits : (unicode : Bool) (at : ℕ) (bytes : List ℕ) (o : Option ℕ) → OkFits FirstFits (string_by unicode at bytes o)
string_by_fits unicode at bytes None = not_closed_fits (at + mark unicode) (mark unicode + 1 + length bytes) (text_in unicode (at + mark unicode + 1) bytes)
string_by_fits unicode at bytes (Some n) = closed_fits at (mark unicode + n + 2) _ (text_fits unicode (at + mark unicode + 1) (take n bytes))

string_at_fits : (unicode : Bool) (at : ℕ) (bytes : List ℕ) → OkFits FirstFits (string_at unicode at bytes)
unfolding string_at
string_at_fits unicode at bytes = string_by_fits unicode at bytes (closing false bytes)

comment_fits : (at : ℕ) (bytes : List ℕ) → OkFits FirstFits (comment_at at bytes)
comment_fits at [] = tt
comment_fits at (c ∷ cs) = either_fits FirstFits (c == 59) _ _ (λ e. good_fits FirstFits (at + 2) (position (λ c. not (is_allowed c)) (take (line_length cs) cs)) (Ok (Comment, line_length cs + 2)) tt) tt

longer_fits : (at : ℕ) (bytes : List ℕ) → OkFits FirstFits (longer_at at bytes)
longer_fits at [] = tt
longer_fits at (c ∷ cs) =
    either_fits FirstFits (c == 34) _ _ (λ e. string_at_fits false at cs)
    (either_fits FirstFits (c == 59) _ _ (λ e. comment_fits at cs)
    (either_fits FirstFits (c == 117 && begins 34 cs) _ _ (λ e. string_at_fits true at (drop 1 cs))
    (with_length_fits (run_length (c ∷ cs)) _ (run_token_fits at (take (run_length (c ∷ cs)) (c ∷ cs))))))

abbrev MaybeFits : Option Token → Type 0
MaybeFits None = Unit {0}
MaybeFits (Some t) = TokenFits t

either_mark : (b : Bool) (t : Token) (o : Option Token) → TokenFits t → MaybeFits o → MaybeFits (if b then Some t else o)
either_mark true t o h k = h
either_mark false t o h k = k

mark_fits : (at c : ℕ) → MaybeFits (mark_at at c)
mark_fits at c =
    either_mark (is_separator c) Separator _ tt
    (either_mark (c == 40) (Opens at) _ tt
    (either_mark (c == 41) (Closes (at + 1)) _ tt
    (either_mark (c == 123) (OpensTuple at) _ tt
    (either_mark (c == 125) (ClosesTuple (at + 1)) _ tt
    (either_mark (c == 44) Comma _ tt
    (either_mark (c == 58) Colon None tt tt))))))

by_mark : (o : Option Token) (at : ℕ) (bytes : List ℕ) → MaybeFits o → OkFits FirstFits (token_by o at bytes)
by_mark None at bytes h = longer_fits at bytes
by_mark (Some t) at bytes h = h

token_fits : (at : ℕ) (bytes : List ℕ) → OkFits FirstFits (token_at at bytes)
unfolding token_at
token_fits at [] = tt
token_fits at (c ∷ cs) = by_mark (mark_at at c) at (c ∷ cs) (mark_fits at c)

spelled_fits : (t : Token) (n at : ℕ) (bytes : List ℕ) → Spells t n at bytes → TokenFits t
spelled_fits (Is leaf span) n at bytes h = subst (OkFits FirstFits) h (token_fits at bytes)
spelled_fits (Key name) n at bytes h = subst (OkFits FirstFits) h.1 (token_fits at bytes)
spelled_fits t n at bytes h = tt

-- ---- rows of tokens

abbrev TokensFit : List Token → Type 0
TokensFit [] = Unit {0}
TokensFit (t ∷ ts) = TokenFits t × TokensFit ts

cut_fits : (ts : List Token) (at : ℕ) (bytes : List ℕ) (at' : ℕ) (rest : List ℕ) → Cuts at bytes ts at' rest → TokensFit ts
cut_fits [] at bytes at' rest h = tt
cut_fits (t ∷ ts) at bytes at' rest h = (spelled_fits t h.0 at bytes h.3, cut_fits ts (at + h.0) (drop h.0 bytes) at' rest h.4)

unspaced_fits : (ts : List Token) → TokensFit ts → TokensFit (unspaced ts)
unspaced_fits [] h = tt
unspaced_fits (Separator ∷ ts) h = unspaced_fits ts h.1
unspaced_fits (Comment ∷ ts) h = unspaced_fits ts h.1
unspaced_fits (Colon ∷ ts) h = (tt, unspaced_fits ts h.1)
unspaced_fits (Comma ∷ ts) h = (tt, unspaced_fits ts h.1)
unspaced_fits (Opens at ∷ ts) h = (tt, unspaced_fits ts h.1)
unspaced_fits (Closes end ∷ ts) h = (tt, unspaced_fits ts h.1)
unspaced_fits (OpensTuple at ∷ ts) h = (tt, unspaced_fits ts h.1)
unspaced_fits (ClosesTuple end ∷ ts) h = (tt, unspaced_fits ts h.1)
unspaced_fits (Key name ∷ ts) h = (h.0, unspaced_fits ts h.1)
unspaced_fits (Is leaf span ∷ ts) h = (h.0, unspaced_fits ts h.1)
unspaced_fits (Faulty r ∷ ts) h = (tt, unspaced_fits ts h.1)

both_fit : (ts us : List Token) → TokensFit (ts ++ us) → TokensFit ts × TokensFit us
both_fit [] us h = (tt, h)
both_fit (t ∷ ts) us h =
    let b = both_fit ts us h.1 in
    ((h.0, b.0), b.1)

has_pair : (ps : Pairs) (ts : List Token) → ArePairs ps ts → HasPair ps
has_pair NoPair ts h = h
has_pair (Pair key e ps) ts h = tt

mutual
  item_fits : (t : Tree) (ts : List Token) → IsItem t ts → TokensFit ts → Fits t
  item_fits (LeafAt leaf span) ts h k = (subst TokensFit h k).0
  item_fits (ListAt es span) ts h k = row_fits es h.0 h.1 (both_fit h.0 (Closes span.end ∷ []) (subst TokensFit h.2 k).1).0
  item_fits (TupleAt ps span) ts h k = (has_pair ps h.0 h.1, pairs_fit ps h.0 h.1 (both_fit h.0 (ClosesTuple span.end ∷ []) (subst TokensFit h.2 k).1).0)

  row_fits : (es : Forest) (ts : List Token) → IsRow es ts → TokensFit ts → AllFit es
  row_fits Empty ts h k = tt
  row_fits (Then e es) ts h k =
      let b = both_fit h.0 h.1 (subst TokensFit h.4 k) in
      (item_fits e h.0 h.2 b.0, row_fits es h.1 h.3 b.1)

  pairs_fit : (ps : Pairs) (ts : List Token) → ArePairs ps ts → TokensFit ts → PairsFit ps
  pairs_fit NoPair ts h k = absurd h
  pairs_fit (Pair key e ps) ts h k =
      let b = both_fit h.0 h.1 (subst TokensFit h.4 k).1.1 in
      ((subst TokensFit h.4 k).0, item_fits e h.0 h.2 b.0, more_fit ps h.1 h.3 b.1)

  more_fit : (ps : Pairs) (ts : List Token) → AreMore ps ts → TokensFit ts → PairsFit ps
  more_fit NoPair ts h k = tt
  more_fit (Pair key e ps) ts h k =
      let b = both_fit h.0 h.1 (subst TokensFit h.4 k).1.1.1 in
      ((subst TokensFit h.4 k).1.0, item_fits e h.0 h.2 b.0, more_fit ps h.1 h.3 b.1)

-- the items of a text that reads fit
pub items_fit : (text : List ℕ) (items : Forest) → Reads text items → AllFit items
items_fit text items r = row_fits items (unspaced r.tokens) r.row (unspaced_fits r.tokens (cut_fits r.tokens 0 text (length text) [] r.cut))

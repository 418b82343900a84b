-- Each ASCII string that a text spells holds bytes that such a string may hold.
use Rattle.std.proofs.Common.{◌≡◌, ℕ, zero, suc, ◌+◌, ◌-◌, ◌==◌, ◌&&◌, Bool, true, false, cond, not, refl, List, [], ◌∷◌, ◌++◌, length, take, drop, ap, sym, ◌∙◌, subst}
use Rattle.std.specs.Prelude.{Option, Some, None, Result, Ok, Err, position, nat_le, nat_lt, ◌^◌}
use Rattle.std.specs.List.{list_all, position_from}
use Rattle.std.proofs.lemmas.Iterator.Adapters.{position_from-zero}
use Rattle.std.proofs.lemmas.List.Folds.{list_all-append}
use Rattle.std.specs.Option.{option_map}
use Rattle.std.proofs.lemmas.Bool.{and_parts}
use Rattle.hex.specs.Hex.{decode_of}
use Rattle.hex.specs.declared.error.FromHexError.{FromHexError}
use Rattle.cl_c32.specs.declared.principal.Principal.{Principal}
use Rattle.cl_sexpr.specs.declared.sexpr.Span.{Span}
use Rattle.cl_sexpr.specs.declared.rule.Rule.{Rule}
use Rattle.cl_sexpr.specs.declared.rule.Rule.TheVariants.{BadToken}
use Rattle.cl_types.specs.Name.{fits_pattern}
use Rattle.cl_sexpr.specs.declared.rule.Break.{Break}
use Rattle.cl_sexpr.specs.Tree.{Leaf, Tree as Item, LeafAt, ListAt, TupleAt, Forest, Empty, Then, Pairs, NoPair, Pair}
use Rattle.cl_sexpr.specs.Token.{Token, Separator, Comment, Colon, Comma, Opens, Closes, OpensTuple, ClosesTuple, Key, Is, Faulty}
use Rattle.cl_sexpr.specs.Grammar.{unspaced, IsItem, IsRow, ArePairs, AreMore}
use Rattle.cl_sexpr.specs.Leaf.{positive, negative, unsigned, named, own_contract, contract_name, leaf_of, buffer, principal_of, principal_token, in_span, allowed_run, unless_bad, run_token, is_allowed, value_of, are_digits, refusal, is_separator, begins}
use Rattle.cl_sexpr.specs.Quote.{closing, escape, escape_of, escaped, character_at, with_character, and_then, characters, is_string_byte, string_result, text_in, closed, not_closed, string_by, string_at, mark}
use Rattle.cl_sexpr.specs.Text.{run_length, with_length, run_at, line_length, line_at, comment_at, mark_at, longer_at, token_by, token_at, Spells, Cuts, Reads}
use Rattle.cl_values.specs.Valid.{is_text_byte}
use Rattle.cl_text.specs.Spelled.{is_spelled_leaf, is_spelled, are_spelled, have_spelled}
use Rattle.cl_text.proofs.Sorted.{both_true}

-- either choice
choice : {A : Type 0} (P : A → Type 0) (b : Bool) (x y : A) → P x → P y → P (cond b x y)
choice P true x y p q = p
choice P false x y p q = q

some_none : (i : ℕ) → Some i ≡ None → ⊥
some_none i e = cc

-- a list of which no element fails a test
pass_from : (p : ℕ → Bool) (i : ℕ) (bytes : List ℕ) → position_from (λ c. not (p c)) i bytes ≡ None → list_all p bytes ≡ true
pass_from p i [] h = refl
pass_from p i (c ∷ cs) h = go (p c) (λ e. pass_from p (i + 1) cs e) h
  where
    go : (b : Bool) → (position_from (λ c. not (p c)) (i + 1) cs ≡ None → list_all p cs ≡ true) → cond (not b) (Some i) (position_from (λ c. not (p c)) (i + 1) cs) ≡ None → (b && list_all p cs) ≡ true
    go true others e = others e
    go false others e = absurd (some_none i e)

all_pass : (p : ℕ → Bool) (bytes : List ℕ) → position (λ c. not (p c)) bytes ≡ None → list_all p bytes ≡ true
all_pass p bytes h = pass_from p 0 bytes (sym (position_from-zero (λ c. not (p c)) bytes) ∙ h)

-- ---- characters

-- what holds of the characters that bytes spell
abbrev AllText : Result (List ℕ) Break → Type 0
AllText (Ok cs) = list_all is_text_byte cs ≡ true
AllText (Err r) = Unit {0}

-- what holds of one of them
abbrev OneText : Result (ℕ × ℕ) Break → Type 0
OneText (Ok c) = is_text_byte c.0 ≡ true
OneText (Err r) = Unit {0}

abbrev EscapedText : Option ℕ → Type 0
EscapedText (Some c) = is_text_byte c ≡ true
EscapedText None = Unit {0}

abbrev SpelledText : Option (ℕ × ℕ) → Type 0
SpelledText (Some c) = is_text_byte c.0 ≡ true
SpelledText None = Unit {0}

escape_text : (c : ℕ) → EscapedText (escape c)
escape_text c =
    choice EscapedText (c == 34) (Some 34) _ refl
    (choice EscapedText (c == 92) (Some 92) _ refl
    (choice EscapedText (c == 110) (Some 10) _ refl
    (choice EscapedText (c == 114) (Some 13) _ refl
    (choice EscapedText (c == 116) (Some 9) _ refl
    (choice EscapedText (c == 48) (Some 0) None refl tt)))))

sized : (o : Option ℕ) → EscapedText o → SpelledText (option_map (λ e. (e, 1)) o)
sized (Some c) h = h
sized None h = tt

escape_of_text : (cs : List ℕ) → SpelledText (escape_of false cs)
unfolding escape_of
escape_of_text [] = tt
escape_of_text (c ∷ cs) = sized (escape c) (escape_text c)

escaped_text : (at n : ℕ) (o : Option (ℕ × ℕ)) → SpelledText o → OneText (escaped at n o)
escaped_text at n (Some e) h = h
escaped_text at n None h = tt

string_byte_text : (c : ℕ) → is_string_byte c ≡ true → is_text_byte c ≡ true
string_byte_text c h = rw h refl

character_text : (at c : ℕ) (cs : List ℕ) → is_string_byte c ≡ true → OneText (character_at false at c cs)
character_text at c cs h =
    choice OneText (c == 92) (escaped at (length cs) (escape_of false cs)) (Ok (c, 1)) (escaped_text at (length cs) (escape_of false cs) (escape_of_text cs)) (string_byte_text c h)

with_character_text : (c : ℕ) (r : Result (List ℕ) Break) → is_text_byte c ≡ true → AllText r → AllText (with_character c r)
with_character_text c (Ok cs) h a = both_true (is_text_byte c) (list_all is_text_byte cs) h a
with_character_text c (Err r) h a = tt

and_then_text : (r : Result (ℕ × ℕ) Break) (others : ℕ → Result (List ℕ) Break) → OneText r → ((n : ℕ) → AllText (others n)) → AllText (and_then r others)
and_then_text (Ok c) others h a = with_character_text c.0 (others (c.1 - 1)) h (a (c.1 - 1))
and_then_text (Err r) others h a = tt

characters_text : (at skip : ℕ) (bytes : List ℕ) → list_all is_string_byte bytes ≡ true → AllText (characters false at skip bytes)
characters_text at skip [] h = refl
characters_text at (suc skip) (c ∷ cs) h = characters_text (at + 1) skip cs (and_parts (is_string_byte c) (list_all is_string_byte cs) h).1
characters_text at zero (c ∷ cs) h =
    let parts = and_parts (is_string_byte c) (list_all is_string_byte cs) h in
    and_then_text (character_at false at c cs) (λ skip. characters false (at + 1) skip cs) (character_text at c cs parts.0) (λ n. characters_text (at + 1) n cs parts.1)

-- ---- strings

abbrev GoodLeaf : Result Leaf Break → Type 0
GoodLeaf (Ok leaf) = is_spelled_leaf leaf ≡ true
GoodLeaf (Err r) = Unit {0}

abbrev is_spelled_token : Token → Bool
is_spelled_token Separator = true
is_spelled_token Comment = true
is_spelled_token Colon = true
is_spelled_token Comma = true
is_spelled_token (Opens at) = true
is_spelled_token (Closes end) = true
is_spelled_token (OpensTuple at) = true
is_spelled_token (ClosesTuple end) = true
is_spelled_token (Key name) = true
is_spelled_token (Is leaf span) = is_spelled_leaf leaf
is_spelled_token (Faulty r) = true

abbrev GoodToken : Result Token Break → Type 0
GoodToken (Ok t) = is_spelled_token t ≡ true
GoodToken (Err r) = Unit {0}

abbrev Good : Result (Token × ℕ) Break → Type 0
Good (Ok t) = is_spelled_token t.0 ≡ true
Good (Err r) = Unit {0}

unless_bad_good : (at : ℕ) (o : Option ℕ) (r : Result Leaf Break) → (o ≡ None → GoodLeaf r) → GoodLeaf (unless_bad at o r)
unless_bad_good at (Some k) r h = tt
unless_bad_good at None r h = h refl

ascii_good : (r : Result (List ℕ) Break) → AllText r → GoodLeaf (string_result false r)
ascii_good (Ok cs) h = h
ascii_good (Err e) h = tt

unicode_good : (r : Result (List ℕ) Break) → GoodLeaf (string_result true r)
unicode_good (Ok cs) = refl
unicode_good (Err e) = tt

string_good : (unicode : Bool) (at : ℕ) (bytes : List ℕ) → GoodLeaf (text_in unicode at bytes)
unfolding text_in
string_good false at bytes =
    unless_bad_good at (position (λ c. not (is_string_byte c)) bytes) (string_result false (characters false at 0 bytes))
    (λ none. ascii_good (characters false at 0 bytes) (characters_text at 0 bytes (all_pass is_string_byte bytes none)))
string_good true at bytes =
    unless_bad_good at (position (λ c. not (is_string_byte c)) bytes) (string_result true (characters true at 0 bytes))
    (λ none. unicode_good (characters true at 0 bytes))

closed_good : (at n : ℕ) (r : Result Leaf Break) → GoodLeaf r → Good (closed at n r)
closed_good at n (Ok leaf) h = h
closed_good at n (Err r) h = tt

not_closed_good : (quote n : ℕ) (r : Result Leaf Break) → Good (not_closed quote n r)
not_closed_good quote n (Ok leaf) = refl
not_closed_good quote n (Err r) = tt

string_by_good : (unicode : Bool) (at : ℕ) (bytes : List ℕ) (o : Option ℕ) → Good (string_by unicode at bytes o)
string_by_good unicode at bytes None = not_closed_good (at + mark unicode) (mark unicode + 1 + length bytes) (text_in unicode (at + mark unicode + 1) bytes)
string_by_good unicode at bytes (Some n) =
    closed_good at (mark unicode + n + 2) (text_in unicode (at + mark unicode + 1) (take n bytes)) (string_good unicode (at + mark unicode + 1) (take n bytes))

string_at_good : (unicode : Bool) (at : ℕ) (bytes : List ℕ) → Good (string_at unicode at bytes)
unfolding string_at
string_at_good unicode at bytes = string_by_good unicode at bytes (closing false bytes)

-- ---- runs, of which none is a string

abbrev GoodRun : Result Leaf Rule → Type 0
GoodRun (Ok leaf) = is_spelled_leaf leaf ≡ true
GoodRun (Err rule) = Unit {0}

own_contract_good : (o : Option (List ℕ)) → GoodRun (own_contract o)
own_contract_good (Some name) = refl
own_contract_good None = tt

leaf_of_good : (run : List ℕ) → GoodRun (leaf_of run)
leaf_of_good [] = tt
leaf_of_good (c ∷ cs) =
    choice GoodRun (are_digits (c ∷ cs)) (positive (value_of (c ∷ cs))) _ (choice GoodRun (nat_lt (value_of (c ∷ cs)) (2 ^ 127)) _ _ refl tt)
    (choice GoodRun (c == 45 && are_digits cs) (negative (value_of cs)) _ (choice GoodRun (nat_le (value_of cs) (2 ^ 127)) _ _ refl tt)
    (choice GoodRun (c == 117 && are_digits cs) (unsigned (value_of cs)) _ (choice GoodRun (nat_lt (value_of cs) (2 ^ 128)) _ _ refl tt)
    (choice GoodRun (c == 46) (own_contract (contract_name cs)) (named (c ∷ cs)) (own_contract_good (contract_name cs))
    (choice GoodRun (fits_pattern (c ∷ cs) && nat_le (length (c ∷ cs)) 128) _ _ refl tt))))

buffer_good : (r : Result (List ℕ) FromHexError) → GoodRun (buffer r)
buffer_good (Ok bytes) = refl
buffer_good (Err e) = tt

in_span_good : (span : Span) (r : Result Leaf Rule) → GoodRun r → GoodToken (in_span span r)
in_span_good span (Ok leaf) h = h
in_span_good span (Err rule) h = tt

principal_good : (span : Span) (o : Option Principal) → is_spelled_token (principal_token span o) ≡ true
principal_good span (Some p) = refl
principal_good span None = refl

allowed_good : (span : Span) (run : List ℕ) → GoodToken (allowed_run span run)
allowed_good span [] = tt
allowed_good span (c ∷ cs) =
    choice GoodToken (c == 39) (Ok (principal_token span (principal_of cs))) _ (principal_good span (principal_of cs))
    (choice GoodToken (c == 48 && begins 120 cs) (in_span span (buffer (decode_of (drop 1 cs)))) (in_span span (leaf_of (c ∷ cs)))
    (in_span_good span (buffer (decode_of (drop 1 cs))) (buffer_good (decode_of (drop 1 cs))))
    (in_span_good span (leaf_of (c ∷ cs)) (leaf_of_good (c ∷ cs))))

unless_bad_token : (at : ℕ) (o : Option ℕ) (r : Result Token Break) → GoodToken r → GoodToken (unless_bad at o r)
unless_bad_token at (Some k) r h = tt
unless_bad_token at None r h = h

run_token_good : (at : ℕ) (run : List ℕ) → GoodToken (run_token at run)
unfolding run_token
run_token_good at run =
    unless_bad_token at (position (λ c. not (is_allowed c)) run) (allowed_run (record { start = at; end = at + length run }) run) (allowed_good (record { start = at; end = at + length run }) run)

-- ---- tokens

with_length_good : (n : ℕ) (r : Result Token Break) → GoodToken r → Good (with_length n r)
with_length_good n (Ok t) h = h
with_length_good n (Err r) h = tt

line_good : (at : ℕ) (o : Option ℕ) (n : ℕ) → Good (unless_bad at o (Ok (Comment, n)))
line_good at (Some k) n = tt
line_good at None n = refl

comment_good : (at : ℕ) (bytes : List ℕ) → Good (comment_at at bytes)
comment_good at [] = tt
comment_good at (c ∷ cs) = choice Good (c == 59) (line_at at (line_length cs) (take (line_length cs) cs)) (Err (refusal BadToken at (at + 1))) (line_good (at + 2) (position (λ c. not (is_allowed c)) (take (line_length cs) cs)) (line_length cs + 2)) tt

longer_good : (at : ℕ) (bytes : List ℕ) → Good (longer_at at bytes)
longer_good at [] = tt
longer_good at (c ∷ cs) =
    choice Good (c == 34) (string_at false at cs) _ (string_at_good false at cs)
    (choice Good (c == 59) (comment_at at cs) _ (comment_good at cs)
    (choice Good (c == 117 && begins 34 cs) (string_at true at (drop 1 cs)) (run_at at (c ∷ cs)) (string_at_good true at (drop 1 cs))
    (with_length_good (run_length (c ∷ cs)) (run_token at (take (run_length (c ∷ cs)) (c ∷ cs))) (run_token_good at (take (run_length (c ∷ cs)) (c ∷ cs))))))

abbrev GoodMark : Option Token → Type 0
GoodMark (Some t) = is_spelled_token t ≡ true
GoodMark None = Unit {0}

mark_good : (at c : ℕ) → GoodMark (mark_at at c)
mark_good at c =
    choice GoodMark (is_separator c) (Some Separator) _ refl
    (choice GoodMark (c == 40) (Some (Opens at)) _ refl
    (choice GoodMark (c == 41) (Some (Closes (at + 1))) _ refl
    (choice GoodMark (c == 123) (Some (OpensTuple at)) _ refl
    (choice GoodMark (c == 125) (Some (ClosesTuple (at + 1))) _ refl
    (choice GoodMark (c == 44) (Some Comma) _ refl
    (choice GoodMark (c == 58) (Some Colon) None refl tt))))))

token_by_good : (o : Option Token) (at : ℕ) (bytes : List ℕ) → GoodMark o → Good (token_by o at bytes)
token_by_good (Some t) at bytes h = h
token_by_good None at bytes h = longer_good at bytes

token_good : (at : ℕ) (bytes : List ℕ) → Good (token_at at bytes)
unfolding token_at
token_good at [] = tt
token_good at (c ∷ cs) = token_by_good (mark_at at c) at (c ∷ cs) (mark_good at c)

-- ---- texts

spelled_token : (t : Token) (n at : ℕ) (bytes : List ℕ) → Spells t n at bytes → is_spelled_token t ≡ true
spelled_token Separator n at bytes h = refl
spelled_token Comment n at bytes h = refl
spelled_token Colon n at bytes h = refl
spelled_token Comma n at bytes h = refl
spelled_token (Opens p) n at bytes h = refl
spelled_token (Closes p) n at bytes h = refl
spelled_token (OpensTuple p) n at bytes h = refl
spelled_token (ClosesTuple p) n at bytes h = refl
spelled_token (Key name) n at bytes h = refl
spelled_token (Is leaf span) n at bytes h = let P : Result (Token × ℕ) Break → Type 0 = λ r. Good r in subst P h (token_good at bytes)
spelled_token (Faulty r) n at bytes h = refl

spelled_cut : (at : ℕ) (bytes : List ℕ) (ts : List Token) (at' : ℕ) (rest : List ℕ) → Cuts at bytes ts at' rest → list_all is_spelled_token ts ≡ true
spelled_cut at bytes [] at' rest h = refl
spelled_cut at bytes (t ∷ ts) at' rest h =
    both_true (is_spelled_token t) (list_all is_spelled_token ts) (spelled_token t h.0 at bytes h.3) (spelled_cut (at + h.0) (drop h.0 bytes) ts at' rest h.4)

spelled_unspaced : (ts : List Token) → list_all is_spelled_token (unspaced ts) ≡ list_all is_spelled_token ts
spelled_unspaced [] = refl
spelled_unspaced (Separator ∷ ts) = spelled_unspaced ts
spelled_unspaced (Comment ∷ ts) = spelled_unspaced ts
spelled_unspaced (Colon ∷ ts) = spelled_unspaced ts
spelled_unspaced (Comma ∷ ts) = spelled_unspaced ts
spelled_unspaced (Opens at ∷ ts) = spelled_unspaced ts
spelled_unspaced (Closes end ∷ ts) = spelled_unspaced ts
spelled_unspaced (OpensTuple at ∷ ts) = spelled_unspaced ts
spelled_unspaced (ClosesTuple end ∷ ts) = spelled_unspaced ts
spelled_unspaced (Key name ∷ ts) = spelled_unspaced ts
spelled_unspaced (Is leaf span ∷ ts) = ap (λ (b : Bool). is_spelled_leaf leaf && b) (spelled_unspaced ts)
spelled_unspaced (Faulty r ∷ ts) = spelled_unspaced ts

-- of tokens in a row that are so, each part is
split : (xs ys zs : List Token) → zs ≡ xs ++ ys → list_all is_spelled_token zs ≡ true → (list_all is_spelled_token xs ≡ true) × (list_all is_spelled_token ys ≡ true)
split xs ys zs e h =
    and_parts (list_all is_spelled_token xs) (list_all is_spelled_token ys) (sym (list_all-append is_spelled_token xs ys) ∙ (ap (λ (z : List Token). list_all is_spelled_token z) (sym e) ∙ h))

mutual
  spelled_item : (t : Item) (ts : List Token) → IsItem t ts → list_all is_spelled_token ts ≡ true → is_spelled t ≡ true
  spelled_item (LeafAt leaf span) ts is h = (and_parts (is_spelled_leaf leaf) true (ap (λ (z : List Token). list_all is_spelled_token z) (sym is) ∙ h)).0
  spelled_item (ListAt f span) ts is h =
      spelled_row f is.0 is.1 (split is.0 (Closes span.end ∷ []) (is.0 ++ Closes span.end ∷ []) refl (split (Opens span.start ∷ []) (is.0 ++ Closes span.end ∷ []) ts is.2 h).1).0
  spelled_item (TupleAt ps span) ts is h =
      spelled_pairs ps is.0 is.1 (split is.0 (ClosesTuple span.end ∷ []) (is.0 ++ ClosesTuple span.end ∷ []) refl (split (OpensTuple span.start ∷ []) (is.0 ++ ClosesTuple span.end ∷ []) ts is.2 h).1).0

  spelled_row : (f : Forest) (ts : List Token) → IsRow f ts → list_all is_spelled_token ts ≡ true → are_spelled f ≡ true
  spelled_row Empty ts is h = refl
  spelled_row (Then t f) ts is h =
      let parts = split is.0 is.1 ts is.4 h in
      both_true (is_spelled t) (are_spelled f) (spelled_item t is.0 is.2 parts.0) (spelled_row f is.1 is.3 parts.1)

  spelled_pairs : (ps : Pairs) (ts : List Token) → ArePairs ps ts → list_all is_spelled_token ts ≡ true → have_spelled ps ≡ true
  spelled_pairs NoPair ts is h = refl
  spelled_pairs (Pair k t ps) ts is h =
      let parts = split is.0 is.1 (is.0 ++ is.1) refl (split (Key k ∷ Colon ∷ []) (is.0 ++ is.1) ts is.4 h).1 in
      both_true (is_spelled t) (have_spelled ps) (spelled_item t is.0 is.2 parts.0) (spelled_more ps is.1 is.3 parts.1)

  spelled_more : (ps : Pairs) (ts : List Token) → AreMore ps ts → list_all is_spelled_token ts ≡ true → have_spelled ps ≡ true
  spelled_more NoPair ts is h = refl
  spelled_more (Pair k t ps) ts is h =
      let parts = split is.0 is.1 (is.0 ++ is.1) refl (split (Comma ∷ Key k ∷ Colon ∷ []) (is.0 ++ is.1) ts is.4 h).1 in
      both_true (is_spelled t) (have_spelled ps) (spelled_item t is.0 is.2 parts.0) (spelled_more ps is.1 is.3 parts.1)

pub spelled : (text : List ℕ) (items : Forest) → Reads text items → are_spelled items ≡ true
spelled text items r =
    spelled_row items (unspaced r.tokens) r.row (spelled_unspaced r.tokens ∙ spelled_cut 0 text r.tokens (length text) [] r.cut)

-- A token of a text has some bytes, no more than are left, and is never told to be a key.
use Rattle.std.proofs.Common.{◌≡◌, ℕ, zero, suc, ◌+◌, ◌-◌, ◌<◌, ◌≤◌, ◌==◌, ◌&&◌, not, List, [], ◌∷◌, length, take, drop, cond, Bool, true, false, Option, Some, None, Result, Ok, Err, refl, arith, ap, subst}
use Rattle.std.specs.Prelude.{position, unwrap_or}
use Rattle.std.specs.Option.{option_map}
use Rattle.std.proofs.lemmas.List.{take_all}
use Rattle.std.proofs.lemmas.List.Quantifiers.{position-Some}
use Rattle.cl_sexpr.specs.declared.sexpr.Span.{Span}
use Rattle.cl_sexpr.specs.declared.rule.Rule.{Rule}
use Rattle.cl_sexpr.specs.declared.rule.Break.{Break}
use Rattle.cl_c32.specs.declared.principal.Principal.{Principal}
use Rattle.cl_sexpr.specs.Tree.{Leaf}
use Rattle.cl_sexpr.specs.Token.{Token, Separator, Comment, Colon, Comma, Opens, Closes, OpensTuple, ClosesTuple, Key, Is, Faulty}
use Rattle.cl_sexpr.specs.Leaf.{is_separator, is_allowed, is_run_byte, begins, principal_of, principal_token, in_span, allowed_run, unless_bad, run_token}
use Rattle.cl_sexpr.specs.Quote.{closing, text_in, mark, closed, not_closed, string_by, string_at}
use Rattle.cl_sexpr.specs.Text.{run_length, with_length, line_length, comment_at, mark_at, longer_at, token_by, token_at}

abbrev pub is_raw : Token → Bool
is_raw Separator = true
is_raw Comment = true
is_raw Colon = true
is_raw Comma = true
is_raw (Opens at) = true
is_raw (Closes end) = true
is_raw (OpensTuple at) = true
is_raw (ClosesTuple end) = true
is_raw (Key name) = false
is_raw (Is leaf span) = true
is_raw (Faulty r) = true

-- a token that is found is raw, and has some bytes, at most so many
abbrev pub Within : ℕ → Result (Token × ℕ) Break → Type 0
Within size r = (t : Token) (n : ℕ) → r ≡ Ok (t, n) → (0 < n) × (n ≤ size) × (is_raw t ≡ true)

within_err : (size : ℕ) (b : Break) → Within size (Err b)
within_err size b t n e = absurd cc

within_ok : (size k : ℕ) (u : Token) → 0 < k → k ≤ size → is_raw u ≡ true → Within size (Ok (u, k))
within_ok size k u some few raw t n e =
    let pairs : ◌≡◌ {A = Token × ℕ} (u, k) (t, n) = cc in
    let sizes : k ≡ n = ap (λ (p : Token × ℕ). p.1) pairs in
    let tokens : u ≡ t = ap (λ (p : Token × ℕ). p.0) pairs in
    (subst (λ (m : ℕ). 0 < m) sizes some, subst (λ (m : ℕ). m ≤ size) sizes few, subst (λ (v : Token). is_raw v ≡ true) tokens raw)

within_if : (size : ℕ) (b : Bool) (x y : Result (Token × ℕ) Break) → Within size x → Within size y → Within size (cond b x y)
within_if size true x y p q = p
within_if size false x y p q = q

within_more : (size more : ℕ) (r : Result (Token × ℕ) Break) → size ≤ more → Within size r → Within more r
within_more size more r h p t n e = let w = p t n e in (w.0, omega (arith, h, w.1), w.2)

-- ---- strings

mapped : (o : Option ℕ) (n : ℕ) → option_map (λ n. n + 1) o ≡ Some n → (m : ℕ) × (o ≡ Some m) × (m + 1 ≡ n)
mapped None n e = absurd cc
mapped (Some m) n e = (m, refl, cc)

later : (o : Option ℕ) (size n : ℕ) → ((m : ℕ) → o ≡ Some m → m < size) → option_map (λ n. n + 1) o ≡ Some n → n < suc size
later o size n below e =
    let m = mapped o n e in
    let less = below m.0 m.1 in
    omega (arith, less, m.2)

by_quote : (quote : Bool) (o : Option ℕ) (size n : ℕ) → ((m : ℕ) → o ≡ Some m → m < size) → cond quote (Some 0) (option_map (λ n. n + 1) o) ≡ Some n → n < suc size
by_quote true o size n below e = let zeros : 0 ≡ n = cc in omega (arith, zeros)
by_quote false o size n below e = later o size n below e

closing_within : (b : Bool) (bytes : List ℕ) (n : ℕ) → closing b bytes ≡ Some n → n < length bytes
closing_within b [] n e = absurd (no_place n e)
  where
    no_place : (n : ℕ) → ◌≡◌ {A = Option ℕ} None (Some n) → ⊥
    no_place n e = cc
closing_within true (c ∷ cs) n e = later (closing false cs) (length cs) n (λ m. closing_within false cs m) e
closing_within false (c ∷ cs) n e = by_quote (c == 34) (closing (c == 92) cs) (length cs) n (λ m. closing_within (c == 92) cs m) e

closed_within : (size at k : ℕ) (r : Result Leaf Break) → 0 < k → k ≤ size → Within size (closed at k r)
closed_within size at k (Ok leaf) some few = within_ok size k _ some few refl
closed_within size at k (Err b) some few = within_err size b

not_closed_within : (size quote k : ℕ) (r : Result Leaf Break) → 0 < k → k ≤ size → Within size (not_closed quote k r)
not_closed_within size quote k (Ok leaf) some few = within_ok size k _ some few refl
not_closed_within size quote k (Err b) some few = within_err size b

string_by_within : (u : Bool) (at : ℕ) (bytes : List ℕ) (o : Option ℕ) → closing false bytes ≡ o → Within (mark u + 1 + length bytes) (string_by u at bytes o)
string_by_within u at bytes None e = not_closed_within _ _ _ (text_in u (at + mark u + 1) bytes) (omega arith) (omega arith)
string_by_within u at bytes (Some n) e =
    let below = closing_within false bytes n e in
    closed_within _ at (mark u + n + 2) (text_in u (at + mark u + 1) (take n bytes)) (omega arith) (omega (arith, below))

string_within : (u : Bool) (at : ℕ) (bytes : List ℕ) → Within (mark u + 1 + length bytes) (string_at u at bytes)
unfolding string_at
string_within u at bytes = string_by_within u at bytes (closing false bytes) refl

-- ---- comments and runs

-- the first place that passes, or behind the end
first_within : (p : ℕ → Bool) (xs : List ℕ) (o : Option ℕ) → position p xs ≡ o → unwrap_or o (length xs) ≤ length xs
first_within p xs None e = omega arith
first_within p xs (Some k) e = let below = (position-Some p xs k 0 e).0 in omega (arith, below)

line_within : (size at n : ℕ) (o : Option ℕ) → n + 2 ≤ size → Within size (unless_bad (at + 2) o (Ok (Comment, n + 2)))
line_within size at n None h = within_ok size (n + 2) Comment (omega arith) h refl
line_within size at n (Some k) h = within_err size _

comment_within : (at : ℕ) (cs : List ℕ) → Within (suc (length cs)) (comment_at at cs)
comment_within at [] = within_err _ _
comment_within at (c ∷ cs) =
    let few = first_within (λ c. c == 10) cs (position (λ c. c == 10) cs) refl in
    within_if _ (c == 59) _ _
    (line_within _ at (line_length cs) (position (λ c. not (is_allowed c)) (take (line_length cs) cs)) (omega (arith, few)))
    (within_err _ _)

-- a token that a run is, is raw
abbrev AllRaw : Result Token Break → Type 0
AllRaw r = (t : Token) → r ≡ Ok t → is_raw t ≡ true

raw_err : (b : Break) → AllRaw (Err b)
raw_err b t e = absurd cc

raw_ok : (u : Token) → is_raw u ≡ true → AllRaw (Ok u)
raw_ok u raw t e = let same : u ≡ t = cc in subst (λ (v : Token). is_raw v ≡ true) same raw

raw_if : (b : Bool) (x y : Result Token Break) → AllRaw x → AllRaw y → AllRaw (cond b x y)
raw_if true x y p q = p
raw_if false x y p q = q

raw_principal : (span : Span) (o : Option Principal) → is_raw (principal_token span o) ≡ true
raw_principal span (Some p) = refl
raw_principal span None = refl

raw_span : (span : Span) (r : Result Leaf Rule) → AllRaw (in_span span r)
raw_span span (Ok leaf) = raw_ok _ refl
raw_span span (Err rule) = raw_err _

raw_allowed : (span : Span) (run : List ℕ) → AllRaw (allowed_run span run)
raw_allowed span [] = raw_err _
raw_allowed span (c ∷ cs) =
    raw_if (c == 39) _ _ (raw_ok _ (raw_principal span (principal_of cs))) (raw_if (c == 48 && begins 120 cs) _ _ (raw_span span _) (raw_span span _))

raw_unless : (at : ℕ) (o : Option ℕ) (r : Result Token Break) → AllRaw r → AllRaw (unless_bad at o r)
raw_unless at None r p = p
raw_unless at (Some k) r p = raw_err _

raw_run : (at : ℕ) (run : List ℕ) → AllRaw (run_token at run)
unfolding run_token
raw_run at run = raw_unless at (position (λ c. not (is_allowed c)) run) _ (raw_allowed _ run)

with_length_within : (size k : ℕ) (r : Result Token Break) → 0 < k → k ≤ size → AllRaw r → Within size (with_length k r)
with_length_within size k (Ok t) some few raw = within_ok size k t some few (raw t refl)
with_length_within size k (Err b) some few raw = within_err size b

run_within : (at k c : ℕ) (cs : List ℕ) → k ≤ suc (length cs) → Within (suc (length cs)) (with_length k (run_token at (take k (c ∷ cs))))
unfolding run_token
run_within at zero c cs h = within_err _ _
run_within at (suc k) c cs h = with_length_within _ (suc k) _ (omega arith) h (raw_run at (take (suc k) (c ∷ cs)))

-- ---- tokens

unicode_within : (b : Bool) (at : ℕ) (cs : List ℕ) (other : Result (Token × ℕ) Break) → Within (suc (length cs)) other → Within (suc (length cs)) (cond (b && begins 34 cs) (string_at true at (drop 1 cs)) other)
unicode_within true at [] other p = p
unicode_within false at [] other p = p
unicode_within b at (c ∷ cs) other p =
    within_if _ (b && begins 34 (c ∷ cs)) _ other (within_more _ _ (string_at true at cs) (omega arith) (string_within true at cs)) p

longer_within : (at c : ℕ) (cs : List ℕ) → Within (suc (length cs)) (longer_at at (c ∷ cs))
longer_within at c cs =
    let few = first_within (λ c. not (is_run_byte c)) (c ∷ cs) (position (λ c. not (is_run_byte c)) (c ∷ cs)) refl in
    within_if _ (c == 34) _ _ (within_more _ _ (string_at false at cs) (omega arith) (string_within false at cs))
    (within_if _ (c == 59) _ _ (comment_within at cs) (unicode_within (c == 117) at cs _ (run_within at (run_length (c ∷ cs)) c cs few)))

abbrev AllMarks : Option Token → Type 0
AllMarks o = (t : Token) → o ≡ Some t → is_raw t ≡ true

mark_some : (u : Token) → is_raw u ≡ true → AllMarks (Some u)
mark_some u raw t e = let same : u ≡ t = cc in subst (λ (v : Token). is_raw v ≡ true) same raw

mark_if : (b : Bool) (u : Token) (o : Option Token) → is_raw u ≡ true → AllMarks o → AllMarks (cond b (Some u) o)
mark_if true u o raw p = mark_some u raw
mark_if false u o raw p = p

mark_none : AllMarks None
mark_none t e = let no : ◌≡◌ {A = Option Token} None (Some t) = e in absurd cc

marks_raw : (at c : ℕ) → AllMarks (mark_at at c)
marks_raw at c =
    mark_if (is_separator c) Separator _ refl
    (mark_if (c == 40) (Opens at) _ refl
    (mark_if (c == 41) (Closes (at + 1)) _ refl
    (mark_if (c == 123) (OpensTuple at) _ refl
    (mark_if (c == 125) (ClosesTuple (at + 1)) _ refl
    (mark_if (c == 44) Comma _ refl
    (mark_if (c == 58) Colon _ refl mark_none))))))

by_mark : (o : Option Token) (at c : ℕ) (cs : List ℕ) → AllMarks o → Within (suc (length cs)) (token_by o at (c ∷ cs))
by_mark (Some t) at c cs raw = within_ok _ 1 t (omega arith) (omega arith) (raw t refl)
by_mark None at c cs raw = longer_within at c cs

pub token_within : (at c : ℕ) (cs : List ℕ) → Within (suc (length cs)) (token_at at (c ∷ cs))
unfolding token_at
token_within at c cs = by_mark (mark_at at c) at c cs (marks_raw at c)

-- bytes from the second on, as they are sliced
pub from_second : (xs : List ℕ) → take (length xs - 1) (drop 1 xs) ≡ drop 1 xs
from_second [] = refl
from_second (x ∷ xs) = take_all (length (x ∷ xs) - 1) xs (omega arith)

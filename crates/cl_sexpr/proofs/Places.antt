-- The items of a text stand one after another.
use Rattle.std.proofs.Common.{◌≡◌, inl, inr, ℕ, ◌+◌, ◌≤◌, ◌<◌, ◌==◌, ◌&&◌, not, Bool, true, false, if◌then◌else◌, List, [], ◌∷◌, ◌++◌, length, take, drop, position, Option, Some, None, Result, Ok, Err, refl, sym, ap, ◌∙◌, subst, arith, append_assoc}
use Rattle.std.proofs.lemmas.List.{append-nil, length-take}
use Rattle.hex.specs.Hex.{decode_of}
use Rattle.cl_c32.specs.declared.principal.Principal.{Principal}
use Rattle.cl_sexpr.specs.declared.sexpr.Span.{Span}
use Rattle.cl_sexpr.specs.declared.rule.Rule.{Rule}
use Rattle.cl_sexpr.specs.declared.rule.Break.{Break}
use Rattle.cl_sexpr.specs.Tree.{Tree, LeafAt, ListAt, TupleAt, Forest, Empty, Then, Pairs, NoPair, Pair, Leaf, span_of}
use Rattle.cl_sexpr.specs.Token.{Token, Separator, Comment, Colon, Comma, Opens, Closes, OpensTuple, ClosesTuple, Key, Is, Faulty}
use Rattle.cl_sexpr.specs.Grammar.{unspaced, IsItem, IsRow, ArePairs, AreMore}
use Rattle.cl_sexpr.specs.Leaf.{is_separator, is_allowed, begins, leaf_of, buffer, principal_of, principal_token, in_span, allowed_run, unless_bad, run_token}
use Rattle.cl_sexpr.specs.Quote.{closing, mark, text_in, closed, not_closed, string_by, string_at}
use Rattle.cl_sexpr.specs.Text.{run_length, with_length, line_length, comment_at, mark_at, longer_at, token_by, token_at, Cuts, Reads}
use Rattle.cl_sexpr.specs.Placed.{IsPlaced, ArePlaced, ArePairsPlaced}

-- ---- where a token stands

-- a token that so many bytes spell from a place on
abbrev Stands : ℕ → ℕ → Token → Type 0
Stands at n (Opens place) = place ≡ at
Stands at n (OpensTuple place) = place ≡ at
Stands at n (Closes end) = end ≡ at + 1
Stands at n (ClosesTuple end) = end ≡ at + 1
Stands at n (Is leaf span) = (span.start ≡ at) × (span.start < span.end) × (span.end ≤ at + n)
Stands at n token = Unit {0}

abbrev IfStands : ℕ → Result (Token × ℕ) Break → Type 0
IfStands at (Ok t) = Stands at t.1 t.0
IfStands at (Err b) = Unit {0}

either_way : {A : Type 0} (P : A → Type 0) (b : Bool) (x y : A) → P x → P y → P (if b then x else y)
either_way P true x y h k = h
either_way P false x y h k = k

abbrev MarkStands : ℕ → Option Token → Type 0
MarkStands at None = Unit {0}
MarkStands at (Some t) = Stands at 1 t

mark_stands : (at c : ℕ) → MarkStands at (mark_at at c)
mark_stands at c =
    either_way (MarkStands at) (is_separator c) _ _ tt
    (either_way (MarkStands at) (c == 40) _ _ refl
    (either_way (MarkStands at) (c == 41) _ _ refl
    (either_way (MarkStands at) (c == 123) _ _ refl
    (either_way (MarkStands at) (c == 125) _ _ refl
    (either_way (MarkStands at) (c == 44) _ _ tt
    (either_way (MarkStands at) (c == 58) _ _ tt tt))))))

closed_stands : (at n : ℕ) (r : Result Leaf Break) → 0 < n → IfStands at (closed at n r)
closed_stands at n (Ok leaf) h = (refl, omega (arith, h), omega arith)
closed_stands at n (Err b) h = tt

not_closed_stands : (at quote n : ℕ) (r : Result Leaf Break) → IfStands at (not_closed quote n r)
not_closed_stands at quote n (Ok leaf) = tt
not_closed_stands at quote n (Err b) = tt

string_by_stands : (unicode : Bool) (at : ℕ) (bytes : List ℕ) (o : Option ℕ) → IfStands at (string_by unicode at bytes o)
string_by_stands unicode at bytes None = not_closed_stands at (at + mark unicode) (mark unicode + 1 + length bytes) (text_in unicode (at + mark unicode + 1) bytes)
string_by_stands unicode at bytes (Some n) = closed_stands at (mark unicode + n + 2) (text_in unicode (at + mark unicode + 1) (take n bytes)) (omega arith)

string_stands : (unicode : Bool) (at : ℕ) (bytes : List ℕ) → IfStands at (string_at unicode at bytes)
unfolding string_at
string_stands unicode at bytes = string_by_stands unicode at bytes (closing false bytes)

comment_ends : (at : ℕ) (m n : ℕ) (o : Option ℕ) → IfStands at (unless_bad m o (Ok (Comment, n)))
comment_ends at m n None = tt
comment_ends at m n (Some k) = tt

comment_stands : (at : ℕ) (bytes : List ℕ) → IfStands at (comment_at at bytes)
comment_stands at [] = tt
comment_stands at (c ∷ cs) =
    either_way (IfStands at) (c == 59) _ _ (comment_ends at (at + 2) (line_length cs + 2) (position (λ d. not (is_allowed d)) (take (line_length cs) cs))) tt

-- a run that is an item has the run's span
abbrev HasSpan : Span → Result Token Break → Type 0
HasSpan span (Ok (Is leaf s)) = s ≡ span
HasSpan span (Ok (Faulty b)) = Unit {0}
HasSpan span (Ok t) = ⊥
HasSpan span (Err b) = Unit {0}

leaf_has_span : (span : Span) (r : Result Leaf Rule) → HasSpan span (in_span span r)
leaf_has_span span (Ok leaf) = refl
leaf_has_span span (Err rule) = tt

principal_has_span : (span : Span) (o : Option Principal) → HasSpan span (Ok (principal_token span o))
principal_has_span span (Some p) = refl
principal_has_span span None = tt

allowed_has_span : (span : Span) (c : ℕ) (cs : List ℕ) → HasSpan span (allowed_run span (c ∷ cs))
allowed_has_span span c cs =
    either_way (HasSpan span) (c == 39) _ _ (principal_has_span span (principal_of cs))
    (either_way (HasSpan span) (c == 48 && begins 120 cs) _ _ (leaf_has_span span (buffer (decode_of (drop 1 cs)))) (leaf_has_span span (leaf_of (c ∷ cs))))

unless_has_span : (span : Span) (at : ℕ) (o : Option ℕ) (r : Result Token Break) → HasSpan span r → HasSpan span (unless_bad at o r)
unless_has_span span at None r h = h
unless_has_span span at (Some k) r h = tt

counted_stands : (at n : ℕ) (span : Span) (r : Result Token Break) → span.start ≡ at → span.start < span.end → span.end ≤ at + n → HasSpan span r → IfStands at (with_length n r)
counted_stands at n span (Ok (Is leaf s)) b h k e = subst (λ (u : Span). (u.start ≡ at) × (u.start < u.end) × (u.end ≤ at + n)) (sym e) (b, h, k)
counted_stands at n span (Ok (Faulty x)) b h k e = tt
counted_stands at n span (Ok t) b h k e = absurd e
counted_stands at n span (Err x) b h k e = tt

run_stands : (at n : ℕ) (run : List ℕ) → length run ≤ n → IfStands at (with_length n (run_token at run))
unfolding run_token
run_stands at n [] h = tt
run_stands at n (c ∷ cs) h =
    counted_stands at n (record { start = at; end = at + length (c ∷ cs) }) _ refl (omega arith) (omega (arith, h))
    (unless_has_span (record { start = at; end = at + length (c ∷ cs) }) at (position (λ d. not (is_allowed d)) (c ∷ cs)) _ (allowed_has_span (record { start = at; end = at + length (c ∷ cs) }) c cs))

longer_stands : (at : ℕ) (bytes : List ℕ) → IfStands at (longer_at at bytes)
longer_stands at [] = tt
longer_stands at (c ∷ cs) =
    either_way (IfStands at) (c == 34) _ _ (string_stands false at cs)
    (either_way (IfStands at) (c == 59) _ _ (comment_stands at cs)
    (either_way (IfStands at) (c == 117 && begins 34 cs) _ _ (string_stands true at (drop 1 cs))
    (run_stands at (run_length (c ∷ cs)) (take (run_length (c ∷ cs)) (c ∷ cs)) (omega (arith, length-take (run_length (c ∷ cs)) (c ∷ cs))))))

by_stands : (at : ℕ) (o : Option Token) (bytes : List ℕ) → MarkStands at o → IfStands at (token_by o at bytes)
by_stands at None bytes h = longer_stands at bytes
by_stands at (Some t) bytes h = h

token_stands : (at : ℕ) (bytes : List ℕ) → IfStands at (token_at at bytes)
unfolding token_at
token_stands at [] = tt
token_stands at (c ∷ cs) = by_stands at (mark_at at c) (c ∷ cs) (mark_stands at c)

spelled_stands : (at n : ℕ) (bytes : List ℕ) (t : Token) → token_at at bytes ≡ Ok (t, n) → Stands at n t
spelled_stands at n bytes t e = subst (IfStands at) e (token_stands at bytes)

-- ---- tokens that stand one after another

-- the tokens stand between two places, each behind the one before it
abbrev Rises : ℕ → List Token → ℕ → Type 0
Rises low [] high = low ≤ high
Rises low (Opens place ∷ ts) high = (low ≤ place) × Rises (place + 1) ts high
Rises low (OpensTuple place ∷ ts) high = (low ≤ place) × Rises (place + 1) ts high
Rises low (Closes end ∷ ts) high = (low < end) × Rises end ts high
Rises low (ClosesTuple end ∷ ts) high = (low < end) × Rises end ts high
Rises low (Is leaf s ∷ ts) high = (low ≤ s.start) × (s.start < s.end) × Rises s.end ts high
Rises low (t ∷ ts) high = Rises low ts high

lower : (low mid high : ℕ) (ts : List Token) → low ≤ mid → Rises mid ts high → Rises low ts high
lower low mid high [] h r = omega (arith, h, r)
lower low mid high (Opens place ∷ ts) h r = (omega (arith, h, r.0), r.1)
lower low mid high (OpensTuple place ∷ ts) h r = (omega (arith, h, r.0), r.1)
lower low mid high (Closes end ∷ ts) h r = (omega (arith, h, r.0), r.1)
lower low mid high (ClosesTuple end ∷ ts) h r = (omega (arith, h, r.0), r.1)
lower low mid high (Is leaf s ∷ ts) h r = (omega (arith, h, r.0), r.1, r.2)
lower low mid high (Separator ∷ ts) h r = lower low mid high ts h r
lower low mid high (Comment ∷ ts) h r = lower low mid high ts h r
lower low mid high (Colon ∷ ts) h r = lower low mid high ts h r
lower low mid high (Comma ∷ ts) h r = lower low mid high ts h r
lower low mid high (Key name ∷ ts) h r = lower low mid high ts h r
lower low mid high (Faulty b ∷ ts) h r = lower low mid high ts h r

cuts_rise : (at : ℕ) (bytes : List ℕ) (ts : List Token) (end : ℕ) (rest : List ℕ) → Cuts at bytes ts end rest → Rises at ts end
cuts_rise at bytes [] end rest c = omega (arith, c.0)
cuts_rise at bytes (Opens place ∷ ts) end rest (n, some, within, spells, more) =
    let s = spelled_stands at n bytes (Opens place) spells in
    (omega (arith, s), lower (place + 1) (at + n) end ts (omega (arith, s, some)) (cuts_rise (at + n) (drop n bytes) ts end rest more))
cuts_rise at bytes (OpensTuple place ∷ ts) end rest (n, some, within, spells, more) =
    let s = spelled_stands at n bytes (OpensTuple place) spells in
    (omega (arith, s), lower (place + 1) (at + n) end ts (omega (arith, s, some)) (cuts_rise (at + n) (drop n bytes) ts end rest more))
cuts_rise at bytes (Closes place ∷ ts) end rest (n, some, within, spells, more) =
    let s = spelled_stands at n bytes (Closes place) spells in
    (omega (arith, s), lower place (at + n) end ts (omega (arith, s, some)) (cuts_rise (at + n) (drop n bytes) ts end rest more))
cuts_rise at bytes (ClosesTuple place ∷ ts) end rest (n, some, within, spells, more) =
    let s = spelled_stands at n bytes (ClosesTuple place) spells in
    (omega (arith, s), lower place (at + n) end ts (omega (arith, s, some)) (cuts_rise (at + n) (drop n bytes) ts end rest more))
cuts_rise at bytes (Is leaf span ∷ ts) end rest (n, some, within, spells, more) =
    let s = spelled_stands at n bytes (Is leaf span) spells in
    (omega (arith, s.0), s.1, lower span.end (at + n) end ts s.2 (cuts_rise (at + n) (drop n bytes) ts end rest more))
cuts_rise at bytes (Separator ∷ ts) end rest (n, some, within, spells, more) = lower at (at + n) end ts (omega arith) (cuts_rise (at + n) (drop n bytes) ts end rest more)
cuts_rise at bytes (Comment ∷ ts) end rest (n, some, within, spells, more) = lower at (at + n) end ts (omega arith) (cuts_rise (at + n) (drop n bytes) ts end rest more)
cuts_rise at bytes (Colon ∷ ts) end rest (n, some, within, spells, more) = lower at (at + n) end ts (omega arith) (cuts_rise (at + n) (drop n bytes) ts end rest more)
cuts_rise at bytes (Comma ∷ ts) end rest (n, some, within, spells, more) = lower at (at + n) end ts (omega arith) (cuts_rise (at + n) (drop n bytes) ts end rest more)
cuts_rise at bytes (Key name ∷ ts) end rest (n, some, within, spells, more) = lower at (at + n) end ts (omega arith) (cuts_rise (at + n) (drop n bytes) ts end rest more)
cuts_rise at bytes (Faulty b ∷ ts) end rest (n, some, within, spells, more) = lower at (at + n) end ts (omega arith) (cuts_rise (at + n) (drop n bytes) ts end rest more)

unspaced_rises : (low : ℕ) (ts : List Token) (high : ℕ) → Rises low ts high → Rises low (unspaced ts) high
unspaced_rises low [] high r = r
unspaced_rises low (Opens place ∷ ts) high r = (r.0, unspaced_rises (place + 1) ts high r.1)
unspaced_rises low (OpensTuple place ∷ ts) high r = (r.0, unspaced_rises (place + 1) ts high r.1)
unspaced_rises low (Closes end ∷ ts) high r = (r.0, unspaced_rises end ts high r.1)
unspaced_rises low (ClosesTuple end ∷ ts) high r = (r.0, unspaced_rises end ts high r.1)
unspaced_rises low (Is leaf s ∷ ts) high r = (r.0, r.1, unspaced_rises s.end ts high r.2)
unspaced_rises low (Separator ∷ ts) high r = unspaced_rises low ts high r
unspaced_rises low (Comment ∷ ts) high r = unspaced_rises low ts high r
unspaced_rises low (Colon ∷ ts) high r = unspaced_rises low ts high r
unspaced_rises low (Comma ∷ ts) high r = unspaced_rises low ts high r
unspaced_rises low (Key name ∷ ts) high r = unspaced_rises low ts high r
unspaced_rises low (Faulty b ∷ ts) high r = unspaced_rises low ts high r

-- ---- items

row_lower : (low mid high : ℕ) (f : Forest) → low ≤ mid → ArePlaced mid high f → ArePlaced low high f
row_lower low mid high Empty h p = omega (arith, h, p)
row_lower low mid high (Then e es) h p = (omega (arith, h, p.0), p.1, p.2)

pairs_lower : (low mid high : ℕ) (ps : Pairs) → low ≤ mid → ArePairsPlaced mid high ps → ArePairsPlaced low high ps
pairs_lower low mid high NoPair h p = omega (arith, h, p)
pairs_lower low mid high (Pair k e ps) h p = (omega (arith, h, p.0), p.1, p.2)

-- the item is placed from a place on, and these tokens follow behind it
record ItemPlaced (low : ℕ) (e : Tree) (more : List Token) (high : ℕ) : Type 0 where
  after : low ≤ (span_of e).start
  placed : IsPlaced e
  rises : Rises (span_of e).end more high

-- the items are placed in front of each place behind them, and these tokens follow
record RowPlaced (low : ℕ) (f : Forest) (more : List Token) (high : ℕ) : Type 0 where
  last : ℕ
  placed : (end : ℕ) → last < end → ArePlaced low end f
  rises : Rises last more high

record PairsPlaced (low : ℕ) (ps : Pairs) (more : List Token) (high : ℕ) : Type 0 where
  last : ℕ
  placed : (end : ℕ) → last < end → ArePairsPlaced low end ps
  rises : Rises last more high

along : (low : ℕ) (ts us : List Token) (high : ℕ) → ts ≡ us → Rises low ts high → Rises low us high
along low ts us high e r = subst (λ xs. Rises low xs high) e r

list_tokens : (start end : ℕ) (ts inner more : List Token) → ts ≡ Opens start ∷ (inner ++ Closes end ∷ []) → ts ++ more ≡ Opens start ∷ (inner ++ Closes end ∷ more)
list_tokens start end ts inner more e = ap (λ xs. xs ++ more) e ∙ ap (λ xs. Opens start ∷ xs) (append_assoc inner (Closes end ∷ []) more)

tuple_tokens : (start end : ℕ) (ts inner more : List Token) → ts ≡ OpensTuple start ∷ (inner ++ ClosesTuple end ∷ []) → ts ++ more ≡ OpensTuple start ∷ (inner ++ ClosesTuple end ∷ more)
tuple_tokens start end ts inner more e = ap (λ xs. xs ++ more) e ∙ ap (λ xs. OpensTuple start ∷ xs) (append_assoc inner (ClosesTuple end ∷ []) more)

row_tokens : (ts one others more : List Token) → ts ≡ one ++ others → ts ++ more ≡ one ++ (others ++ more)
row_tokens ts one others more e = ap (λ xs. xs ++ more) e ∙ append_assoc one others more

mutual
  item_placed : (e : Tree) (ts : List Token) → IsItem e ts → (low : ℕ) (more : List Token) (high : ℕ) → Rises low (ts ++ more) high → ItemPlaced low e more high
  item_placed (LeafAt leaf span) ts i low more high r =
      let s = along low (ts ++ more) (Is leaf span ∷ more) high (ap (λ xs. xs ++ more) i) r in
      record { after = s.0; placed = s.1; rises = s.2 }
  item_placed (ListAt items span) ts (inner, row, is) low more high r =
      let s = along low (ts ++ more) (Opens span.start ∷ (inner ++ Closes span.end ∷ more)) high (list_tokens span.start span.end ts inner more is) r in
      let p = row_placed items inner row (span.start + 1) (Closes span.end ∷ more) high s.1 in
      record { after = s.0; placed = row_lower span.start (span.start + 1) span.end items (omega arith) (p.placed span.end p.rises.0); rises = p.rises.1 }
  item_placed (TupleAt parts span) ts (inner, pairs, is) low more high r =
      let s = along low (ts ++ more) (OpensTuple span.start ∷ (inner ++ ClosesTuple span.end ∷ more)) high (tuple_tokens span.start span.end ts inner more is) r in
      let p = pairs_placed parts inner pairs (span.start + 1) (ClosesTuple span.end ∷ more) high s.1 in
      record { after = s.0; placed = pairs_lower span.start (span.start + 1) span.end parts (omega arith) (p.placed span.end p.rises.0); rises = p.rises.1 }

  row_placed : (f : Forest) (ts : List Token) → IsRow f ts → (low : ℕ) (more : List Token) (high : ℕ) → Rises low (ts ++ more) high → RowPlaced low f more high
  row_placed Empty ts i low more high r = record { last = low; placed = λ end h. h; rises = along low (ts ++ more) more high (ap (λ xs. xs ++ more) i) r }
  row_placed (Then e es) ts (one, others, item, row, is) low more high r =
      let p = item_placed e one item low (others ++ more) high (along low (ts ++ more) (one ++ (others ++ more)) high (row_tokens ts one others more is) r) in
      let q = row_placed es others row (span_of e).end more high p.rises in
      record { last = q.last; placed = λ end h. (p.after, p.placed, q.placed end h); rises = q.rises }

  pairs_placed : (ps : Pairs) (ts : List Token) → ArePairs ps ts → (low : ℕ) (more : List Token) (high : ℕ) → Rises low (ts ++ more) high → PairsPlaced low ps more high
  pairs_placed NoPair ts i low more high r = absurd i
  pairs_placed (Pair key e ps) ts (one, others, item, pairs, is) low more high r =
      let p = item_placed e one item low (others ++ more) high (along low (ts ++ more) (Key key ∷ Colon ∷ (one ++ (others ++ more))) high (row_tokens ts (Key key ∷ Colon ∷ one) others more is) r) in
      let q = more_placed ps others pairs (span_of e).end more high p.rises in
      record { last = q.last; placed = λ end h. (p.after, p.placed, q.placed end h); rises = q.rises }

  more_placed : (ps : Pairs) (ts : List Token) → AreMore ps ts → (low : ℕ) (more : List Token) (high : ℕ) → Rises low (ts ++ more) high → PairsPlaced low ps more high
  more_placed NoPair ts (inl i) low more high r = record { last = low; placed = λ end h. h; rises = along low (ts ++ more) more high (ap (λ xs. xs ++ more) i) r }
  more_placed NoPair ts (inr i) low more high r = record { last = low; placed = λ end h. h; rises = along low (ts ++ more) (Comma ∷ more) high (ap (λ xs. xs ++ more) i) r }
  more_placed (Pair key e ps) ts (one, others, item, pairs, is) low more high r =
      let p = item_placed e one item low (others ++ more) high (along low (ts ++ more) (Comma ∷ Key key ∷ Colon ∷ (one ++ (others ++ more))) high (row_tokens ts (Comma ∷ Key key ∷ Colon ∷ one) others more is) r) in
      let q = more_placed ps others pairs (span_of e).end more high p.rises in
      record { last = q.last; placed = λ end h. (p.after, p.placed, q.placed end h); rises = q.rises }

-- the items of a text stand in it
pub reads_placed : (bytes : List ℕ) (items : Forest) → Reads bytes items → ArePlaced 0 (length bytes + 1) items
reads_placed bytes items x =
    let rises = unspaced_rises 0 x.tokens (length bytes) (cuts_rise 0 bytes x.tokens (length bytes) [] x.cut) in
    let p = row_placed items (unspaced x.tokens) x.row 0 [] (length bytes) (along 0 (unspaced x.tokens) (unspaced x.tokens ++ []) (length bytes) (sym (append-nil (unspaced x.tokens))) rises) in
    p.placed (length bytes + 1) (omega (arith, p.rises))

-- Tokens that follow each other are rows of items.
use Rattle.std.proofs.Common.{◌≡◌, ◌⊎◌, inl, inr, ℕ, ◌+◌, ◌<◌, ◌≤◌, List, [], ◌∷◌, ◌++◌, length, ltb, Bool, ◌&&◌, true, false, cond, Option, Some, None, refl, arith, append_assoc, append-nil, sym, ap, ◌∙◌, subst}
use Rattle.std.specs.Option.{option_and_then}
use Rattle.std.proofs.lemmas.Bool.Decides.{nat_tests}
use Rattle.cl_sexpr.specs.Tree.{Tree, Forest, Pairs, LeafAt, ListAt, TupleAt, Empty, Then, NoPair, Pair, tree_depth, forest_depth, pairs_depth}
use Rattle.cl_sexpr.specs.Token.{Token, Separator, Comment, Colon, Comma, Opens, Closes, OpensTuple, ClosesTuple, Key, Is, Faulty, First, AfterKey, AfterColon, AfterItem, AfterComma, Open, InList, InTuple, bare, tree_tokens, forest_tokens, pairs_tokens, takes, after_item, with_item, with_colon, with_comma, next, open_after}
use Rattle.cl_sexpr.specs.Grammar.{unspaced, IsItem, IsRow, ArePairs, AreMore}

-- a token in front of others, and what follows it
pub record Front (t : Token) (os r : List Open) (spaced us : List Token) : Type 0 where
  pub rest : List Token
  pub whole : spaced ≡ t ∷ unspaced rest
  pub bare_is : bare rest ≡ us
  pub follows : option_and_then (λ o. open_after o rest) (next os t) ≡ Some r

front : (x h : Token) (os r : List Open) (ts us : List Token) → x ∷ bare ts ≡ h ∷ us → option_and_then (λ o. open_after o ts) (next os x) ≡ Some r → Front h os r (x ∷ unspaced ts) us
front x h os r ts us e f =
    let same : x ≡ h = cc in
    let tails : bare ts ≡ us = cc in
    record {
      rest = ts;
      whole = ap (λ (z : Token). z ∷ unspaced ts) same;
      bare_is = tails;
      follows = ap (λ (z : Token). option_and_then (λ o. open_after o ts) (next os z)) (sym same) ∙ f;
    }

abbrev Fronts : Token → List Open → List Open → List Token → List Token → Type 0
Fronts h os r spaced us = Front h os r spaced us ⊎ (Front Colon os r spaced (h ∷ us) ⊎ Front Comma os r spaced (h ∷ us))

-- what is in front: the next token that carries an item, or a colon or comma
fronts : (os r : List Open) (ts : List Token) (h : Token) (us : List Token) → open_after os ts ≡ Some r → bare ts ≡ h ∷ us → Fronts h os r (unspaced ts) us
fronts os r [] h us f e = absurd (nil_cons h us e)
  where
    nil_cons : (h : Token) (us : List Token) → [] ≡ h ∷ us → ⊥
    nil_cons h us e = cc
fronts os r (Separator ∷ ts) h us f e = fronts os r ts h us f e
fronts os r (Comment ∷ ts) h us f e = fronts os r ts h us f e
fronts os r (Colon ∷ ts) h us f e = inr (inl (record { rest = ts; whole = refl; bare_is = e; follows = f }))
fronts os r (Comma ∷ ts) h us f e = inr (inr (record { rest = ts; whole = refl; bare_is = e; follows = f }))
fronts os r (Opens at ∷ ts) h us f e = inl (front (Opens at) h os r ts us e f)
fronts os r (Closes end ∷ ts) h us f e = inl (front (Closes end) h os r ts us e f)
fronts os r (OpensTuple at ∷ ts) h us f e = inl (front (OpensTuple at) h os r ts us e f)
fronts os r (ClosesTuple end ∷ ts) h us f e = inl (front (ClosesTuple end) h os r ts us e f)
fronts os r (Key name ∷ ts) h us f e = inl (front (Key name) h os r ts us e f)
fronts os r (Is leaf span ∷ ts) h us f e = inl (front (Is leaf span) h os r ts us e f)
fronts os r (Faulty b ∷ ts) h us f e = inl (front (Faulty b) h os r ts us e f)

pub none_some : (r : List Open) → ◌≡◌ {A = Option (List Open)} None (Some r) → ⊥
none_some r e = cc

stuck : (n : Option (List Open)) (r : List Open) (ts : List Token) → n ≡ None → option_and_then (λ o. open_after o ts) n ≡ Some r → ⊥
stuck n r ts e f = none_some r (ap (option_and_then (λ o. open_after o ts)) (sym e) ∙ f)

goes : (n : Option (List Open)) (mid r : List Open) (ts : List Token) → n ≡ Some mid → option_and_then (λ o. open_after o ts) n ≡ Some r → open_after mid ts ≡ Some r
goes n mid r ts e f = ap (option_and_then (λ o. open_after o ts)) (sym e) ∙ f

false_true : false ≡ true → ⊥
false_true e = cc

no_colon : (os : List Open) → takes os ≡ true → with_colon os ≡ None
no_colon [] k = refl
no_colon (InList p ∷ os) k = refl
no_colon (InTuple p First ∷ os) k = refl
no_colon (InTuple p AfterKey ∷ os) k = absurd (false_true k)
no_colon (InTuple p AfterColon ∷ os) k = refl
no_colon (InTuple p AfterItem ∷ os) k = refl
no_colon (InTuple p AfterComma ∷ os) k = refl

no_comma : (os : List Open) → takes os ≡ true → with_comma os ≡ None
no_comma [] k = refl
no_comma (InList p ∷ os) k = refl
no_comma (InTuple p First ∷ os) k = refl
no_comma (InTuple p AfterKey ∷ os) k = refl
no_comma (InTuple p AfterColon ∷ os) k = refl
no_comma (InTuple p AfterItem ∷ os) k = absurd (false_true k)
no_comma (InTuple p AfterComma ∷ os) k = refl

pub with_item_takes : (os : List Open) → takes os ≡ true → with_item os ≡ Some (after_item os)
with_item_takes os k = rw k refl

-- where an item may stand
item_front : (os r : List Open) (ts : List Token) (h : Token) (us : List Token) → takes os ≡ true → open_after os ts ≡ Some r → bare ts ≡ h ∷ us → Front h os r (unspaced ts) us
item_front os r ts h us k f e = go (fronts os r ts h us f e)
  where
    go : Fronts h os r (unspaced ts) us → Front h os r (unspaced ts) us
    go (inl m) = m
    go (inr (inl m)) = absurd (stuck (with_colon os) r m.rest (no_colon os k) m.follows)
    go (inr (inr m)) = absurd (stuck (with_comma os) r m.rest (no_comma os k) m.follows)

and_false : (b : Bool) → (b && false) ≡ false
and_false true = refl
and_false false = refl

both_true : (a b : Bool) → (a && b) ≡ true → (a ≡ true) × (b ≡ true)
both_true true b e = (refl, e)
both_true false b e = absurd (false_true e)

-- a bracket that was opened
opened : (o : Open) (os r : List Open) (ts : List Token) → option_and_then (λ o. open_after o ts) (cond (ltb (length os) 64 && takes os) (Some (o ∷ os)) None) ≡ Some r → (length os < 64) × (open_after (o ∷ os) ts ≡ Some r)
opened o os r ts f =
    let w = go (ltb (length os) 64 && takes os) f in
    (below (length os) (both_true (ltb (length os) 64) (takes os) w.0).0, w.1)
  where
    go : (b : Bool) → option_and_then (λ o. open_after o ts) (cond b (Some (o ∷ os)) None) ≡ Some r → (b ≡ true) × (open_after (o ∷ os) ts ≡ Some r)
    go true f = (refl, f)
    go false f = absurd (none_some r f)

    below : (n : ℕ) → ltb n 64 ≡ true → n < 64
    below n h = grind (arith, nat_tests)

-- the first token of an item, which can't stand directly behind a key
item_begins : (t : Tree) → (h : Token) × (hs : List Token) × (tree_tokens t ≡ h ∷ hs) × ((p : ℕ) (os : List Open) → next (InTuple p AfterKey ∷ os) h ≡ None)
item_begins (LeafAt l s) = (Is l s, [], refl, λ p os. refl)
item_begins (ListAt f s) = (Opens s.start, forest_tokens f ++ Closes s.end ∷ [], refl, λ p os. rw and_false refl)
item_begins (TupleAt ps s) = (OpensTuple s.start, pairs_tokens ps ++ ClosesTuple s.end ∷ [], refl, λ p os. rw and_false refl)

-- tokens in front that are so, and what follows them
pub record Splits (P : List Token → Type 0) (after r : List Open) (spaced us : List Token) : Type 0 where
  pub one : List Token
  pub rest : List Token
  pub is : P one
  pub whole : spaced ≡ one ++ unspaced rest
  pub bare_is : bare rest ≡ us
  pub follows : open_after after rest ≡ Some r

-- the same up to the end of a tuple
pub record Ends (P : List Token → Type 0) (end : ℕ) (os r : List Open) (spaced us : List Token) : Type 0 where
  pub inner : List Token
  pub rest : List Token
  pub is : P inner
  pub whole : spaced ≡ inner ++ (ClosesTuple end ∷ unspaced rest)
  pub bare_is : bare rest ≡ us
  pub follows : option_and_then (λ o. open_after o rest) (with_item os) ≡ Some r

-- a colon, an item and what stands behind a pair
abbrev IsValue : Tree → Pairs → List Token → Type 0
IsValue t ps ts = (one others : List Token) × IsItem t one × AreMore ps others × (ts ≡ Colon ∷ (one ++ others))

-- a key, where a tuple begins, behind an item with a comma between, and behind the comma
key_first : (p : ℕ) (os r : List Open) (ts : List Token) (key : List ℕ) (us : List Token) → open_after (InTuple p First ∷ os) ts ≡ Some r → bare ts ≡ Key key ∷ us → Front (Key key) (InTuple p First ∷ os) r (unspaced ts) us
key_first p os r ts key us f e = go (fronts (InTuple p First ∷ os) r ts (Key key) us f e)
  where
    go : Fronts (Key key) (InTuple p First ∷ os) r (unspaced ts) us → Front (Key key) (InTuple p First ∷ os) r (unspaced ts) us
    go (inl m) = m
    go (inr (inl m)) = absurd (none_some r m.follows)
    go (inr (inr m)) = absurd (none_some r m.follows)

key_later : (p : ℕ) (os r : List Open) (ts : List Token) (key : List ℕ) (us : List Token) → open_after (InTuple p AfterItem ∷ os) ts ≡ Some r → bare ts ≡ Key key ∷ us → Front Comma (InTuple p AfterItem ∷ os) r (unspaced ts) (Key key ∷ us)
key_later p os r ts key us f e = go (fronts (InTuple p AfterItem ∷ os) r ts (Key key) us f e)
  where
    go : Fronts (Key key) (InTuple p AfterItem ∷ os) r (unspaced ts) us → Front Comma (InTuple p AfterItem ∷ os) r (unspaced ts) (Key key ∷ us)
    go (inl m) = absurd (none_some r m.follows)
    go (inr (inl m)) = absurd (none_some r m.follows)
    go (inr (inr m)) = m

key_comma : (p : ℕ) (os r : List Open) (ts : List Token) (key : List ℕ) (us : List Token) → open_after (InTuple p AfterComma ∷ os) ts ≡ Some r → bare ts ≡ Key key ∷ us → Front (Key key) (InTuple p AfterComma ∷ os) r (unspaced ts) us
key_comma p os r ts key us f e = go (fronts (InTuple p AfterComma ∷ os) r ts (Key key) us f e)
  where
    go : Fronts (Key key) (InTuple p AfterComma ∷ os) r (unspaced ts) us → Front (Key key) (InTuple p AfterComma ∷ os) r (unspaced ts) us
    go (inl m) = m
    go (inr (inl m)) = absurd (none_some r m.follows)
    go (inr (inr m)) = absurd (none_some r m.follows)

-- a colon, behind a key
colon_front : (p : ℕ) (os r : List Open) (ts : List Token) (h : Token) (us : List Token) → next (InTuple p AfterKey ∷ os) h ≡ None → open_after (InTuple p AfterKey ∷ os) ts ≡ Some r → bare ts ≡ h ∷ us → Front Colon (InTuple p AfterKey ∷ os) r (unspaced ts) (h ∷ us)
colon_front p os r ts h us never f e = go (fronts (InTuple p AfterKey ∷ os) r ts h us f e)
  where
    go : Fronts h (InTuple p AfterKey ∷ os) r (unspaced ts) us → Front Colon (InTuple p AfterKey ∷ os) r (unspaced ts) (h ∷ us)
    go (inl m) = absurd (stuck (next (InTuple p AfterKey ∷ os) h) r m.rest never m.follows)
    go (inr (inl m)) = m
    go (inr (inr m)) = absurd (none_some r m.follows)

-- a colon and an item, behind a key
value_front : (t : Tree) (p : ℕ) (os r : List Open) (ts after : List Token) → open_after (InTuple p AfterKey ∷ os) ts ≡ Some r → bare ts ≡ tree_tokens t ++ after → Front Colon (InTuple p AfterKey ∷ os) r (unspaced ts) (tree_tokens t ++ after)
value_front t p os r ts after f e =
    let b = item_begins t in
    let m = colon_front p os r ts b.0 (b.1 ++ after) (b.3 p os) f (e ∙ ap (λ (z : List Token). z ++ after) b.2) in
    record { rest = m.rest; whole = m.whole; bare_is = m.bare_is ∙ ap (λ (z : List Token). z ++ after) (sym b.2); follows = m.follows }

value_ends : (t : Tree) (ps : Pairs) (p end : ℕ) (os r : List Open) (ts us : List Token) (m : Front Colon (InTuple p AfterKey ∷ os) r (unspaced ts) (tree_tokens t ++ (pairs_tokens ps ++ (ClosesTuple end ∷ us)))) (a : Splits (IsItem t) (InTuple p AfterItem ∷ os) r (unspaced m.rest) (pairs_tokens ps ++ (ClosesTuple end ∷ us))) → Ends (AreMore ps) end os r (unspaced a.rest) us → Ends (IsValue t ps) end os r (unspaced ts) us
value_ends t ps p end os r ts us m a n = record {
  inner = Colon ∷ (a.one ++ n.inner);
  rest = n.rest;
  is = (a.one, n.inner, a.is, n.is, refl);
  whole = m.whole ∙ ap (λ (z : List Token). Colon ∷ z) (a.whole ∙ (ap (λ (z : List Token). a.one ++ z) n.whole ∙ sym (append_assoc a.one n.inner (ClosesTuple end ∷ unspaced n.rest))));
  bare_is = n.bare_is;
  follows = n.follows;
}

-- no tuple ends where it begins
no_end : (p end : ℕ) (os r : List Open) (ts us : List Token) → open_after (InTuple p First ∷ os) ts ≡ Some r → bare ts ≡ ClosesTuple end ∷ us → ⊥
no_end p end os r ts us f e = go (fronts (InTuple p First ∷ os) r ts (ClosesTuple end) us f e)
  where
    go : Fronts (ClosesTuple end) (InTuple p First ∷ os) r (unspaced ts) us → ⊥
    go (inl m) = none_some r m.follows
    go (inr (inl m)) = none_some r m.follows
    go (inr (inr m)) = none_some r m.follows

-- a tuple ends behind an item, or behind a last comma
end_row : (p end : ℕ) (os r : List Open) (ts us : List Token) → open_after (InTuple p AfterItem ∷ os) ts ≡ Some r → bare ts ≡ ClosesTuple end ∷ us → Ends (AreMore NoPair) end os r (unspaced ts) us
end_row p end os r ts us f e = go (fronts (InTuple p AfterItem ∷ os) r ts (ClosesTuple end) us f e)
  where
    last : (m : Front Comma (InTuple p AfterItem ∷ os) r (unspaced ts) (ClosesTuple end ∷ us)) → Fronts (ClosesTuple end) (InTuple p AfterComma ∷ os) r (unspaced m.rest) us → Ends (AreMore NoPair) end os r (unspaced ts) us
    last m (inl n) = record { inner = Comma ∷ []; rest = n.rest; is = inr refl; whole = m.whole ∙ ap (λ (z : List Token). Comma ∷ z) n.whole; bare_is = n.bare_is; follows = n.follows }
    last m (inr (inl n)) = absurd (none_some r n.follows)
    last m (inr (inr n)) = absurd (none_some r n.follows)

    go : Fronts (ClosesTuple end) (InTuple p AfterItem ∷ os) r (unspaced ts) us → Ends (AreMore NoPair) end os r (unspaced ts) us
    go (inl m) = record { inner = []; rest = m.rest; is = inl refl; whole = m.whole; bare_is = m.bare_is; follows = m.follows }
    go (inr (inl m)) = absurd (none_some r m.follows)
    go (inr (inr m)) = last m (fronts (InTuple p AfterComma ∷ os) r m.rest (ClosesTuple end) us m.follows m.bare_is)

mutual
  pub tree_row : (t : Tree) (os r : List Open) (ts us : List Token) → takes os ≡ true → length os ≤ 64 → open_after os ts ≡ Some r → bare ts ≡ tree_tokens t ++ us → Splits (IsItem t) (after_item os) r (unspaced ts) us × (length os + tree_depth t ≤ 64)
  tree_row (LeafAt l s) os r ts us k small f e =
      let h = item_front os r ts (Is l s) us k f e in
      (record { one = Is l s ∷ []; rest = h.rest; is = refl; whole = h.whole; bare_is = h.bare_is; follows = goes (with_item os) (after_item os) r h.rest (with_item_takes os k) h.follows }, omega (arith, small))
  tree_row (ListAt g s) os r ts us k small f e =
      let h = item_front os r ts (Opens s.start) ((forest_tokens g ++ Closes s.end ∷ []) ++ us) k f e in
      let o = opened (InList s.start) os r h.rest h.follows in
      let n = forest_row g (InList s.start ∷ os) r h.rest (Closes s.end ∷ us) refl refl (omega (arith, o.0)) o.1 (h.bare_is ∙ append_assoc (forest_tokens g) (Closes s.end ∷ []) us) in
      let c = item_front (InList s.start ∷ os) r n.0.rest (Closes s.end) us refl n.0.follows n.0.bare_is in (
        record {
          one = Opens s.start ∷ (n.0.one ++ Closes s.end ∷ []);
          rest = c.rest;
          is = (n.0.one, n.0.is, refl);
          whole = h.whole ∙ ap (λ (z : List Token). Opens s.start ∷ z) (n.0.whole ∙ (ap (λ (z : List Token). n.0.one ++ z) c.whole ∙ sym (append_assoc n.0.one (Closes s.end ∷ []) (unspaced c.rest))));
          bare_is = c.bare_is;
          follows = goes (with_item os) (after_item os) r c.rest (with_item_takes os k) c.follows;
        },
        omega (arith, n.1),
      )
  tree_row (TupleAt ps s) os r ts us k small f e =
      let h = item_front os r ts (OpensTuple s.start) ((pairs_tokens ps ++ ClosesTuple s.end ∷ []) ++ us) k f e in
      let o = opened (InTuple s.start First) os r h.rest h.follows in
      let n = pairs_row ps s.start s.end os r h.rest us (omega (arith, o.0)) o.1 (h.bare_is ∙ append_assoc (pairs_tokens ps) (ClosesTuple s.end ∷ []) us) in (
        record {
          one = OpensTuple s.start ∷ (n.0.inner ++ ClosesTuple s.end ∷ []);
          rest = n.0.rest;
          is = (n.0.inner, n.0.is, refl);
          whole = h.whole ∙ ap (λ (z : List Token). OpensTuple s.start ∷ z) (n.0.whole ∙ sym (append_assoc n.0.inner (ClosesTuple s.end ∷ []) (unspaced n.0.rest)));
          bare_is = n.0.bare_is;
          follows = goes (with_item os) (after_item os) r n.0.rest (with_item_takes os k) n.0.follows;
        },
        omega (arith, n.1),
      )

  pub forest_row : (f : Forest) (os r : List Open) (ts us : List Token) → takes os ≡ true → after_item os ≡ os → length os ≤ 64 → open_after os ts ≡ Some r → bare ts ≡ forest_tokens f ++ us → Splits (IsRow f) os r (unspaced ts) us × (length os + forest_depth f ≤ 64)
  forest_row Empty os r ts us k stays small f e = (record { one = []; rest = ts; is = refl; whole = refl; bare_is = e; follows = f }, omega (arith, small))
  forest_row (Then t g) os r ts us k stays small f e =
      let a = tree_row t os r ts (forest_tokens g ++ us) k small f (e ∙ append_assoc (tree_tokens t) (forest_tokens g) us) in
      let b = forest_row g os r a.0.rest us k stays small (ap (λ (o : List Open). open_after o a.0.rest) (sym stays) ∙ a.0.follows) a.0.bare_is in (
        record {
          one = a.0.one ++ b.0.one;
          rest = b.0.rest;
          is = (a.0.one, b.0.one, a.0.is, b.0.is, refl);
          whole = a.0.whole ∙ (ap (λ (z : List Token). a.0.one ++ z) b.0.whole ∙ sym (append_assoc a.0.one b.0.one (unspaced b.0.rest)));
          bare_is = b.0.bare_is;
          follows = b.0.follows;
        },
        omega (arith, a.1, b.1),
      )

  pairs_row : (ps : Pairs) (p end : ℕ) (os r : List Open) (ts us : List Token) → length os < 64 → open_after (InTuple p First ∷ os) ts ≡ Some r → bare ts ≡ pairs_tokens ps ++ (ClosesTuple end ∷ us) → Ends (ArePairs ps) end os r (unspaced ts) us × (length os + 1 + pairs_depth ps ≤ 64)
  pairs_row NoPair p end os r ts us small f e = absurd (no_end p end os r ts us f e)
  pairs_row (Pair key t ps) p end os r ts us small f e =
      let k = key_first p os r ts key ((tree_tokens t ++ pairs_tokens ps) ++ (ClosesTuple end ∷ us)) f e in
      let m = value_front t p os r k.rest (pairs_tokens ps ++ (ClosesTuple end ∷ us)) k.follows (k.bare_is ∙ append_assoc (tree_tokens t) (pairs_tokens ps) (ClosesTuple end ∷ us)) in
      let a = tree_row t (InTuple p AfterColon ∷ os) r m.rest (pairs_tokens ps ++ (ClosesTuple end ∷ us)) refl (omega (arith, small)) m.follows m.bare_is in
      let n = more_row ps p end os r a.0.rest us small a.0.follows a.0.bare_is in
      let v = value_ends t ps p end os r k.rest us m a.0 n.0 in (
        record {
          inner = Key key ∷ v.inner;
          rest = v.rest;
          is = (v.is.0, v.is.1, v.is.2, v.is.3, ap (λ (z : List Token). Key key ∷ z) v.is.4);
          whole = k.whole ∙ ap (λ (z : List Token). Key key ∷ z) v.whole;
          bare_is = v.bare_is;
          follows = v.follows;
        },
        omega (arith, a.1, n.1),
      )

  more_row : (ps : Pairs) (p end : ℕ) (os r : List Open) (ts us : List Token) → length os < 64 → open_after (InTuple p AfterItem ∷ os) ts ≡ Some r → bare ts ≡ pairs_tokens ps ++ (ClosesTuple end ∷ us) → Ends (AreMore ps) end os r (unspaced ts) us × (length os + 1 + pairs_depth ps ≤ 64)
  more_row NoPair p end os r ts us small f e = (end_row p end os r ts us f e, omega (arith, small))
  more_row (Pair key t ps) p end os r ts us small f e =
      let c = key_later p os r ts key ((tree_tokens t ++ pairs_tokens ps) ++ (ClosesTuple end ∷ us)) f e in
      let k = key_comma p os r c.rest key ((tree_tokens t ++ pairs_tokens ps) ++ (ClosesTuple end ∷ us)) c.follows c.bare_is in
      let m = value_front t p os r k.rest (pairs_tokens ps ++ (ClosesTuple end ∷ us)) k.follows (k.bare_is ∙ append_assoc (tree_tokens t) (pairs_tokens ps) (ClosesTuple end ∷ us)) in
      let a = tree_row t (InTuple p AfterColon ∷ os) r m.rest (pairs_tokens ps ++ (ClosesTuple end ∷ us)) refl (omega (arith, small)) m.follows m.bare_is in
      let n = more_row ps p end os r a.0.rest us small a.0.follows a.0.bare_is in
      let v = value_ends t ps p end os r k.rest us m a.0 n.0 in (
        record {
          inner = Comma ∷ Key key ∷ v.inner;
          rest = v.rest;
          is = (v.is.0, v.is.1, v.is.2, v.is.3, ap (λ (z : List Token). Comma ∷ Key key ∷ z) v.is.4);
          whole = c.whole ∙ ap (λ (z : List Token). Comma ∷ z) (k.whole ∙ ap (λ (z : List Token). Key key ∷ z) v.whole);
          bare_is = v.bare_is;
          follows = v.follows;
        },
        omega (arith, a.1, n.1),
      )

-- tokens that open and close in turn and carry these items are a row of them
pub whole_row : (f : Forest) (ts : List Token) → open_after [] ts ≡ Some [] → bare ts ≡ forest_tokens f → IsRow f (unspaced ts) × (forest_depth f ≤ 64)
whole_row f ts follows e =
    let s = forest_row f [] [] ts [] refl refl (omega arith) follows (e ∙ sym (append-nil (forest_tokens f))) in
    let end : unspaced s.0.rest ≡ [] = nothing s.0.rest s.0.bare_is s.0.follows in
    (subst (IsRow f) (sym (s.0.whole ∙ (ap (λ (z : List Token). s.0.one ++ z) end ∙ append-nil s.0.one))) s.0.is, omega (arith, s.1))
  where
    cons_nil : (t : Token) (ts : List Token) → t ∷ ts ≡ [] → ⊥
    cons_nil t ts e = cc

    nothing : (ts : List Token) → bare ts ≡ [] → open_after [] ts ≡ Some [] → unspaced ts ≡ []
    nothing [] e f = refl
    nothing (Separator ∷ ts) e f = nothing ts e f
    nothing (Comment ∷ ts) e f = nothing ts e f
    nothing (Colon ∷ ts) e f = absurd (none_some [] f)
    nothing (Comma ∷ ts) e f = absurd (none_some [] f)
    nothing (Opens at ∷ ts) e f = absurd (cons_nil (Opens at) (bare ts) e)
    nothing (Closes end ∷ ts) e f = absurd (cons_nil (Closes end) (bare ts) e)
    nothing (OpensTuple at ∷ ts) e f = absurd (cons_nil (OpensTuple at) (bare ts) e)
    nothing (ClosesTuple end ∷ ts) e f = absurd (cons_nil (ClosesTuple end) (bare ts) e)
    nothing (Key name ∷ ts) e f = absurd (cons_nil (Key name) (bare ts) e)
    nothing (Is leaf span ∷ ts) e f = absurd (cons_nil (Is leaf span) (bare ts) e)
    nothing (Faulty b ∷ ts) e f = absurd (cons_nil (Faulty b) (bare ts) e)

-- A row of items opens and closes its brackets in turn, and carries its items.
use Rattle.std.proofs.Common.{◌≡◌, inl, inr, ℕ, ◌+◌, ◌<◌, ◌≤◌, List, [], ◌∷◌, ◌++◌, length, ltb, true, Option, Some, None, refl, arith, append_assoc, append-nil, sym, ap, ◌∙◌}
use Rattle.std.specs.Option.{option_and_then}
use Rattle.std.proofs.lemmas.Bool.Decides.{nat_tests}
use Rattle.cl_sexpr.specs.Tree.{Tree, Forest, Pairs, LeafAt, ListAt, TupleAt, Empty, Then, NoPair, Pair, tree_depth, forest_depth, pairs_depth}
use Rattle.cl_sexpr.specs.Token.{Token, Separator, Comment, Colon, Comma, Opens, Closes, OpensTuple, ClosesTuple, Key, Is, Faulty, First, AfterColon, AfterItem, Open, InList, InTuple, bare, tree_tokens, forest_tokens, pairs_tokens, takes, after_item, with_item, with_open, next, open_after}
use Rattle.cl_sexpr.specs.Grammar.{unspaced, IsItem, IsRow, ArePairs, AreMore}
use Rattle.cl_sexpr.proofs.Steps.{bare-append}
use Rattle.cl_sexpr.proofs.Rows.{with_item_takes}

bare-unspaced : (ts : List Token) → bare (unspaced ts) ≡ bare ts
bare-unspaced [] = refl
bare-unspaced (Separator ∷ ts) = bare-unspaced ts
bare-unspaced (Comment ∷ ts) = bare-unspaced ts
bare-unspaced (Colon ∷ ts) = bare-unspaced ts
bare-unspaced (Comma ∷ ts) = bare-unspaced ts
bare-unspaced (Opens at ∷ ts) = ap (λ (x : List Token). Opens at ∷ x) (bare-unspaced ts)
bare-unspaced (Closes end ∷ ts) = ap (λ (x : List Token). Closes end ∷ x) (bare-unspaced ts)
bare-unspaced (OpensTuple at ∷ ts) = ap (λ (x : List Token). OpensTuple at ∷ x) (bare-unspaced ts)
bare-unspaced (ClosesTuple end ∷ ts) = ap (λ (x : List Token). ClosesTuple end ∷ x) (bare-unspaced ts)
bare-unspaced (Key name ∷ ts) = ap (λ (x : List Token). Key name ∷ x) (bare-unspaced ts)
bare-unspaced (Is leaf span ∷ ts) = ap (λ (x : List Token). Is leaf span ∷ x) (bare-unspaced ts)
bare-unspaced (Faulty r ∷ ts) = ap (λ (x : List Token). Faulty r ∷ x) (bare-unspaced ts)

both : (x y a b : List Token) → bare x ≡ a → bare y ≡ b → bare (x ++ y) ≡ a ++ b
both x y a b e f = bare-append x y ∙ λ i. e i ++ f i

mutual
  item_bare : (t : Tree) (ts : List Token) → IsItem t ts → bare ts ≡ tree_tokens t
  item_bare (LeafAt l s) ts h = ap bare h
  item_bare (ListAt f s) ts h = ap bare h.2 ∙ ap (λ (x : List Token). Opens s.start ∷ x) (both h.0 (Closes s.end ∷ []) (forest_tokens f) (Closes s.end ∷ []) (row_bare f h.0 h.1) refl)
  item_bare (TupleAt ps s) ts h = ap bare h.2 ∙ ap (λ (x : List Token). OpensTuple s.start ∷ x) (both h.0 (ClosesTuple s.end ∷ []) (pairs_tokens ps) (ClosesTuple s.end ∷ []) (pairs_bare ps h.0 h.1) refl)

  row_bare : (f : Forest) (ts : List Token) → IsRow f ts → bare ts ≡ forest_tokens f
  row_bare Empty ts h = ap bare h
  row_bare (Then t f) ts h = ap bare h.4 ∙ both h.0 h.1 (tree_tokens t) (forest_tokens f) (item_bare t h.0 h.2) (row_bare f h.1 h.3)

  pairs_bare : (ps : Pairs) (ts : List Token) → ArePairs ps ts → bare ts ≡ pairs_tokens ps
  pairs_bare NoPair ts h = absurd h
  pairs_bare (Pair k t ps) ts h = ap bare h.4 ∙ ap (λ (x : List Token). Key k ∷ x) (both h.0 h.1 (tree_tokens t) (pairs_tokens ps) (item_bare t h.0 h.2) (more_bare ps h.1 h.3))

  more_bare : (ps : Pairs) (ts : List Token) → AreMore ps ts → bare ts ≡ pairs_tokens ps
  more_bare NoPair ts (inl h) = ap bare h
  more_bare NoPair ts (inr h) = ap bare h
  more_bare (Pair k t ps) ts h = ap bare h.4 ∙ ap (λ (x : List Token). Key k ∷ x) (both h.0 h.1 (tree_tokens t) (pairs_tokens ps) (item_bare t h.0 h.2) (more_bare ps h.1 h.3))

pub carried : (f : Forest) (ts : List Token) → IsRow f (unspaced ts) → bare ts ≡ forest_tokens f
carried f ts h = sym (bare-unspaced ts) ∙ row_bare f (unspaced ts) h

-- blanks and comments open and close nothing
on : (n : Option (List Open)) (xs ys : List Token) → ((os : List Open) → open_after os xs ≡ open_after os ys) → option_and_then (λ os. open_after os xs) n ≡ option_and_then (λ os. open_after os ys) n
on None xs ys h = refl
on (Some os) xs ys h = h os

follows-unspaced : (ts : List Token) (os : List Open) → open_after os (unspaced ts) ≡ open_after os ts
follows-unspaced [] os = refl
follows-unspaced (Separator ∷ ts) os = follows-unspaced ts os
follows-unspaced (Comment ∷ ts) os = follows-unspaced ts os
follows-unspaced (Colon ∷ ts) os = on (next os Colon) (unspaced ts) ts (follows-unspaced ts)
follows-unspaced (Comma ∷ ts) os = on (next os Comma) (unspaced ts) ts (follows-unspaced ts)
follows-unspaced (Opens at ∷ ts) os = on (next os (Opens at)) (unspaced ts) ts (follows-unspaced ts)
follows-unspaced (Closes end ∷ ts) os = on (next os (Closes end)) (unspaced ts) ts (follows-unspaced ts)
follows-unspaced (OpensTuple at ∷ ts) os = on (next os (OpensTuple at)) (unspaced ts) ts (follows-unspaced ts)
follows-unspaced (ClosesTuple end ∷ ts) os = on (next os (ClosesTuple end)) (unspaced ts) ts (follows-unspaced ts)
follows-unspaced (Key name ∷ ts) os = on (next os (Key name)) (unspaced ts) ts (follows-unspaced ts)
follows-unspaced (Is leaf span ∷ ts) os = on (next os (Is leaf span)) (unspaced ts) ts (follows-unspaced ts)
follows-unspaced (Faulty r ∷ ts) os = refl

onward : (n : Option (List Open)) (mid : List Open) (us : List Token) → n ≡ Some mid → option_and_then (λ os. open_after os us) n ≡ open_after mid us
onward n mid us e = ap (option_and_then (λ os. open_after os us)) e

opens_here : (o : Open) (os : List Open) → takes os ≡ true → length os < 64 → with_open o os ≡ Some (o ∷ os)
opens_here o os k h =
    let test : ltb (length os) 64 ≡ true = under (length os) h in
    rw (test, k) refl
  where
    under : (n : ℕ) → n < 64 → ltb n 64 ≡ true
    under n h = grind (arith, nat_tests)

mutual
  item_follows : (t : Tree) (os : List Open) (ts us : List Token) → IsItem t ts → takes os ≡ true → length os + tree_depth t ≤ 64 → open_after os (ts ++ us) ≡ open_after (after_item os) us
  item_follows (LeafAt l s) os ts us h k d =
      ap (λ (x : List Token). open_after os (x ++ us)) h ∙ onward (with_item os) (after_item os) us (with_item_takes os k)
  item_follows (ListAt f s) os ts us h k d =
      let whole : ts ++ us ≡ Opens s.start ∷ (h.0 ++ (Closes s.end ∷ us)) = ap (λ (x : List Token). x ++ us) h.2 ∙ ap (λ (x : List Token). Opens s.start ∷ x) (append_assoc h.0 (Closes s.end ∷ []) us) in
      ap (λ (x : List Token). open_after os x) whole ∙ (onward (with_open (InList s.start) os) (InList s.start ∷ os) (h.0 ++ (Closes s.end ∷ us)) (opens_here (InList s.start) os k (omega (arith, d)))
      ∙ (row_follows f (InList s.start ∷ os) h.0 (Closes s.end ∷ us) h.1 refl refl (omega (arith, d)) ∙ onward (with_item os) (after_item os) us (with_item_takes os k)))
  item_follows (TupleAt ps s) os ts us h k d =
      let whole : ts ++ us ≡ OpensTuple s.start ∷ (h.0 ++ (ClosesTuple s.end ∷ us)) = ap (λ (x : List Token). x ++ us) h.2 ∙ ap (λ (x : List Token). OpensTuple s.start ∷ x) (append_assoc h.0 (ClosesTuple s.end ∷ []) us) in
      ap (λ (x : List Token). open_after os x) whole ∙ (onward (with_open (InTuple s.start First) os) (InTuple s.start First ∷ os) (h.0 ++ (ClosesTuple s.end ∷ us)) (opens_here (InTuple s.start First) os k (omega (arith, d)))
      ∙ pairs_follow ps s.start s.end os h.0 us h.1 k (omega (arith, d)))

  row_follows : (f : Forest) (os : List Open) (ts us : List Token) → IsRow f ts → takes os ≡ true → after_item os ≡ os → length os + forest_depth f ≤ 64 → open_after os (ts ++ us) ≡ open_after os us
  row_follows Empty os ts us h k stays d = ap (λ (x : List Token). open_after os (x ++ us)) h
  row_follows (Then t f) os ts us h k stays d =
      let whole : ts ++ us ≡ h.0 ++ (h.1 ++ us) = ap (λ (x : List Token). x ++ us) h.4 ∙ append_assoc h.0 h.1 us in
      ap (λ (x : List Token). open_after os x) whole ∙ (item_follows t os h.0 (h.1 ++ us) h.2 k (omega (arith, d)) ∙ (ap (λ (o : List Open). open_after o (h.1 ++ us)) stays ∙ row_follows f os h.1 us h.3 k stays (omega (arith, d))))

  pairs_follow : (ps : Pairs) (p end : ℕ) (os : List Open) (ts us : List Token) → ArePairs ps ts → takes os ≡ true → length os + 1 + pairs_depth ps ≤ 64 → open_after (InTuple p First ∷ os) (ts ++ (ClosesTuple end ∷ us)) ≡ open_after (after_item os) us
  pairs_follow NoPair p end os ts us h k d = absurd h
  pairs_follow (Pair key t ps) p end os ts us h k d =
      let whole : ts ++ (ClosesTuple end ∷ us) ≡ Key key ∷ Colon ∷ (h.0 ++ (h.1 ++ (ClosesTuple end ∷ us))) = ap (λ (x : List Token). x ++ (ClosesTuple end ∷ us)) h.4 ∙ ap (λ (x : List Token). Key key ∷ Colon ∷ x) (append_assoc h.0 h.1 (ClosesTuple end ∷ us)) in
      ap (λ (x : List Token). open_after (InTuple p First ∷ os) x) whole ∙ (item_follows t (InTuple p AfterColon ∷ os) h.0 (h.1 ++ (ClosesTuple end ∷ us)) h.2 refl (omega (arith, d)) ∙ more_follow ps p end os h.1 us h.3 k (omega (arith, d)))

  more_follow : (ps : Pairs) (p end : ℕ) (os : List Open) (ts us : List Token) → AreMore ps ts → takes os ≡ true → length os + 1 + pairs_depth ps ≤ 64 → open_after (InTuple p AfterItem ∷ os) (ts ++ (ClosesTuple end ∷ us)) ≡ open_after (after_item os) us
  more_follow NoPair p end os ts us (inl h) k d = ap (λ (x : List Token). open_after (InTuple p AfterItem ∷ os) (x ++ (ClosesTuple end ∷ us))) h ∙ onward (with_item os) (after_item os) us (with_item_takes os k)
  more_follow NoPair p end os ts us (inr h) k d = ap (λ (x : List Token). open_after (InTuple p AfterItem ∷ os) (x ++ (ClosesTuple end ∷ us))) h ∙ onward (with_item os) (after_item os) us (with_item_takes os k)
  more_follow (Pair key t ps) p end os ts us h k d =
      let whole : ts ++ (ClosesTuple end ∷ us) ≡ Comma ∷ Key key ∷ Colon ∷ (h.0 ++ (h.1 ++ (ClosesTuple end ∷ us))) = ap (λ (x : List Token). x ++ (ClosesTuple end ∷ us)) h.4 ∙ ap (λ (x : List Token). Comma ∷ Key key ∷ Colon ∷ x) (append_assoc h.0 h.1 (ClosesTuple end ∷ us)) in
      ap (λ (x : List Token). open_after (InTuple p AfterItem ∷ os) x) whole ∙ (item_follows t (InTuple p AfterColon ∷ os) h.0 (h.1 ++ (ClosesTuple end ∷ us)) h.2 refl (omega (arith, d)) ∙ more_follow ps p end os h.1 us h.3 k (omega (arith, d)))

-- the brackets of a whole row are closed in the end
pub row_closes : (f : Forest) (ts : List Token) → IsRow f (unspaced ts) → forest_depth f ≤ 64 → open_after [] ts ≡ Some []
row_closes f ts h d =
    sym (follows-unspaced ts []) ∙ (ap (λ (x : List Token). open_after [] x) (sym (append-nil (unspaced ts))) ∙ row_follows f [] (unspaced ts) [] h refl refl (omega (arith, d)))

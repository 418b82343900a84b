-- The brackets that are open in a text, with the items in them: a token that can stand there is taken.
use Rattle.std.proofs.Common.{◌≡◌, ℕ, List, [], ◌∷◌, ◌++◌, map, length, ltb, ◌&&◌, cond, Bool, true, false, Some, None, refl, append_assoc, append-nil, sym, ap, ◌∙◌}
use Rattle.cl_sexpr.specs.Tree.{Tree, LeafAt, ListAt, TupleAt, forest, pairs}
use Rattle.cl_sexpr.specs.Token.{Token, Separator, Comment, Colon, Comma, Opens, Closes, OpensTuple, ClosesTuple, Key, Is, Faulty, Phase, First, AfterKey, AfterColon, AfterItem, AfterComma, Open, InList, InTuple, bare, tree_tokens, forest_tokens, pairs_tokens, takes, with_item, next}
use Rattle.cl_sexpr.proofs.Steps.{some_same}
use Rattle.cl_sexpr.proofs.Rows.{none_some}
use Rattle.cl_sexpr.proofs.Levels.{forest_tokens_push, pair_made}

-- where a tuple stands, with the key that waits for its item
pub data Stage : Type 0 where
  AtFirst : Stage
  HasKey : List ℕ → Stage
  HasColon : List ℕ → Stage
  HasItem : Stage
  HasComma : Stage

pub data Level : Type 0 where
  Items : ℕ → List Tree → Level
  Parts : ℕ → List (List ℕ × Tree) → Stage → Level

abbrev pub phase_in : Stage → Phase
phase_in AtFirst = First
phase_in (HasKey key) = AfterKey
phase_in (HasColon key) = AfterColon
phase_in HasItem = AfterItem
phase_in HasComma = AfterComma

abbrev pub key_in : Stage → List Token
key_in AtFirst = []
key_in (HasKey key) = Key key ∷ []
key_in (HasColon key) = Key key ∷ []
key_in HasItem = []
key_in HasComma = []

abbrev pub bracket_of : Level → Open
bracket_of (Items p es) = InList p
bracket_of (Parts p ps stage) = InTuple p (phase_in stage)

abbrev pub tokens_in : Level → List Token
tokens_in (Items p es) = Opens p ∷ forest_tokens (forest es)
tokens_in (Parts p ps stage) = OpensTuple p ∷ (pairs_tokens (pairs ps) ++ key_in stage)

abbrev pub brackets : List Level → List Open
brackets ls = map bracket_of ls

-- the tokens of items and of the levels behind them, the innermost first
abbrev pub spelled : List Tree → List Level → List Token
spelled xs [] = forest_tokens (forest xs)
spelled xs (l ∷ ls) = spelled xs ls ++ tokens_in l

-- more was read, and these brackets are open
pub record Took (xs : List Tree) (ls : List Level) (added : List Token) (os : List Open) : Type 0 where
  pub items : List Tree
  pub levels : List Level
  pub open_are : brackets levels ≡ os
  pub more : spelled items levels ≡ spelled xs ls ++ added

module _ (xs : List Tree) where
  add : (t : Tree) (ls : List Level) (os : List Open) → with_item (brackets ls) ≡ Some os → Took xs ls (tree_tokens t) os
  add t [] os e = record { items = xs ++ t ∷ []; levels = []; open_are = some_same [] os e; more = forest_tokens_push xs t }
  add t (Items p es ∷ ls) os e = record {
    items = xs;
    levels = Items p (es ++ t ∷ []) ∷ ls;
    open_are = some_same (InList p ∷ brackets ls) os e;
    more = ap (λ (z : List Token). spelled xs ls ++ (Opens p ∷ z)) (forest_tokens_push es t) ∙ sym (append_assoc (spelled xs ls) (Opens p ∷ forest_tokens (forest es)) (tree_tokens t));
  }
  add t (Parts p ps (HasColon k) ∷ ls) os e = record {
    items = xs;
    levels = Parts p (ps ++ (k, t) ∷ []) HasItem ∷ ls;
    open_are = some_same (InTuple p AfterItem ∷ brackets ls) os e;
    more = ap (λ (z : List Token). spelled xs ls ++ (OpensTuple p ∷ z)) (pair_made ps k t) ∙ sym (append_assoc (spelled xs ls) (OpensTuple p ∷ (pairs_tokens (pairs ps) ++ Key k ∷ [])) (tree_tokens t));
  }
  add t (Parts p ps AtFirst ∷ ls) os e = absurd (none_some os e)
  add t (Parts p ps (HasKey k) ∷ ls) os e = absurd (none_some os e)
  add t (Parts p ps HasItem ∷ ls) os e = absurd (none_some os e)
  add t (Parts p ps HasComma ∷ ls) os e = absurd (none_some os e)

  -- no token that carries an item, and the innermost level says the same
  nothing_more : (l m : Level) (ls : List Level) (os : List Open) → tokens_in m ≡ tokens_in l → bracket_of m ∷ brackets ls ≡ os → Took xs (l ∷ ls) [] os
  nothing_more l m ls os same is = record {
    items = xs;
    levels = m ∷ ls;
    open_are = is;
    more = ap (λ (z : List Token). spelled xs ls ++ z) same ∙ sym (append-nil (spelled xs (l ∷ ls)));
  }

  as_before : (ls : List Level) (os : List Open) → Some (brackets ls) ≡ Some os → Took xs ls [] os
  as_before ls os e = record { items = xs; levels = ls; open_are = some_same (brackets ls) os e; more = sym (append-nil (spelled xs ls)) }

  was_opened : (b : Bool) (o : Open) (before os : List Open) → cond b (Some (o ∷ before)) None ≡ Some os → o ∷ before ≡ os
  was_opened true o before os e = some_same (o ∷ before) os e
  was_opened false o before os e = absurd (none_some os e)

  take_colon : (ls : List Level) (os : List Open) → next (brackets ls) Colon ≡ Some os → Took xs ls [] os
  take_colon [] os e = absurd (none_some os e)
  take_colon (Items p es ∷ ls) os e = absurd (none_some os e)
  take_colon (Parts p ps AtFirst ∷ ls) os e = absurd (none_some os e)
  take_colon (Parts p ps (HasKey k) ∷ ls) os e = nothing_more (Parts p ps (HasKey k)) (Parts p ps (HasColon k)) ls os refl (some_same (InTuple p AfterColon ∷ brackets ls) os e)
  take_colon (Parts p ps (HasColon k) ∷ ls) os e = absurd (none_some os e)
  take_colon (Parts p ps HasItem ∷ ls) os e = absurd (none_some os e)
  take_colon (Parts p ps HasComma ∷ ls) os e = absurd (none_some os e)

  take_comma : (ls : List Level) (os : List Open) → next (brackets ls) Comma ≡ Some os → Took xs ls [] os
  take_comma [] os e = absurd (none_some os e)
  take_comma (Items p es ∷ ls) os e = absurd (none_some os e)
  take_comma (Parts p ps AtFirst ∷ ls) os e = absurd (none_some os e)
  take_comma (Parts p ps (HasKey k) ∷ ls) os e = absurd (none_some os e)
  take_comma (Parts p ps (HasColon k) ∷ ls) os e = absurd (none_some os e)
  take_comma (Parts p ps HasItem ∷ ls) os e = nothing_more (Parts p ps HasItem) (Parts p ps HasComma) ls os refl (some_same (InTuple p AfterComma ∷ brackets ls) os e)
  take_comma (Parts p ps HasComma ∷ ls) os e = absurd (none_some os e)

  close_list : (end : ℕ) (ls : List Level) (os : List Open) → next (brackets ls) (Closes end) ≡ Some os → Took xs ls (Closes end ∷ []) os
  close_list end [] os e = absurd (none_some os e)
  close_list end (Items p es ∷ ls) os e =
      let a = add (ListAt (forest es) (record { start = p; end = end })) ls os e in
      record { items = a.items; levels = a.levels; open_are = a.open_are; more = a.more ∙ sym (append_assoc (spelled xs ls) (Opens p ∷ forest_tokens (forest es)) (Closes end ∷ [])) }
  close_list end (Parts p ps stage ∷ ls) os e = absurd (none_some os e)

  closed_tuple_is : (end p : ℕ) (ps : List (List ℕ × Tree)) (stage : Stage) (ls : List Level) (os : List Open) → key_in stage ≡ [] → with_item (brackets ls) ≡ Some os → Took xs (Parts p ps stage ∷ ls) (ClosesTuple end ∷ []) os
  closed_tuple_is end p ps stage ls os none e =
      let a = add (TupleAt (pairs ps) (record { start = p; end = end })) ls os e in
      let parts : pairs_tokens (pairs ps) ≡ pairs_tokens (pairs ps) ++ key_in stage = sym (append-nil (pairs_tokens (pairs ps))) ∙ ap (λ (z : List Token). pairs_tokens (pairs ps) ++ z) (sym none) in
      record {
        items = a.items;
        levels = a.levels;
        open_are = a.open_are;
        more = a.more ∙ (sym (append_assoc (spelled xs ls) (OpensTuple p ∷ pairs_tokens (pairs ps)) (ClosesTuple end ∷ [])) ∙ ap (λ (z : List Token). (spelled xs ls ++ (OpensTuple p ∷ z)) ++ ClosesTuple end ∷ []) parts);
      }

  close_tuple : (end : ℕ) (ls : List Level) (os : List Open) → next (brackets ls) (ClosesTuple end) ≡ Some os → Took xs ls (ClosesTuple end ∷ []) os
  close_tuple end [] os e = absurd (none_some os e)
  close_tuple end (Items p es ∷ ls) os e = absurd (none_some os e)
  close_tuple end (Parts p ps AtFirst ∷ ls) os e = absurd (none_some os e)
  close_tuple end (Parts p ps (HasKey k) ∷ ls) os e = absurd (none_some os e)
  close_tuple end (Parts p ps (HasColon k) ∷ ls) os e = absurd (none_some os e)
  close_tuple end (Parts p ps HasItem ∷ ls) os e = closed_tuple_is end p ps HasItem ls os refl e
  close_tuple end (Parts p ps HasComma ∷ ls) os e = closed_tuple_is end p ps HasComma ls os refl e

  keyed : (k : List ℕ) (p : ℕ) (ps : List (List ℕ × Tree)) (stage : Stage) (ls : List Level) (os : List Open) → key_in stage ≡ [] → InTuple p AfterKey ∷ brackets ls ≡ os → Took xs (Parts p ps stage ∷ ls) (Key k ∷ []) os
  keyed k p ps stage ls os none is =
      let parts : pairs_tokens (pairs ps) ≡ pairs_tokens (pairs ps) ++ key_in stage = sym (append-nil (pairs_tokens (pairs ps))) ∙ ap (λ (z : List Token). pairs_tokens (pairs ps) ++ z) (sym none) in
      record {
        items = xs;
        levels = Parts p ps (HasKey k) ∷ ls;
        open_are = is;
        more = sym (append_assoc (spelled xs ls) (OpensTuple p ∷ pairs_tokens (pairs ps)) (Key k ∷ [])) ∙ ap (λ (z : List Token). (spelled xs ls ++ (OpensTuple p ∷ z)) ++ Key k ∷ []) parts;
      }

  take_key : (k : List ℕ) (ls : List Level) (os : List Open) → next (brackets ls) (Key k) ≡ Some os → Took xs ls (Key k ∷ []) os
  take_key k [] os e = absurd (none_some os e)
  take_key k (Items p es ∷ ls) os e = absurd (none_some os e)
  take_key k (Parts p ps AtFirst ∷ ls) os e = keyed k p ps AtFirst ls os refl (some_same (InTuple p AfterKey ∷ brackets ls) os e)
  take_key k (Parts p ps (HasKey j) ∷ ls) os e = absurd (none_some os e)
  take_key k (Parts p ps (HasColon j) ∷ ls) os e = absurd (none_some os e)
  take_key k (Parts p ps HasItem ∷ ls) os e = absurd (none_some os e)
  take_key k (Parts p ps HasComma ∷ ls) os e = keyed k p ps HasComma ls os refl (some_same (InTuple p AfterKey ∷ brackets ls) os e)

  -- a token that can stand there is taken
  pub taken : (ls : List Level) (t : Token) (os : List Open) → next (brackets ls) t ≡ Some os → Took xs ls (bare (t ∷ [])) os
  taken ls Separator os e = as_before ls os e
  taken ls Comment os e = as_before ls os e
  taken ls Colon os e = take_colon ls os e
  taken ls Comma os e = take_comma ls os e
  taken ls (Opens at) os e = record {
    items = xs;
    levels = Items at [] ∷ ls;
    open_are = was_opened (ltb (length (brackets ls)) 64 && takes (brackets ls)) (InList at) (brackets ls) os e;
    more = refl;
  }
  taken ls (Closes end) os e = close_list end ls os e
  taken ls (OpensTuple at) os e = record {
    items = xs;
    levels = Parts at [] AtFirst ∷ ls;
    open_are = was_opened (ltb (length (brackets ls)) 64 && takes (brackets ls)) (InTuple at First) (brackets ls) os e;
    more = refl;
  }
  taken ls (ClosesTuple end) os e = close_tuple end ls os e
  taken ls (Key k) os e = take_key k ls os e
  taken ls (Is leaf span) os e = add (LeafAt leaf span) ls os e
  taken ls (Faulty r) os e = absurd (none_some os e)

-- What is printed is read as an item that stands for the value again.
use Rattle.std.proofs.Common.{◌≡◌, ℕ, ◌+◌, ◌<◌, ◌≤◌, ◌||◌, Bool, true, false, refl, List, [], ◌∷◌, ◌++◌, length, drop, arith, ap, sym, ◌∙◌, subst, append_assoc, append-nil, inl}
use Rattle.std.specs.Prelude.{Option, Some, Result, Ok, codes, nat_lt}
use Rattle.std.specs.Option.{ok_or}
use Rattle.std.specs.List.{flat_map}
use Rattle.std.proofs.Math.Seq.{drop-append_seam}
use Rattle.std.proofs.lemmas.Bool.{and_parts}
use Rattle.std.proofs.lemmas.Bool.Decides.{nat_tests}
use Rattle.std.proofs.lemmas.List.{length-append, length-drop}
use Rattle.cl_sexpr.specs.declared.sexpr.Span.{Span}
use Rattle.cl_sexpr.specs.Tree.{Leaf, Named, Signed, Unsigned, Bytes, Ascii, Unicode, Standing, Tree as Item, LeafAt, ListAt, TupleAt, Forest, Empty, Then, Pairs, NoPair, Pair, tree_depth, forest_depth, pairs_depth, span_of}
use Rattle.cl_sexpr.specs.Token.{Token, Separator, Comment, Colon, Comma, Opens, Closes, OpensTuple, ClosesTuple, Key, Is, Faulty}
use Rattle.cl_sexpr.specs.Grammar.{unspaced, IsItem, IsRow, AreMore}
use Rattle.cl_sexpr.specs.Text.{token_at, Spells, Cuts, Reads}
use Rattle.cl_sexpr.proofs.Steps.{cuts_cuts}
use Rattle.cl_values.specs.Tree.{Tree, IntV, UintV, BoolV, BuffV, AsciiV, Utf8V, PrincipalV, ListV, TupleV, NoneV, SomeV, ResponseV, Items, NoItem, Item as Value, Entries, NoEntry, Entry, entries_of, items_of, depth_of, items_depth, entries_depth}
use Rattle.cl_values.specs.Valid.{keys_in, rises, has_rising_keys, items_have_rising_keys, entries_have_rising_keys, has_good_texts, items_have_good_texts, entries_have_good_texts, InRange, ItemsInRange, EntriesInRange, IsVal}
use Rattle.cl_values.specs.Wire.{size_of}
use Rattle.cl_text.specs.Printed.{printed, items_text, more_text, entry_text, ascii_text, unicode_text}
use Rattle.cl_text.specs.Literal.{leaf_value, are_tuple_keys, keys_of, by_key, made_of, in_front, tuple_of, literal, literals, entries}
use Rattle.cl_text.specs.Named.{is_number_name, has_number_key, items_have_number_key, entries_have_number_key}
use Rattle.cl_text.specs.Parsed.{Stands, TooDeep, TooLarge, within_limits, value_outcome, Parses, reads}
use Rattle.cl_text.proofs.Runs.{no, neither, stops, IsRunOf, run_spells}
use Rattle.cl_text.proofs.Leaves.{AddressLaws, int_run, uint_run, buffer_run, principal_run, name_run}
use Rattle.cl_text.proofs.Strings.{ascii_spells, unicode_spells}
use Rattle.cl_text.proofs.Rising.{list_of, entry_list, items_again, entries_again, rising_keys, sorted_again}

-- ---- cuts

-- a token in front of others
front_cut : (at : ℕ) (text more : List ℕ) (t : Token) (ts : List Token) (end : ℕ) (rest : List ℕ) → 0 < length text → Spells t (length text) at (text ++ more) → Cuts (at + length text) more ts end rest → Cuts at (text ++ more) (t ∷ ts) end rest
front_cut at text more t ts end rest some spells h = (
  length text,
  some,
  omega (arith, length-append text more),
  spells,
  subst (λ (x : List ℕ). Cuts (at + length text) x ts end rest) (sym (drop-append_seam text more)) h,
)

-- a cut ends where its bytes end
cut_place : (at : ℕ) (bytes : List ℕ) (ts : List Token) (end : ℕ) (rest : List ℕ) → Cuts at bytes ts end rest → at + length bytes ≡ end + length rest
cut_place at bytes [] end rest h = omega (arith, h.0, ap length h.1)
cut_place at bytes (t ∷ ts) end rest h =
    omega (arith, cut_place (at + h.0) (drop h.0 bytes) ts end rest h.4, length-drop h.0 bytes, h.2)

unspaced-append : (ts us : List Token) → unspaced (ts ++ us) ≡ unspaced ts ++ unspaced us
unspaced-append [] us = refl
unspaced-append (Separator ∷ ts) us = unspaced-append ts us
unspaced-append (Comment ∷ ts) us = unspaced-append ts us
unspaced-append (Colon ∷ ts) us = ap (λ (x : List Token). Colon ∷ x) (unspaced-append ts us)
unspaced-append (Comma ∷ ts) us = ap (λ (x : List Token). Comma ∷ x) (unspaced-append ts us)
unspaced-append (Opens at ∷ ts) us = ap (λ (x : List Token). Opens at ∷ x) (unspaced-append ts us)
unspaced-append (Closes end ∷ ts) us = ap (λ (x : List Token). Closes end ∷ x) (unspaced-append ts us)
unspaced-append (OpensTuple at ∷ ts) us = ap (λ (x : List Token). OpensTuple at ∷ x) (unspaced-append ts us)
unspaced-append (ClosesTuple end ∷ ts) us = ap (λ (x : List Token). ClosesTuple end ∷ x) (unspaced-append ts us)
unspaced-append (Key name ∷ ts) us = ap (λ (x : List Token). Key name ∷ x) (unspaced-append ts us)
unspaced-append (Is leaf span ∷ ts) us = ap (λ (x : List Token). Is leaf span ∷ x) (unspaced-append ts us)
unspaced-append (Faulty r ∷ ts) us = ap (λ (x : List Token). Faulty r ∷ x) (unspaced-append ts us)

-- marks of one byte
marked : (at c : ℕ) (t : Token) (more : List ℕ) (ts : List Token) (end : ℕ) (rest : List ℕ) → Spells t 1 at (c ∷ more) → Cuts (at + 1) more ts end rest → Cuts at (c ∷ more) (t ∷ ts) end rest
marked at c t more ts end rest spells h = front_cut at (c ∷ []) more t ts end rest (omega arith) spells h

opens : (at : ℕ) (more : List ℕ) (ts : List Token) (end : ℕ) (rest : List ℕ) → Cuts (at + 1) more ts end rest → Cuts at (40 ∷ more) (Opens at ∷ ts) end rest
unfolding token_at
opens at more ts end rest h = marked at 40 (Opens at) more ts end rest refl h

closes : (at : ℕ) (rest : List ℕ) → Cuts at (41 ∷ rest) (Closes (at + 1) ∷ []) (at + 1) rest
unfolding token_at
closes at rest = marked at 41 (Closes (at + 1)) rest [] (at + 1) rest refl (refl, refl)

opens_tuple : (at : ℕ) (more : List ℕ) (ts : List Token) (end : ℕ) (rest : List ℕ) → Cuts (at + 1) more ts end rest → Cuts at (123 ∷ more) (OpensTuple at ∷ ts) end rest
unfolding token_at
opens_tuple at more ts end rest h = marked at 123 (OpensTuple at) more ts end rest refl h

closes_tuple : (at : ℕ) (rest : List ℕ) → Cuts at (125 ∷ rest) (ClosesTuple (at + 1) ∷ []) (at + 1) rest
unfolding token_at
closes_tuple at rest = marked at 125 (ClosesTuple (at + 1)) rest [] (at + 1) rest refl (refl, refl)

space : (at : ℕ) (more : List ℕ) (ts : List Token) (end : ℕ) (rest : List ℕ) → Cuts (at + 1) more ts end rest → Cuts at (32 ∷ more) (Separator ∷ ts) end rest
unfolding token_at
space at more ts end rest h = marked at 32 Separator more ts end rest refl h

comma : (at : ℕ) (more : List ℕ) (ts : List Token) (end : ℕ) (rest : List ℕ) → Cuts (at + 1) more ts end rest → Cuts at (44 ∷ more) (Comma ∷ ts) end rest
unfolding token_at
comma at more ts end rest h = marked at 44 Comma more ts end rest refl h

colon : (at : ℕ) (more : List ℕ) (ts : List Token) (end : ℕ) (rest : List ℕ) → Cuts (at + 1) more ts end rest → Cuts at (58 ∷ more) (Colon ∷ ts) end rest
unfolding token_at
colon at more ts end rest h = marked at 58 Colon more ts end rest refl h

-- ---- values without parts

-- the text of a value at a place, in front of other bytes, as an item
record Stood (v : Tree) (at : ℕ) (rest : List ℕ) : Type 0 where
  item : Item
  tokens : List Token
  end : ℕ
  cut : Cuts at (printed v ++ rest) tokens end rest
  is : IsItem item (unspaced tokens)
  value : literal item ≡ Ok v
  depth : tree_depth item ≤ depth_of v

token_stood : (v : Tree) (at : ℕ) (rest : List ℕ) (leaf : Leaf) (span : Span) → 0 < length (printed v) → token_at at (printed v ++ rest) ≡ Ok (Is leaf span, length (printed v)) → leaf_value leaf ≡ Some v → Stood v at rest
token_stood v at rest leaf span some spells is = record {
  item = LeafAt leaf span;
  tokens = Is leaf span ∷ [];
  end = at + length (printed v);
  cut = front_cut at (printed v) rest (Is leaf span) [] (at + length (printed v)) rest some spells (refl, refl);
  is = refl;
  value = ap (λ (o : Option Tree). ok_or o span) is;
  depth = omega arith;
}

run_stood : (v : Tree) (at : ℕ) (rest : List ℕ) (leaf : Leaf) → IsRunOf (printed v) leaf → stops rest ≡ true → leaf_value leaf ≡ Some v → Stood v at rest
run_stood v at rest leaf r e is =
    token_stood v at rest leaf (record { start = at; end = at + length (printed v) }) r.some (run_spells at (printed v) rest leaf r e) is

true_run : IsRunOf (codes "true") (Named (codes "true"))
true_run = name_run (codes "true") (record { pattern = refl; within = omega arith }) refl

false_run : IsRunOf (codes "false") (Named (codes "false"))
false_run = name_run (codes "false") (record { pattern = refl; within = omega arith }) refl

none_run : IsRunOf (codes "none") (Named (codes "none"))
none_run = name_run (codes "none") (record { pattern = refl; within = omega arith }) refl

some_run : IsRunOf (codes "some") (Named (codes "some"))
some_run = name_run (codes "some") (record { pattern = refl; within = omega arith }) refl

ok_run : IsRunOf (codes "ok") (Named (codes "ok"))
ok_run = name_run (codes "ok") (record { pattern = refl; within = omega arith }) refl

err_run : IsRunOf (codes "err") (Named (codes "err"))
err_run = name_run (codes "err") (record { pattern = refl; within = omega arith }) refl

list_run : IsRunOf (codes "list") (Named (codes "list"))
list_run = name_run (codes "list") (record { pattern = refl; within = omega arith }) refl

bool_stood : (b : Bool) (at : ℕ) (rest : List ℕ) → stops rest ≡ true → Stood (BoolV b) at rest
bool_stood true at rest e = run_stood (BoolV true) at rest (Named (codes "true")) true_run e refl
bool_stood false at rest e = run_stood (BoolV false) at rest (Named (codes "false")) false_run e refl

ascii_stood : (cs : List ℕ) (at : ℕ) (rest : List ℕ) → has_good_texts (AsciiV cs) ≡ true → Stood (AsciiV cs) at rest
ascii_stood cs at rest h =
    let body : List ℕ = flat_map ascii_text cs in
    let size : 0 + length body + 2 ≡ length (printed (AsciiV cs)) = omega (arith, length-append body (34 ∷ [])) in
    let P : ℕ → Type 0 = λ n. token_at at (printed (AsciiV cs) ++ rest) ≡ Ok (Is (Ascii cs) (record { start = at; end = at + n }), n) in
    token_stood (AsciiV cs) at rest (Ascii cs) (record { start = at; end = at + length (printed (AsciiV cs)) }) (omega arith) (subst P size (ascii_spells at cs rest h)) refl

unicode_stood : (cs : List ℕ) (at : ℕ) (rest : List ℕ) → InRange (Utf8V cs) → Stood (Utf8V cs) at rest
unicode_stood cs at rest h =
    let body : List ℕ = flat_map unicode_text cs in
    let size : 1 + length body + 2 ≡ length (printed (Utf8V cs)) = omega (arith, length-append body (34 ∷ [])) in
    let P : ℕ → Type 0 = λ n. token_at at (printed (Utf8V cs) ++ rest) ≡ Ok (Is (Unicode cs) (record { start = at; end = at + n }), n) in
    token_stood (Utf8V cs) at rest (Unicode cs) (record { start = at; end = at + length (printed (Utf8V cs)) }) (omega arith) (subst P size (unicode_spells at cs rest h)) refl

-- ---- values of one part

-- a list of a word and an item
record Wrapped (w : List ℕ) (v u : Tree) (text : List ℕ) (at : ℕ) (rest : List ℕ) : Type 0 where
  item : Item
  tokens : List Token
  end : ℕ
  cut : Cuts at (text ++ rest) tokens end rest
  is : IsItem item (unspaced tokens)
  value : literal item ≡ Ok u
  depth : tree_depth item ≤ depth_of v + 1

-- the word and what it makes of a value
record Makes (w : List ℕ) (wrap : Tree → Tree) : Type 0 where
  run : IsRunOf w (Named w)
  value : (item : Item) (span inner : Span) → literal (ListAt (Then (LeafAt (Named w) inner) (Then item Empty)) span) ≡ made_of wrap (literal item)

some_makes : Makes (codes "some") SomeV
some_makes = record { run = some_run; value = λ item span inner. refl }

ok_makes : Makes (codes "ok") (ResponseV true)
ok_makes = record { run = ok_run; value = λ item span inner. refl }

err_makes : Makes (codes "err") (ResponseV false)
err_makes = record { run = err_run; value = λ item span inner. refl }

wrapped : (w : List ℕ) (wrap : Tree → Tree) (v : Tree) (at : ℕ) (rest : List ℕ) → Makes w wrap → Stood v (at + 1 + length w + 1) (41 ∷ rest) → Wrapped w v (wrap v) (40 ∷ (w ++ 32 ∷ (printed v ++ 41 ∷ []))) at rest
wrapped w wrap v at rest m a =
    let inner : Span = record { start = at + 1; end = at + 1 + length w } in
    let span : Span = record { start = at; end = a.end + 1 } in
    let head : Item = LeafAt (Named w) inner in
    let text : (w ++ 32 ∷ (printed v ++ 41 ∷ [])) ++ rest ≡ w ++ 32 ∷ (printed v ++ 41 ∷ rest) =
    append_assoc w (32 ∷ (printed v ++ 41 ∷ [])) rest ∙ ap (λ (x : List ℕ). w ++ 32 ∷ x) (append_assoc (printed v) (41 ∷ []) rest) in
    let back : Cuts (at + 1 + length w) (32 ∷ (printed v ++ 41 ∷ rest)) (Separator ∷ (a.tokens ++ Closes (a.end + 1) ∷ [])) (a.end + 1) rest =
    space (at + 1 + length w) (printed v ++ 41 ∷ rest) (a.tokens ++ Closes (a.end + 1) ∷ []) (a.end + 1) rest
    (cuts_cuts (at + 1 + length w + 1) (printed v ++ 41 ∷ rest) a.tokens a.end (41 ∷ rest) (Closes (a.end + 1) ∷ []) (a.end + 1) rest a.cut (closes a.end rest)) in
    let cut : Cuts at (40 ∷ (w ++ 32 ∷ (printed v ++ 41 ∷ rest))) (Opens at ∷ Is (Named w) inner ∷ Separator ∷ (a.tokens ++ Closes (a.end + 1) ∷ [])) (a.end + 1) rest =
    opens at (w ++ 32 ∷ (printed v ++ 41 ∷ rest)) (Is (Named w) inner ∷ Separator ∷ (a.tokens ++ Closes (a.end + 1) ∷ [])) (a.end + 1) rest
    (front_cut (at + 1) w (32 ∷ (printed v ++ 41 ∷ rest)) (Is (Named w) inner) (Separator ∷ (a.tokens ++ Closes (a.end + 1) ∷ [])) (a.end + 1) rest m.run.some (run_spells (at + 1) w (32 ∷ (printed v ++ 41 ∷ rest)) (Named w) m.run refl) back) in
    record {
      item = ListAt (Then head (Then a.item Empty)) span;
      tokens = Opens at ∷ Is (Named w) inner ∷ Separator ∷ (a.tokens ++ Closes (a.end + 1) ∷ []);
      end = a.end + 1;
      cut = subst (λ (x : List ℕ). Cuts at (40 ∷ x) (Opens at ∷ Is (Named w) inner ∷ Separator ∷ (a.tokens ++ Closes (a.end + 1) ∷ [])) (a.end + 1) rest) (sym text) cut;
      is = (
        Is (Named w) inner ∷ unspaced a.tokens,
        (Is (Named w) inner ∷ [], unspaced a.tokens, refl, (unspaced a.tokens, [], a.is, refl, sym (append-nil (unspaced a.tokens))), refl),
        ap (λ (x : List Token). Opens at ∷ Is (Named w) inner ∷ x) (unspaced-append a.tokens (Closes (a.end + 1) ∷ [])),
      );
      value = m.value a.item span inner ∙ ap (made_of wrap) a.value;
      depth = omega (arith, a.depth);
    }

some_stood : (v : Tree) (at : ℕ) (rest : List ℕ) → Stood v (at + 1 + 4 + 1) (41 ∷ rest) → Stood (SomeV v) at rest
some_stood v at rest a =
    let s = wrapped (codes "some") SomeV v at rest some_makes a in
    record { item = s.item; tokens = s.tokens; end = s.end; cut = s.cut; is = s.is; value = s.value; depth = s.depth }

response_stood : (good : Bool) (v : Tree) (at : ℕ) (rest : List ℕ) → ((place : ℕ) → Stood v place (41 ∷ rest)) → Stood (ResponseV good v) at rest
response_stood true v at rest a =
    let s = wrapped (codes "ok") (ResponseV true) v at rest ok_makes (a (at + 1 + 2 + 1)) in
    record { item = s.item; tokens = s.tokens; end = s.end; cut = s.cut; is = s.is; value = s.value; depth = s.depth }
response_stood false v at rest a =
    let s = wrapped (codes "err") (ResponseV false) v at rest err_makes (a (at + 1 + 3 + 1)) in
    record { item = s.item; tokens = s.tokens; end = s.end; cut = s.cut; is = s.is; value = s.value; depth = s.depth }

-- ---- lists

-- values in a row, each behind a space
record AllStood (vs : Items) (at : ℕ) (rest : List ℕ) : Type 0 where
  row : Forest
  tokens : List Token
  end : ℕ
  cut : Cuts at (items_text vs ++ rest) tokens end rest
  is : IsRow row (unspaced tokens)
  values : literals row ≡ Ok (list_of vs)
  depth : forest_depth row ≤ items_depth vs

stops_items : (vs : Items) (rest : List ℕ) → stops rest ≡ true → stops (items_text vs ++ rest) ≡ true
stops_items NoItem rest e = e
stops_items (Value v vs) rest e = refl

none_stood : (at : ℕ) (rest : List ℕ) → AllStood NoItem at rest
none_stood at rest = record { row = Empty; tokens = []; end = at; cut = (refl, refl); is = refl; values = refl; depth = omega arith }

more_stood : (v : Tree) (vs : Items) (at : ℕ) (rest : List ℕ) (a : Stood v (at + 1) (items_text vs ++ rest)) → AllStood vs a.end rest → AllStood (Value v vs) at rest
more_stood v vs at rest a b =
    let text : (printed v ++ items_text vs) ++ rest ≡ printed v ++ (items_text vs ++ rest) = append_assoc (printed v) (items_text vs) rest in
    record {
      row = Then a.item b.row;
      tokens = Separator ∷ (a.tokens ++ b.tokens);
      end = b.end;
      cut = subst (λ (x : List ℕ). Cuts at (32 ∷ x) (Separator ∷ (a.tokens ++ b.tokens)) b.end rest) (sym text)
          (space at (printed v ++ (items_text vs ++ rest)) (a.tokens ++ b.tokens) b.end rest
          (cuts_cuts (at + 1) (printed v ++ (items_text vs ++ rest)) a.tokens a.end (items_text vs ++ rest) b.tokens b.end rest a.cut b.cut));
      is = (unspaced a.tokens, unspaced b.tokens, a.is, b.is, unspaced-append a.tokens b.tokens);
      values = ap (λ (r : Result Tree Span). in_front r (literals b.row)) a.value ∙ ap (in_front (Ok v)) b.values;
      depth = omega (arith, a.depth, b.depth);
    }

list_stood : (vs : Items) (at : ℕ) (rest : List ℕ) → AllStood vs (at + 1 + 4) (41 ∷ rest) → Stood (ListV vs) at rest
list_stood vs at rest b =
    let w : List ℕ = codes "list" in
    let inner : Span = record { start = at + 1; end = at + 1 + 4 } in
    let head : Item = LeafAt (Named w) inner in
    let text : (items_text vs ++ 41 ∷ []) ++ rest ≡ items_text vs ++ 41 ∷ rest = append_assoc (items_text vs) (41 ∷ []) rest in
    let back : Cuts (at + 1 + 4) (items_text vs ++ 41 ∷ rest) (b.tokens ++ Closes (b.end + 1) ∷ []) (b.end + 1) rest =
    cuts_cuts (at + 1 + 4) (items_text vs ++ 41 ∷ rest) b.tokens b.end (41 ∷ rest) (Closes (b.end + 1) ∷ []) (b.end + 1) rest b.cut (closes b.end rest) in
    let cut : Cuts at (40 ∷ (w ++ (items_text vs ++ 41 ∷ rest))) (Opens at ∷ Is (Named w) inner ∷ (b.tokens ++ Closes (b.end + 1) ∷ [])) (b.end + 1) rest =
    opens at (w ++ (items_text vs ++ 41 ∷ rest)) (Is (Named w) inner ∷ (b.tokens ++ Closes (b.end + 1) ∷ [])) (b.end + 1) rest
    (front_cut (at + 1) w (items_text vs ++ 41 ∷ rest) (Is (Named w) inner) (b.tokens ++ Closes (b.end + 1) ∷ []) (b.end + 1) rest list_run.some (run_spells (at + 1) w (items_text vs ++ 41 ∷ rest) (Named w) list_run (stops_items vs (41 ∷ rest) refl)) back) in
    record {
      item = ListAt (Then head b.row) (record { start = at; end = b.end + 1 });
      tokens = Opens at ∷ Is (Named w) inner ∷ (b.tokens ++ Closes (b.end + 1) ∷ []);
      end = b.end + 1;
      cut = subst (λ (x : List ℕ). Cuts at (40 ∷ (w ++ x)) (Opens at ∷ Is (Named w) inner ∷ (b.tokens ++ Closes (b.end + 1) ∷ [])) (b.end + 1) rest) (sym text) cut;
      is = (
        Is (Named w) inner ∷ unspaced b.tokens,
        (Is (Named w) inner ∷ [], unspaced b.tokens, refl, b.is, refl),
        ap (λ (x : List Token). Opens at ∷ Is (Named w) inner ∷ x) (unspaced-append b.tokens (Closes (b.end + 1) ∷ [])),
      );
      value = ap (made_of (λ vs. ListV (items_of vs))) b.values ∙ ap (λ (x : Items). Ok (ListV x)) (items_again vs);
      depth = omega (arith, b.depth);
    }

-- ---- tuples

-- entries, each behind a comma and a space
record PairsStood (es : Entries) (at : ℕ) (rest : List ℕ) : Type 0 where
  pairs : Pairs
  tokens : List Token
  end : ℕ
  cut : Cuts at (more_text es ++ rest) tokens end rest
  is : AreMore pairs (unspaced tokens)
  keys : keys_of pairs ≡ keys_in es
  values : entries pairs ≡ Ok (entry_list es)
  depth : pairs_depth pairs ≤ entries_depth es

stops_more : (es : Entries) (rest : List ℕ) → stops rest ≡ true → stops (more_text es ++ rest) ≡ true
stops_more NoEntry rest e = e
stops_more (Entry k v es) rest e = refl

no_pair : (at : ℕ) (rest : List ℕ) → PairsStood NoEntry at rest
no_pair at rest = record { pairs = NoPair; tokens = []; end = at; cut = (refl, refl); is = inl refl; keys = refl; values = refl; depth = omega arith }

-- an entry, in front of others
record EntryStood (k : List ℕ) (v : Tree) (es : Entries) (at : ℕ) (rest : List ℕ) : Type 0 where
  item : Item
  pairs : Pairs
  one : List Token
  others : List Token
  end : ℕ
  cut : Cuts at ((entry_text k (printed v) ++ more_text es) ++ rest) (Key k ∷ Colon ∷ Separator ∷ (one ++ others)) end rest
  is : IsItem item (unspaced one)
  are : AreMore pairs (unspaced others)
  keys : keys_of (Pair k item pairs) ≡ k ∷ keys_in es
  values : entries (Pair k item pairs) ≡ Ok ((k, v) ∷ entry_list es)
  depth : pairs_depth (Pair k item pairs) ≤ entries_depth (Entry k v es)

entry_stood : (k : List ℕ) (v : Tree) (es : Entries) (at : ℕ) (rest : List ℕ) → IsRunOf k (Named k) → (a : Stood v (at + length k + 1 + 1) (more_text es ++ rest)) → PairsStood es a.end rest → EntryStood k v es at rest
entry_stood k v es at rest r a b =
    let behind : List ℕ = more_text es ++ rest in
    let text : ((k ++ 58 ∷ 32 ∷ printed v) ++ more_text es) ++ rest ≡ k ++ 58 ∷ 32 ∷ (printed v ++ behind) =
    append_assoc (k ++ 58 ∷ 32 ∷ printed v) (more_text es) rest ∙ append_assoc k (58 ∷ 32 ∷ printed v) behind in
    let value : Cuts (at + length k) (58 ∷ 32 ∷ (printed v ++ behind)) (Colon ∷ Separator ∷ (a.tokens ++ b.tokens)) b.end rest =
    colon (at + length k) (32 ∷ (printed v ++ behind)) (Separator ∷ (a.tokens ++ b.tokens)) b.end rest
    (space (at + length k + 1) (printed v ++ behind) (a.tokens ++ b.tokens) b.end rest
    (cuts_cuts (at + length k + 1 + 1) (printed v ++ behind) a.tokens a.end behind b.tokens b.end rest a.cut b.cut)) in
    let cut : Cuts at (k ++ 58 ∷ 32 ∷ (printed v ++ behind)) (Key k ∷ Colon ∷ Separator ∷ (a.tokens ++ b.tokens)) b.end rest =
    front_cut at k (58 ∷ 32 ∷ (printed v ++ behind)) (Key k) (Colon ∷ Separator ∷ (a.tokens ++ b.tokens)) b.end rest r.some (record { start = at; end = at + length k }, run_spells at k (58 ∷ 32 ∷ (printed v ++ behind)) (Named k) r refl) value in
    record {
      item = a.item;
      pairs = b.pairs;
      one = a.tokens;
      others = b.tokens;
      end = b.end;
      cut = subst (λ (x : List ℕ). Cuts at x (Key k ∷ Colon ∷ Separator ∷ (a.tokens ++ b.tokens)) b.end rest) (sym text) cut;
      is = a.is;
      are = b.is;
      keys = ap (λ (ks : List (List ℕ)). k ∷ ks) b.keys;
      values = ap (λ (x : Result Tree Span). in_front (made_of (λ v. (k, v)) x) (entries b.pairs)) a.value ∙ ap (in_front (Ok (k, v))) b.values;
      depth = omega (arith, a.depth, b.depth);
    }

pairs_more : (k : List ℕ) (v : Tree) (es : Entries) (at : ℕ) (rest : List ℕ) → EntryStood k v es (at + 1 + 1) rest → PairsStood (Entry k v es) at rest
pairs_more k v es at rest e = record {
  pairs = Pair k e.item e.pairs;
  tokens = Comma ∷ Separator ∷ Key k ∷ Colon ∷ Separator ∷ (e.one ++ e.others);
  end = e.end;
  cut = comma at (32 ∷ ((entry_text k (printed v) ++ more_text es) ++ rest)) (Separator ∷ Key k ∷ Colon ∷ Separator ∷ (e.one ++ e.others)) e.end rest
      (space (at + 1) ((entry_text k (printed v) ++ more_text es) ++ rest) (Key k ∷ Colon ∷ Separator ∷ (e.one ++ e.others)) e.end rest e.cut);
  is = (unspaced e.one, unspaced e.others, e.is, e.are, ap (λ (x : List Token). Comma ∷ Key k ∷ Colon ∷ x) (unspaced-append e.one e.others));
  keys = e.keys;
  values = e.values;
  depth = e.depth;
}

tuple_stood : (k : List ℕ) (v : Tree) (es : Entries) (at : ℕ) (rest : List ℕ) → rises (Entry k v es) ≡ true → EntryStood k v es (at + 1) (125 ∷ rest) → Stood (TupleV (Entry k v es)) at rest
tuple_stood k v es at rest h e =
    let body : List ℕ = entry_text k (printed v) ++ more_text es in
    let parts : Pairs = Pair k e.item e.pairs in
    let span : Span = record { start = at; end = e.end + 1 } in
    let tokens : List Token = Key k ∷ Colon ∷ Separator ∷ (e.one ++ e.others) in
    let text : (body ++ 125 ∷ []) ++ rest ≡ body ++ 125 ∷ rest = append_assoc body (125 ∷ []) rest in
    let cut : Cuts at (123 ∷ (body ++ 125 ∷ rest)) (OpensTuple at ∷ (tokens ++ ClosesTuple (e.end + 1) ∷ [])) (e.end + 1) rest =
    opens_tuple at (body ++ 125 ∷ rest) (tokens ++ ClosesTuple (e.end + 1) ∷ []) (e.end + 1) rest
    (cuts_cuts (at + 1) (body ++ 125 ∷ rest) tokens e.end (125 ∷ rest) (ClosesTuple (e.end + 1) ∷ []) (e.end + 1) rest e.cut (closes_tuple e.end rest)) in
    let test : are_tuple_keys (keys_of parts) ≡ true = ap are_tuple_keys e.keys ∙ rising_keys (Entry k v es) h in
    record {
      item = TupleAt parts span;
      tokens = OpensTuple at ∷ (tokens ++ ClosesTuple (e.end + 1) ∷ []);
      end = e.end + 1;
      cut = subst (λ (x : List ℕ). Cuts at (123 ∷ x) (OpensTuple at ∷ (tokens ++ ClosesTuple (e.end + 1) ∷ [])) (e.end + 1) rest) (sym text) cut;
      is = (
        unspaced tokens,
        (unspaced e.one, unspaced e.others, e.is, e.are, ap (λ (x : List Token). Key k ∷ Colon ∷ x) (unspaced-append e.one e.others)),
        ap (λ (x : List Token). OpensTuple at ∷ x) (unspaced-append tokens (ClosesTuple (e.end + 1) ∷ [])),
      );
      value = ap (λ (b : Bool). tuple_of span b (entries parts)) test
          ∙ (ap (made_of (λ es. TupleV (entries_of (by_key es)))) e.values
          ∙ (ap (λ (x : List (List ℕ × Tree)). Ok (TupleV (entries_of x))) (sorted_again (Entry k v es) h)
          ∙ ap (λ (x : Entries). Ok (TupleV x)) (entries_again (Entry k v es))));
      depth = omega (arith, e.depth);
    }

-- the first entry of some, in front of the others
abbrev FirstStood : Entries → ℕ → List ℕ → Type 0
FirstStood NoEntry at rest = Unit {0}
FirstStood (Entry k v es) at rest = EntryStood k v es at rest

pairs_by : (es : Entries) (at : ℕ) (rest : List ℕ) → FirstStood es (at + 1 + 1) rest → PairsStood es at rest
pairs_by NoEntry at rest e = no_pair at rest
pairs_by (Entry k v es) at rest e = pairs_more k v es at rest e

tuple_by : (es : Entries) (at : ℕ) (rest : List ℕ) → rises es ≡ true → FirstStood es (at + 1) (125 ∷ rest) → Stood (TupleV es) at rest
tuple_by NoEntry at rest h e = absurd cc
tuple_by (Entry k v es) at rest h e = tuple_stood k v es at rest h e

-- ---- all values

mutual
  stood : (laws : AddressLaws) (v : Tree) (at : ℕ) (rest : List ℕ) → InRange v → has_rising_keys v ≡ true → has_good_texts v ≡ true → has_number_key v ≡ false → stops rest ≡ true → Stood v at rest
  stood laws (IntV z) at rest r k t n e = run_stood (IntV z) at rest (Signed z) (int_run z r) e refl
  stood laws (UintV m) at rest r k t n e = run_stood (UintV m) at rest (Unsigned m) (uint_run m r) e refl
  stood laws (BoolV b) at rest r k t n e = bool_stood b at rest e
  stood laws (BuffV bytes) at rest r k t n e = run_stood (BuffV bytes) at rest (Bytes bytes) (buffer_run bytes r) e refl
  stood laws (AsciiV bytes) at rest r k t n e = ascii_stood bytes at rest t
  stood laws (Utf8V cs) at rest r k t n e = unicode_stood cs at rest r
  stood laws (PrincipalV p) at rest r k t n e = run_stood (PrincipalV p) at rest (Standing p) (principal_run p r laws) e refl
  stood laws (ListV vs) at rest r k t n e = list_stood vs at rest (all_stood laws vs (at + 1 + 4) (41 ∷ rest) r k t n refl)
  stood laws (TupleV es) at rest r k t n e =
      let rising = and_parts (rises es) (entries_have_rising_keys es) k in
      tuple_by es at rest rising.0 (first_stood laws es (at + 1) (125 ∷ rest) r rising.1 t n refl)
  stood laws NoneV at rest r k t n e = run_stood NoneV at rest (Named (codes "none")) none_run e refl
  stood laws (SomeV v) at rest r k t n e = some_stood v at rest (stood laws v (at + 1 + 4 + 1) (41 ∷ rest) r k t n refl)
  stood laws (ResponseV good v) at rest r k t n e = response_stood good v at rest (λ place. stood laws v place (41 ∷ rest) r k t n refl)

  all_stood : (laws : AddressLaws) (vs : Items) (at : ℕ) (rest : List ℕ) → ItemsInRange vs → items_have_rising_keys vs ≡ true → items_have_good_texts vs ≡ true → items_have_number_key vs ≡ false → stops rest ≡ true → AllStood vs at rest
  all_stood laws NoItem at rest r k t n e = none_stood at rest
  all_stood laws (Value v vs) at rest r k t n e =
      let ks = and_parts (has_rising_keys v) (items_have_rising_keys vs) k in
      let ts = and_parts (has_good_texts v) (items_have_good_texts vs) t in
      let ns = neither (has_number_key v) (items_have_number_key vs) n in
      let a = stood laws v (at + 1) (items_text vs ++ rest) r.0 ks.0 ts.0 ns.0 (stops_items vs rest e) in
      more_stood v vs at rest a (all_stood laws vs a.end rest r.1 ks.1 ts.1 ns.1 e)

  first_stood : (laws : AddressLaws) (es : Entries) (at : ℕ) (rest : List ℕ) → EntriesInRange es → entries_have_rising_keys es ≡ true → entries_have_good_texts es ≡ true → entries_have_number_key es ≡ false → stops rest ≡ true → FirstStood es at rest
  first_stood laws NoEntry at rest r k t n e = tt
  first_stood laws (Entry key v es) at rest r k t n e =
      let ks = and_parts (has_rising_keys v) (entries_have_rising_keys es) k in
      let ts = and_parts (has_good_texts v) (entries_have_good_texts es) t in
      let ns = neither (is_number_name key || has_number_key v) (entries_have_number_key es) n in
      let ms = neither (is_number_name key) (has_number_key v) ns.0 in
      let a = stood laws v (at + length key + 1 + 1) (more_text es ++ rest) r.1 ks.0 ts.0 ms.1 (stops_more es rest e) in
      entry_stood key v es at rest (name_run key r.0 ms.0) a (pairs_by es a.end rest (first_stood laws es (a.end + 1 + 1) rest r.2 ks.1 ts.1 ns.1 e))

small : (m n : ℕ) → n ≤ m → nat_lt m n ≡ false
small m n h = grind (arith, nat_tests)

kept : (span : Span) (v : Tree) → IsVal v → within_limits span v ≡ Stands v
kept span v h = no (nat_lt 32 (depth_of v)) (TooDeep span) _ (small 32 (depth_of v) h.depth) ∙ no (nat_lt 1048576 (size_of v)) (TooLarge span) (Stands v) (small 1048576 (size_of v) h.size)

-- the item of a printed value
pub record PrintedItem (v : Tree) : Type 0 where
  pub item : Item
  pub reads : Reads (printed v) (Then item Empty)
  pub value : literal item ≡ Ok v

pub printed_item : AddressLaws → (v : Tree) → IsVal v → has_number_key v ≡ false → length (printed v) ≤ 1048576 → PrintedItem v
printed_item laws v h n size =
    let s = stood laws v 0 [] h.ranges h.keys h.texts n refl in
    let all : printed v ++ [] ≡ printed v = append-nil (printed v) in
    let cut : Cuts 0 (printed v) s.tokens s.end [] = subst (λ (x : List ℕ). Cuts 0 x s.tokens s.end []) all s.cut in
    let end : s.end ≡ length (printed v) = omega (arith, cut_place 0 (printed v) s.tokens s.end [] cut) in
    record {
      item = s.item;
      reads = record {
        size = size;
        depth = omega (arith, s.depth, h.depth);
        tokens = s.tokens;
        cut = subst (λ (m : ℕ). Cuts 0 (printed v) s.tokens m []) end cut;
        row = (unspaced s.tokens, [], s.is, refl, sym (append-nil (unspaced s.tokens)));
      };
      value = s.value;
    }

pub read_back : (v : Tree) → IsVal v → PrintedItem v → Parses (printed v) (Stands v)
read_back v h p = reads (Then p.item Empty) p.reads (sym (ap (value_outcome (span_of p.item)) p.value ∙ kept (span_of p.item) v h))

-- Readings one after another, and members.
use Rattle.std.proofs.Common.{◌≡◌, ℕ, ◌+◌, ◌<◌, ◌≤◌, ◌++◌, List, [], ◌∷◌, length, drop, get_or, decimal, Option, Some, None, Ok, Err, refl, sym, ap, ◌∙◌}
use Rattle.std.proofs.lemmas.List.{drop_more, drop_all}
use Rattle.std.specs.Str.{chars}
use Rattle.serde_json.specs.Data.{Data, Items, item}
use Rattle.serde_json.specs.Find.{get}
use Rattle.serde_json.specs.View.{view, items_view}
use Rattle.serde_json.specs.declared.value.Value.{Value}
use Rattle.cl_file.specs.Paths.{Read, below, and_then, said, each_from}
use Rattle.cl_file.specs.Objects.{Values, Kind, Member, Table, needed, optional, and_more, only, object_by}
use Rattle.cl_file.specs.declared.refusal.TxRefusal.{TxRefusal}
use Rattle.cl_file.specs.declared.refusal.TxRefusal.TheVariants.{Field, BadValue}

-- ---- one reading, and then the next

pub then_ok : {A B : Type 0} (r : Read A) (a : A) (next : A → Read B) → r ≡ Ok a → and_then r next ≡ next a
unfolding and_then
then_ok r a next e = rw e refl

pub then_err : {A B : Type 0} (r : Read A) (x : TxRefusal) (next : A → Read B) → r ≡ Err x → and_then r next ≡ Err x
unfolding and_then
then_err r x next e = rw e refl

pub said_some : {A : Type 0} (path : List ℕ) (o : Option A) (a : A) → Some a ≡ o → said path o ≡ Ok a
unfolding said
said_some path o a e = rw (← e) refl

pub said_none : {A : Type 0} (path : List ℕ) (o : Option A) → None ≡ o → said path o ≡ Err (BadValue (chars path))
unfolding said
said_none path o e = rw (← e) refl

-- ---- members

pub needed_there : {A : Type 0} (reads : Kind A) (values : Values) (path name : List ℕ) (d v : Data) → Some v ≡ get name d → needed reads values path name d ≡ reads values (below path name) v
unfolding needed
needed_there reads values path name d v e = rw (← e) refl

pub needed_absent : {A : Type 0} (reads : Kind A) (values : Values) (path name : List ℕ) (d : Data) → None ≡ get name d → needed reads values path name d ≡ Err (Field (chars (below path name)))
unfolding needed
needed_absent reads values path name d e = rw (← e) refl

pub optional_there : {A : Type 0} (reads : Kind A) (values : Values) (path name : List ℕ) (d v : Data) → Some v ≡ get name d
    → optional reads values path name d ≡ and_then (reads values (below path name) v) (λ a. Ok (Some a))
unfolding optional
optional_there reads values path name d v e = rw (← e) refl

pub optional_absent : {A : Type 0} (reads : Kind A) (values : Values) (path name : List ℕ) (d : Data) → None ≡ get name d → optional reads values path name d ≡ Ok None
unfolding optional
optional_absent reads values path name d e = rw (← e) refl

-- ---- tables

pub more_is : {A B : Type 0} (first : Member A) (rest : Table B) (values : Values) (path : List ℕ) (names all : List (List ℕ)) (name : List ℕ) (d : Data) → all ≡ name ∷ names
    → and_more first rest values path all d ≡ and_then (first values path name d) (λ a. and_then (rest values path names d) (λ b. Ok (a, b)))
unfolding and_more
more_is first rest values path names all name d e = rw e refl

pub no_name : {A B : Type 0} (first : Member A) (rest : Table B) (values : Values) (path : List ℕ) (all : List (List ℕ)) (d : Data) → all ≡ []
    → and_more first rest values path all d ≡ Err (BadValue (chars path))
unfolding and_more
no_name first rest values path all d e = rw e refl

pub object_is : {A : Type 0} (names : List (List ℕ)) (table : Table A) (values : Values) (path : List ℕ) (d : Data)
    → object_by names table values path d ≡ and_then (only path names d) (λ u. table values path names d)
unfolding object_by
object_is names table values path d = refl

-- ---- items

module _ {A : Type 0} (reads : List A → List ℕ → Data → Read A) (path : List ℕ) (done : List A) (i : ℕ) where
  items_at : (xs : List Value) (v : Value) → i < length xs → v ≡ get_or xs i v → items_view (drop i xs) ≡ item (view v) (items_view (drop (i + 1) xs))
  items_at xs v h e = ap items_view (drop_more xs i v h) ∙ ap (λ w. items_view (w ∷ drop (i + 1) xs)) (sym e)

  each_item : (d : Data) (ds : Items) → each_from reads path done i (item d ds) ≡ and_then (reads done (below path (decimal i)) d) (λ a. each_from reads path (done ++ a ∷ []) (i + 1) ds)
  unfolding each_from
  each_item d ds = refl

  pub each_end : (xs : List Value) → length xs ≤ i → each_from reads path done i (items_view (drop i xs)) ≡ Ok done
  unfolding each_from
  each_end xs h = ap (λ ys. each_from reads path done i (items_view ys)) (drop_all i xs h)

  pub each_next : (xs : List Value) (v : Value) (a : A) (at : List ℕ) → i < length xs → v ≡ get_or xs i v → at ≡ below path (decimal i) → reads done at (view v) ≡ Ok a
      → each_from reads path done i (items_view (drop i xs)) ≡ each_from reads path (done ++ a ∷ []) (i + 1) (items_view (drop (i + 1) xs))
  each_next xs v a at h is p e = ap (each_from reads path done i) (items_at xs v h is) ∙ each_item _ _ ∙ then_ok _ _ _ (ap (λ q. reads done q (view v)) (sym p) ∙ e)

  pub each_stops : (xs : List Value) (v : Value) (r : TxRefusal) (at : List ℕ) → i < length xs → v ≡ get_or xs i v → at ≡ below path (decimal i) → reads done at (view v) ≡ Err r
      → each_from reads path done i (items_view (drop i xs)) ≡ Err r
  each_stops xs v r at h is p e = ap (each_from reads path done i) (items_at xs v h is) ∙ each_item _ _ ∙ then_err _ _ _ (ap (λ q. reads done q (view v)) (sym p) ∙ e)

-- What holds of what is read holds of each part that was read for it.
use Rattle.std.proofs.Common.{ℕ, ◌+◌, ◌++◌, List, [], ◌∷◌, Option, Some, None, Ok, Err}
use Rattle.std.specs.Prelude.{IfOk, IfSome, decimal}
use Rattle.std.specs.List.{All}
use Rattle.std.specs.Option.{option_map_or}
use Rattle.std.specs.Str.{chars}
use Rattle.std.proofs.lemmas.List.Elements.{All-push}
use Rattle.serde_json.specs.Data.{Data, Items, no_items, item, Members, no_members, member}
use Rattle.serde_json.specs.Find.{get, as_object}
use Rattle.cl_file.specs.Paths.{Read, below, and_then, said, each_from}
use Rattle.cl_file.specs.Objects.{Values, Kind, Member, Table, plain, needed, and_more, only, object_by, sole_in, sole}
use Rattle.cl_file.specs.declared.refusal.TxRefusal.TheVariants.{Field}
use Rattle.cl_results.proofs.JsonNumbers.{DataFits, ItemsFit, MembersFit, chained_has, get_fits, object_fits}

-- ---- readings one after another

pub any_read : {A : Type 0} (r : Read A) → IfOk r (λ a. Unit {0})
any_read (Ok a) = tt
any_read (Err e) = tt

pub next_has : {A B : Type 0} (r : Read A) (next : A → Read B) (P : A → Type 0) (Q : B → Type 0) → IfOk r P → ((a : A) → P a → IfOk (next a) Q) → IfOk (and_then r next) Q
unfolding and_then
next_has (Ok a) next P Q h so = so a h
next_has (Err e) next P Q h so = tt

-- a reading of which nothing has to be known
pub behind_has : {A B : Type 0} (r : Read A) (next : A → Read B) (Q : B → Type 0) → ((a : A) → IfOk (next a) Q) → IfOk (and_then r next) Q
behind_has r next Q so = next_has r next (λ a. Unit {0}) Q (any_read r) (λ a h. so a)

pub said_has : {A : Type 0} (P : A → Type 0) (path : List ℕ) (o : Option A) → IfSome o P → IfOk (said path o) P
unfolding said
said_has P path (Some a) h = h
said_has P path None h = tt

pub each_has : {A : Type 0} (P : A → Type 0) (reads : List A → List ℕ → Data → Read A) → ((done : List A) (path : List ℕ) (d : Data) → DataFits d → IfOk (reads done path d) P) → (path : List ℕ) (done : List A) (i : ℕ) (ds : Items) → ItemsFit ds → All P done → IfOk (each_from reads path done i ds) (All P)
unfolding each_from
each_has P reads so path done i no_items fits all = all
each_has P reads so path done i (item d ds) fits all =
    next_has (reads done (below path (decimal i)) d) (λ a. each_from reads path (done ++ a ∷ []) (i + 1) ds) P (All P)
    (so done (below path (decimal i)) d fits.0)
    (λ a here. each_has P reads so path (done ++ a ∷ []) (i + 1) ds fits.1 (All-push P done a all here))

-- ---- objects

module _ (values : Values) where
  abbrev pub KindHas : {A : Type 0} → (A → Type 0) → Kind A → Type 0
  KindHas P kind = (path : List ℕ) (d : Data) → DataFits d → IfOk (kind values path d) P

  abbrev pub MemberHas : {A : Type 0} → (A → Type 0) → Member A → Type 0
  MemberHas P one = (path name : List ℕ) (d : Data) → DataFits d → IfOk (one values path name d) P

  abbrev pub TableHas : {A : Type 0} → (A → Type 0) → Table A → Type 0
  TableHas P table = (path : List ℕ) (names : List (List ℕ)) (d : Data) → DataFits d → IfOk (table values path names d) P

  pub plain_has : {A : Type 0} (says : Data → Option A) (P : A → Type 0) → ((d : Data) → DataFits d → IfSome (says d) P) → KindHas P (plain says)
  plain_has says P so path d fits = said_has P path (says d) (so d fits)

  pub needed_has : {A : Type 0} (kind : Kind A) (P : A → Type 0) → KindHas P kind → MemberHas P (needed kind)
  unfolding needed
  needed_has kind P so path name d fits = by (get name d) (get_fits name d fits)
    where
      by : (o : Option Data) → IfSome o DataFits → IfOk (option_map_or (λ v. kind values (below path name) v) o (Err (Field (chars (below path name))))) P
      by (Some v) g = so (below path name) v g
      by None g = tt

  pub any_member : {A : Type 0} (one : Member A) → MemberHas (λ a. Unit {0}) one
  any_member one path name d fits = any_read (one values path name d)

  pub any_table : {A : Type 0} (table : Table A) → TableHas (λ a. Unit {0}) table
  any_table table path names d fits = any_read (table values path names d)

  pub more_has : {A B : Type 0} (one : Member A) (others : Table B) (P : A → Type 0) (Q : B → Type 0) → MemberHas P one → TableHas Q others → TableHas (λ (p : A × B). P p.0 × Q p.1) (and_more one others)
  unfolding and_more
  more_has one others P Q here behind path [] d fits = tt
  more_has {A} {B} one others P Q here behind path (name ∷ names) d fits =
      next_has (one values path name d) (λ a. and_then (others values path names d) (λ b. Ok (a, b))) P (λ (p : A × B). P p.0 × Q p.1) (here path name d fits)
      (λ a x. next_has (others values path names d) (λ b. Ok (a, b)) Q (λ (p : A × B). P p.0 × Q p.1) (behind path names d fits) (λ b y. (x, y)))

  pub object_has : {A : Type 0} (names : List (List ℕ)) (table : Table A) (P : A → Type 0) → TableHas P table → KindHas P (object_by names table)
  unfolding object_by
  object_has names table P so path d fits = behind_has (only path names d) (λ u. table values path names d) P (λ u. so path names d fits)

sole_in_fits : (ms : Members) → MembersFit ms → IfSome (sole_in ms) (λ (p : List ℕ × Data). DataFits p.1)
sole_in_fits no_members h = tt
sole_in_fits (member k d no_members) h = h.0
sole_in_fits (member k d (member l e ms)) h = tt

pub sole_fits : (d : Data) → DataFits d → IfSome (sole d) (λ (p : List ℕ × Data). DataFits p.1)
sole_fits d h = chained_has sole_in (as_object d) MembersFit (λ (p : List ℕ × Data). DataFits p.1) sole_in_fits (object_fits d h)

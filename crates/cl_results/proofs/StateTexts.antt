-- The state of a sound node has a text and a root.
use Rattle.std.proofs.Common.{◌≡◌, ℕ, List, [], ◌∷◌, refl, sym, ap, subst, ◌∙◌}
use Rattle.std.specs.Prelude.{T, Bool, true, false, ◌&&◌, map, reverse, Option, Some, None, option_map, is_some, Contains}
use Rattle.std.specs.FinMap.{is_sorted}
use Rattle.std.specs.FinMap.Entries.{below_all, is_some-find}
use Rattle.std.specs.List.{AllByRecursion as ByRecursion}
use Rattle.std.specs.List.Sorted.{IsStrictlySortedBy}
use Rattle.std.specs.Ordering.{is_lt}
use Rattle.std.specs.declared.cmp.Ordering.{Ordering}
use Rattle.std.specs.declared.cmp.Ordering.TheVariants.{Less, Equal, Greater}
use Rattle.cl_maps.specs.Maps.{Map, key_cmp, get}
use Rattle.cl_maps.proofs.MapLaws.{same_keys, self_equal}
use Rattle.cl_tokens.specs.Table.{is_key}
use Rattle.cl_events.specs.State.{State}
use Rattle.cl_tables.specs.declared.row.StateRow.{StateRow}
use Rattle.cl_tables.specs.StateRows.{IsRow}
use Rattle.cl_tables.proofs.KeyReading.{OwnSpelling}
use Rattle.cl_lines.specs.RowLines.{row_line}
use Rattle.cl_lines.specs.StateLines.{IsLine, IsStateText, with_line_feeds}
use Rattle.cl_lines.proofs.LineOrder.{listed, stands}
use Rattle.cl_root.specs.RowBytes.{key_bytes, value_bytes}
use Rattle.cl_root.specs.Leaves.{HasRow, AreLeaves}
use Rattle.cl_root.specs.HashTree.{IsRoot, root_of, tree_of}
use Rattle.cl_root.specs.declared.side.Side.{Side}
use Rattle.cl_root.specs.Paths.{sides_to, IsPath}
use Rattle.cl_root.proofs.StatePaths.{no_path}
use Rattle.cl_results.specs.Laws.{HasRowOf, EachHasText, EachHasRoot, EachLineHasRow}
use Rattle.cl_results.proofs.Listing.{Listed, made_map, made_from, made_to, least_there}
use Rattle.cl_results.proofs.StateRows.{rows_listed}

-- ---- the keys of a map

abbrev keys : {A : Type 0} → List (List ℕ × A) → List (List ℕ)
keys es = map (λ e. e.0) es

first : (a b : Bool) → T (a && b) → T a
first true b h = tt
first false b h = absurd h

second : (a b : Bool) → T (a && b) → T b
second true b h = h
second false b h = absurd h

less : (o : Ordering) → T (is_lt o) → o ≡ Less
less Less h = refl
less Equal h = absurd h
less Greater h = absurd h

below : {A : Type 0} (key : List ℕ) (es : List (List ℕ × A)) → T (below_all key_cmp key es) → ByRecursion (λ other. key_cmp key other ≡ Less) (keys es)
below key [] h = tt
below key (e ∷ es) h = (less (key_cmp key e.0) (first _ _ h), below key es (second (is_lt (key_cmp key e.0)) (below_all key_cmp key es) h))

keys_rise : {A : Type 0} (es : List (List ℕ × A)) → T (is_sorted key_cmp es) → IsStrictlySortedBy key_cmp (keys es)
unfolding IsStrictlySortedBy
keys_rise [] h = tt
keys_rise (e ∷ es) h = (below e.0 es (first (below_all key_cmp e.0 es) (is_sorted key_cmp es) h), keys_rise es (second (below_all key_cmp e.0 es) (is_sorted key_cmp es) h))

value_there : {A : Type 0} (o : Option A) → is_some o ≡ true → (a : A) × (o ≡ Some a)
value_there (Some a) h = (a, refl)
value_there None h = absurd cc

key_found : {A : Type 0} (m : Map A) (key : List ℕ) → Contains (keys m.list) key → (a : A) × (get key m ≡ Some a)
key_found m key there = value_there (get key m) (is_some-find key_cmp key m.list ∙ listed (keys m.list) key there)

key_stands : {A : Type 0} (m : Map A) (key : List ℕ) (a : A) → get key m ≡ Some a → Contains (keys m.list) key
key_stands m key a is = stands (keys m.list) key (sym (is_some-find key_cmp key m.list) ∙ ap is_some is)

-- ---- the text

module _ (s : State) (rows : Listed (IsRow s)) where
  abbrev lines : Map (Unit {0})
  lines = made_map (λ r. row_line r) (λ r. tt) rows.rows

  line_sound : (line : List ℕ) → Contains (keys lines.list) line → IsLine s line
  line_sound line there =
      let found = key_found lines line there in
      let row = made_from (λ r. row_line r) (λ r. tt) rows.rows line found.0 found.1 in
      (row.0, rows.sound row.0 row.1, row.2)

  line_whole : (line : List ℕ) → IsLine s line → Contains (keys lines.list) line
  line_whole line is =
      let there = made_to (λ r. row_line r) (λ r. tt) rows.rows (λ r q a b same. refl) is.0 (rows.whole is.0 is.1) in
      subst (λ l. Contains (keys lines.list) l) (sym is.2) (key_stands lines (row_line is.0) tt there)

  text_there : (text : List ℕ) × IsStateText s text
  text_there = (with_line_feeds (keys lines.list), record { lines = keys lines.list; rising = keys_rise lines.list lines.rising; sound = line_sound; whole = line_whole; ends = refl })

  -- ---- the root

  module _ (own : (a b : StateRow) → IsRow s a → IsRow s b → key_bytes a ≡ key_bytes b → a ≡ b) where
    abbrev leaves : Map (List ℕ)
    leaves = made_map (λ r. key_bytes r) (λ r. value_bytes r) rows.rows

    leaf_sound : (key value : List ℕ) → get key leaves ≡ Some value → HasRow s (key, value)
    leaf_sound key value is =
        let row = made_from (λ r. key_bytes r) (λ r. value_bytes r) rows.rows key value is in
        (row.0, rows.sound row.0 row.1, λ i. (row.2 i, row.3 i))

    leaf_whole : (row : StateRow) → IsRow s row → get (key_bytes row) leaves ≡ Some (value_bytes row)
    leaf_whole row is =
        made_to (λ r. key_bytes r) (λ r. value_bytes r) rows.rows (λ r q a b same. ap (λ x. value_bytes x) (own r q (rows.sound r a) (rows.sound q b) same)) row (rows.whole row is)

    pub are_leaves : AreLeaves leaves s
    are_leaves = record { sound = leaf_sound; whole = leaf_whole }

    root_there : (root : List ℕ) × IsRoot root s
    root_there = (root_of leaves.list, record { leaves = leaves; are = are_leaves; is = refl })

    -- ---- the row of a line

    path_of : (row : StateRow) → IsRow s row → (path : List Side) × IsPath (Some path) (key_bytes row) s
    path_of row is = by (option_map (λ sides. reverse sides) (sides_to (key_bytes row) (tree_of leaves.list))) refl
      where
        by : (o : Option (List Side)) → o ≡ option_map (λ sides. reverse sides) (sides_to (key_bytes row) (tree_of leaves.list)) → (path : List Side) × IsPath (Some path) (key_bytes row) s
        by (Some path) found = (path, record { leaves = leaves; are = are_leaves; is = found })
        by None none = absurd (no_path s leaves.list (leaves, refl, are_leaves) (key_bytes row) none row is refl)

    row_there : (line : List ℕ) → IsLine s line → HasRowOf s line
    row_there line is =
        let passes : is_key (row_line is.0) line ≡ true = ap (λ l. is_key (row_line is.0) l) is.2 ∙ self_equal (row_line is.0) in
        let least = least_there (λ r. key_bytes r) (λ r. is_key (row_line r) line) rows.rows is.0 (rows.whole is.0 is.1) passes in
        let there = rows.sound least.0 least.1 in
        let path = path_of least.0 there in
        record {
          row = least.0;
          there = there;
          line_is = same_keys (row_line least.0) line least.2;
          least = λ other of_state same h. least.3 other (rows.whole other of_state) (ap (λ l. is_key l line) same ∙ self_equal line) h;
          path = path.0;
          is_path = path.1;
        }

pub each_text : OwnSpelling → EachHasText
each_text own node sound = text_there node.state (rows_listed own node.contracts sound.contracts.distinct node.state sound.kept)

pub each_root : OwnSpelling → ((s : State) (a b : StateRow) → IsRow s a → IsRow s b → key_bytes a ≡ key_bytes b → a ≡ b) → EachHasRoot
each_root own keys node sound = root_there node.state (rows_listed own node.contracts sound.contracts.distinct node.state sound.kept) (keys node.state)

pub each_line : OwnSpelling → ((s : State) (a b : StateRow) → IsRow s a → IsRow s b → key_bytes a ≡ key_bytes b → a ≡ b) → EachLineHasRow
each_line own keys node sound = row_there node.state (rows_listed own node.contracts sound.contracts.distinct node.state sound.kept) (keys node.state)

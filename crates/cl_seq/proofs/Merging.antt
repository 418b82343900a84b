-- Entries that are put into a sorted map are those of the tuple that is made of them.
use Rattle.std.proofs.Common.{◌≡◌, ◌≢◌, ℕ, ◌||◌, not, Bool, true, false, List, [], ◌∷◌, ◌++◌, length, arith, Option, Some, if◌then◌else◌, cond, refl, ap, sym, ◌∙◌}
use Rattle.std.specs.Option.{is_some}
use Rattle.std.specs.declared.cmp.Ordering.{Ordering}
use Rattle.std.specs.declared.cmp.Ordering.TheVariants.{Less, Equal, Greater}
use Rattle.std.specs.Ordering.{nat_cmp, is_lt, is_eq, match_ordering, ordering_reverse}
use Rattle.std.specs.Cmp.Lexicographic.{slice_cmp, nat_list_cmp_total, same_text}
use Rattle.std.specs.Str.{bytes_eq}
use Rattle.std.specs.Map.{lookup, keys_of}
use Rattle.std.specs.BTreeMap.{insert_entry, is_at}
use Rattle.std.specs.List.Sorted.{IsStrictlySortedBy}
use Rattle.std.proofs.lemmas.Bool.{and_parts, and_from, or_parts, or_from, true≢false, false_from_ne_true, true_from_ne_false}
use Rattle.std.proofs.lemmas.Map.Text.{is_eq-slice_cmp}
use Rattle.cl_types.proofs.KeyOrder.{keys_ordered}
use Rattle.cl_values.specs.Tree.{Tree, Entries, NoEntry, Entry, entries_of}
use Rattle.cl_values.specs.Valid.{is_below, rises_from, rises}
use Rattle.cl_values.specs.Tuples.{is_among, placed, merged, sorted_entries}
use Rattle.cl_seq.specs.Merging.{with_entry, with_parts, are_apart}

-- ---- a key in a map

has_step : (b c d : Bool) (v : Tree) (o : Option Tree) → b ≡ c → is_some o ≡ d → is_some (cond b (Some v) o) ≡ (c || d)
has_step true c d v o h k = ap (λ x. x || d) h
has_step false c d v o h k = k ∙ ap (λ x. x || d) h

has_among : (k : List ℕ) (m : List (List ℕ × Tree)) → is_some (lookup (is_at (slice_cmp nat_cmp k)) m) ≡ is_among k (entries_of m)
has_among k [] = refl
has_among k (e ∷ es) =
    has_step (is_eq (slice_cmp nat_cmp k e.0)) (bytes_eq k e.0) (is_among k (entries_of es)) e.1 (lookup (is_at (slice_cmp nat_cmp k)) es) (is_eq-slice_cmp k e.0) (has_among k es)

-- ---- a new key is put as a sorted map puts it

put_at : (k : List ℕ) (v : Tree) (e : List ℕ × Tree) (es ms : List (List ℕ × Tree)) (o : Ordering) → slice_cmp nat_cmp k e.0 ≡ o → bytes_eq k e.0 ≡ false → placed k v (entries_of es) ≡ entries_of ms
    → placed k v (entries_of (e ∷ es)) ≡ entries_of (match_ordering o ((k, v) ∷ e ∷ es) ((e.0, v) ∷ es) (e ∷ ms))
put_at k v e es ms Less is new rest =
    ap (λ b. if b then Entry e.0 e.1 (placed k v (entries_of es)) else Entry k v (entries_of (e ∷ es))) (ap is_lt (nat_list_cmp_total.antisymm e.0 k ∙ ap ordering_reverse is))
put_at k v e es ms Equal is new rest = absurd (true≢false (sym (ap is_eq is) ∙ is_eq-slice_cmp k e.0 ∙ new))
put_at k v e es ms Greater is new rest =
    ap (λ b. if b then Entry e.0 e.1 (placed k v (entries_of es)) else Entry k v (entries_of (e ∷ es))) (ap is_lt (nat_list_cmp_total.antisymm e.0 k ∙ ap ordering_reverse is))
    ∙ ap (Entry e.0 e.1) rest

placed_is_insert : (m : List (List ℕ × Tree)) (k : List ℕ) (v : Tree) → is_among k (entries_of m) ≡ false → placed k v (entries_of m) ≡ entries_of (insert_entry (slice_cmp nat_cmp) m k v)
placed_is_insert [] k v n = refl
placed_is_insert (e ∷ es) k v n =
    let both = or_parts (bytes_eq k e.0) (is_among k (entries_of es)) n in
    put_at k v e es (insert_entry (slice_cmp nat_cmp) es k v) (slice_cmp nat_cmp k e.0) refl both.0 (placed_is_insert es k v both.1)

-- the entries, with a key put at its place unless it is there
abbrev put_new : Bool → List ℕ → Tree → Entries → Entries
put_new there k v es = if there then es else placed k v es

entry_put : (m : List (List ℕ × Tree)) (k : List ℕ) (v : Tree) → entries_of (with_entry m k v) ≡ put_new (is_among k (entries_of m)) k v (entries_of m)
entry_put m k v = ap (λ b. entries_of (if b then m else insert_entry (slice_cmp nat_cmp) m k v)) (has_among k m) ∙ by (is_among k (entries_of m)) refl
  where
    by : (b : Bool) → is_among k (entries_of m) ≡ b → entries_of (if b then m else insert_entry (slice_cmp nat_cmp) m k v) ≡ put_new b k v (entries_of m)
    by true e = refl
    by false e = sym (placed_is_insert m k v e)

-- ---- keys among entries

swap : (a b c : Bool) → (a || (b || c)) ≡ (b || (a || c))
swap true true c = refl
swap true false c = refl
swap false b c = refl

among_placed : (q k : List ℕ) (v : Tree) (es : Entries) → is_among q (placed k v es) ≡ (bytes_eq q k || is_among q es)
among_placed q k v NoEntry = refl
among_placed q k v (Entry j w es) = by (is_below j k) (among_placed q k v es)
  where
    by : (b : Bool) → is_among q (placed k v es) ≡ (bytes_eq q k || is_among q es) → is_among q (if b then Entry j w (placed k v es) else Entry k v (Entry j w es)) ≡ (bytes_eq q k || (bytes_eq q j || is_among q es))
    by true rest = ap (λ x. bytes_eq q j || x) rest ∙ swap (bytes_eq q j) (bytes_eq q k) (is_among q es)
    by false rest = refl

among_merged : (q : List ℕ) (es fs : Entries) → is_among q es ≡ false → is_among q (merged es fs) ≡ is_among q fs
among_merged q NoEntry fs n = refl
among_merged q (Entry k v es) fs n =
    let both = or_parts (bytes_eq q k) (is_among q es) n in
    by (is_among k fs) both.0 (among_merged q es fs both.1)
  where
    by : (b : Bool) → bytes_eq q k ≡ false → is_among q (merged es fs) ≡ is_among q fs → is_among q (if b then merged es fs else placed k v (merged es fs)) ≡ is_among q fs
    by true d rest = rest
    by false d rest = among_placed q k v (merged es fs) ∙ ap (λ x. x || is_among q (merged es fs)) d ∙ rest

among_sorted : (q : List ℕ) (ps : List (List ℕ × Tree)) → is_among q (sorted_entries ps) ≡ is_among q (entries_of ps)
among_sorted q [] = refl
among_sorted q (p ∷ ps) = among_placed q p.0 p.1 (sorted_entries ps) ∙ ap (λ x. bytes_eq q p.0 || x) (among_sorted q ps)

-- ---- the order of keys

below_below : (i j k : List ℕ) → is_below i j ≡ true → is_below j k ≡ true → is_below i k ≡ true
below_below i j k p q =
    true_from_ne_false (is_below i k) (λ n. true≢false (sym p ∙ keys_ordered.chain i k j n (keys_ordered.one_way j k q)))

never_below : (k : List ℕ) → is_below k k ≡ false
never_below k = false_from_ne_true (is_below k k) (λ e. true≢false (sym e ∙ keys_ordered.one_way k k e))

below_differs : (k j : List ℕ) → is_below k j ≡ true → bytes_eq k j ≡ false
below_differs k j p =
    false_from_ne_true (bytes_eq k j) (λ e.
    let same : k ≡ j = same_text k j (sym e) in
    true≢false (sym p ∙ ap (λ (i : List ℕ). is_below k i) (sym same) ∙ never_below k))

absent_below : (k j : List ℕ) (es : Entries) → is_below k j ≡ true → rises_from j es ≡ true → is_among k es ≡ false
absent_below k j NoEntry p h = refl
absent_below k j (Entry i v es) p h =
    let both = and_parts (is_below j i) (rises_from i es) h in
    let below : is_below k i ≡ true = below_below k j i p both.0 in
    or_from (bytes_eq k i) (is_among k es) (below_differs k i below) (absent_below k i es below both.1)

absent_from : (k : List ℕ) (es : Entries) → rises_from k es ≡ true → is_among k es ≡ false
absent_from k NoEntry h = refl
absent_from k (Entry i v es) h =
    let both = and_parts (is_below k i) (rises_from i es) h in
    or_from (bytes_eq k i) (is_among k es) (below_differs k i both.0) (absent_below k i es both.0 both.1)

-- ---- rows of rising keys

abbrev pub are_rising : Entries → Bool
are_rising NoEntry = true
are_rising (Entry k v es) = rises_from k es

behind_rises : (k : List ℕ) (es : Entries) → rises_from k es ≡ true → are_rising es ≡ true
behind_rises k NoEntry h = refl
behind_rises k (Entry i v es) h = (and_parts (is_below k i) (rises_from i es) h).1

pub rising : (es : Entries) → rises es ≡ true → are_rising es ≡ true
rising NoEntry h = refl
rising (Entry k v es) h = h

first_placed : (k : List ℕ) (v : Tree) (es : Entries) → rises_from k es ≡ true → placed k v es ≡ Entry k v es
first_placed k v NoEntry h = refl
first_placed k v (Entry i w es) h =
    ap (λ b. if b then Entry i w (placed k v es) else Entry k v (Entry i w es)) (keys_ordered.one_way k i (and_parts (is_below k i) (rises_from i es) h).0)

-- ---- the three uses

-- the parts of a tuple are put together as a map
pub sorted_parts : (ps : List (List ℕ × Tree)) → are_apart ps ≡ true → entries_of (with_parts [] ps) ≡ sorted_entries ps
sorted_parts [] h = refl
sorted_parts (p ∷ ps) h =
    let both = and_parts (not (is_among p.0 (entries_of ps))) (are_apart ps) h in
    entry_put (with_parts [] ps) p.0 p.1
    ∙ ap (λ es. put_new (is_among p.0 es) p.0 p.1 es) (sorted_parts ps both.1)
    ∙ ap (λ b. put_new b p.0 p.1 (sorted_entries ps)) (among_sorted p.0 ps ∙ unless (is_among p.0 (entries_of ps)) both.0)
  where
    unless : (b : Bool) → not b ≡ true → b ≡ false
    unless false h = refl
    unless true h = absurd cc

-- rising entries stay
pub same_parts : (fs : List (List ℕ × Tree)) → are_rising (entries_of fs) ≡ true → entries_of (with_parts [] fs) ≡ entries_of fs
same_parts [] h = refl
same_parts (f ∷ fs) h =
    entry_put (with_parts [] fs) f.0 f.1
    ∙ ap (λ es. put_new (is_among f.0 es) f.0 f.1 es) (same_parts fs (behind_rises f.0 (entries_of fs) h))
    ∙ ap (λ b. put_new b f.0 f.1 (entries_of fs)) (absent_from f.0 (entries_of fs) h)
    ∙ first_placed f.0 f.1 (entries_of fs) h

-- of two rows the second's entries stay
pub merged_parts : (es m : List (List ℕ × Tree)) → are_rising (entries_of es) ≡ true → entries_of (with_parts m es) ≡ merged (entries_of es) (entries_of m)
merged_parts [] m h = refl
merged_parts (e ∷ es) m h =
    let absent : is_among e.0 (entries_of es) ≡ false = absent_from e.0 (entries_of es) h in
    entry_put (with_parts m es) e.0 e.1
    ∙ ap (λ fs. put_new (is_among e.0 fs) e.0 e.1 fs) (merged_parts es m (behind_rises e.0 (entries_of es) h))
    ∙ ap (λ b. put_new b e.0 e.1 (merged (entries_of es) (entries_of m))) (among_merged e.0 (entries_of es) (entries_of m) absent)

-- ---- a map that isn't empty has rising keys

rises_so : (k : List ℕ) (m : List (List ℕ × Tree)) → IsStrictlySortedBy (slice_cmp nat_cmp) (k ∷ keys_of m) → rises_from k (entries_of m) ≡ true
unfolding IsStrictlySortedBy
rises_so k [] h = refl
rises_so k (e ∷ es) h = and_from (is_below k e.0) (rises_from e.0 (entries_of es)) (ap is_lt h.0.0) (rises_so e.0 es h.1)

pub ordered_rises : (m : List (List ℕ × Tree)) → m ≢ [] → IsStrictlySortedBy (slice_cmp nat_cmp) (keys_of m) → rises (entries_of m) ≡ true
ordered_rises [] n h = absurd (n refl)
ordered_rises (e ∷ es) n h = rises_so e.0 es h

put_some : (o : Ordering) (a b c : List ℕ × Tree) (xs ys zs : List (List ℕ × Tree)) → match_ordering o (a ∷ xs) (b ∷ ys) (c ∷ zs) ≢ []
put_some Less a b c xs ys zs h = absurd cc
put_some Equal a b c xs ys zs h = absurd cc
put_some Greater a b c xs ys zs h = absurd cc

entry_some : (m : List (List ℕ × Tree)) (k : List ℕ) (v : Tree) → with_entry m k v ≢ []
entry_some [] k v h = absurd cc
entry_some (e ∷ es) k v h = by (is_some (lookup (is_at (slice_cmp nat_cmp k)) (e ∷ es))) h
  where
    by : (b : Bool) → (if b then e ∷ es else insert_entry (slice_cmp nat_cmp) (e ∷ es) k v) ≢ []
    by true h = absurd cc
    by false h = put_some (slice_cmp nat_cmp k e.0) (k, v) (e.0, v) e (e ∷ es) es (insert_entry (slice_cmp nat_cmp) es k v) h

pub parts_some : (m ps : List (List ℕ × Tree)) → ps ≢ [] → with_parts m ps ≢ []
parts_some m [] n = absurd (n refl)
parts_some m (p ∷ ps) n = entry_some (with_parts m ps) p.0 p.1

-- ---- the last part first

pub none_left : (m ps : List (List ℕ × Tree)) → length ps ≡ 0 → m ≡ with_parts m ps
none_left m [] h = refl
none_left m (p ∷ ps) h = absurd (omega (arith, h))

pub last_first : (m ps : List (List ℕ × Tree)) (k : List ℕ) (v : Tree) → with_parts m (ps ++ (k, v) ∷ []) ≡ with_parts (with_entry m k v) ps
last_first m [] k v = refl
last_first m (p ∷ ps) k v = ap (λ n. with_entry n p.0 p.1) (last_first m ps k v)

pub rising_some : (es : List (List ℕ × Tree)) → rises (entries_of es) ≡ true → es ≢ []
rising_some [] h e = absurd cc
rising_some (x ∷ es) h e = absurd cc

-- Entries with rising keys: their keys are distinct, and they are in order already.
use Rattle.std.proofs.Common.{◌≡◌, ℕ, ◌||◌, true, false, not, refl, List, [], ◌∷◌, ◌++◌, ap, sym, ◌∙◌, append_assoc}
use Rattle.std.specs.declared.cmp.Ordering.{Ordering}
use Rattle.std.specs.declared.cmp.Ordering.TheVariants.{Less, Equal, Greater}
use Rattle.std.specs.List.{list_any}
use Rattle.std.specs.Ordering.{nat_cmp, is_lt, is_eq, match_ordering, ordering_reverse}
use Rattle.std.specs.Cmp.Lexicographic.{slice_cmp, nat_list_cmp_total}
use Rattle.std.specs.Str.{bytes_eq}
use Rattle.std.specs.BTreeMap.{insert_entry}
use Rattle.std.proofs.lemmas.Bool.{and_parts}
use Rattle.std.proofs.lemmas.Map.Text.{is_eq-slice_cmp}
use Rattle.cl_values.specs.Tree.{Tree, Items, NoItem, Item, Entries, NoEntry, Entry, items_of, entries_of}
use Rattle.cl_values.specs.Valid.{is_below, keys_in, rises_from, rises}
use Rattle.cl_text.specs.Literal.{are_distinct, are_tuple_keys, by_key}
use Rattle.cl_text.proofs.Sorted.{both_true}
use Rattle.cl_text.proofs.Parts.{sorted_onto}

-- values and entries as lists
abbrev pub list_of : Items → List Tree
list_of NoItem = []
list_of (Item v vs) = v ∷ list_of vs

abbrev pub entry_list : Entries → List (List ℕ × Tree)
entry_list NoEntry = []
entry_list (Entry k v es) = (k, v) ∷ entry_list es

pub items_again : (vs : Items) → items_of (list_of vs) ≡ vs
items_again NoItem = refl
items_again (Item v vs) = ap (λ (x : Items). Item v x) (items_again vs)

pub entries_again : (es : Entries) → entries_of (entry_list es) ≡ es
entries_again NoEntry = refl
entries_again (Entry k v es) = ap (λ (x : Entries). Entry k v x) (entries_again es)

less : (o : Ordering) → is_lt o ≡ true → o ≡ Less
less Less e = refl
less Equal e = absurd cc
less Greater e = absurd cc

order_below : (k j : List ℕ) → is_below k j ≡ true → slice_cmp nat_cmp k j ≡ Less
order_below k j h = less (slice_cmp nat_cmp k j) h

below_trans : (i j k : List ℕ) → is_below i j ≡ true → is_below j k ≡ true → is_below i k ≡ true
below_trans i j k a b = ap is_lt (nat_list_cmp_total.trans i j k (order_below i j a) (order_below j k b))

lower : (k j : List ℕ) (es : Entries) → is_below k j ≡ true → rises_from j es ≡ true → rises_from k es ≡ true
lower k j NoEntry a h = refl
lower k j (Entry i v es) a h =
    let parts = and_parts (is_below j i) (rises_from i es) h in
    both_true (is_below k i) (rises_from i es) (below_trans k j i a parts.0) parts.1

-- a key isn't among those above it
apart : (k : List ℕ) (es : Entries) → rises_from k es ≡ true → list_any (bytes_eq k) (keys_in es) ≡ false
apart k NoEntry h = refl
apart k (Entry j v es) h =
    let parts = and_parts (is_below k j) (rises_from j es) h in
    let differs : bytes_eq k j ≡ false = sym (is_eq-slice_cmp k j) ∙ ap is_eq (order_below k j parts.0) in
    λ i. differs i || apart k es (lower k j es parts.0 parts.1) i

distinct : (k : List ℕ) (es : Entries) → rises_from k es ≡ true → are_distinct (k ∷ keys_in es) ≡ true
distinct k NoEntry h = refl
distinct k (Entry j v es) h =
    let parts = and_parts (is_below k j) (rises_from j es) h in
    both_true (not (list_any (bytes_eq k) (keys_in (Entry j v es)))) (are_distinct (keys_in (Entry j v es))) (ap not (apart k (Entry j v es) h)) (distinct j es parts.1)

pub rising_keys : (es : Entries) → rises es ≡ true → are_tuple_keys (keys_in es) ≡ true
rising_keys NoEntry h = h
rising_keys (Entry k v es) h = distinct k es h

-- entries that all stand before a key
abbrev Under : List (List ℕ × Tree) → List ℕ → Type 0
Under [] k = Unit {0}
Under (e ∷ es) k = (is_below e.0 k ≡ true) × Under es k

insert_last : (m : List (List ℕ × Tree)) (k : List ℕ) (v : Tree) → Under m k → insert_entry (slice_cmp nat_cmp) m k v ≡ m ++ (k, v) ∷ []
insert_last [] k v u = refl
insert_last (e ∷ es) k v u =
    let order : slice_cmp nat_cmp k e.0 ≡ Greater = nat_list_cmp_total.antisymm k e.0 ∙ ap ordering_reverse (order_below e.0 k u.0) in
    ap (λ (o : Ordering). match_ordering o ((k, v) ∷ e ∷ es) ((e.0, v) ∷ es) (e ∷ insert_entry (slice_cmp nat_cmp) es k v)) order
    ∙ ap (λ (x : List (List ℕ × Tree)). e ∷ x) (insert_last es k v u.1)

under_more : (m : List (List ℕ × Tree)) (k : List ℕ) (v : Tree) (j : List ℕ) → Under m k → is_below k j ≡ true → Under (m ++ (k, v) ∷ []) j
under_more [] k v j u b = (b, tt)
under_more (e ∷ es) k v j u b = (below_trans e.0 k j u.0 b, under_more es k v j u.1 b)

in_order : (k : List ℕ) (v : Tree) (es : Entries) (m : List (List ℕ × Tree)) → Under m k → rises_from k es ≡ true → sorted_onto m ((k, v) ∷ entry_list es) ≡ m ++ (k, v) ∷ entry_list es
in_order k v NoEntry m u h = insert_last m k v u
in_order k v (Entry j w es) m u h =
    let parts = and_parts (is_below k j) (rises_from j es) h in
    ap (λ (x : List (List ℕ × Tree)). sorted_onto x ((j, w) ∷ entry_list es)) (insert_last m k v u)
    ∙ (in_order j w es (m ++ (k, v) ∷ []) (under_more m k v j u parts.0) parts.1
    ∙ append_assoc m ((k, v) ∷ []) ((j, w) ∷ entry_list es))

pub sorted_again : (es : Entries) → rises es ≡ true → by_key (entry_list es) ≡ entry_list es
sorted_again NoEntry h = refl
sorted_again (Entry k v es) h = in_order k v es [] tt h

-- Parts of a literal, along the loops that read them.
use Rattle.std.proofs.Common.{◌≡◌, ◌==◌, ◌≤◌, ◌<◌, ℕ, ◌+◌, refl, List, [], ◌∷◌, ◌++◌, length, drop, get_or, Bool, true, false, fold, arith, ap, sym, subst, ◌∙◌, append_assoc, append-nil}
use Rattle.std.specs.Prelude.{Result, Ok, Err, IsErrAnd}
use Rattle.std.specs.Ordering.{nat_cmp}
use Rattle.std.proofs.lemmas.Bool.Decides.{nat_tests}
use Rattle.std.proofs.lemmas.List.{drop_all}
use Rattle.std.specs.Cmp.Lexicographic.{slice_cmp}
use Rattle.std.specs.BTreeMap.{insert_entry}
use Rattle.cl_types.specs.Fault.{IsRefusal, IfRefused}
use Rattle.cl_types.specs.declared.fault.Fault.{Fault}
use Rattle.cl_types.specs.declared.fault.Fault.TheVariants.{Refused, NoMemory}
use Rattle.cl_sexpr.specs.declared.sexpr.Span.{Span}
use Rattle.cl_sexpr.specs.Tree.{Tree as Item, Forest, Pairs, forest, pairs}
use Rattle.cl_values.specs.Tree.{Tree, TupleV, entries_of}
use Rattle.cl_text.specs.Literal.{only, literal, by_key, made_of, tuple_of, in_front, sole, literals, pair_entry, pair_entries, entries}
use Rattle.cl_text.proofs.Rows.{forest_at, pairs_at}

-- a fault that is handed on: what is refused of a part is refused of the whole
pub handed_on : {A : Type 0} (P Q : Span → Type 0) (fault : Fault Span) (r : Result A (Fault Span)) → ((part : Span) → P part → Q part) → IsErrAnd r (λ given. given ≡ fault) → IsRefusal fault P → IfRefused r Q
handed_on P Q fault (Ok value) so given is = tt
handed_on P Q (Refused part) (Err fault) so given is = subst (λ (f : Fault Span). IsRefusal f Q) (sym given) (so part is)
handed_on P Q NoMemory (Err fault) so given is = subst (λ (f : Fault Span). IsRefusal f Q) (sym given) tt

-- values behind others
abbrev pub behind : List Tree → Result (List Tree) Span → Result (List Tree) Span
behind values (Ok others) = Ok (values ++ others)
behind values (Err span) = Err span

-- entries sorted in among others
abbrev pub sorted_onto : List (List ℕ × Tree) → List (List ℕ × Tree) → List (List ℕ × Tree)
sorted_onto sorted others = fold (λ sorted entry. insert_entry (slice_cmp nat_cmp) sorted entry.0 entry.1) sorted others

-- a tuple of the entries that were sorted
by_sorted : (all : Result (List (List ℕ × Tree)) Span) → made_of (λ es. TupleV (entries_of (by_key es))) all ≡ made_of (λ es. TupleV (entries_of es)) (made_of by_key all)
by_sorted (Ok es) = refl
by_sorted (Err part) = refl

pub tuple_made : (span : Span) (fits : Bool) (all : Result (List (List ℕ × Tree)) Span) (sorted : List (List ℕ × Tree)) (v : Tree) → fits ≡ true → made_of by_key all ≡ Ok sorted → v ≡ TupleV (entries_of sorted) → tuple_of span fits all ≡ Ok v
tuple_made span fits all sorted v good entries is =
    ap (λ (b : Bool). tuple_of span b all) good
    ∙ by_sorted all
    ∙ ap (made_of (λ (es : List (List ℕ × Tree)). TupleV (entries_of es))) entries
    ∙ ap (λ (w : Tree). Ok w) (sym is)

-- one part, or more
pub only_one : (span : Span) (ts : List Item) (value : Result Tree Span) → (length ts == 0) ≡ true → only span (forest ts) value ≡ value
only_one span [] value e = refl
only_one span (t ∷ ts) value e = absurd (some (length (t ∷ ts)) (omega arith) e)
  where
    some : (n : ℕ) → 1 ≤ n → (n == 0) ≡ true → ⊥
    some n h e = grind (arith, nat_tests)

pub more_than_one : (span : Span) (ts : List Item) (value : Result Tree Span) → (length ts == 0) ≡ false → only span (forest ts) value ≡ Err span
more_than_one span [] value e = absurd cc
more_than_one span (t ∷ ts) value e = refl

pub one_part : (span : Span) (ts us : List Item) (t : Item) → ts ≡ t ∷ us → true ≡ (length us == 0) → literal t ≡ sole span (forest ts)
one_part span ts us t is h = sym (only_one span us (literal t) (sym h)) ∙ ap (λ (xs : List Item). sole span (forest xs)) (sym is)

-- values, one after another
behind_more : (vs : List Tree) (v : Tree) (rest : Result (List Tree) Span) → behind vs (in_front (Ok v) rest) ≡ behind (vs ++ v ∷ []) rest
behind_more vs v (Ok others) = ap (λ (ws : List Tree). Ok ws) (sym (append_assoc vs (v ∷ []) others))
behind_more vs v (Err part) = refl

module _ (ts : List Item) (i : ℕ) (vs : List Tree) (inv : literals (forest ts) ≡ behind vs (literals (forest (drop i ts)))) where
  pub values_go_on : (t : Item) (v : Tree) (more : List Tree) → i < length ts → t ≡ get_or ts i t → literal t ≡ Ok v → more ≡ vs ++ v ∷ [] → literals (forest ts) ≡ behind more (literals (forest (drop (i + 1) ts)))
  values_go_on t v more inside at value push =
      let rest : Result (List Tree) Span = literals (forest (drop (i + 1) ts)) in
      inv ∙ ap (λ (f : Forest). behind vs (literals f)) (forest_at ts i t inside at)
      ∙ ap (λ (r : Result Tree Span). behind vs (in_front r rest)) value
      ∙ behind_more vs v rest ∙ ap (λ (ws : List Tree). behind ws rest) (sym push)

  pub values_stop : (t : Item) (part : Span) → i < length ts → t ≡ get_or ts i t → literal t ≡ Err part → literals (forest ts) ≡ Err part
  values_stop t part inside at fault =
      inv ∙ ap (λ (f : Forest). behind vs (literals f)) (forest_at ts i t inside at)
      ∙ ap (λ (r : Result Tree Span). behind vs (in_front r (literals (forest (drop (i + 1) ts))))) fault

  pub all_values : length ts ≤ i → literals (forest ts) ≡ Ok vs
  all_values past =
      inv ∙ ap (λ (us : List Item). behind vs (literals (forest us))) (drop_all i ts past)
      ∙ ap (λ (ws : List Tree). Ok ws) (append-nil vs)

-- entries, one after another
abbrev Sorted : Type 0
Sorted = List (List ℕ × Tree)

sorted_more : (sorted : Sorted) (e : List ℕ × Tree) (rest : Result Sorted Span) → made_of (sorted_onto sorted) (in_front (Ok e) rest) ≡ made_of (sorted_onto (insert_entry (slice_cmp nat_cmp) sorted e.0 e.1)) rest
sorted_more sorted e (Ok others) = refl
sorted_more sorted e (Err part) = refl

entry_goes_on : (sorted more : Sorted) (k : List ℕ) (v : Tree) (entry : Result (List ℕ × Tree) Span) (rest : Result Sorted Span) → entry ≡ Ok (k, v) → more ≡ insert_entry (slice_cmp nat_cmp) sorted k v → made_of (sorted_onto sorted) (in_front entry rest) ≡ made_of (sorted_onto more) rest
entry_goes_on sorted more k v entry rest is put =
    ap (λ (r : Result (List ℕ × Tree) Span). made_of (sorted_onto sorted) (in_front r rest)) is
    ∙ sorted_more sorted (k, v) rest ∙ ap (λ (es : Sorted). made_of (sorted_onto es) rest) (sym put)

module _ (ts : List Item) (i : ℕ) (sorted : Sorted) (whole : Result Sorted Span) (inv : whole ≡ made_of (sorted_onto sorted) (pair_entries (forest (drop i ts)))) where
  pub pairs_go_on : (t : Item) (k : List ℕ) (v : Tree) (more : Sorted) → i < length ts → t ≡ get_or ts i t → pair_entry t ≡ Ok (k, v) → more ≡ insert_entry (slice_cmp nat_cmp) sorted k v → whole ≡ made_of (sorted_onto more) (pair_entries (forest (drop (i + 1) ts)))
  pairs_go_on t k v more inside at entry put =
      inv ∙ ap (λ (f : Forest). made_of (sorted_onto sorted) (pair_entries f)) (forest_at ts i t inside at)
      ∙ entry_goes_on sorted more k v (pair_entry t) (pair_entries (forest (drop (i + 1) ts))) entry put

  pub pairs_stop : (t : Item) (part : Span) → i < length ts → t ≡ get_or ts i t → pair_entry t ≡ Err part → whole ≡ Err part
  pairs_stop t part inside at fault =
      inv ∙ ap (λ (f : Forest). made_of (sorted_onto sorted) (pair_entries f)) (forest_at ts i t inside at)
      ∙ ap (λ (r : Result (List ℕ × Tree) Span). made_of (sorted_onto sorted) (in_front r (pair_entries (forest (drop (i + 1) ts))))) fault

  pub all_pairs : length ts ≤ i → whole ≡ Ok sorted
  all_pairs past = inv ∙ ap (λ (us : List Item). made_of (sorted_onto sorted) (pair_entries (forest us))) (drop_all i ts past)

module _ (ps : List (List ℕ × Item)) (i : ℕ) (sorted : Sorted) (whole : Result Sorted Span) (inv : whole ≡ made_of (sorted_onto sorted) (entries (pairs (drop i ps)))) where
  pub entries_go_on : (p : List ℕ × Item) (v : Tree) (more : Sorted) → i < length ps → p ≡ get_or ps i p → literal p.1 ≡ Ok v → more ≡ insert_entry (slice_cmp nat_cmp) sorted p.0 v → whole ≡ made_of (sorted_onto more) (entries (pairs (drop (i + 1) ps)))
  entries_go_on p v more inside at value put =
      inv ∙ ap (λ (qs : Pairs). made_of (sorted_onto sorted) (entries qs)) (pairs_at ps i p inside at)
      ∙ entry_goes_on sorted more p.0 v (made_of (λ w. (p.0, w)) (literal p.1)) (entries (pairs (drop (i + 1) ps))) (ap (made_of (λ (w : Tree). (p.0, w))) value) put

  pub entries_stop : (p : List ℕ × Item) (part : Span) → i < length ps → p ≡ get_or ps i p → literal p.1 ≡ Err part → whole ≡ Err part
  entries_stop p part inside at fault =
      inv ∙ ap (λ (qs : Pairs). made_of (sorted_onto sorted) (entries qs)) (pairs_at ps i p inside at)
      ∙ ap (λ (r : Result Tree Span). made_of (sorted_onto sorted) (in_front (made_of (λ (w : Tree). (p.0, w)) r) (entries (pairs (drop (i + 1) ps))))) fault

  pub all_entries : length ps ≤ i → whole ≡ Ok sorted
  all_entries past = inv ∙ ap (λ (qs : List (List ℕ × Item)). made_of (sorted_onto sorted) (entries (pairs qs))) (drop_all i ps past)

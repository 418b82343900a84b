-- The entries of sequences, place by place.
use Rattle.std.proofs.Common.{◌≡◌, ℕ, zero, suc, ◌+◌, ◌<◌, ◌≤◌, List, [], ◌∷◌, ◌++◌, length, get_or, map, drop, slice_get, option_map, Bool, true, Option, Some, None, append_assoc, length-append, add-one, refl, sym, ap, ◌∙◌, arith}
use Rattle.std.proofs.Common.{Vec, Global}
use Rattle.std.specs.Prelude.{is_some, IfSome}
use Rattle.std.proofs.lemmas.List.{append-nil, drop_all}
use Rattle.cl_values.proofs.Lists.{next_part}
use Rattle.cl_values.specs.Tree.{Tree as Val}
use Rattle.cl_values.specs.Sequences.{entries_of}
use Rattle.cl_meaning.specs.Sequences.{and_head, heads, tails, and_more, side_by_side, and_entries, all_entries, rows_of}
use Rattle.cl_operands.specs.Rows.{list_in, entries_from, entry_in, and_entry, row_at, width_of, beside_first, rows_in, rows_from}

-- ---- one sequence

there : {A : Type 0} (xs : List A) (i : ℕ) (x : A) → Some x ≡ slice_get xs i → drop i xs ≡ x ∷ drop (suc i) xs
there [] i x h = absurd cc
there (y ∷ xs) zero x h = let same : x ≡ y = cc in ap (λ z. z ∷ xs) (sym same)
there (y ∷ xs) (suc i) x h = there xs i x h

not_there : {A : Type 0} (xs : List A) (i : ℕ) → None ≡ slice_get xs i → drop i xs ≡ []
not_there [] zero h = refl
not_there [] (suc i) h = refl
not_there (y ∷ xs) zero h = absurd cc
not_there (y ∷ xs) (suc i) h = not_there xs i h

next_in : (o : Option (List Val)) (i : ℕ) (x : Val) → Some x ≡ entry_in (option_map (λ xs. slice_get xs i) o) → drop i (list_in o) ≡ x ∷ drop (suc i) (list_in o)
next_in None i x h = absurd cc
next_in (Some xs) i x h = there xs i x h

past_in : (o : Option (List Val)) (i : ℕ) → None ≡ entry_in (option_map (λ xs. slice_get xs i) o) → drop i (list_in o) ≡ []
past_in None zero h = refl
past_in None (suc i) h = refl
past_in (Some xs) i h = not_there xs i h

pub entries_next : (i : ℕ) (v x : Val) → Some x ≡ entry_in (option_map (λ xs. slice_get xs i) (entries_of v)) → entries_from i v ≡ x ∷ entries_from (i + 1) v
entries_next i v x h = rw add-one (next_in (entries_of v) i x h)

pub entries_past : (i : ℕ) (v : Val) → None ≡ entry_in (option_map (λ xs. slice_get xs i) (entries_of v)) → entries_from i v ≡ []
entries_past i v h = past_in (entries_of v) i h

counted_in : (o : Option (List Val)) (n i : ℕ) → option_map length o ≡ Some n → n ≤ i → drop i (list_in o) ≡ []
counted_in None n i h k = absurd cc
counted_in (Some xs) n i h k =
    let same : length xs ≡ n = cc in
    let past : length xs ≤ i = omega arith in
    drop_all i xs past

pub entries_end : (n i : ℕ) (v : Val) (o : Option ℕ) → o ≡ Some n → o ≡ option_map length (entries_of v) → n ≤ i → entries_from i v ≡ []
entries_end n i v o h m k = counted_in (entries_of v) n i (sym m ∙ h) k

known_in : (o : Option (List Val)) (n : ℕ) → option_map length o ≡ Some n → o ≡ Some (drop 0 (list_in o))
known_in None n h = absurd cc
known_in (Some xs) n h = refl

pub entries_known : (n : ℕ) (v : Val) (o : Option ℕ) → o ≡ Some n → o ≡ option_map length (entries_of v) → entries_of v ≡ Some (entries_from 0 v)
entries_known n v o h m = known_in (entries_of v) n (sym m ∙ h)

unknown_in : (o : Option (List Val)) → option_map length o ≡ None → o ≡ None
unknown_in None h = refl
unknown_in (Some xs) h = absurd cc

pub entries_unknown : (v : Val) (o : Option ℕ) → o ≡ None → o ≡ option_map length (entries_of v) → entries_of v ≡ None
entries_unknown v o h m = unknown_in (entries_of v) (sym m ∙ h)

-- ---- a row of entries, sequence by sequence

onto_entry : (row more : List Val) (x : Val) (r : Option (List Val)) → more ≡ row ++ x ∷ [] → option_map (λ l. row ++ l) (and_entry (Some x) r) ≡ option_map (λ l. more ++ l) r
onto_entry row more x None h = refl
onto_entry row more x (Some l) h = ap (λ z. Some z) (sym (append_assoc row (x ∷ []) l) ∙ ap (λ z. z ++ l) (sym h))

at_next : (place : ℕ) (vs : List Val) (i : ℕ) (v : Val) → i < length vs → v ≡ get_or vs i v → row_at place (drop i vs) ≡ and_entry (entry_in (option_map (λ xs. slice_get xs place) (entries_of v))) (row_at place (drop (i + 1) vs))
at_next place vs i v h k = ap (row_at place) (next_part vs i v h k)

-- a turn of the loop along the sequences
pub row_turn : (place : ℕ) (vs : List Val) (i : ℕ) (v x : Val) (o : Option Val) (row more : List Val) (whole : Option (List Val)) → i < length vs → v ≡ get_or vs i v → o ≡ Some x → o ≡ entry_in (option_map (λ xs. slice_get xs place) (entries_of v)) → more ≡ row ++ x ∷ [] → option_map (λ l. row ++ l) (row_at place (drop i vs)) ≡ whole → option_map (λ l. more ++ l) (row_at place (drop (i + 1) vs)) ≡ whole
row_turn place vs i v x o row more whole h k m e pushed so_far =
    sym (onto_entry row more x (row_at place (drop (i + 1) vs)) pushed)
    ∙ ap (λ p. option_map (λ l. row ++ l) (and_entry p (row_at place (drop (i + 1) vs)))) (sym m ∙ e)
    ∙ ap (option_map (λ l. row ++ l)) (sym (at_next place vs i v h k)) ∙ so_far

pub row_stops : (place : ℕ) (vs : List Val) (i : ℕ) (v : Val) (o : Option Val) (row : List Val) (whole : Option (List Val)) → i < length vs → v ≡ get_or vs i v → o ≡ None → o ≡ entry_in (option_map (λ xs. slice_get xs place) (entries_of v)) → option_map (λ l. row ++ l) (row_at place (drop i vs)) ≡ whole → None ≡ whole
row_stops place vs i v o row whole h k m e so_far =
    ap (λ p. option_map (λ l. row ++ l) (and_entry p (row_at place (drop (i + 1) vs)))) (sym m ∙ e)
    ∙ ap (option_map (λ l. row ++ l)) (sym (at_next place vs i v h k)) ∙ so_far

pub row_starts : (vs : List Val) (place : ℕ) → option_map (λ l. [] ++ l) (row_at place vs) ≡ row_at place vs
row_starts vs place = same (row_at place vs)
  where
    same : (o : Option (List Val)) → option_map (λ l. [] ++ l) o ≡ o
    same None = refl
    same (Some l) = refl

pub row_ends : (place : ℕ) (vs : List Val) (i : ℕ) (row : List Val) (whole : Option (List Val)) → length vs ≤ i → option_map (λ l. row ++ l) (row_at place (drop i vs)) ≡ whole → Some row ≡ whole
row_ends place vs i row whole h so_far =
    ap (λ z. Some z) (sym (append-nil row)) ∙ ap (λ l. option_map (λ z. row ++ z) (row_at place l)) (sym (drop_all i vs h)) ∙ so_far

pub one_longer : (row : List Val) (x : Val) (more : List Val) (n : ℕ) → more ≡ row ++ x ∷ [] → length row ≡ n → length more ≡ n + 1
one_longer row x more n h k =
    let same : length more ≡ length (row ++ x ∷ []) = ap length h in
    omega (arith, same, length-append row (x ∷ []), k)

-- ---- the length of the first

one_all : (o : Option (List Val)) (p : Option (List (List Val))) (n : ℕ) → option_map length o ≡ Some n → is_some (and_entries o p) ≡ is_some p
one_all None p n h = absurd cc
one_all (Some xs) None n h = refl
one_all (Some xs) (Some rows) n h = refl

-- a turn of the loop over sequences
pub width_turn : (vs : List Val) (i : ℕ) (v : Val) (n : ℕ) (o : Option ℕ) (whole : Bool) → i < length vs → v ≡ get_or vs i v → o ≡ Some n → o ≡ option_map length (entries_of v) → is_some (all_entries (drop i vs)) ≡ whole → is_some (all_entries (drop (i + 1) vs)) ≡ whole
width_turn vs i v n o whole h k m e so_far =
    sym (one_all (entries_of v) (all_entries (drop (i + 1) vs)) n (sym e ∙ m)) ∙ sym (ap (λ l. is_some (all_entries l)) (next_part vs i v h k)) ∙ so_far

width_one : (o : Option (List Val)) (p : Option (List (List Val))) → is_some (and_entries o p) ≡ true → option_map length o ≡ width_of (and_entries o p)
width_one None None h = absurd cc
width_one None (Some rows) h = absurd cc
width_one (Some xs) None h = absurd cc
width_one (Some xs) (Some rows) h = refl

pub width_first : (vs : List Val) (i : ℕ) (v : Val) (o : Option ℕ) → length vs ≤ i → 0 < length vs → v ≡ get_or vs 0 v → o ≡ option_map length (entries_of v) → is_some (all_entries (drop i vs)) ≡ is_some (all_entries vs) → o ≡ width_of (all_entries vs)
width_first [] i v o h k m e so_far = absurd (omega arith)
width_first (w ∷ vs) i v o h k m e so_far =
    e ∙ ap (λ x. option_map length (entries_of x)) m
    ∙ width_one (entries_of w) (all_entries vs) (sym so_far ∙ ap (λ l. is_some (all_entries l)) (drop_all i (w ∷ vs) h))

-- ---- rows of entries

head_entry : (x : Val) (o : Option (List Val)) → and_head x o ≡ and_entry (Some x) o
head_entry x None = refl
head_entry x (Some l) = refl

heads_first : (xs : List Val) (place : ℕ) (rest : List (List Val)) → heads (drop place xs ∷ rest) ≡ and_entry (slice_get xs place) (heads rest)
heads_first [] zero rest = refl
heads_first [] (suc place) rest = refl
heads_first (x ∷ xs) zero rest = head_entry x (heads rest)
heads_first (x ∷ xs) (suc place) rest = heads_first xs place rest

heads_more : (place : ℕ) (o : Option (List Val)) (p : Option (List (List Val))) (rows : List (List Val)) (r : Option (List Val)) → and_entries o p ≡ Some rows → ((rs : List (List Val)) → p ≡ Some rs → heads (map (drop place) rs) ≡ r) → heads (map (drop place) rows) ≡ and_entry (entry_in (option_map (λ xs. slice_get xs place) o)) r
heads_more place None None rows r h k = absurd cc
heads_more place None (Some rs) rows r h k = absurd cc
heads_more place (Some xs) None rows r h k = absurd cc
heads_more place (Some xs) (Some rs) rows r h k =
    let same : rows ≡ xs ∷ rs = cc in
    ap (λ l. heads (map (drop place) l)) same ∙ heads_first xs place (map (drop place) rs) ∙ ap (and_entry (slice_get xs place)) (k rs refl)

-- a row is the first entries of what is left of the sequences
row_heads : (place : ℕ) (vs : List Val) (rows : List (List Val)) → all_entries vs ≡ Some rows → heads (map (drop place) rows) ≡ row_at place vs
row_heads place [] rows h =
    let same : rows ≡ [] = cc in
    ap (λ l. heads (map (drop place) l)) same
row_heads place (v ∷ vs) rows h = heads_more place (entries_of v) (all_entries vs) rows (row_at place vs) h (row_heads place vs)

entry_none : (o : Option Val) → and_entry o None ≡ None
entry_none None = refl
entry_none (Some x) = refl

no_row_more : (place : ℕ) (o : Option (List Val)) (p : Option (List (List Val))) (r : Option (List Val)) → and_entries o p ≡ None → (p ≡ None → r ≡ None) → and_entry (entry_in (option_map (λ xs. slice_get xs place) o)) r ≡ None
no_row_more place None p r h k = refl
no_row_more place (Some xs) None r h k = ap (and_entry (slice_get xs place)) (k refl) ∙ entry_none (slice_get xs place)
no_row_more place (Some xs) (Some rs) r h k = absurd cc

no_row : (place : ℕ) (vs : List Val) → all_entries vs ≡ None → row_at place vs ≡ None
no_row place [] h = absurd cc
no_row place (v ∷ vs) h = no_row_more place (entries_of v) (all_entries vs) (row_at place vs) h (no_row place vs)

tails_first : (xs : List Val) (place : ℕ) (rest : List (List Val)) → tails (drop place xs ∷ rest) ≡ drop (suc place) xs ∷ tails rest
tails_first [] zero rest = refl
tails_first [] (suc place) rest = refl
tails_first (x ∷ xs) zero rest = refl
tails_first (x ∷ xs) (suc place) rest = tails_first xs place rest

tails_more : (place : ℕ) (rows : List (List Val)) → tails (map (drop place) rows) ≡ map (drop (suc place)) rows
tails_more place [] = refl
tails_more place (xs ∷ rows) = tails_first xs place (map (drop place) rows) ∙ ap (λ l. drop (suc place) xs ∷ l) (tails_more place rows)

more_next : (x : Val) (o : Option (List Val)) (more : List (List Val)) (r : List Val) → and_head x o ≡ Some r → and_more x o more ≡ r ∷ more
more_next x None more r h = absurd cc
more_next x (Some l) more r h = let same : x ∷ l ≡ r = cc in ap (λ z. z ∷ more) same

more_past : (x : Val) (o : Option (List Val)) (more : List (List Val)) → and_head x o ≡ None → and_more x o more ≡ []
more_past x None more h = refl
more_past x (Some l) more h = absurd cc

beside_next : (ys : List Val) (others : List (List Val)) (r : List Val) → heads (ys ∷ others) ≡ Some r → side_by_side ys others ≡ r ∷ beside_first (tails (ys ∷ others))
beside_next [] others r h = absurd cc
beside_next (y ∷ ys) others r h = more_next y (heads others) (side_by_side ys (tails others)) r h

beside_past : (ys : List Val) (others : List (List Val)) → heads (ys ∷ others) ≡ None → side_by_side ys others ≡ []
beside_past [] others h = refl
beside_past (y ∷ ys) others h = more_past y (heads others) (side_by_side ys (tails others)) h

-- with the rows known
next_known : (place : ℕ) (rows : List (List Val)) (r : List Val) → 0 < length rows → heads (map (drop place) rows) ≡ Some r → beside_first (map (drop place) rows) ≡ r ∷ beside_first (map (drop (suc place)) rows)
next_known place [] r h k = absurd (omega arith)
next_known place (xs ∷ rows) r h k =
    beside_next (drop place xs) (map (drop place) rows) r k ∙ ap (λ l. r ∷ beside_first l) (tails_more place (xs ∷ rows))

past_known : (place : ℕ) (rows : List (List Val)) → heads (map (drop place) rows) ≡ None → beside_first (map (drop place) rows) ≡ []
past_known place [] k = refl
past_known place (xs ∷ rows) k = beside_past (drop place xs) (map (drop place) rows) k

some_row : (o : Option (List Val)) (p : Option (List (List Val))) (rows : List (List Val)) → and_entries o p ≡ Some rows → 0 < length rows
some_row None None rows h = absurd cc
some_row None (Some rs) rows h = absurd cc
some_row (Some xs) None rows h = absurd cc
some_row (Some xs) (Some rs) rows h = let same : length rows ≡ suc (length rs) = ap length (rest_of h) in omega (arith, same)
  where
    rest_of : Some (xs ∷ rs) ≡ Some rows → rows ≡ xs ∷ rs
    rest_of e = cc

some_rows : (vs : List Val) (rows : List (List Val)) → 0 < length vs → all_entries vs ≡ Some rows → 0 < length rows
some_rows [] rows h k = absurd (omega arith)
some_rows (v ∷ vs) rows h k = some_row (entries_of v) (all_entries vs) rows k

next_of : (place : ℕ) (o : Option (List (List Val))) (r : Option (List Val)) (row : List Val) → ((rows : List (List Val)) → o ≡ Some rows → (0 < length rows) × (heads (map (drop place) rows) ≡ r)) → (o ≡ None → r ≡ None) → r ≡ Some row → beside_first (map (drop place) (rows_in o)) ≡ row ∷ beside_first (map (drop (suc place)) (rows_in o))
next_of place None r row h k e = absurd (never (k refl) e)
  where
    never : r ≡ None → r ≡ Some row → ⊥
    never m n = cc
next_of place (Some rows) r row h k e = next_known place rows row (h rows refl).0 ((h rows refl).1 ∙ e)

past_of : (place : ℕ) (o : Option (List (List Val))) (r : Option (List Val)) → ((rows : List (List Val)) → o ≡ Some rows → heads (map (drop place) rows) ≡ r) → r ≡ None → beside_first (map (drop place) (rows_in o)) ≡ []
past_of place None r h e = refl
past_of place (Some rows) r h e = past_known place rows (h rows refl ∙ e)

-- the row at a place, and those behind it
pub rows_next : (place : ℕ) (vs : List Val) (r : List Val) → 0 < length vs → row_at place vs ≡ Some r → rows_from place vs ≡ r ∷ rows_from (place + 1) vs
rows_next place vs r h e = rw add-one (next_of place (all_entries vs) (row_at place vs) r (λ rows k. (some_rows vs rows h k, row_heads place vs rows k)) (no_row place vs) e)

pub rows_past : (place : ℕ) (vs : List Val) → row_at place vs ≡ None → rows_from place vs ≡ []
rows_past place vs e = past_of place (all_entries vs) (row_at place vs) (row_heads place vs) e

none_behind : (place n : ℕ) (o : Option (List (List Val))) → width_of o ≡ Some n → n ≤ place → beside_first (map (drop place) (rows_in o)) ≡ []
none_behind place n None h k = absurd cc
none_behind place n (Some []) h k = absurd cc
none_behind place n (Some (xs ∷ rows)) h k =
    let same : length xs ≡ n = cc in
    let past : length xs ≤ place = omega arith in
    ap (λ l. side_by_side l (map (drop place) rows)) (drop_all place xs past)

pub rows_end : (place n : ℕ) (vs : List Val) → width_of (all_entries vs) ≡ Some n → n ≤ place → rows_from place vs ≡ []
rows_end place n vs h k = none_behind place n (all_entries vs) h k

all_of_each : (rows : List (List Val)) → map (drop 0) rows ≡ rows
all_of_each [] = refl
all_of_each (xs ∷ rows) = ap (λ l. xs ∷ l) (all_of_each rows)

known_rows : (n : ℕ) (o : Option (List (List Val))) → width_of o ≡ Some n → rows_of o ≡ Some (beside_first (map (drop 0) (rows_in o)))
known_rows n None h = absurd cc
known_rows n (Some []) h = absurd cc
known_rows n (Some (xs ∷ rows)) h = ap (λ l. Some (side_by_side xs l)) (sym (all_of_each rows))

pub rows_known : (n : ℕ) (vs : List Val) → width_of (all_entries vs) ≡ Some n → rows_of (all_entries vs) ≡ Some (rows_from 0 vs)
rows_known n vs h = known_rows n (all_entries vs) h

pub rows_unknown : (o : Option (List (List Val))) → width_of o ≡ None → rows_of o ≡ None
rows_unknown None h = refl
rows_unknown (Some []) h = refl
rows_unknown (Some (xs ∷ rows)) h = absurd cc

pub some_sequence : (n : ℕ) (vs : List Val) → width_of (all_entries vs) ≡ Some n → 0 < length vs
some_sequence n [] h = absurd cc
some_sequence n (v ∷ vs) h = omega arith

pub none_if_not : {A : Type 0} (o : Option A) → ((x : A) → o ≡ Some x → ⊥) → o ≡ None
none_if_not None h = refl
none_if_not (Some x) h = absurd (h x refl)

pub counted_row : (o : Option (Vec Val Global)) (r : Vec Val Global) (n : ℕ) → o ≡ Some r → IfSome o (λ v. length v.items ≡ n) → length r.items ≡ n
counted_row o r n h k = rw h at k

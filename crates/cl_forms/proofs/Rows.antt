-- Words and natives in rows by their lengths: a name is compared with those of its own length, since it equals no other.
use Rattle.std.proofs.Common.{◌≡◌, refl, sym, ap, ◌∙◌, ℕ, zero, suc, Bool, true, false, ◌&&◌, ◌||◌, List, [], ◌∷◌, ◌++◌, length, if◌then◌else◌, nat_eq, true≢false, Option, Some, None, append_assoc}
use Rattle.std.specs.Prelude.{map, is_some}
use Rattle.std.specs.List.{list_all}
use Rattle.std.specs.Str.{bytes_eq}
use Rattle.std.proofs.lemmas.Bool.{and_parts, false≢true}
use Rattle.std.proofs.lemmas.List.Folds.{list_any-append}
use Rattle.cl_forms.specs.Names.{same, is_one_of}
use Rattle.cl_forms.specs.Keywords.{keywords}
use Rattle.cl_forms.specs.Heads.{Version, Row, table, heads, row_of, row_in, native, is_had, define_words, words}
use Rattle.cl_forms.specs.NativeRows.{rows_had}
use Rattle.cl_forms.specs.Rows.{row_at}
use Rattle.cl_forms.proofs.SameNames.{same_turned}

abbrev pub has_length : List ℕ → ℕ → Bool
has_length [] zero = true
has_length [] (suc n) = false
has_length (x ∷ xs) zero = false
has_length (x ∷ xs) (suc n) = has_length xs n

abbrev pub is_shorter : List ℕ → ℕ → Bool
is_shorter xs zero = false
is_shorter [] (suc n) = true
is_shorter (x ∷ xs) (suc n) = is_shorter xs n

-- those whose names have so many bytes
abbrev pub with_length : {A : Type 0} → (A → List ℕ) → ℕ → List A → List A
with_length key n [] = []
with_length key n (x ∷ xs) = if has_length (key x) n then x ∷ with_length key n xs else with_length key n xs

abbrev pub are_shorter : {A : Type 0} → (A → List ℕ) → List A → ℕ → Bool
are_shorter key xs n = list_all (λ x. is_shorter (key x) n) xs

-- ---- a name among the words of its length

and_false : (b : Bool) → (b && false) ≡ false
and_false true = refl
and_false false = refl

pub differs : (word name : List ℕ) → has_length word (length name) ≡ false → same name word ≡ false
differs [] [] h = absurd (true≢false h)
differs [] (y ∷ ys) h = refl
differs (x ∷ xs) [] h = refl
differs (x ∷ xs) (y ∷ ys) h = ap (λ b. nat_eq y x && b) (differs xs ys h) ∙ and_false (nat_eq y x)

-- words by themselves
abbrev pub itself : List ℕ → List ℕ
itself word = word

chosen : (b : Bool) (word : List ℕ) (words few : List (List ℕ)) (name : List ℕ) → (b ≡ false → same name word ≡ false) → is_one_of few name ≡ is_one_of words name → is_one_of (if b then word ∷ few else few) name ≡ is_one_of (word ∷ words) name
chosen true word words few name off rest = ap (λ c. same name word || c) rest
chosen false word words few name off rest = rest ∙ ap (λ c. c || is_one_of words name) (sym (off refl))

of_its_length : (words : List (List ℕ)) (name : List ℕ) → is_one_of (with_length itself (length name) words) name ≡ is_one_of words name
of_its_length [] name = refl
of_its_length (word ∷ words) name =
    chosen (has_length word (length name)) word words (with_length itself (length name) words) name (differs word name) (of_its_length words name)

-- ---- rows

-- n steps above k
abbrev pub above : ℕ → ℕ → ℕ
above zero k = k
above (suc n) k = above n (suc k)

above_next : (n k : ℕ) → above n (suc k) ≡ suc (above n k)
above_next zero k = refl
above_next (suc n) k = above_next n (suc k)

above_none : (n : ℕ) → above n 0 ≡ n
above_none zero = refl
above_none (suc n) = above_next n 0 ∙ ap (λ m. suc m) (above_none n)

not_of_length : (word : List ℕ) (n : ℕ) → is_shorter word n ≡ true → has_length word n ≡ false
not_of_length word zero h = absurd (false≢true h)
not_of_length [] (suc n) h = refl
not_of_length (x ∷ xs) (suc n) h = not_of_length xs n h

shorter_still : (word : List ℕ) (n : ℕ) → is_shorter word n ≡ true → is_shorter word (suc n) ≡ true
shorter_still word zero h = absurd (false≢true h)
shorter_still [] (suc n) h = refl
shorter_still (x ∷ xs) (suc n) h = shorter_still xs n h

both_true : (b c : Bool) → b ≡ true → c ≡ true → (b && c) ≡ true
both_true true true p q = refl
both_true true false p q = absurd (false≢true q)
both_true false c p q = absurd (false≢true p)

row_mapped : {R A : Type 0} (rows : List R) (f : R → List A) (n : ℕ) → row_at rows f n ≡ row_at (map f rows) (λ row. row) n
unfolding row_at
row_mapped [] f n = refl
row_mapped (row ∷ rows) f zero = refl
row_mapped (row ∷ rows) f (suc n) = row_mapped rows f n

-- so many rows, from a length on
abbrev pub rows_from : {A : Type 0} → (A → List ℕ) → ℕ → ℕ → List A → List (List A)
rows_from key n zero words = []
rows_from key n (suc count) words = with_length key n words ∷ rows_from key (suc n) count words

module _ {A : Type 0} (key : A → List ℕ) where
  all_shorter_still : (words : List A) (n : ℕ) → are_shorter key words n ≡ true → are_shorter key words (suc n) ≡ true
  all_shorter_still [] n h = refl
  all_shorter_still (word ∷ words) n h =
      let both = and_parts (is_shorter (key word) n) (are_shorter key words n) h in
      both_true (is_shorter (key word) (suc n)) (are_shorter key words (suc n)) (shorter_still (key word) n both.0) (all_shorter_still words n both.1)

  passed_over : (b : Bool) (word : A) (few : List A) → b ≡ false → few ≡ [] → (if b then word ∷ few else few) ≡ []
  passed_over true word few p q = absurd (true≢false p)
  passed_over false word few p q = q

  none_of_length : (words : List A) (n : ℕ) → are_shorter key words n ≡ true → with_length key n words ≡ []
  none_of_length [] n h = refl
  none_of_length (word ∷ words) n h =
      let both = and_parts (is_shorter (key word) n) (are_shorter key words n) h in
      passed_over (has_length (key word) n) word (with_length key n words) (not_of_length (key word) n both.0) (none_of_length words n both.1)

  none_above : (words : List A) (n k : ℕ) → are_shorter key words k ≡ true → with_length key (above n k) words ≡ []
  none_above words zero k h = none_of_length words k h
  none_above words (suc n) k h = none_above words n (suc k) (all_shorter_still words k h)

  row_is : (words : List A) (k count n : ℕ) → are_shorter key words (above count k) ≡ true → row_at (rows_from key k count words) (λ row. row) n ≡ with_length key (above n k) words
  unfolding row_at
  row_is words k zero n h = sym (none_above words n k h)
  row_is words k (suc count) zero h = refl
  row_is words k (suc count) (suc n) h = row_is words (suc k) count n h

-- the row for a length holds those whose names are so long
pub row_of_length : {R A : Type 0} (key : A → List ℕ) (rows : List R) (f : R → List A) (words : List A) (count n : ℕ) → map f rows ≡ rows_from key 0 count words → are_shorter key words (above count 0) ≡ true → row_at rows f n ≡ with_length key n words
row_of_length key rows f words count n are short =
    row_mapped rows f n ∙ ap (λ some. row_at some (λ row. row) n) are ∙ row_is key words 0 count n short ∙ ap (λ m. with_length key m words) (above_none n)

-- a name is one of the words where it is in the row for its length
pub by_length : {R : Type 0} (rows : List R) (f : R → List (List ℕ)) (words : List (List ℕ)) (count : ℕ) (name : List ℕ) → map f rows ≡ rows_from itself 0 count words → are_shorter itself words (above count 0) ≡ true → is_one_of (row_at rows f (length name)) name ≡ is_one_of words name
by_length rows f words count name are short =
    ap (λ few. is_one_of few name) (row_of_length itself rows f words count (length name) are short) ∙ of_its_length words name

-- ---- the words of a version

-- the keywords and the define words
abbrev pub other_words : List (List ℕ)
other_words = keywords ++ define_words

either : (a b : Bool) → a ≡ b → (row : Row) (c : Bool) (o : Option Row) → c ≡ is_some o → (a || c) ≡ is_some (if b then Some row else o)
either true true h row c o k = refl
either false false h row c o k = k
either true false h row c o k = absurd (true≢false h)
either false true h row c o k = absurd (false≢true h)

names_found : (rows : List Row) (x : List ℕ) → is_one_of (map (λ row. row.name) rows) x ≡ is_some (row_in rows x)
names_found [] x = refl
names_found (row ∷ rows) x =
    either (same x row.name) (bytes_eq row.name x) (same_turned x row.name) row (is_one_of (map (λ r. r.name) rows) x) (row_in rows x) (names_found rows x)

-- a name is a word of a version where it is a native's there or one of the others
word_is : (version : Version) (x : List ℕ) → is_one_of (words version) x ≡ (is_some (native version x) || is_one_of other_words x)
unfolding words native
word_is version x =
    ap (λ ws. is_one_of ws x) (append_assoc (map (λ row. row.name) (table version)) keywords define_words)
    ∙ list_any-append (same x) (map (λ row. row.name) (table version)) other_words
    ∙ ap (λ b. b || is_one_of other_words x) (names_found (table version) x)

pub word_native : (version : Version) (x : List ℕ) → is_some (native version x) ≡ true → true ≡ is_one_of (words version) x
word_native version x h = sym (word_is version x ∙ ap (λ b. b || is_one_of other_words x) h)

pub word_other : (version : Version) (x : List ℕ) (b : Bool) → is_some (native version x) ≡ false → b ≡ is_one_of other_words x → b ≡ is_one_of (words version) x
word_other version x b h k = k ∙ sym (word_is version x ∙ ap (λ a. a || is_one_of other_words x) h)

-- ---- the natives of a version

step : (had : Bool) (row : Row) (few more : List Row) (x : List ℕ) → row_in few x ≡ row_in more x → row_in (if had then row ∷ few else few) x ≡ row_in (if had then row ∷ more else more) x
step true row few more x h = ap (λ o. if bytes_eq row.name x then Some row else o) h
step false row few more x h = h

over : (had : Bool) (row : Row) (few more : List Row) (x : List ℕ) → bytes_eq row.name x ≡ false → row_in few x ≡ row_in more x → row_in few x ≡ row_in (if had then row ∷ more else more) x
over true row few more x off h = h ∙ sym (ap (λ b. if b then Some row else row_in more x) off)
over false row few more x off h = h

abbrev pub row_name : Row → List ℕ
row_name row = row.name

module _ (version : Version) (x : List ℕ) where
  -- what is found among some rows
  abbrev found : List Row → Option Row
  found rows = row_in (rows_had version rows) x

  among_by : (b : Bool) (row : Row) (few rows : List Row) → (b ≡ false → bytes_eq row.name x ≡ false) → found few ≡ found rows → found (if b then row ∷ few else few) ≡ found (row ∷ rows)
  among_by true row few rows off rest = step (is_had version row.only) row (rows_had version few) (rows_had version rows) x rest
  among_by false row few rows off rest = over (is_had version row.only) row (rows_had version few) (rows_had version rows) x (off refl) rest

  among : (rows : List Row) → found (with_length row_name (length x) rows) ≡ found rows
  among [] = refl
  among (row ∷ rows) = among_by (has_length row.name (length x)) row (with_length row_name (length x) rows) rows (λ off. same_turned row.name x ∙ differs row.name x off) (among rows)

abbrev pub all_rows : List Row
all_rows = map row_of heads

-- a native is found by a name where it is in the row for its length
pub native_by_length : {R : Type 0} (rows : List R) (f : R → List Row) (count : ℕ) (version : Version) (x : List ℕ) → map f rows ≡ rows_from row_name 0 count all_rows → are_shorter row_name all_rows (above count 0) ≡ true → row_in (rows_had version (row_at rows f (length x))) x ≡ native version x
unfolding native
native_by_length rows f count version x are short =
    ap (λ some. row_in (rows_had version some) x) (row_of_length row_name rows f all_rows count (length x) are short) ∙ among version x all_rows

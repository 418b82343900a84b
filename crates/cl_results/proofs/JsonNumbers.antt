-- The whole numbers in a JSON text are below 2 ^ 64.
use Rattle.std.proofs.Common.{◌≡◌, ℕ, ◌<◌, ◌^◌, ◌&&◌, Bool, true, false, List, Option, Some, None, refl}
use Rattle.std.specs.Prelude.{◌==◌, pos, neg_ℤ, nat_lt, nat_le, drop, slice_index, if◌then◌else◌, option_and_then, option_map, IfSome, Float}
use Rattle.std.specs.Float.{binary64, float_is_finite}
use Rattle.std.specs.Float.Numeral.{Parts, minus, scan_numeral, numeral_digits, nearest_float}
use Rattle.std.specs.Ordering.{nat_cmp, match_ordering}
use Rattle.std.specs.declared.cmp.Ordering.{Ordering}
use Rattle.std.specs.declared.cmp.Ordering.TheVariants.{Less, Equal, Greater}
use Rattle.std.specs.Cmp.Lexicographic.{slice_cmp}
use Rattle.std.specs.Str.{is_utf8}
use Rattle.std.proofs.lemmas.Bool.{ltb-true, and_parts}
use Rattle.json.specs.Json as json
use Rattle.json.specs.Lex.{tokens}
use Rattle.serde_json.specs.Data.{Num, unsigned, negative, float, Data, null, boolean, number, string, array, object, Items, no_items, item, Members, no_members, member, put}
use Rattle.serde_json.specs.Read.{is_integer, float_of, number_from, number_of, of_json, of_items, of_members, max_depth, read}
use Rattle.serde_json.specs.Find.{get_member, get, as_array, as_object, as_number, as_u64}
use Rattle.cl_json.specs.Json.{json_of}

-- ---- options

pub either_has : {A : Type 0} (P : A → Type 0) (b : Bool) (x y : Option A) → (b ≡ true → IfSome x P) → IfSome y P → IfSome (if b then x else y) P
either_has P true x y h k = h refl
either_has P false x y h k = k

pub mapped_has : {A B : Type 0} (P : A → Type 0) (Q : B → Type 0) (f : A → B) (o : Option A) → ((a : A) → P a → Q (f a)) → IfSome o P → IfSome (option_map f o) Q
mapped_has P Q f (Some a) so h = so a h
mapped_has P Q f None so h = tt

pub chained_has : {A B : Type 0} (f : A → Option B) (o : Option A) (P : A → Type 0) (Q : B → Type 0) → ((a : A) → P a → IfSome (f a) Q) → IfSome o P → IfSome (option_and_then f o) Q
chained_has f (Some a) P Q so h = so a h
chained_has f None P Q so h = tt

pub anything : {A : Type 0} (o : Option A) → IfSome o (λ a. Unit {0})
anything (Some a) = tt
anything None = tt

-- ---- numbers

abbrev NumFits : Num → Type 0
NumFits (unsigned n) = n < 2 ^ 64
NumFits (negative z) = Unit {0}
NumFits (float x) = Unit {0}

-- each whole number in a value
abbrev mutual
  pub DataFits : Data → Type 0
  DataFits null = Unit {0}
  DataFits (boolean b) = Unit {0}
  DataFits (number n) = NumFits n
  DataFits (string s) = Unit {0}
  DataFits (array ds) = ItemsFit ds
  DataFits (object ms) = MembersFit ms

  pub ItemsFit : Items → Type 0
  ItemsFit no_items = Unit {0}
  ItemsFit (item d ds) = DataFits d × ItemsFit ds

  pub MembersFit : Members → Type 0
  MembersFit no_members = Unit {0}
  MembersFit (member k d ms) = DataFits d × MembersFit ms

float_fits : (b : Bool) (x : Float) → IfSome (if b then Some (float x) else None) NumFits
float_fits true x = tt
float_fits false x = tt

unsigned_fits : (a : Bool) (n : ℕ) (o : Option Num) → IfSome o NumFits → IfSome (if a && nat_lt n (2 ^ 64) then Some (unsigned n) else o) NumFits
unsigned_fits a n o h = either_has NumFits (a && nat_lt n (2 ^ 64)) (Some (unsigned n)) o (λ e. ltb-true n (2 ^ 64) (and_parts a (nat_lt n (2 ^ 64)) e).1) h

number_from_fits : (sign : Bool) (p : Parts) → IfSome (number_from sign p) NumFits
number_from_fits false p = unsigned_fits (is_integer p) (numeral_digits p) (float_of false p) (float_fits (float_is_finite (nearest_float binary64 false p)) (nearest_float binary64 false p))
number_from_fits true p = either_has NumFits (is_integer p && nat_lt 0 (numeral_digits p) && nat_le (numeral_digits p) (2 ^ 63)) (Some (negative (neg_ℤ (pos (numeral_digits p))))) (float_of true p) (λ e. tt) (float_fits (float_is_finite (nearest_float binary64 true p)) (nearest_float binary64 true p))

number_fits : (s : List ℕ) → IfSome (number_of s) NumFits
unfolding number_of
number_fits s = either_has NumFits (slice_index s 0 == minus) (number_from true (scan_numeral (drop 1 s))) (number_from false (scan_numeral s)) (λ e. number_from_fits true (scan_numeral (drop 1 s))) (number_from_fits false (scan_numeral s))

-- ---- values

put_fits : (k : List ℕ) (d : Data) (ms : Members) → DataFits d → MembersFit ms → MembersFit (put k d ms)
put_fits k d no_members g h = (g, tt)
put_fits k d (member l e ms) g h = by (slice_cmp nat_cmp k l) (put_fits k d ms g h.1)
  where
    by : (o : Ordering) → MembersFit (put k d ms) → MembersFit (match_ordering o (member k d (member l e ms)) (member l d ms) (member l e (put k d ms)))
    by Less more = (g, h)
    by Equal more = (g, h.1)
    by Greater more = (h.0, more)

mutual
  value_fits : (j : json.Json) → IfSome (of_json j) DataFits
  value_fits json.null = tt
  value_fits (json.boolean b) = tt
  value_fits (json.number s) = mapped_has NumFits DataFits number (number_of s) (λ n h. h) (number_fits s)
  value_fits (json.string s) = tt
  value_fits (json.array js) = mapped_has ItemsFit DataFits array (of_items js) (λ ds h. h) (items_fit js)
  value_fits (json.object ms) = mapped_has MembersFit DataFits object (of_members ms no_members) (λ found h. h) (members_fit ms no_members tt)

  items_fit : (js : json.Items) → IfSome (of_items js) ItemsFit
  items_fit json.no_items = tt
  items_fit (json.item j js) = chained_has (λ d. option_map (item d) (of_items js)) (of_json j) DataFits ItemsFit (λ d h. mapped_has ItemsFit ItemsFit (item d) (of_items js) (λ ds more. (h, more)) (items_fit js)) (value_fits j)

  members_fit : (ms : json.Members) (found : Members) → MembersFit found → IfSome (of_members ms found) MembersFit
  members_fit json.no_members found h = h
  members_fit (json.member k j ms) found h = chained_has (λ d. of_members ms (put k d found)) (of_json j) DataFits MembersFit (λ d g. members_fit ms (put k d found) (put_fits k d found g h)) (value_fits j)

read_fits : (o : Option json.Json) → IfSome (option_and_then of_json o) DataFits
read_fits (Some j) = value_fits j
read_fits None = tt

pub json_fits : (bytes : List ℕ) → IfSome (json_of bytes) DataFits
unfolding json_of
json_fits bytes = either_has DataFits (is_utf8 bytes) (read bytes) None (λ e. read_fits (option_and_then (λ p. json.if_last p.0 p.1) (json.value max_depth (tokens bytes)))) tt

-- ---- parts of values

member_fits : (k : List ℕ) (ms : Members) → MembersFit ms → IfSome (get_member k ms) DataFits
member_fits k no_members h = tt
member_fits k (member l e ms) h = by (slice_cmp nat_cmp k l) (member_fits k ms h.1)
  where
    by : (o : Ordering) → IfSome (get_member k ms) DataFits → IfSome (match_ordering o (get_member k ms) (Some e) (get_member k ms)) DataFits
    by Less more = more
    by Equal more = h.0
    by Greater more = more

pub get_fits : (k : List ℕ) (d : Data) → DataFits d → IfSome (get k d) DataFits
get_fits k null h = tt
get_fits k (boolean b) h = tt
get_fits k (number n) h = tt
get_fits k (string s) h = tt
get_fits k (array ds) h = tt
get_fits k (object ms) h = member_fits k ms h

pub array_fits : (d : Data) → DataFits d → IfSome (as_array d) ItemsFit
array_fits null h = tt
array_fits (boolean b) h = tt
array_fits (number n) h = tt
array_fits (string s) h = tt
array_fits (array ds) h = h
array_fits (object ms) h = tt

pub object_fits : (d : Data) → DataFits d → IfSome (as_object d) MembersFit
object_fits null h = tt
object_fits (boolean b) h = tt
object_fits (number n) h = tt
object_fits (string s) h = tt
object_fits (array ds) h = tt
object_fits (object ms) h = h

u64_fits : (n : Num) → NumFits n → IfSome (as_u64 n) (λ k. k < 2 ^ 64)
u64_fits (unsigned n) h = h
u64_fits (negative z) h = tt
u64_fits (float x) h = tt

number_in_fits : (d : Data) → DataFits d → IfSome (as_number d) NumFits
number_in_fits null h = tt
number_in_fits (boolean b) h = tt
number_in_fits (number n) h = h
number_in_fits (string s) h = tt
number_in_fits (array ds) h = tt
number_in_fits (object ms) h = tt

pub whole_fits : (d : Data) → DataFits d → IfSome (option_and_then as_u64 (as_number d)) (λ k. k < 2 ^ 64)
whole_fits d h = chained_has as_u64 (as_number d) NumFits (λ k. k < 2 ^ 64) u64_fits (number_in_fits d h)

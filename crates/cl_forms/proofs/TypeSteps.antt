-- Steps of reading a type.
use Rattle.std.specs.Prelude.{◌≡◌, ℕ, ◌+◌, ◌-◌, ◌≤◌, ◌<◌, ◌&&◌, max, Bool, true, false, codes, nat_le, List, [], ◌∷◌, ◌++◌, if◌then◌else◌, Option, Some, None, option_map, option_and_then, refl}
use Rattle.std.specs.Option.{option_map_or}
use Rattle.std.proofs.Common.{◌∙◌, sym, ap, subst, arith, lit<, add-one, drop-cons, drop, get_or, length}
use Rattle.std.proofs.lemmas.Bool.Decides.{nat_tests}
use Rattle.std.proofs.lemmas.List.{drop_all}
use Rattle.cl_types.specs.Types.{PlainType, IntType, UintType, BoolType, PrincipalType, BuffType, AsciiType, Utf8Type, ListType, TupleType, OptionalType, ResponseType, Fields, NoField, Field, fields, depth_of, depths_of}
use Rattle.cl_sexpr.specs.declared.sexpr.Span.{Span}
use Rattle.cl_sexpr.specs.Tree.{Tree, LeafAt, ListAt, TupleAt, Named, Forest, Empty, Then, Pairs, Pair, forest, pairs, tree_size}
use Rattle.cl_forms.specs.Names.{same}
use Rattle.cl_forms.specs.Items.{two_of}
use Rattle.cl_forms.specs.Shapes.{binding_of}
use Rattle.cl_forms.specs.ItemView.{behind, first_atom, one_of}
use Rattle.cl_forms.specs.WrittenTypes.{simple_type, type_word, stated_length, list_type, response_type, and_field, type_of, type_by, fields_of, fields_of_pairs}
use Rattle.cl_forms.specs.TypeRoom.{within, fields_within, list_by, followed, and_more, field_within, with_field, sequence_by, sequence_type}
use Rattle.cl_forms.specs.declared.type_word.TypeWord.{TypeWord}
use Rattle.cl_forms.specs.declared.type_word.TypeWord.TheVariants.{Buff, Ascii, Utf8, List as ListWord, Optional, Response, Tuple}

-- a list as a type: by the word that it begins with
pub type_of_list : (ts : List Tree) (at : Span) → type_of (ListAt (forest ts) at) ≡ list_by (first_atom ts) (forest (behind ts))
type_of_list [] at = refl
type_of_list (LeafAt (Named x) at' ∷ ts) at = refl
type_of_list (LeafAt l at' ∷ ts) at = refl
type_of_list (ListAt es at' ∷ ts) at = refl
type_of_list (TupleAt ps at' ∷ ts) at = refl

-- behind tuple stand pairs
pub tuple_word : (es : Forest) → type_by (Some Tuple) es ≡ option_map TupleType (fields_of es)
tuple_word Empty = refl
tuple_word (Then (ListAt (Then (LeafAt (Named k) at) (Then t Empty)) at') es) = refl
tuple_word (Then e es) = refl

-- a pair of a key and a type, and more
abbrev pub field_by : Option (List ℕ × Tree) → Option Fields → Option Fields
field_by None more = None
field_by (Some p) more = and_field p.0 (type_of p.1) more

pub fields_next : (e : Tree) (es : Forest) → fields_of (Then e es) ≡ field_by (binding_of e) (fields_of es)
fields_next (ListAt (Then (LeafAt (Named k) at) (Then t Empty)) at') es = refl
fields_next e es = refl

abbrev HasDepth : Option PlainType → Type 0
HasDepth None = Unit {0}
HasDepth (Some t) = 0 < depth_of t

map_deep : (make : ℕ → PlainType) (o : Option ℕ) → ((n : ℕ) → 0 < depth_of (make n)) → HasDepth (option_map make o)
map_deep make None h = tt
map_deep make (Some n) h = h n

list_deep : (n : Option ℕ) (t : Option PlainType) → HasDepth (list_type n t)
list_deep None t = tt
list_deep (Some n) None = tt
list_deep (Some n) (Some t) = omega arith

response_deep : (t e : Option PlainType) → HasDepth (response_type t e)
response_deep None e = tt
response_deep (Some t) None = tt
response_deep (Some t) (Some e) = omega arith

optional_deep : (t : Option PlainType) → HasDepth (option_map OptionalType t)
optional_deep None = tt
optional_deep (Some t) = omega arith

tuple_deep : (fs : Option Fields) → HasDepth (option_map TupleType fs)
tuple_deep None = tt
tuple_deep (Some fs) = omega arith

choice_deep : (b : Bool) (t : PlainType) (o : Option PlainType) → 0 < depth_of t → HasDepth o → HasDepth (if b then Some t else o)
choice_deep true t o p q = p
choice_deep false t o p q = q

simple_deep : (x : List ℕ) → HasDepth (simple_type x)
simple_deep x =
    choice_deep (same x (codes "int")) IntType _ (lit< tt)
    (choice_deep (same x (codes "uint")) UintType _ (lit< tt)
    (choice_deep (same x (codes "bool")) BoolType _ (lit< tt)
    (choice_deep (same x (codes "principal")) PrincipalType None (lit< tt) tt)))

word_deep : (word : Option TypeWord) (parts : Forest) → HasDepth (type_by word parts)
word_deep None parts = tt
word_deep (Some Buff) Empty = tt
word_deep (Some Buff) (Then e Empty) = map_deep BuffType (stated_length e) (λ n. omega arith)
word_deep (Some Buff) (Then e (Then d es)) = tt
word_deep (Some Ascii) Empty = tt
word_deep (Some Ascii) (Then e Empty) = map_deep AsciiType (stated_length e) (λ n. omega arith)
word_deep (Some Ascii) (Then e (Then d es)) = tt
word_deep (Some Utf8) Empty = tt
word_deep (Some Utf8) (Then e Empty) = map_deep Utf8Type (stated_length e) (λ n. omega arith)
word_deep (Some Utf8) (Then e (Then d es)) = tt
word_deep (Some ListWord) Empty = tt
word_deep (Some ListWord) (Then n Empty) = tt
word_deep (Some ListWord) (Then n (Then t Empty)) = list_deep (stated_length n) (type_of t)
word_deep (Some ListWord) (Then n (Then t (Then d es))) = tt
word_deep (Some Optional) Empty = tt
word_deep (Some Optional) (Then t Empty) = optional_deep (type_of t)
word_deep (Some Optional) (Then t (Then d es)) = tt
word_deep (Some Response) Empty = tt
word_deep (Some Response) (Then t Empty) = tt
word_deep (Some Response) (Then t (Then e Empty)) = response_deep (type_of t) (type_of e)
word_deep (Some Response) (Then t (Then e (Then d es))) = tt
word_deep (Some Tuple) es = rw (tuple_word es) (tuple_deep (fields_of es))

deep : (e : Tree) → HasDepth (type_of e)
deep (LeafAt (Named x) at) = simple_deep x
deep (LeafAt l at) = tt
deep (ListAt (Then (LeafAt (Named x) at') parts) at) = word_deep (type_word x) parts
deep (ListAt items at) = tt
deep (TupleAt ps at) = tuple_deep (fields_of_pairs ps)

zero_deep : (o : Option PlainType) → HasDepth o → None ≡ within 0 o
zero_deep None h = refl
zero_deep (Some t) h = let e : nat_le (depth_of t) 0 ≡ false = grind (arith, nat_tests) in rw e refl

pub within_zero : (e : Tree) → None ≡ within 0 (type_of e)
within_zero e = zero_deep (type_of e) (deep e)

-- ---- one level of room

one_more : (d r : ℕ) → nat_le (1 + d) (r + 1) ≡ nat_le d r
one_more d r = grind (arith, nat_tests)

both_within : (a b r : ℕ) → nat_le (1 + max a b) (r + 1) ≡ (nat_le a r && nat_le b r)
both_within a b r = grind (arith, nat_tests)

pub within_optional : (r : ℕ) (o : Option PlainType) → option_map OptionalType (within r o) ≡ within (r + 1) (option_map OptionalType o)
within_optional r None = refl
within_optional r (Some t) =
    rw (one_more (depth_of t) r)
    (elim (nat_le (depth_of t) r) as (λ b. option_map OptionalType (if b then Some t else None) ≡ (if b then Some (OptionalType t) else None)) [ true ↦ refl | false ↦ refl ])

pub within_list : (r : ℕ) (n : Option ℕ) (o : Option PlainType) → list_type n (within r o) ≡ within (r + 1) (list_type n o)
within_list r None o = refl
within_list r (Some n) None = refl
within_list r (Some n) (Some t) =
    rw (one_more (depth_of t) r)
    (elim (nat_le (depth_of t) r) as (λ b. list_type (Some n) (if b then Some t else None) ≡ (if b then Some (ListType n t) else None)) [ true ↦ refl | false ↦ refl ])

pub within_tuple : (r : ℕ) (o : Option Fields) → option_map TupleType (fields_within r o) ≡ within (r + 1) (option_map TupleType o)
within_tuple r None = refl
within_tuple r (Some fs) =
    rw (one_more (depths_of fs) r)
    (elim (nat_le (depths_of fs) r) as (λ b. option_map TupleType (if b then Some fs else None) ≡ (if b then Some (TupleType fs) else None)) [ true ↦ refl | false ↦ refl ])

response_cases : (a b : Bool) (t e : PlainType) → response_type (if a then Some t else None) (if b then Some e else None) ≡ (if a && b then Some (ResponseType t e) else None)
response_cases true true t e = refl
response_cases true false t e = refl
response_cases false b t e = refl

none_good : (o : Option PlainType) → response_type None o ≡ None
none_good None = refl
none_good (Some t) = refl

none_bad : (o : Option PlainType) → response_type o None ≡ None
none_bad None = refl
none_bad (Some t) = refl

pub within_response : (r : ℕ) (t e : Option PlainType) → response_type (within r t) (within r e) ≡ within (r + 1) (response_type t e)
within_response r None e = none_good (within r e)
within_response r (Some t) None = none_bad (within r (Some t))
within_response r (Some t) (Some e) = response_cases (nat_le (depth_of t) r) (nat_le (depth_of e) r) t e ∙ sym (rw (both_within (depth_of t) (depth_of e) r) refl)

field_cases : (k : List ℕ) (a b : Bool) (t : PlainType) (fs : Fields) → and_field k (if a then Some t else None) (if b then Some fs else None) ≡ (if a && b then Some (Field k t fs) else None)
field_cases k true true t fs = refl
field_cases k true false t fs = refl
field_cases k false b t fs = refl

max_within : (a b r : ℕ) → nat_le (max a b) r ≡ (nat_le a r && nat_le b r)
max_within a b r = grind (arith, nat_tests)

none_field : (k : List ℕ) (o : Option Fields) → and_field k None o ≡ None
none_field k None = refl
none_field k (Some fs) = refl

field_none : (k : List ℕ) (t : Option PlainType) → and_field k t None ≡ None
field_none k None = refl
field_none k (Some t) = refl

within_field : (r : ℕ) (k : List ℕ) (t : Option PlainType) (o : Option Fields) → and_field k (within r t) (fields_within r o) ≡ fields_within r (and_field k t o)
within_field r k None o = none_field k (fields_within r o)
within_field r k (Some t) None = field_none k (within r (Some t))
within_field r k (Some t) (Some fs) = field_cases k (nat_le (depth_of t) r) (nat_le (depths_of fs) r) t fs ∙ sym (rw (max_within (depth_of t) (depths_of fs) r) refl)

pub binding_smaller : (e : Tree) (k : List ℕ) (part : Tree) → binding_of e ≡ Some (k, part) → tree_size part < tree_size e
binding_smaller (ListAt (Then (LeafAt (Named x) at) (Then t Empty)) at') k part h =
    let same_part : t ≡ part = ap (λ o. option_map_or (λ (p : List ℕ × Tree). p.1) o t) h in
    subst (λ (u : Tree). tree_size u < tree_size (ListAt (Then (LeafAt (Named x) at) (Then t Empty)) at')) same_part (omega arith)
binding_smaller e k part h = absurd cc

-- ---- rows of fields

followed_push : (xs : List (List ℕ × PlainType)) (k : List ℕ) (t : PlainType) (gs : Fields) → followed (fields (xs ++ (k, t) ∷ [])) gs ≡ followed (fields xs) (Field k t gs)
followed_push [] k t gs = refl
followed_push (x ∷ xs) k t gs = ap (λ fs. Field x.0 x.1 fs) (followed_push xs k t gs)

followed_none : (fs : Fields) → followed fs NoField ≡ fs
followed_none NoField = refl
followed_none (Field k t fs) = ap (λ gs. Field k t gs) (followed_none fs)

more_push : (xs : List (List ℕ × PlainType)) (k : List ℕ) (t : PlainType) (o : Option Fields) → and_more (fields (xs ++ (k, t) ∷ [])) o ≡ and_more (fields xs) (and_field k (Some t) o)
more_push xs k t None = refl
more_push xs k t (Some gs) = ap (λ (fs : Fields). Some fs) (followed_push xs k t gs)

fields_step : (r : ℕ) (e : Tree) (es : Forest) → with_field (field_within r (binding_of e)) (fields_within r (fields_of es)) ≡ fields_within r (fields_of (Then e es))
fields_step r e es = pair_step (binding_of e) ∙ ap (fields_within r) (sym (fields_next e es)) where
  typed_step : (k : List ℕ) (t : Option PlainType) → with_field (option_map (λ u. (k, u)) t) (fields_within r (fields_of es)) ≡ and_field k t (fields_within r (fields_of es))
  typed_step k None = sym (none_field k (fields_within r (fields_of es)))
  typed_step k (Some t) = refl

  pair_step : (o : Option (List ℕ × Tree)) → with_field (field_within r o) (fields_within r (fields_of es)) ≡ fields_within r (field_by o (fields_of es))
  pair_step None = refl
  pair_step (Some p) = typed_step p.0 (within r (type_of p.1)) ∙ within_field r p.0 (type_of p.1) (fields_of es)

pairs_step : (r : ℕ) (p : List ℕ × Tree) (ps : Pairs) → with_field (field_within r (Some p)) (fields_within r (fields_of_pairs ps)) ≡ fields_within r (fields_of_pairs (Pair p.0 p.1 ps))
pairs_step r p ps = typed_step p.0 (within r (type_of p.1)) ∙ within_field r p.0 (type_of p.1) (fields_of_pairs ps) where
  typed_step : (k : List ℕ) (t : Option PlainType) → with_field (option_map (λ u. (k, u)) t) (fields_within r (fields_of_pairs ps)) ≡ and_field k t (fields_within r (fields_of_pairs ps))
  typed_step k None = sym (none_field k (fields_within r (fields_of_pairs ps)))
  typed_step k (Some t) = refl

-- a field is read, and more are left
module _ (xs : List (List ℕ × PlainType)) (found : Option (List ℕ × PlainType)) (rest whole here : Option Fields) (step : with_field found rest ≡ here) (inv : and_more (fields xs) here ≡ whole) where
  field_stops : None ≡ found → None ≡ whole
  field_stops f = ap (λ o. and_more (fields xs) (with_field o rest)) f ∙ ap (and_more (fields xs)) step ∙ inv

  field_goes_on : (k : List ℕ) (t : PlainType) → Some (k, t) ≡ found → and_more (fields (xs ++ (k, t) ∷ [])) rest ≡ whole
  field_goes_on k t f = more_push xs k t rest ∙ ap (λ o. and_more (fields xs) (with_field o rest)) f ∙ ap (and_more (fields xs)) step ∙ inv

drop_here : {A : Type 0} (xs : List A) (i : ℕ) (d : A) → i < length xs → get_or xs i d ∷ drop (i + 1) xs ≡ drop i xs
drop_here xs i d inside = rw add-one (sym (drop-cons xs i d inside))

module _ (ts : List Tree) (i : ℕ) (d : Tree) (inside : i < length ts) (r : ℕ) (xs : List (List ℕ × PlainType)) (whole : Option Fields) (inv : and_more (fields xs) (fields_within r (fields_of (forest (drop i ts)))) ≡ whole) where
  step_here : with_field (field_within r (binding_of (get_or ts i d))) (fields_within r (fields_of (forest (drop (i + 1) ts)))) ≡ fields_within r (fields_of (forest (drop i ts)))
  step_here = fields_step r (get_or ts i d) (forest (drop (i + 1) ts)) ∙ ap (λ us. fields_within r (fields_of (forest us))) (drop_here ts i d inside)

  pub no_field : None ≡ field_within r (binding_of (get_or ts i d)) → None ≡ whole
  no_field = field_stops xs _ _ whole _ step_here inv

  pub one_field : (k : List ℕ) (t : PlainType) → Some (k, t) ≡ field_within r (binding_of (get_or ts i d)) → and_more (fields (xs ++ (k, t) ∷ [])) (fields_within r (fields_of (forest (drop (i + 1) ts)))) ≡ whole
  one_field = field_goes_on xs _ _ whole _ step_here inv

none_within : (r : ℕ) → nat_le 0 r ≡ true
none_within r = grind (arith, nat_tests)

-- before any field
pub none_before : (more : Option Fields) → and_more (fields []) more ≡ more
none_before None = refl
none_before (Some fs) = refl

empty_within : (r : ℕ) (xs : List (List ℕ × PlainType)) → Some (fields xs) ≡ and_more (fields xs) (fields_within r (Some NoField))
empty_within r xs = rw (none_within r) (ap (λ (fs : Fields). Some fs) (sym (followed_none (fields xs))))

-- all items are fields
pub all_fields : (ts : List Tree) (i r : ℕ) (xs : List (List ℕ × PlainType)) (whole : Option Fields) → length ts ≤ i → and_more (fields xs) (fields_within r (fields_of (forest (drop i ts)))) ≡ whole → Some (fields xs) ≡ whole
all_fields ts i r xs whole past inv =
    empty_within r xs ∙ ap (λ us. and_more (fields xs) (fields_within r (fields_of (forest us)))) (sym (drop_all i ts past)) ∙ inv

-- ---- words with their parts

pub list_word : (ts : List Tree) → type_by (Some ListWord) (forest ts) ≡ option_and_then (λ p. list_type (stated_length p.0) (type_of p.1)) (two_of ts)
list_word [] = refl
list_word (a ∷ []) = refl
list_word (a ∷ b ∷ []) = refl
list_word (a ∷ b ∷ c ∷ ts) = refl

pub optional_word : (ts : List Tree) → type_by (Some Optional) (forest ts) ≡ option_and_then (λ e. option_map OptionalType (type_of e)) (one_of ts)
optional_word [] = refl
optional_word (a ∷ []) = refl
optional_word (a ∷ b ∷ ts) = refl

pub response_word : (ts : List Tree) → type_by (Some Response) (forest ts) ≡ option_and_then (λ p. response_type (type_of p.0) (type_of p.1)) (two_of ts)
response_word [] = refl
response_word (a ∷ []) = refl
response_word (a ∷ b ∷ []) = refl
response_word (a ∷ b ∷ c ∷ ts) = refl

-- the words whose types have no type in them
abbrev pub IsSequence : TypeWord → Type 0
IsSequence Buff = Unit {0}
IsSequence Ascii = Unit {0}
IsSequence Utf8 = Unit {0}
IsSequence ListWord = ⊥
IsSequence Optional = ⊥
IsSequence Response = ⊥
IsSequence Tuple = ⊥

sequence_parts : (word : TypeWord) (ts : List Tree) → IsSequence word → type_by (Some word) (forest ts) ≡ sequence_type word (one_of ts)
sequence_parts Buff [] h = refl
sequence_parts Buff (a ∷ []) h = elim (stated_length a) as (λ o. option_map BuffType o ≡ option_and_then (sequence_by Buff) o) [ None ↦ refl | Some n ↦ refl ]
sequence_parts Buff (a ∷ b ∷ ts) h = refl
sequence_parts Ascii [] h = refl
sequence_parts Ascii (a ∷ []) h = elim (stated_length a) as (λ o. option_map AsciiType o ≡ option_and_then (sequence_by Ascii) o) [ None ↦ refl | Some n ↦ refl ]
sequence_parts Ascii (a ∷ b ∷ ts) h = refl
sequence_parts Utf8 [] h = refl
sequence_parts Utf8 (a ∷ []) h = elim (stated_length a) as (λ o. option_map Utf8Type o ≡ option_and_then (sequence_by Utf8) o) [ None ↦ refl | Some n ↦ refl ]
sequence_parts Utf8 (a ∷ b ∷ ts) h = refl
sequence_parts ListWord ts h = absurd h
sequence_parts Optional ts h = absurd h
sequence_parts Response ts h = absurd h
sequence_parts Tuple ts h = absurd h

one_fits : (r : ℕ) → nat_le 1 (r + 1) ≡ true
one_fits r = grind (arith, nat_tests)

sequence_length : (word : TypeWord) (o : Option ℕ) (r : ℕ) → option_and_then (sequence_by word) o ≡ within (r + 1) (option_and_then (sequence_by word) o)
sequence_length word None r = refl
sequence_length Buff (Some n) r = rw (one_fits r) refl
sequence_length Ascii (Some n) r = rw (one_fits r) refl
sequence_length Utf8 (Some n) r = rw (one_fits r) refl
sequence_length ListWord (Some n) r = refl
sequence_length Optional (Some n) r = refl
sequence_length Response (Some n) r = refl
sequence_length Tuple (Some n) r = refl

-- the type of a buffer or string is one deep
sequence_room : (word : TypeWord) (o : Option Tree) (r : ℕ) → sequence_type word o ≡ within (r + 1) (sequence_type word o)
sequence_room word None r = refl
sequence_room word (Some e) r = sequence_length word (stated_length e) r

pub sequence_word : (word : TypeWord) (ts : List Tree) (r : ℕ) → IsSequence word → sequence_type word (one_of ts) ≡ within (r + 1) (type_by (Some word) (forest ts))
sequence_word word ts r h = sequence_room word (one_of ts) r ∙ ap (within (r + 1)) (sym (sequence_parts word ts h))

-- a type that is one word is one deep
simple_choice : (b : Bool) (t : PlainType) (o : Option PlainType) (r : ℕ) → nat_le (depth_of t) (r + 1) ≡ true → o ≡ within (r + 1) o → (if b then Some t else o) ≡ within (r + 1) (if b then Some t else o)
simple_choice true t o r p q = rw p refl
simple_choice false t o r p q = q

pub within_simple : (x : List ℕ) (r : ℕ) → simple_type x ≡ within (r + 1) (simple_type x)
within_simple x r =
    simple_choice (same x (codes "int")) IntType _ r (one_fits r)
    (simple_choice (same x (codes "uint")) UintType _ r (one_fits r)
    (simple_choice (same x (codes "bool")) BoolType _ r (one_fits r)
    (simple_choice (same x (codes "principal")) PrincipalType None r (one_fits r) refl)))

-- ---- pairs in curly brackets

module _ (ps : List (List ℕ × Tree)) (i : ℕ) (d : List ℕ × Tree) (inside : i < length ps) (r : ℕ) (xs : List (List ℕ × PlainType)) (whole : Option Fields) (inv : and_more (fields xs) (fields_within r (fields_of_pairs (pairs (drop i ps)))) ≡ whole) where
  pair_here : with_field (field_within r (Some (get_or ps i d))) (fields_within r (fields_of_pairs (pairs (drop (i + 1) ps)))) ≡ fields_within r (fields_of_pairs (pairs (drop i ps)))
  pair_here = pairs_step r (get_or ps i d) (pairs (drop (i + 1) ps)) ∙ ap (λ us. fields_within r (fields_of_pairs (pairs us))) (drop_here ps i d inside)

  pub no_part : None ≡ field_within r (Some (get_or ps i d)) → None ≡ whole
  no_part = field_stops xs _ _ whole _ pair_here inv

  pub one_part : (k : List ℕ) (t : PlainType) → Some (k, t) ≡ field_within r (Some (get_or ps i d)) → and_more (fields (xs ++ (k, t) ∷ [])) (fields_within r (fields_of_pairs (pairs (drop (i + 1) ps)))) ≡ whole
  one_part = field_goes_on xs _ _ whole _ pair_here inv

pub all_parts : (ps : List (List ℕ × Tree)) (i r : ℕ) (xs : List (List ℕ × PlainType)) (whole : Option Fields) → length ps ≤ i → and_more (fields xs) (fields_within r (fields_of_pairs (pairs (drop i ps)))) ≡ whole → Some (fields xs) ≡ whole
all_parts ps i r xs whole past inv =
    empty_within r xs ∙ ap (λ us. and_more (fields xs) (fields_within r (fields_of_pairs (pairs us)))) (sym (drop_all i ps past)) ∙ inv

-- ---- types in brackets, their parts read with a level less of room

pub list_made : (ts : List Tree) (a b : Tree) (n : Option ℕ) (t : Option PlainType) (r : ℕ) → Some (a, b) ≡ two_of ts → n ≡ stated_length a → t ≡ within r (type_of b) → list_type n t ≡ within (r + 1) (type_by (Some ListWord) (forest ts))
list_made ts a b n t r two most part =
    (λ i. list_type (most i) (part i)) ∙ within_list r (stated_length a) (type_of b)
    ∙ ap (λ o. within (r + 1) (option_and_then (λ p. list_type (stated_length p.0) (type_of p.1)) o)) two
    ∙ ap (within (r + 1)) (sym (list_word ts))

pub optional_made : (ts : List Tree) (a : Tree) (t : Option PlainType) (r : ℕ) → Some a ≡ one_of ts → t ≡ within r (type_of a) → option_map OptionalType t ≡ within (r + 1) (type_by (Some Optional) (forest ts))
optional_made ts a t r one part =
    ap (option_map OptionalType) part ∙ within_optional r (type_of a)
    ∙ ap (λ o. within (r + 1) (option_and_then (λ e. option_map OptionalType (type_of e)) o)) one
    ∙ ap (within (r + 1)) (sym (optional_word ts))

pub response_made : (ts : List Tree) (a b : Tree) (t e : Option PlainType) (r : ℕ) → Some (a, b) ≡ two_of ts → t ≡ within r (type_of a) → e ≡ within r (type_of b) → response_type t e ≡ within (r + 1) (type_by (Some Response) (forest ts))
response_made ts a b t e r two good bad =
    (λ i. response_type (good i) (bad i)) ∙ within_response r (type_of a) (type_of b)
    ∙ ap (λ o. within (r + 1) (option_and_then (λ p. response_type (type_of p.0) (type_of p.1)) o)) two
    ∙ ap (within (r + 1)) (sym (response_word ts))

pub tuple_made : (ts : List Tree) (word : Option TypeWord) (fs : Option Fields) (r : ℕ) → word ≡ Some Tuple → fs ≡ fields_within r (fields_of (forest ts)) → option_map TupleType fs ≡ within (r + 1) (type_by word (forest ts))
tuple_made ts word fs r is parts =
    ap (option_map TupleType) parts ∙ within_tuple r (fields_of (forest ts))
    ∙ ap (within (r + 1)) (sym (tuple_word (forest ts)) ∙ ap (λ w. type_by w (forest ts)) (sym is))

pub pairs_made : (ps : List (List ℕ × Tree)) (at : Span) (fs : Option Fields) (r : ℕ) → fs ≡ fields_within r (fields_of_pairs (pairs ps)) → option_map TupleType fs ≡ within (r + 1) (type_of (TupleAt (pairs ps) at))
pairs_made ps at fs r parts = ap (option_map TupleType) parts ∙ within_tuple r (fields_of_pairs (pairs ps))

-- What sorting keeps of a type, and what is made of it.
use Rattle.std.proofs.Common.{◌≡◌, ℕ, ◌+◌, ◌*◌, ◌<◌, ◌≤◌, ◌&&◌, ◌||◌, max, nat_eq, not, nat_lt, nat_le, length, Bool, true, false, if◌then◌else◌, Result, Ok, Err, List, refl, arith, ap, sym, ◌∙◌}
use Rattle.std.specs.Cmp.{first_so, second_so}
use Rattle.std.specs.Cmp.Lexicographic.{pointwise}
use Rattle.std.proofs.lemmas.Bool.{and_parts, and_from, lt-leb, le-leb}
use borrow.Author.Tests.{ltb-false}
use Rattle.cl_types.specs.declared.sized.TyRefusal.{TyRefusal}
use Rattle.cl_types.specs.declared.sized.TyRefusal.TheVariants.{TooLarge, TooDeep, EmptyTuple, KeyTwice}
use Rattle.cl_types.specs.Types.{PlainType, ListType, TupleType, OptionalType, ResponseType, Fields, NoField, Field, size_of, sizes_of, depth_of, depths_of}
use Rattle.cl_types.specs.Sized.{everywhere, everywhere_in, has_key, differ, keys_differ, is_among, is_below, rises, keys_rise, is_name, are_named, keys_are_names, length_of, is_within, IsSized, placed, in_order, sorted, sorted_parts, made}
use Rattle.cl_types.proofs.Rising.{rises_differ, rising_again, rising_differ}

and_turned : (a b c : Bool) → (a && (b && c)) ≡ (b && (a && c))
and_turned true true c = refl
and_turned true false c = refl
and_turned false true c = refl
and_turned false false c = refl

module _ (test : PlainType → Bool) where
  everywhere_placed : (k : List ℕ) (t : PlainType) (gs : Fields) → everywhere_in test (placed k t gs) ≡ (everywhere test t && everywhere_in test gs)
  everywhere_placed k t NoField = refl
  everywhere_placed k t (Field j u gs) =
      elim (is_below j k) as (λ b. everywhere_in test (if b then Field j u (placed k t gs) else Field k t (Field j u gs)) ≡ (everywhere test t && (everywhere test u && everywhere_in test gs))) [
        | true ↦ ap (λ (b : Bool). everywhere test u && b) (everywhere_placed k t gs) ∙ and_turned (everywhere test u) (everywhere test t) (everywhere_in test gs)
        | false ↦ refl
      ]

  pub everywhere_ordered : (fs : Fields) → everywhere_in test (in_order fs) ≡ everywhere_in test fs
  everywhere_ordered NoField = refl
  everywhere_ordered (Field k t fs) =
      everywhere_placed k t (in_order fs) ∙ ap (λ (b : Bool). everywhere test t && b) (everywhere_ordered fs)

sizes_placed : (k : List ℕ) (t : PlainType) (gs : Fields) → sizes_of (placed k t gs) ≡ 1 + length k + size_of t + sizes_of gs
sizes_placed k t NoField = refl
sizes_placed k t (Field j u gs) =
    elim (is_below j k) as (λ b. sizes_of (if b then Field j u (placed k t gs) else Field k t (Field j u gs)) ≡ 1 + length k + size_of t + (1 + length j + size_of u + sizes_of gs)) [
      | true ↦ omega (arith, sizes_placed k t gs)
      | false ↦ refl
    ]

sizes_ordered : (fs : Fields) → sizes_of (in_order fs) ≡ sizes_of fs
sizes_ordered NoField = refl
sizes_ordered (Field k t fs) = omega (arith, sizes_placed k t (in_order fs), sizes_ordered fs)

depths_placed : (k : List ℕ) (t : PlainType) (gs : Fields) → depths_of (placed k t gs) ≡ max (depth_of t) (depths_of gs)
depths_placed k t NoField = refl
depths_placed k t (Field j u gs) =
    elim (is_below j k) as (λ b. depths_of (if b then Field j u (placed k t gs) else Field k t (Field j u gs)) ≡ max (depth_of t) (max (depth_of u) (depths_of gs))) [
      | true ↦ omega (arith, depths_placed k t gs)
      | false ↦ refl
    ]

depths_ordered : (fs : Fields) → depths_of (in_order fs) ≡ depths_of fs
depths_ordered NoField = refl
depths_ordered (Field k t fs) = omega (arith, depths_placed k t (in_order fs), depths_ordered fs)

named_placed : (k : List ℕ) (t : PlainType) (gs : Fields) → are_named (placed k t gs) ≡ (is_name k && are_named gs)
named_placed k t NoField = refl
named_placed k t (Field j u gs) =
    elim (is_below j k) as (λ b. are_named (if b then Field j u (placed k t gs) else Field k t (Field j u gs)) ≡ (is_name k && (is_name j && are_named gs))) [
      | true ↦ ap (λ (b : Bool). is_name j && b) (named_placed k t gs) ∙ and_turned (is_name j) (is_name k) (are_named gs)
      | false ↦ refl
    ]

named_ordered : (fs : Fields) → are_named (in_order fs) ≡ are_named fs
named_ordered NoField = refl
named_ordered (Field k t fs) = named_placed k t (in_order fs) ∙ ap (λ (b : Bool). is_name k && b) (named_ordered fs)

named_parts : (fs : Fields) → are_named (sorted_parts fs) ≡ are_named fs
named_parts NoField = refl
named_parts (Field k t fs) = ap (λ (b : Bool). is_name k && b) (named_parts fs)

differ_parts : (fs : Fields) → differ (sorted_parts fs) ≡ differ fs
differ_parts NoField = refl
differ_parts (Field k t fs) = λ i. not (among_parts k fs i) && differ_parts fs i where
  among_parts : (k : List ℕ) (fs : Fields) → is_among k (sorted_parts fs) ≡ is_among k fs
  among_parts k NoField = refl
  among_parts k (Field j u fs) = ap (λ (b : Bool). pointwise nat_eq k j || b) (among_parts k fs)

mutual
  pub size_sorted : (t : PlainType) → size_of (sorted t) ≡ size_of t
  size_sorted (ListType n t) = ap (λ (s : ℕ). 5 + n * s) (size_sorted t)
  size_sorted (TupleType fs) = omega (arith, sizes_ordered (sorted_parts fs), sizes_parts fs)
  size_sorted (OptionalType t) = omega (arith, size_sorted t)
  size_sorted (ResponseType t e) = omega (arith, size_sorted t, size_sorted e)
  size_sorted t = refl

  sizes_parts : (fs : Fields) → sizes_of (sorted_parts fs) ≡ sizes_of fs
  sizes_parts NoField = refl
  sizes_parts (Field k t fs) = omega (arith, size_sorted t, sizes_parts fs)

mutual
  pub depth_sorted : (t : PlainType) → depth_of (sorted t) ≡ depth_of t
  depth_sorted (ListType n t) = omega (arith, depth_sorted t)
  depth_sorted (TupleType fs) = omega (arith, depths_ordered (sorted_parts fs), depths_parts fs)
  depth_sorted (OptionalType t) = omega (arith, depth_sorted t)
  depth_sorted (ResponseType t e) = omega (arith, depth_sorted t, depth_sorted e)
  depth_sorted t = refl

  depths_parts : (fs : Fields) → depths_of (sorted_parts fs) ≡ depths_of fs
  depths_parts NoField = refl
  depths_parts (Field k t fs) = omega (arith, depth_sorted t, depths_parts fs)

-- a test that sorting doesn't change holds everywhere in the sorted type as in the type
module _ (test : PlainType → Bool) (same : (t : PlainType) → test (sorted t) ≡ test t) where
  mutual
    pub everywhere_sorted : (t : PlainType) → everywhere test (sorted t) ≡ everywhere test t
    everywhere_sorted (ListType n t) = λ i. same (ListType n t) i && everywhere_sorted t i
    everywhere_sorted (TupleType fs) = λ i. same (TupleType fs) i && (everywhere_ordered test (sorted_parts fs) ∙ everywhere_parts fs) i
    everywhere_sorted (OptionalType t) = λ i. same (OptionalType t) i && everywhere_sorted t i
    everywhere_sorted (ResponseType t e) = λ i. same (ResponseType t e) i && everywhere_sorted t i && everywhere_sorted e i
    everywhere_sorted t = same t

    everywhere_parts : (fs : Fields) → everywhere_in test (sorted_parts fs) ≡ everywhere_in test fs
    everywhere_parts NoField = refl
    everywhere_parts (Field k t fs) = λ i. everywhere_sorted t i && everywhere_parts fs i

length_sorted : (t : PlainType) → length_of (sorted t) ≡ length_of t
length_sorted (ListType n t) = refl
length_sorted (TupleType fs) = refl
length_sorted (OptionalType t) = refl
length_sorted (ResponseType t e) = refl
length_sorted t = refl

within_sorted : (t : PlainType) → is_within (sorted t) ≡ is_within t
within_sorted t = λ i. nat_le (size_sorted t i) 1048576 && nat_le (length_sorted t i) 1048576

names_sorted : (t : PlainType) → keys_are_names (sorted t) ≡ keys_are_names t
names_sorted (TupleType fs) = named_ordered (sorted_parts fs) ∙ named_parts fs
names_sorted t = refl

key_parts : (fs : Fields) → has_key (TupleType (sorted_parts fs)) ≡ has_key (TupleType fs)
key_parts NoField = refl
key_parts (Field k t fs) = refl

mutual
  pub rise_sorted : (t : PlainType) → everywhere has_key t ≡ true → everywhere keys_rise (sorted t) ≡ everywhere keys_differ t
  rise_sorted (ListType n t) h = rise_sorted t h
  rise_sorted (TupleType fs) h =
      let keys = and_parts (has_key (TupleType fs)) (everywhere_in has_key fs) h in
      λ i. (rises_differ (sorted_parts fs) (key_parts fs ∙ keys.0) ∙ differ_parts fs) i && (everywhere_ordered keys_rise (sorted_parts fs) ∙ rise_parts fs keys.1) i
  rise_sorted (OptionalType t) h = rise_sorted t h
  rise_sorted (ResponseType t e) h =
      λ i. rise_sorted t (first_so (everywhere has_key t) (everywhere has_key e) h) i && rise_sorted e (second_so (everywhere has_key t) (everywhere has_key e) h) i
  rise_sorted t h = refl

  rise_parts : (fs : Fields) → everywhere_in has_key fs ≡ true → everywhere_in keys_rise (sorted_parts fs) ≡ everywhere_in keys_differ fs
  rise_parts NoField h = refl
  rise_parts (Field k t fs) h =
      λ i. rise_sorted t (first_so (everywhere has_key t) (everywhere_in has_key fs) h) i && rise_parts fs (second_so (everywhere has_key t) (everywhere_in has_key fs) h) i

-- what is answered, by the four tests
abbrev pub answered : Bool → Bool → Bool → Bool → PlainType → Result PlainType TyRefusal
answered keyed differ deep within t =
    if not keyed then Err EmptyTuple else if not differ then Err KeyTwice else if deep then Err TooDeep else if not within then Err TooLarge else Ok t

-- what is made of a type, by what holds of it sorted
pub made_sorted : (t s : PlainType) → everywhere has_key t ≡ true → s ≡ sorted t → made t ≡ answered true (everywhere keys_rise s) (nat_lt 32 (depth_of s)) (everywhere is_within s) s
made_sorted t s h e =
    (λ i. answered (h i) (rise i) (nat_lt 32 (depth i)) (within i) (sym e i)) where
      rise : everywhere keys_differ t ≡ everywhere keys_rise s
      rise = sym (rise_sorted t h) ∙ ap (everywhere keys_rise) (sym e)

      depth : depth_of t ≡ depth_of s
      depth = sym (depth_sorted t) ∙ ap depth_of (sym e)

      within : everywhere is_within t ≡ everywhere is_within s
      within = sym (everywhere_sorted is_within within_sorted t) ∙ ap (everywhere is_within) (sym e)

module _ (t s : PlainType) (keyed : everywhere has_key t ≡ true) (is : s ≡ sorted t) where
  pub made_twice : everywhere keys_rise s ≡ false → made t ≡ Err KeyTwice
  made_twice rise =
      made_sorted t s keyed is ∙ ap (λ (b : Bool). answered true b (nat_lt 32 (depth_of s)) (everywhere is_within s) s) rise

  pub made_deep : everywhere keys_rise s ≡ true → 32 < depth_of s → made t ≡ Err TooDeep
  made_deep rise deep =
      made_sorted t s keyed is ∙ (λ i. answered true (rise i) (le-leb 33 (depth_of s) deep i) (everywhere is_within s) s)

  pub made_large : everywhere keys_rise s ≡ true → depth_of s ≤ 32 → everywhere is_within s ≡ false → made t ≡ Err TooLarge
  made_large rise shallow within =
      made_sorted t s keyed is ∙ (λ i. answered true (rise i) (lt-leb 33 (depth_of s) (omega (arith, shallow)) i) (within i) s)

  pub made_found : everywhere keys_rise s ≡ true → depth_of s ≤ 32 → everywhere is_within s ≡ true → made t ≡ Ok s
  made_found rise shallow within =
      made_sorted t s keyed is ∙ (λ i. answered true (rise i) (lt-leb 33 (depth_of s) (omega (arith, shallow)) i) (within i) s)

-- a type that is made passed the four tests
passed : (keyed differ deep within : Bool) (t s : PlainType) → answered keyed differ deep within t ≡ Ok s → (keyed ≡ true) × (differ ≡ true) × (deep ≡ false) × (within ≡ true) × (t ≡ s)
passed false differ deep within t s e = absurd cc
passed true false deep within t s e = absurd cc
passed true true true within t s e = absurd cc
passed true true false false t s e = absurd cc
passed true true false true t s e = (refl, refl, refl, refl, cc)

pub made_is_sized : (t s : PlainType) → everywhere keys_are_names t ≡ true → made t ≡ Ok s → IsSized s
made_is_sized t s names e =
    let p = passed (everywhere has_key t) (everywhere keys_differ t) (nat_lt 32 (depth_of t)) (everywhere is_within t) (sorted t) s e in
    record {
      names = ap (everywhere keys_are_names) (sym p.4) ∙ everywhere_sorted keys_are_names names_sorted t ∙ names;
      keys = ap (everywhere keys_rise) (sym p.4) ∙ rise_sorted t p.0 ∙ p.1;
      depth = omega (arith, ap depth_of (sym p.4), depth_sorted t, not_above 32 (depth_of t) p.2);
      sizes = ap (everywhere is_within) (sym p.4) ∙ everywhere_sorted is_within within_sorted t ∙ p.3;
    } where
      not_above : (a b : ℕ) → nat_lt a b ≡ false → b ≤ a
      not_above a b h = ltb-false a b h

rising_has_key : (t : PlainType) → keys_rise t ≡ true → has_key t ≡ true
rising_has_key (TupleType NoField) h = h
rising_has_key (TupleType (Field k t fs)) h = refl
rising_has_key t h = refl

rising_keys_differ : (t : PlainType) → keys_rise t ≡ true → keys_differ t ≡ true
rising_keys_differ (TupleType fs) h = rising_differ fs h
rising_keys_differ t h = refl

-- a test that follows from another holds everywhere where that one does
module _ (test other : PlainType → Bool) (follows : (t : PlainType) → test t ≡ true → other t ≡ true) where
  mutual
    everywhere_follows : (t : PlainType) → everywhere test t ≡ true → everywhere other t ≡ true
    everywhere_follows (ListType n t) h =
        let p = and_parts (test (ListType n t)) (everywhere test t) h in
        and_from (other (ListType n t)) (everywhere other t) (follows (ListType n t) p.0) (everywhere_follows t p.1)
    everywhere_follows (TupleType fs) h =
        let p = and_parts (test (TupleType fs)) (everywhere_in test fs) h in
        and_from (other (TupleType fs)) (everywhere_in other fs) (follows (TupleType fs) p.0) (parts_follow fs p.1)
    everywhere_follows (OptionalType t) h =
        let p = and_parts (test (OptionalType t)) (everywhere test t) h in
        and_from (other (OptionalType t)) (everywhere other t) (follows (OptionalType t) p.0) (everywhere_follows t p.1)
    everywhere_follows (ResponseType t e) h =
        let p = and_parts (test (ResponseType t e) && everywhere test t) (everywhere test e) h in
        let q = and_parts (test (ResponseType t e)) (everywhere test t) p.0 in
        and_from (other (ResponseType t e) && everywhere other t) (everywhere other e) (and_from (other (ResponseType t e)) (everywhere other t) (follows (ResponseType t e) q.0) (everywhere_follows t q.1)) (everywhere_follows e p.1)
    everywhere_follows t h = follows t h

    parts_follow : (fs : Fields) → everywhere_in test fs ≡ true → everywhere_in other fs ≡ true
    parts_follow NoField h = refl
    parts_follow (Field k t fs) h =
        let p = and_parts (everywhere test t) (everywhere_in test fs) h in
        and_from (everywhere other t) (everywhere_in other fs) (everywhere_follows t p.0) (parts_follow fs p.1)

mutual
  -- a type whose keys rise is in order
  sorted_again : (t : PlainType) → everywhere keys_rise t ≡ true → sorted t ≡ t
  sorted_again (ListType n t) h = ap (λ (u : PlainType). ListType n u) (sorted_again t h)
  sorted_again (TupleType fs) h =
      let p = and_parts (rises fs) (everywhere_in keys_rise fs) h in
      ap (λ (gs : Fields). TupleType (in_order gs)) (sorted_parts_again fs p.1) ∙ ap TupleType (rising_again fs p.0)
  sorted_again (OptionalType t) h = ap OptionalType (sorted_again t h)
  sorted_again (ResponseType t e) h =
      let p = and_parts (everywhere keys_rise t) (everywhere keys_rise e) h in
      λ i. ResponseType (sorted_again t p.0 i) (sorted_again e p.1 i)
  sorted_again t h = refl

  sorted_parts_again : (fs : Fields) → everywhere_in keys_rise fs ≡ true → sorted_parts fs ≡ fs
  sorted_parts_again NoField h = refl
  sorted_parts_again (Field k t fs) h =
      let p = and_parts (everywhere keys_rise t) (everywhere_in keys_rise fs) h in
      λ i. Field k (sorted_again t p.0 i) (sorted_parts_again fs p.1 i)

pub sized_is_made : (t : PlainType) → IsSized t → made t ≡ Ok t
sized_is_made t h =
    (λ i. answered (everywhere_follows keys_rise has_key rising_has_key t h.keys i) (everywhere_follows keys_rise keys_differ rising_keys_differ t h.keys i) (shallow i) (h.sizes i) (sorted_again t h.keys i)) where
      shallow : nat_lt 32 (depth_of t) ≡ false
      shallow = lt-leb 33 (depth_of t) (omega (arith, h.depth))

-- Sequences within a length, and entries joined again.
use Rattle.std.proofs.Common.{◌≡◌, ℕ, ◌+◌, ◌<◌, ◌≤◌, true, List, [], ◌∷◌, ◌++◌, length, Some, refl, sym, ap, subst, ◌∙◌, arith, length-append}
use Rattle.std.specs.List.{All, list_all}
use Rattle.std.specs.Str.{all_scalars}
use Rattle.std.proofs.lemmas.Bool.{and_from}
use Rattle.std.proofs.lemmas.List.Elements.{All-nil, All-append}
use Rattle.std.specs.Prelude.{encode_utf8, encode_utf8_all}
use Rattle.std.proofs.lemmas.List.Folds.{list_all-append}
use Rattle.cl_types.specs.Types.{PlainType, BuffType, AsciiType, Utf8Type, ListType}
use Rattle.cl_types.specs.TypeKinds.{is_sequence, entry_of, resized}
use Rattle.cl_types.specs.Sized.{length_of}
use Rattle.cl_types.proofs.OfKind.{sequence_type}
use Rattle.cl_values.specs.Tree.{Tree, BuffV, AsciiV, Utf8V, ListV, Items, items_of, items_depth, depth_of}
use Rattle.cl_values.specs.Valid.{IsVal, is_text_byte}
use Rattle.cl_values.specs.Wire.{size_of, items_size}
use Rattle.cl_values.specs.Sequences.{values_of, singles, joined, like, entries_of, contents}
use Rattle.cl_values.proofs.Lists.{items_of_values}
use Rattle.cl_values.specs.Typed.{IsOf, AreSome, none, with, without}
use Rattle.cl_values.proofs.ByType.{buff_value, ascii_value, utf8_value, list_value}
use Rattle.cl_values.proofs.OfTypes.{IsIn, AllIn, is_in}
use Rattle.cl_values.proofs.Entries.{list_in, list_of, buff_in, ascii_in, utf8_in, scalars_both, buff_of, ascii_of, utf8_of, singles_many, HasEntries, entries_in, length_is}

-- ---- a sequence that is no longer than a number

pub shortened : (m : ℕ) (t : PlainType) (v : Tree) (xs : List Tree) → IsIn v t → entries_of v ≡ Some xs → is_sequence t ≡ true → length xs ≤ m → IsIn v (resized m t)
shortened m t v xs i e h l =
    sequence_type (λ t. IsIn v t → IsIn v (resized m t)) t h
    (λ n u i. list_of (λ v. entries_of v ≡ Some xs → IsIn v (ListType m u)) v n u i
    (λ vs k e.
    let long : length xs ≡ length (values_of vs) = length_is (ListV vs) (length (values_of vs)) xs (values_of vs) e refl refl in
    subst (λ (ws : Items). IsIn (ListV ws) (ListType m u)) (items_of_values vs) (list_in (values_of vs) m u k.each (omega (arith, l, long)))) e)
    (λ n i. buff_of (λ v. entries_of v ≡ Some xs → IsIn v (BuffType m)) v n i
    (λ b g k e. let long : length xs ≡ length b = length_is (BuffV b) (length b) xs (singles BuffV b) e refl (singles_many BuffV b) in buff_in b m g (omega (arith, l, long))) e)
    (λ n i. ascii_of (λ v. entries_of v ≡ Some xs → IsIn v (AsciiType m)) v n i
    (λ b g p k e. let long : length xs ≡ length b = length_is (AsciiV b) (length b) xs (singles AsciiV b) e refl (singles_many AsciiV b) in ascii_in b m g p (omega (arith, l, long))) e)
    (λ n i. utf8_of (λ v. entries_of v ≡ Some xs → IsIn v (Utf8Type m)) v n i
    (λ c g k e. let long : length xs ≡ length c = length_is (Utf8V c) (length c) xs (singles Utf8V c) e refl (singles_many Utf8V c) in utf8_in c m g (omega (arith, l, long))) e)
    i

-- ---- entries joined again, as a sequence of the same kind

record AreBytesJoined (ys : List Tree) : Type 0 where
  bytes : All (λ b. b < 256) (joined ys)
  short : length (joined ys) ≤ length ys

buffs_joined : (ys : List Tree) → AllIn ys (BuffType 1) → AreBytesJoined ys
buffs_joined [] is = record { bytes = All-nil (λ b. b < 256); short = omega arith }
buffs_joined (y ∷ ys) is =
    let rest : AreBytesJoined ys = buffs_joined ys is.1 in
    buff_of (λ y. AreBytesJoined (y ∷ ys)) y 1 is.0 (λ b h l. record { bytes = All-append (λ b. b < 256) b (joined ys) h rest.bytes; short = omega (arith, l, rest.short, length-append b (joined ys)) })

record AreTextJoined (ys : List Tree) : Type 0 where
  bytes : All (λ b. b < 256) (joined ys)
  text : list_all is_text_byte (joined ys) ≡ true
  short : length (joined ys) ≤ length ys

asciis_joined : (ys : List Tree) → AllIn ys (AsciiType 1) → AreTextJoined ys
asciis_joined [] is = record { bytes = All-nil (λ b. b < 256); text = refl; short = omega arith }
asciis_joined (y ∷ ys) is =
    let rest : AreTextJoined ys = asciis_joined ys is.1 in
    ascii_of (λ y. AreTextJoined (y ∷ ys)) y 1 is.0
    (λ b h g l. record { bytes = All-append (λ b. b < 256) b (joined ys) h rest.bytes; text = list_all-append is_text_byte b (joined ys) ∙ and_from (list_all is_text_byte b) (list_all is_text_byte (joined ys)) g rest.text; short = omega (arith, l, rest.short, length-append b (joined ys)) })

record AreCharactersJoined (ys : List Tree) : Type 0 where
  characters : all_scalars (joined ys) ≡ true
  short : length (joined ys) ≤ length ys

utf8s_joined : (ys : List Tree) → AllIn ys (Utf8Type 1) → AreCharactersJoined ys
utf8s_joined [] is = record { characters = refl; short = omega arith }
utf8s_joined (y ∷ ys) is =
    let rest : AreCharactersJoined ys = utf8s_joined ys is.1 in
    utf8_of (λ y. AreCharactersJoined (y ∷ ys)) y 1 is.0 (λ c h l. record { characters = scalars_both c (joined ys) h rest.characters; short = omega (arith, l, rest.short, length-append c (joined ys)) })

pub like_in : (t : PlainType) (v : Tree) (ys : List Tree) → IsIn v t → is_sequence t ≡ true → AllIn ys (entry_of t) → length ys ≤ length_of t → IsIn (like v ys) t
like_in t v ys i h is l =
    sequence_type (λ t. IsIn v t → AllIn ys (entry_of t) → length ys ≤ length_of t → IsIn (like v ys) t) t h
    (λ n u i is l. list_of (λ v. IsIn (like v ys) (ListType n u)) v n u i (λ vs k. list_in ys n u is l))
    (λ n i is l. let j : AreBytesJoined ys = buffs_joined ys is in buff_of (λ v. IsIn (like v ys) (BuffType n)) v n i (λ b g k. buff_in (joined ys) n j.bytes (omega (arith, l, j.short))))
    (λ n i is l. let j : AreTextJoined ys = asciis_joined ys is in ascii_of (λ v. IsIn (like v ys) (AsciiType n)) v n i (λ b g p k. ascii_in (joined ys) n j.bytes j.text (omega (arith, l, j.short))))
    (λ n i is l. let j : AreCharactersJoined ys = utf8s_joined ys is in utf8_of (λ v. IsIn (like v ys) (Utf8Type n)) v n i (λ c g k. utf8_in (joined ys) n j.characters (omega (arith, l, j.short))))
    i is l

-- ---- some of the entries of a value, joined again, are no larger

-- the bytes of characters
abbrev encoded : List ℕ → ℕ
encoded cs = length (encode_utf8_all cs)

abbrev characters_sum : List Tree → ℕ
characters_sum [] = 0
characters_sum (x ∷ xs) = encoded (contents x) + characters_sum xs

encoded_both : (cs ds : List ℕ) → encoded (cs ++ ds) ≡ encoded cs + encoded ds
encoded_both [] ds = omega arith
encoded_both (c ∷ cs) ds = omega (arith, encoded_both cs ds, length-append (encode_utf8 c) (encode_utf8_all (cs ++ ds)), length-append (encode_utf8 c) (encode_utf8_all cs))

encoded_joined : (xs : List Tree) → encoded (joined xs) ≡ characters_sum xs
encoded_joined [] = refl
encoded_joined (x ∷ xs) = omega (arith, encoded_both (contents x) (joined xs), encoded_joined xs)

joined_singles : (cs : List ℕ) → joined (singles Utf8V cs) ≡ cs
joined_singles [] = refl
joined_singles (c ∷ cs) = ap (λ ds. c ∷ ds) (joined_singles cs)

record AreLess (ys xs : List Tree) : Type 0 where
  size : items_size (items_of ys) ≤ items_size (items_of xs)
  depth : items_depth (items_of ys) ≤ items_depth (items_of xs)
  many : length ys ≤ length xs
  characters : characters_sum ys ≤ characters_sum xs

are_less : {ys xs : List Tree} → AreSome ys xs → AreLess ys xs
are_less none = record { size = omega arith; depth = omega arith; many = omega arith; characters = omega arith }
are_less (with {v = v} a) =
    let rest = are_less a in
    record { size = omega (arith, rest.size); depth = omega (arith, rest.depth); many = omega (arith, rest.many); characters = omega (arith, rest.characters) }
are_less (without {v = v} a) =
    let rest = are_less a in
    record { size = omega (arith, rest.size); depth = omega (arith, rest.depth); many = omega (arith, rest.many); characters = omega (arith, rest.characters) }

some_typed : {ys xs : List Tree} → (t : PlainType) → AreSome ys xs → AllIn xs t → AllIn ys t
some_typed t none is = tt
some_typed t (with a) is = (is.0, some_typed t a is.1)
some_typed t (without a) is = some_typed t a is.1

-- the same of the sequence that they make
less_list : (vs : Items) (ys xs : List Tree) → Some (values_of vs) ≡ Some xs → AreLess ys xs → IsVal (ListV vs) → (depth_of (ListV (items_of ys)) ≤ 32) × (size_of (ListV (items_of ys)) ≤ 1048576)
less_list vs ys xs e l h =
    let same : xs ≡ values_of vs = cc in
    let items : items_of xs ≡ vs = ap items_of same ∙ items_of_values vs in
    let d : items_depth (items_of xs) ≡ items_depth vs = ap items_depth items in
    let z : items_size (items_of xs) ≡ items_size vs = ap items_size items in
    (omega (arith, d, l.depth, h.depth), omega (arith, z, l.size, h.size))

less_utf8 : (cs : List ℕ) (ys xs : List Tree) → Some (singles Utf8V cs) ≡ Some xs → AreLess ys xs → encoded (joined ys) ≤ encoded cs
less_utf8 cs ys xs e l =
    let same : xs ≡ singles Utf8V cs = cc in
    let whole : characters_sum xs ≡ encoded cs = ap characters_sum same ∙ sym (encoded_joined (singles Utf8V cs)) ∙ ap encoded (joined_singles cs) in
    omega (arith, whole, l.characters, encoded_joined ys)

like_small : (t : PlainType) (v : Tree) (xs ys : List Tree) → IsOf v t → is_sequence t ≡ true → entries_of v ≡ Some xs → AreSome ys xs → AllIn ys (entry_of t) → (depth_of (like v ys) ≤ 32) × (size_of (like v ys) ≤ 1048576)
like_small t v xs ys i h e a is =
    let l : AreLess ys xs = are_less a in
    sequence_type (λ t. IsOf v t → AllIn ys (entry_of t) → (depth_of (like v ys) ≤ 32) × (size_of (like v ys) ≤ 1048576)) t h
    (λ n u i is. list_value (λ v. IsVal v → entries_of v ≡ Some xs → (depth_of (like v ys) ≤ 32) × (size_of (like v ys) ≤ 1048576)) v n u i.typed (λ vs g k e. less_list vs ys xs e l k) i.valid e)
    (λ n i is.
    let j : AreBytesJoined ys = buffs_joined ys is in
    buff_value (λ v. IsVal v → entries_of v ≡ Some xs → (depth_of (like v ys) ≤ 32) × (size_of (like v ys) ≤ 1048576)) v n i.typed
    (λ b g k e. (omega arith, omega (arith, k.size, j.short, l.many, length_is (BuffV b) (length b) xs (singles BuffV b) e refl (singles_many BuffV b)))) i.valid e)
    (λ n i is.
    let j : AreTextJoined ys = asciis_joined ys is in
    ascii_value (λ v. IsVal v → entries_of v ≡ Some xs → (depth_of (like v ys) ≤ 32) × (size_of (like v ys) ≤ 1048576)) v n i.typed
    (λ b g k e. (omega arith, omega (arith, k.size, j.short, l.many, length_is (AsciiV b) (length b) xs (singles AsciiV b) e refl (singles_many AsciiV b)))) i.valid e)
    (λ n i is. utf8_value (λ v. IsVal v → entries_of v ≡ Some xs → (depth_of (like v ys) ≤ 32) × (size_of (like v ys) ≤ 1048576)) v n i.typed
    (λ c g k e. (omega arith, omega (arith, k.size, less_utf8 c ys xs e l))) i.valid e)
    i is

entries_are : (t : PlainType) (v : Tree) (xs : List Tree) → IsIn v t → is_sequence t ≡ true → entries_of v ≡ Some xs → AllIn xs (entry_of t) × (length xs ≤ length_of t)
entries_are t v xs i h e =
    let k : HasEntries v t = entries_in v t i h in
    let same : k.entries ≡ xs = some_same (sym k.are ∙ e) in
    subst (λ (zs : List Tree). AllIn zs (entry_of t) × (length zs ≤ length_of t)) same (k.each, k.many)
  where
    some_same : {ys zs : List Tree} → Some ys ≡ Some zs → ys ≡ zs
    some_same f = cc

pub like_some : (t : PlainType) (v : Tree) (xs ys : List Tree) → IsOf v t → is_sequence t ≡ true → entries_of v ≡ Some xs → AreSome ys xs → IsOf (like v ys) t
like_some t v xs ys i h e a =
    let all = entries_are t v xs (is_in v t i) h e in
    let each : AllIn ys (entry_of t) = some_typed (entry_of t) a all.0 in
    let less : AreLess ys xs = are_less a in
    let j : IsIn (like v ys) t = like_in t v ys (is_in v t i) h each (omega (arith, less.many, all.1)) in
    let small = like_small t v xs ys i h e a each in
    record { valid = record { ranges = j.ranges; keys = j.keys; texts = j.texts; depth = small.0; size = small.1 }; typed = j.typed }

-- A value is spelled by bytes.
use Rattle.std.proofs.Common.{◌≡◌, ℕ, ◌+◌, ◌/◌, ◌%◌, ◌<◌, ◌==◌, ◌||◌, Bool, true, false, List, [], ◌∷◌, ◌++◌, length, Option, Some, None, refl, inl, inr, arith}
use Rattle.std.specs.Prelude.{cond, nat_lt, encode_utf8, encode_utf8_all}
use Rattle.std.specs.Int.{cast_unsigned, w128}
use Rattle.std.specs.List.{list_all}
use Rattle.std.specs.Str.{all_scalars}
use Rattle.std.proofs.lemmas.Bool.{and_parts, ltb-true}
use Rattle.std.proofs.lemmas.Bool.Decides.{nat_tests}
use Rattle.std.proofs.lemmas.List.Elements.{All-nil, All-cons, All-append}
use Rattle.cl_types.specs.Name.{IsName, is_letter, is_name_byte, is_operator, is_operator_byte}
use Rattle.cl_c32.specs.ContractName.{IsContractName, is_letter as is_first, is_name_byte as is_part}
use Rattle.cl_values.specs.Tree.{Tree, IntV, UintV, BoolV, BuffV, AsciiV, Utf8V, PrincipalV, ListV, TupleV, NoneV, SomeV, ResponseV, Items, NoItem, Item, items_count, Entries, NoEntry, Entry, entries_count}
use Rattle.cl_values.specs.Wire.{wire, prefix_of, body_of, items_wire, entries_wire, four_bytes, counted, name_wire, contract_wire, principal_prefix}
use Rattle.cl_values.specs.Valid.{InRange, ItemsInRange, EntriesInRange, IsContractPart}
use Rattle.cl_values.specs.Hashes.{AreBytes}
use Rattle.cl_values.proofs.Digests.{bytes_low}
use lib.Utf8.{scalar, scalar_cases}

one : (b : ℕ) (bytes : List ℕ) → b < 256 → AreBytes bytes → AreBytes (b ∷ bytes)
one b bytes h k = All-cons (λ b. b < 256) b bytes h k

both : (front rest : List ℕ) → AreBytes front → AreBytes rest → AreBytes (front ++ rest)
both front rest h k = All-append (λ b. b < 256) front rest h k

nothing : AreBytes []
nothing = All-nil (λ b. b < 256)

-- ---- names

all_low : (f : ℕ → Bool) → ((c : ℕ) → f c ≡ true → c < 256) → (cs : List ℕ) → list_all f cs ≡ true → AreBytes cs
all_low f low [] h = nothing
all_low f low (c ∷ cs) h =
    let parts = and_parts (f c) (list_all f cs) h in
    one c cs (low c parts.0) (all_low f low cs parts.1)

letter_low : (c : ℕ) → is_letter c ≡ true → c < 256
letter_low c h = grind (arith, nat_tests)

name_byte_low : (c : ℕ) → is_name_byte c ≡ true → c < 256
name_byte_low c h = grind (arith, nat_tests)

operator_low : (c : ℕ) → is_operator_byte c ≡ true → c < 256
operator_low c h = grind (arith, nat_tests)

compared_low : (c : ℕ) → (c == 60 || c == 62) ≡ true → c < 256
compared_low c h = grind (arith, nat_tests)

equals_low : (c : ℕ) → (c == 61) ≡ true → c < 256
equals_low c h = grind (arith, nat_tests)

first_low : (c : ℕ) → is_first c ≡ true → c < 256
first_low c h = grind (arith, nat_tests)

part_low : (c : ℕ) → is_part c ≡ true → c < 256
part_low c h = grind (arith, nat_tests)

operator_bytes : (c : ℕ) (cs : List ℕ) → is_operator c cs ≡ true → AreBytes (c ∷ cs)
operator_bytes c [] h = one c [] (operator_low c h) nothing
operator_bytes c (d ∷ []) h =
    let parts = and_parts (c == 60 || c == 62) (d == 61) h in
    one c (d ∷ []) (compared_low c parts.0) (one d [] (equals_low d parts.1) nothing)
operator_bytes c (d ∷ e ∷ cs) h = absurd cc

name_bytes : (name : List ℕ) → IsName name → AreBytes name
name_bytes [] h = nothing
name_bytes (c ∷ cs) h = go (is_letter c) refl h.pattern
  where
    go : (b : Bool) → is_letter c ≡ b → cond b (list_all is_name_byte cs) (is_operator c cs) ≡ true → AreBytes (c ∷ cs)
    go true l h = one c cs (letter_low c l) (all_low is_name_byte name_byte_low cs h)
    go false l h = operator_bytes c cs h

contract_name_bytes : (name : List ℕ) → IsContractName name → AreBytes name
contract_name_bytes [] h = nothing
contract_name_bytes (c ∷ cs) h =
    let parts = and_parts (is_first c) (list_all is_part cs) h.pattern in
    one c cs (first_low c parts.0) (all_low is_part part_low cs parts.1)

-- a name is short enough for one byte of length
spelled_bytes : (name : List ℕ) → length name < 256 → AreBytes name → AreBytes (name_wire name)
spelled_bytes name l h = one (length name) name l h

name_wire_bytes : (name : List ℕ) → IsName name → AreBytes (name_wire name)
name_wire_bytes name h = spelled_bytes name (omega (arith, h.within)) (name_bytes name h)

contract_wire_bytes : (o : Option (List ℕ)) → IsContractPart o → AreBytes (contract_wire o)
contract_wire_bytes None h = nothing
contract_wire_bytes (Some name) h = spelled_bytes name (omega (arith, h.within)) (contract_name_bytes name h)

-- ---- characters

below : (c : ℕ) → scalar c ≡ true → c < 1114112
below c h = elim (scalar_cases c h) [
  | inl low ↦ omega (arith, low)
  | inr high ↦ omega (arith, high.1)
]

-- a later byte of a character
next_low : (c : ℕ) → 128 + c % 64 < 256
next_low c = omega arith

one_low : (c : ℕ) → c < 128 → c < 256
one_low c h = omega (arith, h)

two_low : (c : ℕ) → c < 2048 → 192 + c / 64 < 256
two_low c h = omega (arith, h)

three_low : (c : ℕ) → c < 65536 → 224 + c / 4096 < 256
three_low c h = omega (arith, h)

four_low : (c : ℕ) → c < 1114112 → 240 + c / 262144 < 256
four_low c h = omega (arith, h)

character_bytes : (c : ℕ) → c < 1114112 → AreBytes (encode_utf8 c)
unfolding lib.Utf8.encode
character_bytes c h = by (nat_lt c 128) (nat_lt c 2048) (nat_lt c 65536) refl refl refl
  where
    last : AreBytes ((128 + c % 64) ∷ [])
    last = one (128 + c % 64) [] (next_low c) nothing

    two_last : AreBytes ((128 + c / 64 % 64) ∷ (128 + c % 64) ∷ [])
    two_last = one (128 + c / 64 % 64) ((128 + c % 64) ∷ []) (next_low (c / 64)) last

    three_last : AreBytes ((128 + c / 4096 % 64) ∷ (128 + c / 64 % 64) ∷ (128 + c % 64) ∷ [])
    three_last = one (128 + c / 4096 % 64) ((128 + c / 64 % 64) ∷ (128 + c % 64) ∷ []) (next_low (c / 4096)) two_last

    by : (x y z : Bool) → nat_lt c 128 ≡ x → nat_lt c 2048 ≡ y → nat_lt c 65536 ≡ z → AreBytes (cond x (c ∷ []) (cond y ((192 + c / 64) ∷ (128 + c % 64) ∷ []) (cond z ((224 + c / 4096) ∷ (128 + c / 64 % 64) ∷ (128 + c % 64) ∷ []) ((240 + c / 262144) ∷ (128 + c / 4096 % 64) ∷ (128 + c / 64 % 64) ∷ (128 + c % 64) ∷ []))))
    by true y z d e f = one c [] (one_low c (ltb-true c 128 d)) nothing
    by false true z d e f = one (192 + c / 64) ((128 + c % 64) ∷ []) (two_low c (ltb-true c 2048 e)) last
    by false false true d e f = one (224 + c / 4096) ((128 + c / 64 % 64) ∷ (128 + c % 64) ∷ []) (three_low c (ltb-true c 65536 f)) two_last
    by false false false d e f = one (240 + c / 262144) ((128 + c / 4096 % 64) ∷ (128 + c / 64 % 64) ∷ (128 + c % 64) ∷ []) (four_low c h) three_last

characters_bytes : (cs : List ℕ) → all_scalars cs ≡ true → AreBytes (encode_utf8_all cs)
characters_bytes [] h = nothing
characters_bytes (c ∷ cs) h =
    let parts = and_parts (scalar c) (all_scalars cs) h in
    both (encode_utf8 c) (encode_utf8_all cs) (character_bytes c (below c parts.0)) (characters_bytes cs parts.1)

-- ---- values

counted_bytes : (bytes : List ℕ) → AreBytes bytes → AreBytes (counted bytes)
counted_bytes bytes h = both (four_bytes (length bytes)) bytes (bytes_low 4 (length bytes)) h

prefix_low : (v : Tree) → prefix_of v < 256
prefix_low (IntV z) = omega arith
prefix_low (UintV n) = omega arith
prefix_low (BoolV true) = omega arith
prefix_low (BoolV false) = omega arith
prefix_low (BuffV bytes) = omega arith
prefix_low (AsciiV bytes) = omega arith
prefix_low (Utf8V cs) = omega arith
prefix_low (PrincipalV p) = by p.contract
  where
    by : (o : Option (List ℕ)) → principal_prefix o < 256
    by None = omega arith
    by (Some name) = omega arith
prefix_low (ListV vs) = omega arith
prefix_low (TupleV es) = omega arith
prefix_low NoneV = omega arith
prefix_low (SomeV v) = omega arith
prefix_low (ResponseV true v) = omega arith
prefix_low (ResponseV false v) = omega arith

mutual
  body_bytes : (v : Tree) → InRange v → AreBytes (body_of v)
  body_bytes (IntV z) h = bytes_low 16 (cast_unsigned w128 z)
  body_bytes (UintV n) h = bytes_low 16 n
  body_bytes (BoolV b) h = nothing
  body_bytes (BuffV bytes) h = counted_bytes bytes h
  body_bytes (AsciiV bytes) h = counted_bytes bytes h
  body_bytes (Utf8V cs) h = counted_bytes (encode_utf8_all cs) (characters_bytes cs h)
  body_bytes (PrincipalV p) h = one p.address.version _ (omega (arith, h.0.version)) (both p.address.hash (contract_wire p.contract) h.0.bytes (contract_wire_bytes p.contract h.1))
  body_bytes (ListV vs) h = both (four_bytes (items_count vs)) (items_wire vs) (bytes_low 4 (items_count vs)) (items_bytes vs h)
  body_bytes (TupleV es) h = both (four_bytes (entries_count es)) (entries_wire es) (bytes_low 4 (entries_count es)) (entries_bytes es h)
  body_bytes NoneV h = nothing
  body_bytes (SomeV v) h = one (prefix_of v) (body_of v) (prefix_low v) (body_bytes v h)
  body_bytes (ResponseV good v) h = one (prefix_of v) (body_of v) (prefix_low v) (body_bytes v h)

  items_bytes : (vs : Items) → ItemsInRange vs → AreBytes (items_wire vs)
  items_bytes NoItem h = nothing
  items_bytes (Item v vs) h = both (prefix_of v ∷ body_of v) (items_wire vs) (one (prefix_of v) (body_of v) (prefix_low v) (body_bytes v h.0)) (items_bytes vs h.1)

  entries_bytes : (es : Entries) → EntriesInRange es → AreBytes (entries_wire es)
  entries_bytes NoEntry h = nothing
  entries_bytes (Entry k v es) h =
      both (name_wire k) ((prefix_of v ∷ body_of v) ++ entries_wire es) (name_wire_bytes k h.0)
      (both (prefix_of v ∷ body_of v) (entries_wire es) (one (prefix_of v) (body_of v) (prefix_low v) (body_bytes v h.1)) (entries_bytes es h.2))

pub wire_bytes : (v : Tree) → InRange v → AreBytes (wire v)
wire_bytes v h = one (prefix_of v) (body_of v) (prefix_low v) (body_bytes v h)

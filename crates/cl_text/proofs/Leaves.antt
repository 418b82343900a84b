-- What the runs in printed values are: numbers, buffers, principals and names.
use Rattle.std.proofs.Common.{◌≡◌, ℕ, zero, suc, ◌+◌, ◌-◌, ◌*◌, ◌/◌, ◌%◌, ◌^◌, ◌<◌, ◌≤◌, ◌==◌, ◌&&◌, ◌||◌, Bool, true, false, cond, not, refl, List, [], ◌∷◌, ◌++◌, length, drop, map, arith, ap, ◌∙◌, append-nil, FitsSigned, ◌⊎◌, inl, inr}
use Rattle.std.specs.Prelude.{ℤ, pos, negsuc, Option, Some, None, Ok, nat_le, nat_lt, decimal, slice_index}
use Rattle.std.specs.Int.{w128}
use Rattle.std.specs.Fmt.{signed_decimal}
use Rattle.std.specs.List.{list_all, All}
use Rattle.std.proofs.Math.Seq.{take-append_seam}
use Rattle.std.proofs.lemmas.Bool.{and_parts, cases_lt}
use Rattle.std.proofs.lemmas.Bool.Decides.{nat_tests}
use Rattle.std.proofs.lemmas.List.{length-append}
use Rattle.std.proofs.lemmas.Fmt.{decimal_by_steps_wide}
use Rattle.std.proofs.lemmas.List.Elements.{All-head, All-tail}
use Rattle.std.proofs.lemmas.List.Folds.{list_all-append}
use Rattle.std.proofs.lemmas.List.Sums.{fold-append}
use Rattle.hex.specs.Hex.{encode_lower, encode_with, lower_digits, IsBytes}
use Rattle.hex.proofs.HexLemmas.{decode_of-encode_lower}
use Rattle.cl_types.specs.Name.{is_digit, is_letter, is_name_byte, is_operator, is_operator_byte, fits_pattern, IsName}
use Rattle.cl_c32.specs.Address.{AddressParts, IsAddress}
use Rattle.cl_c32.specs.Alphabet.{alphabet, character_of}
use Rattle.cl_c32.specs.Codec.{address_text, body_of, decoded}
use Rattle.cl_c32.specs.Digits.{regrouped_digits}
use Rattle.cl_c32.specs.ContractName.{IsContractName, is_name_byte as is_contract_byte, is_letter as is_contract_letter, fits_pattern as fits_contract_pattern}
use Rattle.cl_c32.specs.declared.principal.Principal.{Principal}
use Rattle.cl_sexpr.specs.Tree.{Named, Signed, Unsigned, Bytes, Standing}
use Rattle.cl_sexpr.specs.Leaf.{are_digits, value_of, positive, negative, unsigned, begins, contract_name, buffer, contract_principal, standard_principal, principal_by, principal_of, principal_token, in_span}
use Rattle.cl_sexpr.proofs.Names.{letter_no_digit}
use Rattle.cl_values.specs.Valid.{IsPrincipal, IsContractPart}
use Rattle.cl_text.specs.Printed.{contract_text, principal_text}
use Rattle.cl_text.specs.Named.{is_number_name}
use Rattle.cl_text.proofs.Sorted.{both_true}
use Rattle.cl_text.proofs.Runs.{yes, no, all_so, position_none, position_some, is_plain, IsRunOf, run_of, leaf_run}

-- ---- numbers

-- digits that spell a number
pub record Digits (n : ℕ) (ds : List ℕ) : Type 0 where
  pub digits : list_all is_digit ds ≡ true
  pub some : 0 < length ds
  pub value : value_of ds ≡ n

is_digit_of : (d : ℕ) → d < 10 → is_digit (48 + d) ≡ true
is_digit_of d h = grind (arith, nat_tests)

one_digit : (n : ℕ) → n < 10 → Digits n ((48 + n) ∷ [])
one_digit n h = record {
  digits = both_true (is_digit (48 + n)) true (is_digit_of n h) refl;
  some = omega arith;
  value = omega arith;
}

more_digits : (n : ℕ) (ds : List ℕ) → 10 ≤ n → Digits (n / 10) ds → Digits n (ds ++ ((48 + n % 10) ∷ []))
more_digits n ds h d =
    let last : n % 10 < 10 = omega arith in
    let whole : 10 * (n / 10) + (48 + n % 10 - 48) ≡ n = omega arith in
    let front : value_of (ds ++ ((48 + n % 10) ∷ [])) ≡ 10 * value_of ds + (48 + n % 10 - 48) = fold-append (λ n c. 10 * n + (c - 48)) 0 ds ((48 + n % 10) ∷ []) in
    record {
      digits = list_all-append is_digit ds ((48 + n % 10) ∷ []) ∙ both_true (list_all is_digit ds) (is_digit (48 + n % 10) && true) d.digits (both_true (is_digit (48 + n % 10)) true (is_digit_of (n % 10) last) refl);
      some = omega (arith, length-append ds ((48 + n % 10) ∷ []));
      value = front ∙ (ap (λ (k : ℕ). 10 * k + (48 + n % 10 - 48)) d.value ∙ whole);
    }

pub decimal_digits : (n : ℕ) → n < 2 ^ 128 → Digits n (decimal n)
decimal_digits n h = decimal_by_steps_wide Digits one_digit more_digits n (omega (arith, h))

digit_plain : (c : ℕ) → is_digit c ≡ true → is_plain c ≡ true
digit_plain c h = grind (arith, nat_tests)

digit_is_no : (c n : ℕ) → is_digit c ≡ true → 57 < n → (c == n) ≡ false
digit_is_no c n h m = grind (arith, nat_tests)

digit_no_quote : (c : ℕ) → is_digit c ≡ true → (c == 39) ≡ false
digit_no_quote c h = grind (arith, nat_tests)

no_buffer : (cs : List ℕ) → list_all is_digit cs ≡ true → begins 120 cs ≡ false
no_buffer [] h = refl
no_buffer (c ∷ cs) h = digit_is_no c 120 (and_parts (is_digit c) (list_all is_digit cs) h).0 (omega arith)

pub and_no : (b c : Bool) → c ≡ false → (b && c) ≡ false
and_no true c e = e
and_no false c e = refl

below_test : (m n : ℕ) → m < n → nat_lt m n ≡ true
below_test m n h = grind (arith, nat_tests)

pub within_test : (m n : ℕ) → m ≤ n → nat_le m n ≡ true
within_test m n h = grind (arith, nat_tests)

pub positive_run : (n : ℕ) (ds : List ℕ) → Digits n ds → n < 2 ^ 127 → IsRunOf ds (Signed (pos n))
positive_run n [] d h = absurd (omega (arith, d.some))
positive_run n (c ∷ cs) d h =
    let parts = and_parts (is_digit c) (list_all is_digit cs) d.digits in
    leaf_run c cs (Signed (pos n)) (all_so is_digit is_plain digit_plain (c ∷ cs) d.digits) (digit_no_quote c parts.0) (and_no (c == 48) (begins 120 cs) (no_buffer cs parts.1))
    (yes (are_digits (c ∷ cs)) _ _ d.digits ∙ (ap positive d.value ∙ yes (nat_lt n (2 ^ 127)) _ _ (below_test n (2 ^ 127) h)))

pub negative_run : (m : ℕ) (ds : List ℕ) → Digits (suc m) ds → m < 2 ^ 127 → IsRunOf (45 ∷ ds) (Signed (negsuc m))
negative_run m [] d h = absurd (omega (arith, d.some))
negative_run m (c ∷ cs) d h =
    leaf_run 45 (c ∷ cs) (Signed (negsuc m)) (all_so is_digit is_plain digit_plain (c ∷ cs) d.digits) refl refl
    (yes (are_digits (c ∷ cs)) _ _ d.digits ∙ (ap negative d.value ∙ yes (nat_le (suc m) (2 ^ 127)) _ _ (within_test (suc m) (2 ^ 127) h)))

pub unsigned_run : (n : ℕ) (ds : List ℕ) → Digits n ds → n < 2 ^ 128 → IsRunOf (117 ∷ ds) (Unsigned n)
unsigned_run n [] d h = absurd (omega (arith, d.some))
unsigned_run n (c ∷ cs) d h =
    leaf_run 117 (c ∷ cs) (Unsigned n) (all_so is_digit is_plain digit_plain (c ∷ cs) d.digits) refl refl
    (yes (are_digits (c ∷ cs)) _ _ d.digits ∙ (ap unsigned d.value ∙ yes (nat_lt n (2 ^ 128)) _ _ (below_test n (2 ^ 128) h)))

pub int_run : (z : ℤ) → FitsSigned w128 z → IsRunOf (signed_decimal z) (Signed z)
int_run (pos n) h = positive_run n (decimal n) (decimal_digits n (omega (arith, h.sfits))) h.sfits
int_run (negsuc m) h = negative_run m (decimal (suc m)) (decimal_digits (suc m) (omega (arith, h.sfits))) h.sfits

pub uint_run : (n : ℕ) → n < 2 ^ 128 → IsRunOf (117 ∷ decimal n) (Unsigned n)
uint_run n h = unsigned_run n (decimal n) (decimal_digits n h) h

-- ---- buffers

-- a test that computes over all numbers below another
abbrev pub all_below : (ℕ → Bool) → ℕ → Bool
all_below p zero = true
all_below p (suc n) = p n && all_below p n

pub below : (p : ℕ → Bool) (n k : ℕ) → all_below p n ≡ true → k < n → p k ≡ true
below p zero k h lt = absurd (omega arith)
below p (suc n) k h lt =
    let parts = and_parts (p n) (all_below p n) h in
    go (cases_lt k n) parts.0 (below p n k parts.1)
  where
    go : (k < n) ⊎ (n ≤ k) → p n ≡ true → (k < n → p k ≡ true) → p k ≡ true
    go (inl under) here others = others under
    go (inr top) here others =
        let e : k ≡ n = omega arith in
        ap p e ∙ here

hex_plain : (d : ℕ) → d < 16 → is_plain (slice_index lower_digits d) ≡ true
hex_plain d h = below (λ d. is_plain (slice_index lower_digits d)) 16 d refl h

hex_bytes : (bytes : List ℕ) → All (λ b. b < 256) bytes → list_all is_plain (encode_lower bytes) ≡ true
unfolding encode_with
hex_bytes [] h = refl
hex_bytes (b ∷ bytes) h =
    let fits : b < 256 = All-head (λ b. b < 256) b bytes h in
    both_true (is_plain (slice_index lower_digits (b / 16))) (is_plain (slice_index lower_digits (b % 16)) && list_all is_plain (encode_lower bytes)) (hex_plain (b / 16) (omega arith))
    (both_true (is_plain (slice_index lower_digits (b % 16))) (list_all is_plain (encode_lower bytes)) (hex_plain (b % 16) (omega arith)) (hex_bytes bytes (All-tail (λ b. b < 256) b bytes h)))

are_bytes : (bytes : List ℕ) → All (λ b. b < 256) bytes → IsBytes bytes
are_bytes [] h i = omega arith
are_bytes (b ∷ bytes) h zero = All-head (λ b. b < 256) b bytes h
are_bytes (b ∷ bytes) h (suc i) = are_bytes bytes (All-tail (λ b. b < 256) b bytes h) i

pub buffer_run : (bytes : List ℕ) → All (λ b. b < 256) bytes → IsRunOf (48 ∷ 120 ∷ encode_lower bytes) (Bytes bytes)
buffer_run bytes h =
    run_of (48 ∷ 120 ∷ encode_lower bytes) (Bytes bytes) (hex_bytes bytes h) (omega arith)
    (λ span. ap (λ r. in_span span (buffer r)) (decode_of-encode_lower bytes (are_bytes bytes h)))

-- ---- principals

-- a byte of an address or of a contract's name, which is no dot
abbrev is_part : ℕ → Bool
is_part c = is_plain c && not (c == 46)

character_part : (d : ℕ) → d < 32 → is_part (character_of d) ≡ true
unfolding alphabet
character_part d h = below (λ d. is_part (character_of d)) 32 d refl h

digits_part : (ds : List ℕ) → All (λ d. d < 32) ds → list_all is_part (map character_of ds) ≡ true
digits_part [] h = refl
digits_part (d ∷ ds) h =
    both_true (is_part (character_of d)) (list_all is_part (map character_of ds)) (character_part d (All-head (λ d. d < 32) d ds h)) (digits_part ds (All-tail (λ d. d < 32) d ds h))

-- what the laws of addresses say
pub record AddressLaws : Type 0 where
  pub digits : (from to : ℕ) (ds : List ℕ) → 2 ≤ to → All (λ d. d < to) (regrouped_digits from to ds)
  pub back : (a : AddressParts) → IsAddress a → decoded (address_text a) ≡ Ok a

address_part : (a : AddressParts) → IsAddress a → AddressLaws → list_all is_part (address_text a) ≡ true
unfolding address_text
address_part a h laws =
    both_true (is_part 83) (list_all is_part (map character_of (a.version ∷ regrouped_digits 256 32 (body_of a)))) refl
    (both_true (is_part (character_of a.version)) (list_all is_part (map character_of (regrouped_digits 256 32 (body_of a)))) (character_part a.version h.version)
    (digits_part (regrouped_digits 256 32 (body_of a)) (laws.digits 256 32 (body_of a) (omega arith))))

part_plain : (c : ℕ) → is_part c ≡ true → is_plain c ≡ true
part_plain c h = (and_parts (is_plain c) (not (c == 46)) h).0

part_no_dot : (c : ℕ) → is_part c ≡ true → not (c == 46) ≡ true
part_no_dot c h = (and_parts (is_plain c) (not (c == 46)) h).1

contract_byte : (c : ℕ) → is_contract_byte c ≡ true → is_part c ≡ true
contract_byte c h = grind (arith, nat_tests)

contract_letter : (c : ℕ) → is_contract_letter c ≡ true → is_part c ≡ true
contract_letter c h = grind (arith, nat_tests)

contract_part : (name : List ℕ) → fits_contract_pattern name ≡ true → list_all is_part name ≡ true
contract_part [] h = refl
contract_part (c ∷ cs) h =
    let parts = and_parts (is_contract_letter c) (list_all is_contract_byte cs) h in
    both_true (is_part c) (list_all is_part cs) (contract_letter c parts.0) (all_so is_contract_byte is_part contract_byte cs parts.1)

contract_is : (name : List ℕ) → IsContractName name → contract_name name ≡ Some name
contract_is name h = yes (fits_contract_pattern name && nat_le (length name) 128) _ _ (both_true (fits_contract_pattern name) (nat_le (length name) 128) h.pattern (within_test (length name) 128 h.within))

standard_is : (a : AddressParts) → IsAddress a → AddressLaws → principal_of (address_text a) ≡ Some (record { address = a; contract = None })
unfolding principal_of
standard_is a h laws =
    ap (principal_by (address_text a)) (position_none (λ c. c == 46) (address_text a) (all_so is_part (λ c. not (c == 46)) part_no_dot (address_text a) (address_part a h laws)))
    ∙ ap standard_principal (laws.back a h)

drop_behind : (xs ys : List ℕ) → drop (length xs + 1) (xs ++ 46 ∷ ys) ≡ ys
drop_behind [] ys = refl
drop_behind (x ∷ xs) ys =
    let two : length (x ∷ xs) + 1 ≡ suc (length xs + 1) = omega arith in
    rw two (drop_behind xs ys)

contract_of : (a : AddressParts) (name : List ℕ) → IsAddress a → IsContractName name → AddressLaws → principal_of (address_text a ++ 46 ∷ name) ≡ Some (record { address = a; contract = Some name })
unfolding principal_of
contract_of a name h n laws =
    let text : List ℕ = address_text a ++ 46 ∷ name in
    let behind : drop (length (address_text a) + 1) text ≡ name = drop_behind (address_text a) name in
    ap (principal_by text) (position_some (λ c. c == 46) (address_text a) 46 name (all_so is_part (λ c. not (c == 46)) part_no_dot (address_text a) (address_part a h laws)) refl)
    ∙ (ap (λ (bytes : List ℕ). contract_principal (decoded bytes) (contract_name (drop (length (address_text a) + 1) text))) (take-append_seam (address_text a) (46 ∷ name))
    ∙ (ap (λ r. contract_principal r (contract_name (drop (length (address_text a) + 1) text))) (laws.back a h)
    ∙ (ap (λ (bytes : List ℕ). contract_principal (Ok a) (contract_name bytes)) behind
    ∙ ap (contract_principal (Ok a)) (contract_is name n))))

principal_is : (p : Principal) → IsPrincipal p → AddressLaws → principal_of (address_text p.address ++ contract_text p.contract) ≡ Some p
principal_is p h laws = go p.address p.contract h.0 h.1
  where
    go : (a : AddressParts) (o : Option (List ℕ)) → IsAddress a → IsContractPart o → principal_of (address_text a ++ contract_text o) ≡ Some (record { address = a; contract = o })
    go a None h n = ap principal_of (append-nil (address_text a)) ∙ standard_is a h laws
    go a (Some name) h n = contract_of a name h n laws

contract_plain : (o : Option (List ℕ)) → IsContractPart o → list_all is_plain (contract_text o) ≡ true
contract_plain None h = refl
contract_plain (Some name) h = all_so is_part is_plain part_plain name (contract_part name h.pattern)

pub principal_run : (p : Principal) → IsPrincipal p → AddressLaws → IsRunOf (principal_text p) (Standing p)
principal_run p h laws =
    run_of (principal_text p) (Standing p)
    (list_all-append is_plain (address_text p.address) (contract_text p.contract)
    ∙ both_true (list_all is_plain (address_text p.address)) (list_all is_plain (contract_text p.contract)) (all_so is_part is_plain part_plain (address_text p.address) (address_part p.address h.0 laws)) (contract_plain p.contract h.1))
    (omega arith)
    (λ span. ap (λ o. Ok (principal_token span o)) (principal_is p h laws))

-- ---- names

name_plain : (c : ℕ) → is_name_byte c ≡ true → is_plain c ≡ true
name_plain c h = grind (arith, nat_tests)

letter_plain : (c : ℕ) → is_letter c ≡ true → is_plain c ≡ true
letter_plain c h = grind (arith, nat_tests)

operator_plain : (c : ℕ) → is_operator_byte c ≡ true → is_plain c ≡ true
operator_plain c h = grind (arith, nat_tests)

-- the first byte of a name, and the bytes behind it
record NameParts (c : ℕ) (cs : List ℕ) : Type 0 where
  plain : list_all is_plain (c ∷ cs) ≡ true
  no_quote : (c == 39) ≡ false
  no_zero : (c == 48) ≡ false
  no_digit : is_digit c ≡ false
  no_minus : (c == 45 && are_digits cs) ≡ false
  no_dot : (c == 46) ≡ false

first_no : (c n : ℕ) → is_letter c ≡ true → n < 65 → (c == n) ≡ false
first_no c n h m = grind (arith, nat_tests)

operator_no : (c : ℕ) → is_operator_byte c ≡ true → (c == 39) ≡ false
operator_no c h = grind (arith, nat_tests)

operator_no_zero : (c : ℕ) → is_operator_byte c ≡ true → (c == 48) ≡ false
operator_no_zero c h = grind (arith, nat_tests)

operator_no_dot : (c : ℕ) → is_operator_byte c ≡ true → (c == 46) ≡ false
operator_no_dot c h = grind (arith, nat_tests)

operator_no_digit : (c : ℕ) → is_operator_byte c ≡ true → is_digit c ≡ false
operator_no_digit c h = grind (arith, nat_tests)

compares : (c : ℕ) → (c == 60 || c == 62) ≡ true → is_operator_byte c ≡ true
compares c h = grind (arith, nat_tests)

compares_no_minus : (c : ℕ) → (c == 60 || c == 62) ≡ true → (c == 45) ≡ false
compares_no_minus c h = grind (arith, nat_tests)

equals_plain : (d : ℕ) → (d == 61) ≡ true → is_plain d ≡ true
equals_plain d h = grind (arith, nat_tests)

no_and : (b c : Bool) → b ≡ false → (b && c) ≡ false
no_and b c e = ap (λ (x : Bool). x && c) e

operator_parts : (c : ℕ) (cs : List ℕ) → is_operator c cs ≡ true → NameParts c cs
operator_parts c [] h = record {
  plain = both_true (is_plain c) true (operator_plain c h) refl;
  no_quote = operator_no c h;
  no_zero = operator_no_zero c h;
  no_digit = operator_no_digit c h;
  no_minus = and_no (c == 45) false refl;
  no_dot = operator_no_dot c h;
}
operator_parts c (d ∷ []) h =
    let parts = and_parts (c == 60 || c == 62) (d == 61) h in
    let o = compares c parts.0 in
    record {
      plain = both_true (is_plain c) (is_plain d && true) (operator_plain c o) (both_true (is_plain d) true (equals_plain d parts.1) refl);
      no_quote = operator_no c o;
      no_zero = operator_no_zero c o;
      no_digit = operator_no_digit c o;
      no_minus = no_and (c == 45) (are_digits (d ∷ [])) (compares_no_minus c parts.0);
      no_dot = operator_no_dot c o;
    }
operator_parts c (d ∷ e ∷ cs) h = absurd cc

letter_parts : (c : ℕ) (cs : List ℕ) → is_letter c ≡ true → list_all is_name_byte cs ≡ true → NameParts c cs
letter_parts c cs l h = record {
  plain = both_true (is_plain c) (list_all is_plain cs) (letter_plain c l) (all_so is_name_byte is_plain name_plain cs h);
  no_quote = first_no c 39 l (omega arith);
  no_zero = first_no c 48 l (omega arith);
  no_digit = letter_no_digit c l;
  no_minus = no_and (c == 45) (are_digits cs) (first_no c 45 l (omega arith));
  no_dot = first_no c 46 l (omega arith);
}

name_parts : (c : ℕ) (cs : List ℕ) → fits_pattern (c ∷ cs) ≡ true → NameParts c cs
name_parts c cs h = go (is_letter c) refl h
  where
    go : (b : Bool) → is_letter c ≡ b → cond b (list_all is_name_byte cs) (is_operator c cs) ≡ true → NameParts c cs
    go true l h = letter_parts c cs l h
    go false l h = operator_parts c cs h

pub name_run : (name : List ℕ) → IsName name → is_number_name name ≡ false → IsRunOf name (Named name)
name_run [] h n = absurd (nothing h.pattern)
  where
    nothing : false ≡ true → ⊥
    nothing e = cc
name_run (c ∷ cs) h n =
    let p = name_parts c cs h.pattern in
    leaf_run c cs (Named (c ∷ cs)) p.plain p.no_quote (no_and (c == 48) (begins 120 cs) p.no_zero)
    (no (are_digits (c ∷ cs)) _ _ (no_and (is_digit c) (list_all is_digit cs) p.no_digit)
    ∙ (no (c == 45 && are_digits cs) _ _ p.no_minus
    ∙ (no (c == 117 && are_digits cs) _ _ n
    ∙ (no (c == 46) _ _ p.no_dot
    ∙ yes (fits_pattern (c ∷ cs) && nat_le (length (c ∷ cs)) 128) _ _ (both_true (fits_pattern (c ∷ cs)) (nat_le (length (c ∷ cs)) 128) h.pattern (within_test (length (c ∷ cs)) 128 h.within))))))

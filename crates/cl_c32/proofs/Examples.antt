-- The definitions compute: addresses and their texts, as another implementation of the public definitions has them, and the
-- names of contracts.
use Rattle.std.proofs.Common.{refl}
use Rattle.std.specs.Prelude.{◌≡◌, ℕ, ◌&&◌, nat_le, Bool, true, false, List, [], ◌∷◌, ◌++◌, map, replicate, codes, length, Ok, Err}
use Rattle.sha2.specs.Sha256.{sha256, first_words, schedule, rounds, compress, hash_after, digest_bytes}
use Rattle.cl_c32.specs.declared.codec.C32Refusal.TheVariants.{BadCharacter, BadLength, BadChecksum}
use Rattle.cl_c32.specs.Address.{AddressParts}
use Rattle.cl_c32.specs.Alphabet.{alphabet, digit_of}
use Rattle.cl_c32.specs.Digits.{digits_within, digits_in, regrouped_digits}
use Rattle.cl_c32.specs.Codec.{checksum_of, address_text, bad_place, body_of_digits, checked_address, address_of_digits, decoded}
use Rattle.cl_c32.specs.ContractName.{fits_pattern}

abbrev address : ℕ → List ℕ → AddressParts
address version hash = record { version = version; hash = hash }

abbrev no_hash : List ℕ
no_hash = replicate 20 0

abbrev high : List ℕ
high = replicate 20 255

abbrev rising : List ℕ
rising = 0 ∷ 1 ∷ 2 ∷ 3 ∷ 4 ∷ 5 ∷ 6 ∷ 7 ∷ 8 ∷ 9 ∷ 10 ∷ 11 ∷ 12 ∷ 13 ∷ 14 ∷ 15 ∷ 16 ∷ 17 ∷ 18 ∷ 19 ∷ []

abbrev third : List ℕ
third = 0 ∷ 0 ∷ 1 ∷ replicate 17 0

abbrev sender : List ℕ
sender = 164 ∷ 111 ∷ 248 ∷ 136 ∷ 134 ∷ 194 ∷ 239 ∷ 151 ∷ 98 ∷ 217 ∷ 112 ∷ 180 ∷ 210 ∷ 198 ∷ 54 ∷ 120 ∷ 131 ∷ 91 ∷ 211 ∷ 157 ∷ []

-- its checksum begins with a zero byte, behind 18 zero bytes
abbrev zero_in_checksum : List ℕ
zero_in_checksum = replicate 18 0 ++ 1 ∷ 182 ∷ []

texts : map address_text (
    address 22 no_hash ∷ address 22 sender ∷ address 0 no_hash ∷ address 0 rising ∷ address 20 no_hash ∷ address 20 rising
    ∷ address 26 no_hash ∷ address 26 rising ∷ address 31 no_hash ∷ address 31 rising ∷ address 0 high ∷ address 31 high
    ∷ address 20 third ∷ address 26 sender ∷ address 22 third ∷ address 22 zero_in_checksum ∷ []) ≡
    codes "SP000000000000000000002Q6VF78"
    ∷ codes "SP2J6ZY48GV1EZ5V2V5RB9MP66SW86PYKKNRV9EJ7"
    ∷ codes "S0000000000000000000002AA028H"
    ∷ codes "S0020G30G2GC1R81450P30D1R7H048J2E56AT26"
    ∷ codes "SM0000000000000000000062QV6X"
    ∷ codes "SM020G30G2GC1R81450P30D1R7H048J2DZ5YX2F"
    ∷ codes "ST000000000000000000002AMW42H"
    ∷ codes "ST020G30G2GC1R81450P30D1R7H048J2DSZ4WBH"
    ∷ codes "SZ000000000000000000002ZE1VMN"
    ∷ codes "SZ020G30G2GC1R81450P30D1R7H048J2FDC9PJ1"
    ∷ codes "S03ZZZZZZZZZZZZZZZZZZZZZZZZZZZZZZZZX0D0GB"
    ∷ codes "SZ3ZZZZZZZZZZZZZZZZZZZZZZZZZZZZZZZXE11ZC0"
    ∷ codes "SM008000000000000000000000000003GZQ5GK"
    ∷ codes "ST2J6ZY48GV1EZ5V2V5RB9MP66SW86PYKKQYAC0RQ"
    ∷ codes "SP008000000000000000000000000001K3PMMR"
    ∷ codes "SP0000000000000000001PR03HSSG"
    ∷ []
unfolding address_text alphabet checksum_of regrouped_digits digits_in digits_within sha256 first_words schedule rounds compress hash_after digest_bytes
texts = refl

an_address : decoded (codes "SP2J6ZY48GV1EZ5V2V5RB9MP66SW86PYKKNRV9EJ7") ≡ Ok (address 22 sender)
unfolding decoded bad_place digit_of address_of_digits body_of_digits checked_address alphabet checksum_of regrouped_digits digits_in digits_within sha256 first_words schedule rounds compress hash_after digest_bytes
an_address = refl

-- too few or too many bytes, or digits that stand for more or fewer than 24 bytes
wrong_lengths : map decoded (
    [] ∷ codes "S" ∷ codes "X" ∷ codes "SP" ∷ codes "S0"
    ∷ codes "SP000000000000T00000002Q6VF78"
    ∷ codes "SP00000000000000000002Q6VF78"
    ∷ codes "SP0000000000000000000002Q6VF78"
    ∷ codes "SP2J6ZY48GV1EZ5V2V5RB9MP66SW86PYKKNRV9EJ70"
    ∷ codes "SP02J6ZY48GV1EZ5V2V5RB9MP66SW86PYKKNRV9EJ7"
    ∷ codes "SPZZZZZZZZZZZZZZZZZZZZZZZZZZZZZZZZZZZZZZZ"
    ∷ codes "SPZZZZZZZZZZZZZZZZZZZZZZZZZZZZZZZZZZZZZZZZZZZZZZ"
    ∷ codes "SP0000000000000000000000000000000000000000000000"
    ∷ codes "SP00000000000000000000000000000000000000000000000"
    ∷ codes "SPZZZZZZZZZZZZZZZZZZZZZZZZZZZZZZZZZZZZZZZZZZZZZZZ"
    ∷ []) ≡ replicate 15 (Err BadLength)
unfolding decoded bad_place digit_of address_of_digits body_of_digits alphabet regrouped_digits digits_in digits_within
wrong_lengths = refl

bad_characters : map decoded (
    codes "S!"
    ∷ codes "SPO"
    ∷ codes "TP000000000000000000002Q6VF78"
    ∷ codes "SP000000000000O00000002Q6VF78"
    ∷ codes "SP000000000000000000002Q6VF7U"
    ∷ codes "0P2J6ZY48GV1EZ5V2V5RB9MP66SW86PYKKNRV9EJ7"
    ∷ codes "SP2J6ZY48GV1EZ5V2V5RI9MP66SW86PYKKNRV9EJ7"
    ∷ codes "SP2J6ZY48GV1EZ5V2V5RB9MP66SW86PYKKNRV9EJL"
    ∷ codes "sp2j6zy48gv1ez5v2v5rb9mp66sw86pykknrv9ej7"
    ∷ codes "Sp2j6zy48gv1ez5v2v5rb9mp66sw86pykknrv9ej7"
    ∷ []) ≡ map (λ at. Err (BadCharacter at)) (1 ∷ 2 ∷ 0 ∷ 14 ∷ 28 ∷ 0 ∷ 20 ∷ 40 ∷ 0 ∷ 1 ∷ [])
unfolding decoded bad_place digit_of alphabet
bad_characters = refl

-- the four bytes that the text has, and those that it should have
wrong_checksums : map decoded (
    codes "SP000000000000000000002Q6VF79"
    ∷ codes "ST2J6ZY48GV1EZ5V2V5RB9MP66SW86PYKKNRV9EJ7"
    ∷ codes "SP2J6ZY48GV1EZ5V2V5R09MP66SW86PYKKNRV9EJ7"
    ∷ codes "SP2J6ZY48GV1EZ5V2V5RB9MP66SW86PYKKNRV9EJ0"
    ∷ codes "SP2J6ZY48GV1EZ5V2V5RB9MP66SW86PYKKNRV9EJ"
    ∷ codes "SP000000000000000000000000"
    ∷ []) ≡
    Err (BadChecksum (174 ∷ 109 ∷ 188 ∷ 233 ∷ []) (174 ∷ 109 ∷ 188 ∷ 232 ∷ []))
    ∷ Err (BadChecksum (113 ∷ 180 ∷ 186 ∷ 71 ∷ []) (252 ∷ 166 ∷ 3 ∷ 23 ∷ []))
    ∷ Err (BadChecksum (113 ∷ 180 ∷ 186 ∷ 71 ∷ []) (243 ∷ 39 ∷ 72 ∷ 22 ∷ []))
    ∷ Err (BadChecksum (113 ∷ 180 ∷ 186 ∷ 64 ∷ []) (113 ∷ 180 ∷ 186 ∷ 71 ∷ []))
    ∷ Err (BadChecksum (235 ∷ 141 ∷ 165 ∷ 210 ∷ []) (73 ∷ 254 ∷ 51 ∷ 87 ∷ []))
    ∷ Err (BadChecksum (0 ∷ 0 ∷ 0 ∷ 0 ∷ []) (174 ∷ 109 ∷ 188 ∷ 232 ∷ []))
    ∷ []
unfolding decoded bad_place digit_of address_of_digits body_of_digits checked_address alphabet checksum_of regrouped_digits digits_in digits_within sha256 first_words schedule rounds compress hash_after digest_bytes
wrong_checksums = refl

abbrev is_contract_name : List ℕ → Bool
is_contract_name bytes = fits_pattern bytes && nat_le (length bytes) 128

contract_names : map is_contract_name (codes "a" ∷ codes "Z" ∷ codes "token" ∷ codes "token-v2" ∷ codes "A_1" ∷ codes "b--__9" ∷ replicate 128 97 ∷ []) ≡ replicate 7 true
contract_names = refl

no_contract_names : map is_contract_name ([] ∷ codes "1a" ∷ codes "-a" ∷ codes "_a" ∷ codes "a.b" ∷ codes "a b" ∷ codes "a!" ∷ (195 ∷ 169 ∷ []) ∷ (97 ∷ 195 ∷ 169 ∷ []) ∷ codes "<=" ∷ replicate 129 97 ∷ []) ≡ replicate 11 false
no_contract_names = refl

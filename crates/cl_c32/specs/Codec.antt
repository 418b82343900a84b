-- Addresses and their texts.
use Rattle.std.specs.Prelude.{ℕ, ◌==◌, ◌||◌, nat_lt, List, [], ◌∷◌, ◌++◌, length, take, drop, map, Option, Some, None, is_none, Result, Ok, Err, codes, if◌then◌else◌}
use Rattle.std.specs.List.{position_from}
use Rattle.std.specs.Option.{option_map_or}
use Rattle.std.specs.Str.{bytes_eq}
use Rattle.sha2.specs.Sha256.{sha256}
use Rattle.cl_c32.specs.Address.{AddressParts}
use Rattle.cl_c32.specs.Alphabet.{character_of, digit_of, digit_value}
use Rattle.cl_c32.specs.Digits.{regrouped_digits}
use Rattle.cl_c32.specs.declared.codec.C32Refusal.{C32Refusal}
use Rattle.cl_c32.specs.declared.codec.C32Refusal.TheVariants.{BadCharacter, BadLength, BadChecksum}

-- the first four bytes of SHA-256 of SHA-256
unfoldable pub checksum_of : ℕ → List ℕ → List ℕ
checksum_of version hash = take 4 (sha256 (sha256 (version ∷ hash)))

-- the hash and its checksum
abbrev pub body_of : AddressParts → List ℕ
body_of a = a.hash ++ checksum_of a.version a.hash

-- `S`, the character of the version, and those of the 24 bytes of hash and checksum
unfoldable pub address_text : AddressParts → List ℕ
address_text a = codes "S" ++ map character_of (a.version ∷ regrouped_digits 256 32 (body_of a))

-- the place of the first byte that can't stand there: 83 is `S`
unfoldable pub bad_place : List ℕ → Option ℕ
bad_place [] = None
bad_place (s ∷ characters) =
    if s == 83 then position_from (λ c. is_none (digit_of c)) 1 characters else Some 0

-- the 24 bytes that digits stand for
unfoldable pub body_of_digits : List ℕ → Option (List ℕ)
body_of_digits digits =
    if length (regrouped_digits 32 256 digits) == 24 then Some (regrouped_digits 32 256 digits) else None

-- the address of a version and a body, if its checksum is the right one
unfoldable pub checked_address : ℕ → List ℕ → Result AddressParts C32Refusal
checked_address version body =
    let hash = take 20 body in
    let stated = drop 20 body in
    let computed = checksum_of version hash in
    if bytes_eq stated computed then Ok (record { version = version; hash = hash })
    else Err (BadChecksum stated computed)

-- the address of the digits behind the `S`
unfoldable pub address_of_digits : List ℕ → Result AddressParts C32Refusal
address_of_digits [] = Err BadLength
address_of_digits (version ∷ digits) =
    option_map_or (checked_address version) (body_of_digits digits) (Err BadLength)

-- the address that a text is, or why it is none
unfoldable pub decoded : List ℕ → Result AddressParts C32Refusal
decoded text =
    if nat_lt (length text) 2 || nat_lt 48 (length text) then Err BadLength
    else option_map_or (λ at. Err (BadCharacter at)) (bad_place text)
    (address_of_digits (map digit_value (drop 1 text)))

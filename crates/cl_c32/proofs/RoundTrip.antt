-- The text of an address is read as that address, and no other text is.
use Rattle.std.proofs.Common.{◌≡◌, ◌≢◌, ℕ, zero, suc, ◌+◌, ◌<◌, ◌≤◌, ◌==◌, ◌||◌, nat_lt, Bool, true, false, cond, List, [], ◌∷◌, ◌++◌, length, map, take, drop, get_or, Option, Some, None, Result, Ok, Err, refl, sym, ap, ◌∙◌, subst, arith, lit≤, lit<, eq-eqb, true≢false, ◌/◌, ◌^◌}
use Rattle.std.specs.List.{All, position_from}
use Rattle.std.specs.Option.{option_map_or}
use Rattle.std.specs.Prelude.{is_none}
use Rattle.std.specs.Str.{bytes_eq}
use Rattle.std.specs.Int.{w32, to_be_bytes, byte_at, bytes_high_first}
use Rattle.std.proofs.lemmas.Bool.Decides.{nat_tests}
use Rattle.std.proofs.lemmas.List.{length-append, length-map, length-take-le, take_at, drop_at, take-append-drop}
use Rattle.std.proofs.lemmas.List.Elements.{All-append, All-cons, All-head, All-map, All-nil, All-tail, All-take}
use Rattle.std.proofs.lemmas.Nat.{mod_below}
use Rattle.std.proofs.lemmas.Slice.Eq.{bytes_eq-Decides}
use Rattle.sha2.specs.Sha256.{sha256, digest_bytes}
use Rattle.sha2.proofs.Facts256.{length-sha256}
use Rattle.cl_c32.specs.Address.{AddressParts, IsAddress}
use Rattle.cl_c32.specs.Alphabet.{character_of, digit_of, digit_value}
use Rattle.cl_c32.specs.Codec.{address_text, bad_place, body_of, checked_address, checksum_of, decoded, address_of_digits}
use Rattle.cl_c32.specs.Digits.{regrouped_digits}
use Rattle.cl_c32.specs.declared.codec.C32Refusal.{C32Refusal}
use Rattle.cl_c32.specs.declared.codec.C32Refusal.TheVariants.{BadCharacter, BadLength, BadChecksum}
use Rattle.cl_c32.proofs.Characters.{character_of-digit_value, digit_of-character_of, digit_value-character_of, digit_value-lt}
use Rattle.cl_c32.proofs.Numbers.{regrouped_digits-below, regrouped_digits-regrouped_digits}
use Rattle.cl_c32.proofs.Texts.{body_of_digits-by, checked_address-right, checked_address-wrong, length-regrouped_digits-le}

-- ---- the bytes of a body

byte_at-lt : (i n : ℕ) → byte_at i n < 256
byte_at-lt zero n = mod_below n 256 (lit< tt)
byte_at-lt (suc i) n = mod_below (n / 256 ^ suc i) 256 (lit< tt)

high-bytes : (k n : ℕ) → All (λ b. b < 256) (bytes_high_first k n)
high-bytes zero n = All-nil (λ b. b < 256)
high-bytes (suc k) n = All-cons (λ b. b < 256) (byte_at k n) (bytes_high_first k n) (byte_at-lt k n) (high-bytes k n)

digest-bytes : (h : List ℕ) (n : ℕ) → All (λ b. b < 256) (digest_bytes h n)
unfolding digest_bytes
digest-bytes h zero = All-nil (λ b. b < 256)
digest-bytes h (suc n) = All-append (λ b. b < 256) (digest_bytes h n) (to_be_bytes w32 (get_or h n 0)) (digest-bytes h n) (high-bytes 4 (get_or h n 0))

checksum-bytes : (v : ℕ) (hash : List ℕ) → All (λ b. b < 256) (checksum_of v hash)
unfolding checksum_of sha256
checksum-bytes v hash = All-take (λ b. b < 256) 4 (sha256 (sha256 (v ∷ hash))) (digest-bytes _ 8)

length-checksum_of : (v : ℕ) (hash : List ℕ) → length (checksum_of v hash) ≡ 4
unfolding checksum_of
length-checksum_of v hash =
    let long = length-sha256 (sha256 (v ∷ hash)) in
    length-take-le 4 (sha256 (sha256 (v ∷ hash))) (omega (arith, long))

length-body_of : (a : AddressParts) → IsAddress a → length (body_of a) ≡ 24
length-body_of a h =
    let size = h.size in
    let parts = length-append a.hash (checksum_of a.version a.hash) in
    let four = length-checksum_of a.version a.hash in
    omega (arith, size, parts, four)

body-bytes : (a : AddressParts) → IsAddress a → All (λ b. b < 256) (body_of a)
body-bytes a h = All-append (λ b. b < 256) a.hash (checksum_of a.version a.hash) h.bytes (checksum-bytes a.version a.hash)

-- ---- characters of digits

digits-again : (ds : List ℕ) → All (λ d. d < 32) ds → map digit_value (map character_of ds) ≡ ds
digits-again [] h = refl
digits-again (d ∷ ds) h =
    λ i. digit_value-character_of d (All-head (λ d. d < 32) d ds h) i ∷ digits-again ds (All-tail (λ d. d < 32) d ds h) i

none-bad : (at : ℕ) (ds : List ℕ) → All (λ d. d < 32) ds → position_from (λ c. is_none (digit_of c)) at (map character_of ds) ≡ None
none-bad at [] h = refl
none-bad at (d ∷ ds) h =
    ap (λ o. cond (is_none o) (Some at) (position_from (λ c. is_none (digit_of c)) (at + 1) (map character_of ds)))
    (digit_of-character_of d (All-head (λ d. d < 32) d ds h))
    ∙ none-bad (at + 1) ds (All-tail (λ d. d < 32) d ds h)

characters-again : (at : ℕ) (cs : List ℕ) → position_from (λ c. is_none (digit_of c)) at cs ≡ None → map character_of (map digit_value cs) ≡ cs
characters-again at [] e = refl
characters-again at (c ∷ cs) e = again (is_none (digit_of c)) refl e (characters-again (at + 1) cs)
  where
    again : (t : Bool) → is_none (digit_of c) ≡ t → cond t (Some at) (position_from (λ c. is_none (digit_of c)) (at + 1) cs) ≡ None
        → (position_from (λ c. is_none (digit_of c)) (at + 1) cs ≡ None → map character_of (map digit_value cs) ≡ cs)
        → map character_of (map digit_value (c ∷ cs)) ≡ c ∷ cs
    again true t e rest = absurd (cc)
    again false t e rest = λ i. character_of-digit_value c t i ∷ rest e i

-- ---- the text of an address is read as that address

length-text : (a : AddressParts) → IsAddress a → length (map character_of (a.version ∷ regrouped_digits 256 32 (body_of a))) ≤ 44
length-text a h =
    let most = length-regrouped_digits-le (body_of a) (length-body_of a h) (body-bytes a h) in
    let long = length-map (a.version ∷ regrouped_digits 256 32 (body_of a)) character_of in
    omega (arith, most, long)

pub length-address_text : (a : AddressParts) → IsAddress a → length (address_text a) ≤ 48
unfolding address_text
length-address_text a h = let most = length-text a h in omega (arith, most)

-- a text of the right length whose bytes may stand there
decoded-good : (text : List ℕ) → 2 ≤ length text → length text ≤ 48 → bad_place text ≡ None → decoded text ≡ address_of_digits (map digit_value (drop 1 text))
unfolding decoded
decoded-good text least most good =
    let inside : (nat_lt (length text) 2 || nat_lt 48 (length text)) ≡ false = grind (arith, nat_tests) in
    λ i. cond (inside i) (Err BadLength) (option_map_or (λ at. Err (BadCharacter at)) (good i) (address_of_digits (map digit_value (drop 1 text))))

address_of_digits-address : (a : AddressParts) → IsAddress a → address_of_digits (a.version ∷ regrouped_digits 256 32 (body_of a)) ≡ Ok a
unfolding address_of_digits
address_of_digits-address a h =
    let body = body_of a in
    let hash : take 20 body ≡ a.hash = take_at a.hash (checksum_of a.version a.hash) 20 h.size in
    let stated : drop 20 body ≡ checksum_of a.version a.hash = drop_at a.hash (checksum_of a.version a.hash) 20 h.size in
    let checksum = checksum_of a.version a.hash in
    let same : regrouped_digits 32 256 (regrouped_digits 256 32 body) ≡ body = regrouped_digits-regrouped_digits 256 32 body (lit≤ tt) (lit≤ tt) (body-bytes a h) in
    let long : (length (regrouped_digits 32 256 (regrouped_digits 256 32 body)) == 24) ≡ true = eq-eqb _ 24 (ap length same ∙ length-body_of a h) in
    ap (λ o. option_map_or (checked_address a.version) o (Err BadLength)) (body_of_digits-by (regrouped_digits 256 32 body) true long ∙ ap Some same)
    ∙ checked_address-right a.version body a.hash checksum checksum (sym hash) (sym stated) refl ((bytes_eq-Decides checksum checksum).1 refl)

pub decoded-address_text : (a : AddressParts) → IsAddress a → decoded (address_text a) ≡ Ok a
unfolding address_text bad_place
decoded-address_text a h =
    let digits = a.version ∷ regrouped_digits 256 32 (body_of a) in
    let below : All (λ d. d < 32) digits = All-cons (λ d. d < 32) a.version (regrouped_digits 256 32 (body_of a)) h.version (regrouped_digits-below 256 32 (body_of a) (lit≤ tt)) in
    let most = length-text a h in
    decoded-good (83 ∷ map character_of digits) (omega arith) (omega (arith, most)) (none-bad 1 digits below)
    ∙ ap address_of_digits (digits-again digits below)
    ∙ address_of_digits-address a h

-- ---- what is read is the text of the address

read-good : (text : List ℕ) (a : AddressParts) → decoded text ≡ Ok a → (bad_place text ≡ None) × (address_of_digits (map digit_value (drop 1 text)) ≡ Ok a)
unfolding decoded
read-good text a e = good (nat_lt (length text) 2 || nat_lt 48 (length text)) (bad_place text) (address_of_digits (map digit_value (drop 1 text))) e
  where
    good : (t : Bool) (place : Option ℕ) (rest : Result AddressParts C32Refusal)
        → cond t (Err BadLength) (option_map_or (λ at. Err (BadCharacter at)) place rest) ≡ Ok a → (place ≡ None) × (rest ≡ Ok a)
    good true place rest e = absurd (cc)
    good false None rest e = (refl, e)
    good false (Some at) rest e = absurd (cc)

read-checksum : (text : List ℕ) (stated computed : List ℕ) → decoded text ≡ Err (BadChecksum stated computed) → address_of_digits (map digit_value (drop 1 text)) ≡ Err (BadChecksum stated computed)
unfolding decoded
read-checksum text stated computed e = good (nat_lt (length text) 2 || nat_lt 48 (length text)) (bad_place text) (address_of_digits (map digit_value (drop 1 text))) e
  where
    good : (t : Bool) (place : Option ℕ) (rest : Result AddressParts C32Refusal)
        → cond t (Err BadLength) (option_map_or (λ at. Err (BadCharacter at)) place rest) ≡ Err (BadChecksum stated computed) → rest ≡ Err (BadChecksum stated computed)
    good true place rest e = absurd (cc)
    good false None rest e = e
    good false (Some at) rest e = absurd (cc)

empty-no_address : (a : AddressParts) → address_of_digits [] ≡ Ok a → ⊥
unfolding address_of_digits
empty-no_address a e = cc

empty-no_checksum : (stated computed : List ℕ) → address_of_digits [] ≡ Err (BadChecksum stated computed) → ⊥
unfolding address_of_digits
empty-no_checksum stated computed e = cc

-- the facts of a text that is an address's
record Read (version : ℕ) (digits : List ℕ) (a : AddressParts) : Type 0 where
  parts : a ≡ record { version = version; hash = take 20 (regrouped_digits 32 256 digits) }
  long : length (regrouped_digits 32 256 digits) ≡ 24
  right : drop 20 (regrouped_digits 32 256 digits) ≡ checksum_of version (take 20 (regrouped_digits 32 256 digits))

address_of_digits-by : (version : ℕ) (digits : List ℕ) (t : Bool) → (length (regrouped_digits 32 256 digits) == 24) ≡ t
    → address_of_digits (version ∷ digits) ≡ cond t (checked_address version (regrouped_digits 32 256 digits)) (Err BadLength)
unfolding address_of_digits
address_of_digits-by version digits true e = ap (λ o. option_map_or (checked_address version) o (Err BadLength)) (body_of_digits-by digits true e)
address_of_digits-by version digits false e = ap (λ o. option_map_or (checked_address version) o (Err BadLength)) (body_of_digits-by digits false e)

address_of_digits-read : (version : ℕ) (digits : List ℕ) (a : AddressParts) → address_of_digits (version ∷ digits) ≡ Ok a → Read version digits a
address_of_digits-read version digits a e =
    let body = regrouped_digits 32 256 digits in
    read (length body == 24) (bytes_eq (drop 20 body) (checksum_of version (take 20 body))) refl refl
  where
    read : (t u : Bool) → (length (regrouped_digits 32 256 digits) == 24) ≡ t
        → bytes_eq (drop 20 (regrouped_digits 32 256 digits)) (checksum_of version (take 20 (regrouped_digits 32 256 digits))) ≡ u
        → Read version digits a
    read false u s r = absurd (let bad = sym (address_of_digits-by version digits false s) ∙ e in cc)
    read true false s r =
        let body = regrouped_digits 32 256 digits in
        let wrong = checked_address-wrong version body (take 20 body) (drop 20 body) (checksum_of version (take 20 body)) refl refl refl r in
        absurd (let bad = sym (address_of_digits-by version digits true s ∙ wrong) ∙ e in cc)
    read true true s r =
        let body = regrouped_digits 32 256 digits in
        let right = checked_address-right version body (take 20 body) (drop 20 body) (checksum_of version (take 20 body)) refl refl refl r in
        let same = sym (address_of_digits-by version digits true s ∙ right) ∙ e in
        record {
          parts = let back : a ≡ record { version = version; hash = take 20 body } = cc in back;
          long = grind (arith, nat_tests, s);
          right = (bytes_eq-Decides (drop 20 body) (checksum_of version (take 20 body))).0 r;
        }

address_of_digits-differs : (version : ℕ) (digits stated computed : List ℕ) → address_of_digits (version ∷ digits) ≡ Err (BadChecksum stated computed) → stated ≢ computed
address_of_digits-differs version digits stated computed e =
    let body = regrouped_digits 32 256 digits in
    read (length body == 24) (bytes_eq (drop 20 body) (checksum_of version (take 20 body))) refl refl
  where
    read : (t u : Bool) → (length (regrouped_digits 32 256 digits) == 24) ≡ t
        → bytes_eq (drop 20 (regrouped_digits 32 256 digits)) (checksum_of version (take 20 (regrouped_digits 32 256 digits))) ≡ u
        → stated ≢ computed
    read false u s r = absurd (let bad = sym (address_of_digits-by version digits false s) ∙ e in cc)
    read true false s r =
        let body = regrouped_digits 32 256 digits in
        let own = checksum_of version (take 20 body) in
        let wrong = checked_address-wrong version body (take 20 body) (drop 20 body) own refl refl refl r in
        let same = sym (address_of_digits-by version digits true s ∙ wrong) ∙ e in
        let first : drop 20 body ≡ stated = cc in
        let second : own ≡ computed = cc in
        λ equal. true≢false (sym ((bytes_eq-Decides (drop 20 body) own).1 (first ∙ equal ∙ sym second)) ∙ r)
    read true true s r =
        let body = regrouped_digits 32 256 digits in
        let right = checked_address-right version body (take 20 body) (drop 20 body) (checksum_of version (take 20 body)) refl refl refl r in
        absurd (let bad = sym (address_of_digits-by version digits true s ∙ right) ∙ e in cc)

-- a text that is read begins with `S`, and the rest is characters
good-text : (s : ℕ) (cs : List ℕ) → bad_place (s ∷ cs) ≡ None → (s ≡ 83) × (map character_of (map digit_value cs) ≡ cs)
unfolding bad_place
good-text s cs e = good (s == 83) refl e
  where
    good : (t : Bool) → (s == 83) ≡ t → cond t (position_from (λ c. is_none (digit_of c)) 1 cs) (Some 0) ≡ None → (s ≡ 83) × (map character_of (map digit_value cs) ≡ cs)
    good true t e = (grind (arith, nat_tests, t), characters-again 1 cs e)
    good false t e = absurd (cc)

read-address : (version : ℕ) (digits : List ℕ) (a : AddressParts) → version < 32 → Read version digits a → IsAddress a
read-address version digits a v r =
    let body = regrouped_digits 32 256 digits in
    subst IsAddress (sym r.parts) (record {
      version = v;
      size = length-take-le 20 body (let long = r.long in omega (arith, long));
      bytes = All-take (λ b. b < 256) 20 body (regrouped_digits-below 32 256 digits (lit≤ tt));
    })

digits-text : (version : ℕ) (digits : List ℕ) (a : AddressParts) → All (λ d. d < 32) digits → Read version digits a → a.version ∷ regrouped_digits 256 32 (body_of a) ≡ version ∷ digits
digits-text version digits a below r =
    let body = regrouped_digits 32 256 digits in
    let whole : take 20 body ++ checksum_of version (take 20 body) ≡ body =
    ap (λ xs. take 20 body ++ xs) (sym r.right) ∙ take-append-drop 20 body in
    ap (λ x. x.version ∷ regrouped_digits 256 32 (body_of x)) r.parts
    ∙ ap (λ xs. version ∷ regrouped_digits 256 32 xs) whole
    ∙ ap (λ xs. version ∷ xs) (regrouped_digits-regrouped_digits 32 256 digits (lit≤ tt) (lit≤ tt) below)

pub address_text-decoded : (text : List ℕ) (a : AddressParts) → decoded text ≡ Ok a → IsAddress a × (text ≡ address_text a)
unfolding address_text
address_text-decoded text a e = whole text (read-good text a e)
  where
    whole : (text : List ℕ) → (bad_place text ≡ None) × (address_of_digits (map digit_value (drop 1 text)) ≡ Ok a) → IsAddress a × (text ≡ address_text a)
    whole [] g = absurd (empty-no_address a g.1)
    whole (s ∷ []) g = absurd (empty-no_address a g.1)
    whole (s ∷ v ∷ cs) g =
        let digits = map digit_value cs in
        let read = address_of_digits-read (digit_value v) digits a g.1 in
        let below : All (λ d. d < 32) digits = All-map (λ d. d < 32) digit_value cs (λ _ _ _. digit_value-lt _) in
        let good = good-text s (v ∷ cs) g.0 in (
          read-address (digit_value v) digits a (digit_value-lt v) read,
          (λ i. good.0 i ∷ sym good.1 i) ∙ ap (λ ds. 83 ∷ map character_of ds) (sym (digits-text (digit_value v) digits a below read)),
        )

pub checksums-differ : (text stated computed : List ℕ) → decoded text ≡ Err (BadChecksum stated computed) → stated ≢ computed
checksums-differ text stated computed e = whole (map digit_value (drop 1 text)) (read-checksum text stated computed e)
  where
    whole : (ds : List ℕ) → address_of_digits ds ≡ Err (BadChecksum stated computed) → stated ≢ computed
    whole [] s = absurd (empty-no_checksum stated computed s)
    whole (d ∷ ds) s = address_of_digits-differs d ds stated computed s

pub texts-apart : (a b : AddressParts) → IsAddress a → IsAddress b → address_text a ≡ address_text b → a ≡ b
texts-apart a b h g e =
    let same : Ok a ≡ Ok b = sym (decoded-address_text a h) ∙ ap decoded e ∙ decoded-address_text b g in
    cc

-- The bytes of addresses and their digits.
use Rattle.std.proofs.Common.{◌≡◌, ℕ, suc, ◌+◌, ◌-◌, ◌^◌, ◌<◌, ◌≤◌, ◌==◌, true, false, Bool, cond, if◌then◌else◌, List, ◌++◌, length, take, drop, replicate, Some, None, sym, ap, ◌∙◌, subst, arith, eq-eqb, lit≤, lit<, lt_of_lt_of_le, Ok, Err}
use Rattle.std.specs.List.{All}
use Rattle.std.proofs.lemmas.Bool.Decides.{nat_tests}
use Rattle.std.proofs.lemmas.List.{length-drop, take_all, take_rest}
use Rattle.std.proofs.lemmas.List.Elements.{All-drop, All-replicate}
use Rattle.std.proofs.lemmas.Nat.{pow-add, mul-pow}
use Rattle.std.proofs.Math.Nat.{pow-le-pow_left}
use Rattle.cl_c32.specs.Digits.{number_in, digits_in, leading_zeros, regrouped_digits}
use Rattle.std.specs.Str.{bytes_eq}
use Rattle.cl_c32.specs.Codec.{body_of_digits, checked_address, checksum_of}
use Rattle.cl_c32.specs.declared.codec.C32Refusal.TheVariants.{BadChecksum}
use Rattle.cl_c32.proofs.Numbers.{number_in-lt, number_in-zeros, digits_in-number_in, take-leading_zeros, length-digits_in-le, leading_zeros-le, regrouped_digits-from, length-regrouped_digits, zeros-append-rest}

-- ---- the bytes of digits

pub body_of_digits-by : (ds : List ℕ) (t : Bool) → (length (regrouped_digits 32 256 ds) == 24) ≡ t → body_of_digits ds ≡ (if t then Some (regrouped_digits 32 256 ds) else None)
unfolding body_of_digits
body_of_digits-by ds t e = ap (λ b. cond b (Some (regrouped_digits 32 256 ds)) None) e

-- 30 bytes with the number, and with six zeros in front more than the digits have
pub body_of_digits-found : (ds out : List ℕ) → length out ≡ 30 → All (λ d. d < 256) out → number_in 256 out ≡ number_in 32 ds → leading_zeros out ≡ leading_zeros ds + 6 → body_of_digits ds ≡ Some (drop 6 out)
body_of_digits-found ds out l h e z =
    let zeros = leading_zeros ds in
    let rest = drop (leading_zeros out) out in
    let front : leading_zeros out ≡ suc (suc (suc (suc (suc (suc zeros))))) = omega (arith, z) in
    let same : regrouped_digits 32 256 ds ≡ drop 6 out =
    regrouped_digits-from 32 256 ds out (lit≤ tt) h e
    ∙ ap (λ xs. xs ++ rest) (take-leading_zeros ds)
    ∙ sym (ap (λ k. drop 6 (replicate k 0 ++ rest)) front)
    ∙ ap (drop 6) (zeros-append-rest out)
    in
    let long : length (drop 6 out) ≡ 24 = length-drop 6 out ∙ ap (λ k. k - 6) l in
    body_of_digits-by ds true (eq-eqb (length (regrouped_digits 32 256 ds)) 24 (ap length same ∙ long)) ∙ ap Some same

not_24 : (ds : List ℕ) → (length (regrouped_digits 32 256 ds) ≡ 24 → ⊥) → body_of_digits ds ≡ None
not_24 ds h = body_of_digits-by ds false (grind (arith, nat_tests))

-- another number of zeros in front
pub body_of_digits-other_zeros : (ds out : List ℕ) → length out ≡ 30 → All (λ d. d < 256) out → number_in 256 out ≡ number_in 32 ds → (leading_zeros out ≡ leading_zeros ds + 6 → ⊥) → body_of_digits ds ≡ None
body_of_digits-other_zeros ds out l h e differ =
    let digits : digits_in 256 (number_in 32 ds) ≡ drop (leading_zeros out) out =
    ap (digits_in 256) (sym e) ∙ digits_in-number_in 256 out (lit≤ tt) h in
    let long : length (digits_in 256 (number_in 32 ds)) ≡ 30 - leading_zeros out =
    ap length digits ∙ length-drop (leading_zeros out) out ∙ ap (λ k. k - leading_zeros out) l in
    let whole = length-regrouped_digits 32 256 ds in
    let within = leading_zeros-le out in
    not_24 ds (λ is_24. differ (omega (arith, whole, long, within, l, is_24)))

-- ---- the digits of bytes

-- 39 digits hold the number
number-fits : (bs : List ℕ) → length bs ≡ 24 → All (λ b. b < 256) bs → number_in 256 bs < 32 ^ 39
number-fits bs l h = lt_of_lt_of_le (subst (λ k. number_in 256 bs < 256 ^ k) l (number_in-lt 256 bs h)) (lit≤ tt)

-- a text has room for them
pub length-regrouped_digits-le : (bs : List ℕ) → length bs ≡ 24 → All (λ b. b < 256) bs → length (regrouped_digits 256 32 bs) ≤ 43
length-regrouped_digits-le bs l h =
    let zeros = leading_zeros bs in
    let n = number_in 256 bs in
    let rest = drop zeros bs in
    let whole = length-regrouped_digits 256 32 bs in
    let within = leading_zeros-le bs in
    let most : length (digits_in 32 n) ≤ 39 = length-digits_in-le 32 39 n (lit≤ tt) (number-fits bs l h) in
    let left : length rest ≡ 24 - zeros = length-drop zeros bs ∙ ap (λ k. k - zeros) l in
    let same : number_in 256 rest ≡ n = sym (number_in-zeros 256 zeros rest) ∙ ap (number_in 256) (zeros-append-rest bs) in
    let few : n < 256 ^ (24 - zeros) =
    subst (λ k. n < 256 ^ k) left (subst (λ k. k < 256 ^ length rest) same (number_in-lt 256 rest (All-drop (λ b. b < 256) zeros bs h))) in
    let two_each : 256 ^ (24 - zeros) ≤ 32 ^ (24 - zeros + (24 - zeros)) =
    subst (λ k. 256 ^ (24 - zeros) ≤ k) (mul-pow 32 32 (24 - zeros) ∙ sym (pow-add 32 (24 - zeros) (24 - zeros)))
    (pow-le-pow_left {n = 256} {m = 1024} (lit≤ tt) (24 - zeros)) in
    let twice : length (digits_in 32 n) ≤ 24 - zeros + (24 - zeros) =
    length-digits_in-le 32 (24 - zeros + (24 - zeros)) n (lit≤ tt) (lt_of_lt_of_le few two_each) in
    omega (arith, whole, within, most, twice, l)

pub front-below : (bs : List ℕ) (front : ℕ) → front ≡ leading_zeros bs → All (λ d. d < 32) (take front bs)
front-below bs front e =
    subst (All (λ d. d < 32)) (sym (ap (λ k. take k bs) e ∙ take-leading_zeros bs)) (All-replicate (λ d. d < 32) (leading_zeros bs) 0 (lit< tt))

-- the zeros in front, and the rest of the cells with the number
pub regrouped_digits-parts : (bs out : List ℕ) (front first : ℕ) → All (λ d. d < 32) out → number_in 32 out ≡ number_in 256 bs → front ≡ leading_zeros bs → first ≡ leading_zeros out → length out ≡ 40
    → take front bs ++ take (40 - first) (drop first out) ≡ regrouped_digits 256 32 bs
regrouped_digits-parts bs out front first h e z f l =
    let rest : take (40 - first) (drop first out) ≡ drop first out = ap (λ k. take (k - first) (drop first out)) (sym l) ∙ take_rest out first in
    (λ i. take (z i) bs ++ (rest ∙ ap (λ k. drop k out) f) i) ∙ sym (regrouped_digits-from 256 32 bs out (lit≤ tt) h e)

-- ---- the checksum

checked_address-by : (version : ℕ) (body hash stated computed : List ℕ) (t : Bool) → hash ≡ take 20 body → stated ≡ drop 20 body → computed ≡ checksum_of version hash → bytes_eq stated computed ≡ t
    → checked_address version body ≡ cond t (Ok (record { version = version; hash = hash })) (Err (BadChecksum stated computed))
unfolding checked_address
checked_address-by version body hash stated computed t h s c e =
    let right : computed ≡ checksum_of version (take 20 body) = c ∙ ap (checksum_of version) h in
    (λ i. cond (bytes_eq (sym s i) (sym right i)) (Ok (record { version = version; hash = sym h i })) (Err (BadChecksum (sym s i) (sym right i))))
    ∙ ap (λ b. cond b (Ok (record { version = version; hash = hash })) (Err (BadChecksum stated computed))) e

pub checked_address-right : (version : ℕ) (body hash stated computed : List ℕ) → hash ≡ take 20 body → stated ≡ drop 20 body → computed ≡ checksum_of version hash → bytes_eq stated computed ≡ true
    → checked_address version body ≡ Ok (record { version = version; hash = hash })
checked_address-right version body hash stated computed = checked_address-by version body hash stated computed true

pub checked_address-wrong : (version : ℕ) (body hash stated computed : List ℕ) → hash ≡ take 20 body → stated ≡ drop 20 body → computed ≡ checksum_of version hash → bytes_eq stated computed ≡ false
    → checked_address version body ≡ Err (BadChecksum stated computed)
checked_address-wrong version body hash stated computed = checked_address-by version body hash stated computed false

-- the checksum of a body is all that stands behind the hash
pub checksum_of-part : (body : List ℕ) → length body ≡ 24 → take 4 (drop 20 body) ≡ drop 20 body
checksum_of-part body l = take_all 4 (drop 20 body) (omega (arith, length-drop 20 body, l))

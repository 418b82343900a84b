-- A value is read at one level after another, and the whole input is one value.
use Rattle.std.proofs.Common.{◌≡◌, ℕ, ◌-◌, ◌<◌, ◌≤◌, ◌==◌, nat_lt, Fits, w8, get_or, true, zero, suc, List, [], ◌∷◌, length, refl, arith, ap, ◌∙◌}
use Rattle.std.specs.Prelude.{Ok, Err}
use Rattle.std.specs.List.{All}
use Rattle.std.proofs.Math.Facts.{Fits-lt-pow}
use Rattle.std.proofs.lemmas.Bool.Decides.{nat_tests}
use Rattle.std.proofs.lemmas.List.Elements.{All-cons}
use Rattle.cl_values.specs.declared.fault.DecodeRefusal.TheVariants.{TooLong}
use Rattle.cl_values.specs.Tree.{Tree, depth_of}
use Rattle.cl_values.specs.Wire.{size_of}
use Rattle.cl_values.specs.Valid.{IsVal, made}
use Rattle.cl_values.specs.Reading.{read_value, read_if_prefix, prefix_at, whole, decoded}
use Rattle.cl_values.proofs.Back.{if_false, not_lt_test}

pub value_at : (levels total b : ℕ) (bytes rest : List ℕ) → bytes ≡ b ∷ rest → 0 < levels → read_value levels total bytes ≡ read_if_prefix (read_value (levels - 1) total) total b (prefix_at b) rest
value_at zero total b bytes rest e h = absurd (omega (arith, h))
value_at (suc n) total b bytes rest e h =
    let one : n ≡ suc n - 1 = omega arith in
    ap (read_value (suc n) total) e ∙ ap (λ (k : ℕ). read_if_prefix (read_value k total) total b (prefix_at b) rest) one

nothing_left : (rest : List ℕ) → true ≡ (length rest == 0) → rest ≡ []
nothing_left [] e = refl
nothing_left (b ∷ rest) e = grind (arith, nat_tests)

-- the bytes of a slice are bytes
are_bytes : (bytes : List ℕ) → ((i : ℕ) → Fits w8 (get_or bytes i 0)) → All (λ (b : ℕ). b < 256) bytes
are_bytes [] h = λ k d l. absurd (omega (arith, l))
are_bytes (b ∷ bytes) h =
    All-cons (λ (x : ℕ). x < 256) b bytes (Fits-lt-pow (h 0)) (are_bytes bytes (λ i. h (suc i)))

-- what the law of readings says of a value
abbrev pub AreWithin : Type 0
AreWithin = (bytes : List ℕ) (v : Tree) → All (λ (b : ℕ). b < 256) bytes → decoded bytes ≡ Ok v → IsVal v

valid_made : (v : Tree) → IsVal v → made v ≡ Ok v
valid_made v h = rw (h.keys, h.texts, not_lt_test 32 (depth_of v) h.depth, not_lt_test 1048576 (size_of v) h.size) refl

-- bytes that spell a value, which is made of its tree
pub record Decodes (bytes : List ℕ) (v : Tree) : Type 0 where
  pub found : decoded bytes ≡ Ok v
  pub made : made v ≡ Ok v
  pub depth : depth_of v ≤ 32

-- an input that isn't too long, and is one value to its end
pub whole_input : AreWithin → (bytes rest : List ℕ) (v : Tree) → ((i : ℕ) → Fits w8 (get_or bytes i 0)) → length bytes ≤ 1048576 → read_value 32 (length bytes) bytes ≡ Ok (v, rest) → true ≡ (length rest == 0) → Decodes bytes v
whole_input law bytes rest v are short read end =
    let total : ℕ = length bytes in
    let found : decoded bytes ≡ Ok v = if_false (nat_lt 1048576 total) (Err TooLong) (whole total (read_value 32 total bytes)) (not_lt_test 1048576 total short)
    ∙ ap (whole total) read
    ∙ ap (λ (left : List ℕ). whole total (Ok (v, left))) (nothing_left rest end) in
    let valid : IsVal v = law bytes v (are_bytes bytes are) found in
    record { found = found; made = valid_made v valid; depth = valid.depth }

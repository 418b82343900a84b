-- Bytes that are handed out.
use Rattle.std.proofs.Common.{◌≡◌, ◌<◌, ℕ, List, length, take, min, refl, sym, ap, ◌∙◌, arith}
use Rattle.std.proofs.lemmas.List.{take_all}
use Rattle.cl_exports.specs.Copies.{IsCut}

-- so many are copied as there is room for
module _ (from to : List ℕ) (count : ℕ) (many : count ≡ min (length from) (length to)) (copied : take count to ≡ take count from) where
  pub whole_of : (count < length from → ⊥) → take (length from) to ≡ from
  whole_of all =
      let same : length from ≡ count = omega (arith, many, all) in
      ap (λ (n : ℕ). take n to) same ∙ copied ∙ take_all count from (omega (arith, same))

  pub cut_of : count < length from → IsCut from to (length from)
  cut_of some =
      let full : length to ≡ count = omega (arith, many, some) in
      record {
        many = refl;
        short = omega (arith, full, some);
        first = sym (take_all count to (omega (arith, full))) ∙ copied ∙ ap (λ (n : ℕ). take n from) (sym full);
      }

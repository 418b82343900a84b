-- The digest of a number.
use Rattle.std.proofs.Common.{◌≡◌, ℕ, List, ◌∷◌, [], Some, ap, sym}
use Rattle.std.specs.Int.{w128, to_le_bytes}
use Rattle.cl_arith.specs.declared.Num.{Num}
use Rattle.cl_arith.specs.declared.Num.TheVariants.{Int, Uint}
use Rattle.cl_arith.specs.Operations.{bits_of}
use Rattle.cl_values.specs.Tree.{Tree, IntV, UintV, BuffV}
use Rattle.cl_values.specs.Computed.{Gives}
use Rattle.cl_values.specs.Arithmetic.{number_of}
use Rattle.cl_values.specs.Natives.{message_of, digest_of, digest}

message_of_number : (v : Tree) (n : Num) → Some n ≡ number_of v → message_of v ≡ Some (to_le_bytes w128 (bits_of n))
message_of_number (IntV z) n h = let same : n ≡ Int z = cc in ap (λ (m : Num). Some (to_le_bytes w128 (bits_of m))) (sym same)
message_of_number (UintV k) n h = let same : n ≡ Uint k = cc in ap (λ (m : Num). Some (to_le_bytes w128 (bits_of m))) (sym same)
message_of_number v n h = absurd cc

pub digest_of_number : (hash : List ℕ → List ℕ) (v : Tree) (n : Num) → Some n ≡ number_of v → digest hash (v ∷ []) ≡ Gives (BuffV (hash (to_le_bytes w128 (bits_of n))))
digest_of_number hash v n h = ap (digest_of hash) (message_of_number v n h)

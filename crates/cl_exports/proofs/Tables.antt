-- The table that bytes give.
use Rattle.std.proofs.Common.{◌≡◌, ℕ, suc, List, [], ◌∷◌, length, true, false, Ok, refl, arith, eqb-true}
use Rattle.std.specs.Prelude.{◌==◌}
use Rattle.cl_costs.specs.CostFile.{table_of}
use Rattle.cl_costs.specs.Tables.{unit_table}
use Rattle.cl_exports.specs.Files.{table_in}

pub unit_in : (bytes : List ℕ) → (length bytes == 0) ≡ true → table_in bytes ≡ Ok unit_table
unit_in [] none = refl
unit_in (b ∷ bytes) none =
    let no_byte : suc (length bytes) ≡ 0 = eqb-true (suc (length bytes)) 0 none in
    absurd (omega (arith, no_byte))

pub file_in : (bytes : List ℕ) → (length bytes == 0) ≡ false → table_in bytes ≡ table_of bytes
file_in [] some = cc
file_in (b ∷ bytes) some = refl

-- The lines of claims are those of what was told.
use Rattle.std.proofs.Common.{◌≡◌, ℕ, List, [], ◌∷◌, ◌++◌, map, refl, ap}
use Rattle.std.specs.List.{flat_map}
use Rattle.cl_audit_walk.specs.declared.cursor.Claim.{Claim}
use Rattle.cl_audit.specs.Told.{claim_told}
use Rattle.cl_traces.specs.Lines.{line_of, trace_text}

pub lines_told : (number : ℕ) (cs : List Claim) → flat_map (line_of number) cs ≡ trace_text number (map claim_told cs)
lines_told number [] = refl
lines_told number (c ∷ cs) = ap (λ (rest : List ℕ). line_of number c ++ rest) (lines_told number cs)

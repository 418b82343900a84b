-- Codes of what contracts see.
use Rattle.std.specs.Prelude.{ℕ, refl}
use Rattle.std.specs.Coded.{Coded, code_by, coded_ℕ, coded×}
use Rattle.cl_workload.specs.Summary.{Counts}

pub counts_code : Coded Counts
counts_code = code_by (ℕ × (ℕ × ℕ)) (coded× coded_ℕ (coded× coded_ℕ coded_ℕ))
    (λ c. (c.ok, (c.err, c.runtime))) (λ p. record { ok = p.0; err = p.1.0; runtime = p.1.1 }) (λ c. refl)

-- What a write leaves in the count of faults of its sink.
use Rattle.std.specs.Prelude.{◌≡◌, ◌≤◌, ℕ, Result, Ok, Err}
use Rattle.cl_ports.specs.Growth.{Rose}

-- the count of faults rose where the write failed, and else it stayed
abbrev pub CountsWriteFault : {T E : Type 0} → ℕ → ℕ → Result T E → Type 0
CountsWriteFault before now (Ok x) = now ≡ before
CountsWriteFault before now (Err e) = (before ≤ now) × Rose before now

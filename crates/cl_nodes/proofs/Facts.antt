-- Facts of results.
use Rattle.std.specs.Prelude.{IfOk}
use Rattle.std.proofs.Common.{Result, Ok, Err}

-- what holds of an ok, where something else does
pub ok_also : {A E : Type 0} (r : Result A E) (P Q : A → Type 0) → ((a : A) → P a → Q a) → IfOk r P → IfOk r Q
ok_also (Ok a) P Q go h = go a h
ok_also (Err e) P Q go h = tt

-- Tests that hold or don't.
use Rattle.std.proofs.Common.{◌≡◌, ◌⊎◌, inl, inr, Bool, true, false, refl}
use Rattle.std.specs.Prelude.{◌||◌, ◌&&◌}

pub either_is : (a b : Bool) → (a || b) ≡ true → (a ≡ true) ⊎ (b ≡ true)
either_is true b h = inl refl
either_is false b h = inr h

pub both_are : (a b : Bool) → (a && b) ≡ true → (a ≡ true) × (b ≡ true)
both_are true b h = (refl, h)
both_are false b h = absurd cc

pub differ : (b : Bool) → b ≡ true → b ≡ false → ⊥
differ b h k = cc

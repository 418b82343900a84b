-- What a watch has seen.
use Rattle.std.specs.Prelude.{◌≡◌, List, [], ◌∷◌, ◌++◌, Option, Some, None, Result, Ok, Err}

-- a list grew by these, where it is told; a list that isn't told stays so
abbrev pub GrewBy : {A : Type 0} → Option (List A) → Option (List A) → List A → Type 0
GrewBy None now more = now ≡ None
GrewBy (Some before) now more = now ≡ Some (before ++ more)

-- one more was seen, or, for want of memory, none
abbrev pub Sees : {A E : Type 0} → Option (List A) → Option (List A) → A → Result (Unit {0}) E → Type 0
Sees before now x (Ok u) = GrewBy before now (x ∷ [])
Sees before now x (Err e) = now ≡ before

-- A call depends on the spots that its function touches, and changes those that it writes.
use Rattle.std.specs.Prelude.{◌≡◌, ◌⊎◌, ◌↔◌, ℕ, List, Some}
use Rattle.cl_c32.specs.declared.principal.Principal.{Principal}
use Rattle.cl_values.specs.Tree.{Tree}
use Rattle.cl_events.specs.State.{State}
use Rattle.cl_meaning.specs.Deployed.{Deployed, Function, contract_at, function_of}
use Rattle.cl_meaning.specs.Kept.{Stage, Kept}
use Rattle.cl_meaning.specs.Scope.{Frame}
use Rattle.cl_meaning.specs.Top.{call_from}
use Rattle.cl_tables.specs.declared.place.Place.{Place}
use Rattle.cl_tables.specs.declared.spot.Spot.{Spot}
use Rattle.cl_spots.specs.Spots.{Agree, IsChangedAt, grafted}
use Rattle.cl_touch.specs.Touches.{Touched, Written}
use Rattle.cl_touch.specs.Uses.{Reads, Writes}
use Rattle.cl_touch.specs.Reached.{AreReached, IsUsedIn}
use Rattle.cl_touch.specs.Frames.{AnswerAlike}

-- what is written is touched
abbrev pub WrittenIsTouched : Type 0
WrittenIsTouched =
    (W : Deployed) (p : Principal) (f : List ℕ) (x : Spot) → Written W p f x → Touched W p f x

-- A call of a function, in any frame of its contract, with any values and in any state, changes the state at the function's
-- written spots alone.
abbrev pub CallsChangeWrittenAlone : Type 0
CallsChangeWrittenAlone =
    (W : Deployed) (F : Frame) (f : List ℕ) (function : Function) →
    function_of f (contract_at F.contract W) ≡ Some function →
    (vs : List Tree) (s : State) →
    IsChangedAt (Written W F.contract f) s (call_from W F function vs s).state

-- In two states that agree at the touched spots it has the same answer, and leaves states that agree there.
abbrev pub CallsAnswerAlike : Type 0
CallsAnswerAlike =
    (W : Deployed) (F : Frame) (f : List ℕ) (function : Function) →
    function_of f (contract_at F.contract W) ≡ Some function →
    (vs : List Tree) (s t : State) →
    Agree (Touched W F.contract f) s t →
    AnswerAlike (Touched W F.contract f) (Written W F.contract f) s t (call_from W F function vs s)
    (call_from W F function vs t)

-- ---- what a program computes

-- Where a list has all functions that a function reaches, its touched spots are those that these read or write by themselves.
abbrev pub ReachedTouch : Type 0
ReachedTouch =
    (W : Deployed) (p : Principal) (f : List ℕ) (reached : List Place) → AreReached W p f reached →
    (x : Spot) →
    Touched W p f x ↔ (IsUsedIn W reached (Reads x) ⊎ IsUsedIn W reached (Writes x))

-- and its written ones those that these write
abbrev pub ReachedWrite : Type 0
ReachedWrite =
    (W : Deployed) (p : Principal) (f : List ℕ) (reached : List Place) → AreReached W p f reached →
    (x : Spot) → Written W p f x ↔ IsUsedIn W reached (Writes x)

-- ---- states stay kept

-- a state that is kept stays so with any spots of another
abbrev pub GraftsAreKept : Type 0
GraftsAreKept =
    (W : Deployed) (stage : Stage) (spots : List Spot) (from s : State) → Kept W stage from →
    Kept W stage s → Kept W stage (grafted spots from s)

-- What is found of an expression from what is found of its parts: its type and thrown type, its height and its bound.
use Rattle.std.specs.Prelude.{ℕ, suc, ◌+◌, ◌||◌, max, Bool, false, true, List, [], ◌∷◌, ◌++◌, length, map, Option, Some, None, Result, Ok, Err}
use Rattle.cl_types.specs.Types.{PlainType, size_of}
use Rattle.cl_types.specs.Lattice.{least_supertype}
use Rattle.cl_types.specs.declared.sized.TyRefusal.{TyRefusal}
use Rattle.cl_types.specs.declared.sized.TyRefusal.TheVariants.{Differ}
use Rattle.cl_shapes.specs.declared.name.CostName.{CostName}
use Rattle.cl_shapes.specs.declared.name.CostName.TheVariants.{Arith, Control}
use Rattle.cl_rules.specs.Faults.{TypeFaults}
use Rattle.cl_rules.specs.NativeTypes.{Ruled}
use Rattle.cl_rules.specs.Bills.{Bill, Free, Both}

-- what is found of an expression
pub record Found : Type 0 where
  pub type : PlainType
  -- the type of what it may throw
  pub thrown : Option PlainType
  pub height : ℕ
  pub bound : Bill

-- what an expression breaks at what is found of its parts, and what is found of it where that is nothing
pub record Verdict : Type 0 where
  pub faults : TypeFaults
  pub found : Found

abbrev pub type_at : Found → PlainType
type_at found = found.type

abbrev pub types_of : List Found → List PlainType
types_of = map type_at

-- ---- thrown types

-- the least supertype of thrown types, and whether there is none or none within the limits
pub record Thrown : Type 0 where
  pub differ : Bool
  pub large : Bool
  pub type : Option PlainType

abbrev pub so_far : Option PlainType → Thrown
so_far t = record { differ = false; large = false; type = t }

abbrev pub and_throws : Result PlainType TyRefusal → (PlainType → Thrown) → Thrown
and_throws (Ok t) next = next t
and_throws (Err Differ) next = record { differ = true; large = false; type = None }
and_throws (Err refusal) next = record { differ = false; large = true; type = None }

-- with what was thrown so far, and these from the left
abbrev pub thrown_after : Option PlainType → List (Option PlainType) → Thrown
thrown_after t [] = so_far t
thrown_after t (None ∷ ts) = thrown_after t ts
thrown_after None (Some u ∷ ts) = thrown_after (Some u) ts
thrown_after (Some t) (Some u ∷ ts) = and_throws (least_supertype t u) (λ c. thrown_after (Some c) ts)

-- those of the parts and then the expression's own
abbrev pub thrown_by : List Found → Option PlainType → Thrown
thrown_by fs own = thrown_after None (map (λ (f : Found). f.thrown) fs ++ own ∷ [])

-- ---- heights and bounds

-- the greatest height of the parts
abbrev pub highest : List Found → ℕ
highest [] = 0
highest (f ∷ fs) = max f.height (highest fs)

-- the bounds of all parts
abbrev pub sum_of : List Found → Bill
sum_of [] = Free
sum_of (f ∷ fs) = Both f.bound (sum_of fs)

-- the sum of the sizes of types
abbrev pub sizes_of : List PlainType → ℕ
sizes_of [] = 0
sizes_of (t ∷ ts) = size_of t + sizes_of ts

-- the number of a charge for values of these types: how many there are, or the sum of their sizes
abbrev pub number_at : CostName → List PlainType → ℕ
number_at Arith ts = length ts
number_at Control ts = length ts
number_at name ts = sizes_of ts

-- ---- verdicts

abbrev pub faults_with : TypeFaults → Thrown → TypeFaults
faults_with faults thrown = record faults { too_large = faults.too_large || thrown.large; thrown_differ = faults.thrown_differ || thrown.differ }

-- An expression with this ruling and this bound. What it applies counts as a part of this height.
abbrev pub concluded : Ruled → ℕ → Bill → List Found → Verdict
concluded ruled applied bound fs =
    let thrown = thrown_by fs ruled.throws in
    record {
      faults = faults_with ruled.faults thrown;
      found = record { type = ruled.type; thrown = thrown.type; height = suc (max applied (highest fs)); bound = bound };
    }

-- an expression with these charges of its own, whose parts all count in its bound
abbrev pub summed : Ruled → Bill → List Found → Verdict
summed ruled own fs = concluded ruled 0 (Both own (sum_of fs)) fs

-- the same, of an expression that applies a function of this height
abbrev pub applying : Ruled → ℕ → Bill → List Found → Verdict
applying ruled height own fs = concluded ruled height (Both own (sum_of fs)) fs

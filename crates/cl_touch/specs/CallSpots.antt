-- The spots of a call.
use Rattle.std.specs.Prelude.{◌≡◌, ℕ, Bool, true, false, List, [], ◌∷◌, Contains, Some}
use Rattle.cl_types.specs.declared.sized.Access.{Access}
use Rattle.cl_types.specs.declared.sized.Access.TheVariants.{Public, ReadOnly, Private}
use Rattle.cl_c32.specs.declared.principal.Principal.{Principal}
use Rattle.cl_meaning.specs.Deployed.{Deployed, Function, contract_at, function_of}
use Rattle.cl_tables.specs.declared.spot.Spot.{Spot}
use Rattle.cl_spots.specs.Spots.{IsSpot}
use Rattle.cl_touch.specs.Touches.{Touched, Written}

abbrev pub may_be_called : Access → Bool
may_be_called Public = true
may_be_called ReadOnly = true
may_be_called Private = false

-- the contract is deployed and has the function, which isn't private: else the call is refused with E1, E2 or E3
pub record IsCallable (W : Deployed) (p : Principal) (f : List ℕ) : Type 0 where
  pub function : Function
  pub there : function_of f (contract_at p W) ≡ Some function
  pub callable : may_be_called function.access ≡ true

-- The spots of a call are those of its function. A call that is refused so has none.
abbrev pub TouchedByCall : Deployed → Principal → List ℕ → Spot → Type 0
TouchedByCall W p f x = IsCallable W p f × Touched W p f x

abbrev pub WrittenByCall : Deployed → Principal → List ℕ → Spot → Type 0
WrittenByCall W p f x = IsCallable W p f × Written W p f x

-- no spot is in the list twice
abbrev pub AreOnce : List Spot → Type 0
AreOnce [] = Unit {0}
AreOnce (x ∷ xs) = (Contains xs x → ⊥) × AreOnce xs

-- a list has the elements of a set, each once
pub record Lists (xs : List Spot) (T : Spot → Type 0) : Type 0 where
  pub sound : (x : Spot) → Contains xs x → T x
  pub whole : (x : Spot) → T x → Contains xs x
  pub once : AreOnce xs

-- the spots of a call as lists; each is of a valid principal and name
pub record IsFootprint (W : Deployed) (p : Principal) (f : List ℕ) (touched written : List Spot)
    : Type 0 where
  pub touches : Lists touched (TouchedByCall W p f)
  pub writes : Lists written (WrittenByCall W p f)
  pub valid : (x : Spot) → Contains touched x → IsSpot x

-- The functions that a function reaches, each by its contract and name, and lists of them.
use Rattle.std.specs.Prelude.{◌≡◌, ℕ, List, Contains, Some}
use Rattle.cl_c32.specs.declared.principal.Principal.{Principal}
use Rattle.cl_meaning.specs.Deployed.{Contract, Deployed, contract_at}
use Rattle.cl_tables.specs.declared.place.Place.{Place}
use Rattle.cl_touch.specs.Uses.{Use, Applies, Crosses, of_own}
use Rattle.cl_touch.specs.Touches.{HasUse}

-- a function of the contract at a principal applies another, of the same contract or of a deployed one
pub data AppliesTo (W : Deployed) (p : Principal) (f : List ℕ) : Place → Type 0 where
  own : (g : List ℕ) → HasUse W p f (Applies g) → AppliesTo W p f (of_own p g)
  other : (q : Principal) (g : List ℕ) (c : Contract) → HasUse W p f (Crosses q g) →
      contract_at q W ≡ Some c → AppliesTo W p f (of_own c.principal g)

-- the functions that a function reaches: itself, and each that one of them applies
pub data Reaches (W : Deployed) (p : Principal) (f : List ℕ) : Place → Type 0 where
  itself : Reaches W p f (of_own p f)
  further : (at e : Place) → Reaches W p f at → AppliesTo W at.contract at.name e → Reaches W p f e

-- a list of functions that a function reaches, with itself and all that they apply: so it has all that it reaches
pub record AreReached (W : Deployed) (p : Principal) (f : List ℕ) (reached : List Place) : Type 0 where
  pub first : Contains reached (of_own p f)
  pub sound : (e : Place) → Contains reached e → Reaches W p f e
  pub closed : (at : Place) → Contains reached at →
      (e : Place) → AppliesTo W at.contract at.name e → Contains reached e

-- the body of a function in the list has this use
pub record IsUsedIn (W : Deployed) (reached : List Place) (u : Use) : Type 0 where
  pub at : Place
  pub among : Contains reached at
  pub used : HasUse W at.contract at.name u

-- The spots that a function of a deployed contract touches, and those that it writes.
use Rattle.std.specs.Prelude.{◌≡◌, ℕ, List, Contains, Some}
use Rattle.cl_c32.specs.declared.principal.Principal.{Principal}
use Rattle.cl_meaning.specs.Deployed.{Contract, Deployed, Function, contract_at, native_of, function_of}
use Rattle.cl_tables.specs.declared.spot.Spot.{Spot}
use Rattle.cl_touch.specs.Uses.{Use, Reads, Writes, Applies, Crosses, Natives, uses_in}

-- which natives names stand for in the contract at a principal, by its own version
abbrev pub natives_at : Principal → Deployed → Natives
natives_at p W x = native_of x (contract_at p W)

-- the body of a function of the contract at a principal has this use
pub record HasUse (W : Deployed) (p : Principal) (f : List ℕ) (u : Use) : Type 0 where
  pub function : Function
  pub there : function_of f (contract_at p W) ≡ Some function
  pub used : Contains (uses_in (natives_at p W) p function.body) u

-- The functions that touch a spot: the least set that has each function whose body reads or writes the spot, and each that applies
-- a function of the set: by a call, by map, filter or fold, or in another contract. A contract is named by its own principal.
pub data Touches (W : Deployed) (x : Spot) : Principal → List ℕ → Type 0 where
  by_read : {p : Principal} {f : List ℕ} → HasUse W p f (Reads x) → Touches W x p f
  by_write : {p : Principal} {f : List ℕ} → HasUse W p f (Writes x) → Touches W x p f
  by_function : {p : Principal} {f : List ℕ} (g : List ℕ) → HasUse W p f (Applies g) →
      Touches W x p g → Touches W x p f
  by_contract : {p : Principal} {f : List ℕ} (q : Principal) (g : List ℕ) (c : Contract) →
      HasUse W p f (Crosses q g) → contract_at q W ≡ Some c → Touches W x c.principal g → Touches W x p f

-- the functions that write a spot: the same, by natives that write alone
pub data WritesAt (W : Deployed) (x : Spot) : Principal → List ℕ → Type 0 where
  at_write : {p : Principal} {f : List ℕ} → HasUse W p f (Writes x) → WritesAt W x p f
  at_function : {p : Principal} {f : List ℕ} (g : List ℕ) → HasUse W p f (Applies g) →
      WritesAt W x p g → WritesAt W x p f
  at_contract : {p : Principal} {f : List ℕ} (q : Principal) (g : List ℕ) (c : Contract) →
      HasUse W p f (Crosses q g) → contract_at q W ≡ Some c → WritesAt W x c.principal g → WritesAt W x p f

-- the spots of a function, as sets
abbrev pub Touched : Deployed → Principal → List ℕ → Spot → Type 0
Touched W p f x = Touches W x p f

abbrev pub Written : Deployed → Principal → List ℕ → Spot → Type 0
Written W p f x = WritesAt W x p f

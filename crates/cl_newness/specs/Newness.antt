-- What a contract that is being deployed doesn't define yet is new: no constant has its name, and no token of the contract's.
use Rattle.std.specs.Prelude.{◌≡◌, ◌≤◌, ℕ, List, Option, Some, None, slice_get}
use Rattle.cl_c32.specs.declared.principal.Principal.{Principal}
use Rattle.cl_values.specs.Tree.{Tree as Val}
use Rattle.cl_maps.specs.Maps.{get}
use Rattle.cl_forms.specs.Forms.{Form, FormKind, ExpressionForm}
use Rattle.cl_forms.specs.Names.{name_at}
use Rattle.cl_events.specs.State.{State, place}
use Rattle.cl_meaning.specs.Answers.{Outcome, Given, Answer}
use Rattle.cl_meaning.specs.Deployed.{value_of}

-- ---- tokens

-- no token that isn't there in the first state is there in the second
pub record MakesNoTokens (s t : State) : Type 0 where
  pub fungibles : (key : List ℕ) → get key s.fungibles ≡ None → get key t.fungibles ≡ None
  pub nonfungibles : (key : List ℕ) → get key s.nonfungibles ≡ None → get key t.nonfungibles ≡ None

-- a state has no token of a principal's
pub record HasNoTokens (p : Principal) (s : State) : Type 0 where
  pub fungibles : (x : List ℕ) → get (place p x) s.fungibles ≡ None
  pub nonfungibles : (x : List ℕ) → get (place p x) s.nonfungibles ≡ None

-- ---- names

-- no constant has a name by now, and no token of the principal's
pub record IsNew (p : Principal) (x : List ℕ) (constants : List (List ℕ × Val)) (s : State) : Type 0 where
  pub constant : value_of x constants ≡ None
  pub fungible : get (place p x) s.fungibles ≡ None
  pub nonfungible : get (place p x) s.nonfungibles ≡ None

-- a form has a name, unless it is an expression
abbrev pub IsNamed : Option (List ℕ) → FormKind → Type 0
IsNamed (Some x) kind = Unit {0}
IsNamed None (ExpressionForm e) = Unit {0}
IsNamed None kind = ⊥

-- each definition has a name, and no name is defined twice
pub record DefineOnce (forms : List Form) : Type 0 where
  pub named : (n : ℕ) (f : Form) → slice_get forms n ≡ Some f → IsNamed f.name f.kind
  pub once : (x : List ℕ) (n m : ℕ) → name_at forms n ≡ Some x → name_at forms m ≡ Some x → n ≡ m

-- the name of a form whose place is not among the first so many of these
pub record IsAhead (forms : List Form) (order : List ℕ) (done : ℕ) (x : List ℕ) : Type 0 where
  pub turn : ℕ
  pub place : ℕ
  pub later : done ≤ turn
  pub there : slice_get order turn ≡ Some place
  pub named : name_at forms place ≡ Some x

-- what isn't defined after so many turns is new
abbrev pub AreNew : Principal → List Form → List ℕ → ℕ → List (List ℕ × Val) → State → Type 0
AreNew p forms order done constants s = (x : List ℕ) → IsAhead forms order done x → IsNew p x constants s

-- ---- what an answer gives

abbrev pub OfOutcome : {A : Type 0} → (A → State → Type 0) → Outcome A → State → Type 0
OfOutcome P (Given a) s = P a s
OfOutcome P o s = Unit {0}

-- a fact of what is given, where something is
abbrev pub GivesSo : {A : Type 0} → (A → State → Type 0) → Answer A → Type 0
GivesSo P a = OfOutcome P a.outcome a.state

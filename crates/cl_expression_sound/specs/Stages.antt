-- Contracts that were accepted and deployed one after another, as far as evaluations need it; and the contexts in which their
-- code was typed.
use Rattle.std.specs.Prelude.{◌≡◌, ℕ, List, [], ◌∷◌, ◌++◌, unwrap_or, Contains, Option, Some}
use Rattle.cl_types.specs.Types.{PlainType}
use Rattle.cl_values.specs.Tree.{Tree as Val}
use Rattle.cl_values.specs.Valid.{IsPrincipal}
use Rattle.cl_forms.specs.Forms.{Form}
use Rattle.cl_forms.specs.Fits.{KindFits}
use Rattle.cl_meaning.specs.Deployed.{Contract, Deployed, contract_at, form_of, value_of}
use Rattle.cl_meaning.specs.Kept.{Stage, IsDefinition, IsSoFar}
use Rattle.cl_rules.specs.Context.{Context, Known, named_in}
use Rattle.cl_rules.specs.FormRules.{Defined, nothing_defined}
use Rattle.cl_rules.specs.FormTyping.{FormsTyped}
use Rattle.cl_rules.specs.Acceptance.{known_of}
use Rattle.cl_values.specs.Typed.{IsOf}

-- the form is what its name stands for
abbrev pub IsDefining : Contract → Form → Type 0
IsDefining c form = form_of (unwrap_or form.name []) c.forms ≡ Some form.kind

-- a value of a type is there
pub record IsThere (o : Option Val) (t : PlainType) : Type 0 where
  pub value : Val
  pub there : o ≡ Some value
  pub typed : IsOf value t

-- each form has a name of its own, which is defined so far, and its literals fit
abbrev pub AreForms : Stage → Contract → List Form → Type 0
AreForms stage c [] = Unit {0}
AreForms stage c (form ∷ forms) = (IsDefinition form.kind → IsDefining c form) × (IsDefinition form.kind → IsSoFar stage c.principal (unwrap_or form.name [])) × KindFits form.kind × AreForms stage c forms

-- a contract's forms were typed in an order, after these deployed contracts, and define this; and its constants have values
pub record IsTypedAs (stage : Stage) (before : List Known) (c : Contract) (E : Defined) : Type 0 where
  pub valid : IsPrincipal c.principal
  pub order : List Form
  pub forms : AreForms stage c order
  pub typed : FormsTyped (nothing_defined before c.principal c.version c.source_length) order E
  pub constants : (x : List ℕ) (t : PlainType) → named_in x E.context.constants ≡ Some t → IsThere (value_of x c.constants) t

-- contracts that callers see, each among those that evaluations see
pub data AreKnown (W : Deployed) (stage : Stage) : List Known → Type 0 where
  none_known : {ks : List Known} → ks ≡ [] → AreKnown W stage ks
  and_known : {ks after : List Known} (c : Contract) (E : Defined) → AreKnown W stage ks → IsTypedAs stage ks c E → contract_at c.principal W ≡ Some c → after ≡ ks ++ known_of c.principal c.source_length E ∷ [] → AreKnown W stage after

-- the context behind some of the forms of a deployed contract
pub record IsContext (W : Deployed) (stage : Stage) (G : Context) : Type 0 where
  pub before : List Known
  pub known : AreKnown W stage before
  pub contract : Contract
  pub defined : Defined
  pub accepted : IsTypedAs stage before contract defined
  pub there : contract_at contract.principal W ≡ Some contract
  pub so_far : Defined
  pub done : List Form
  pub rest : List Form
  pub order : accepted.order ≡ done ++ rest
  pub typed : FormsTyped (nothing_defined before contract.principal contract.version contract.source_length) done so_far
  pub more : FormsTyped so_far rest defined
  pub context : so_far.context ≡ G

-- the deployed contracts have principals of their own
pub record AreDistinct (W : Deployed) : Type 0 where
  pub valid : (c : Contract) → Contains W c → IsPrincipal c.principal
  pub found : (c : Contract) → Contains W c → contract_at c.principal W ≡ Some c

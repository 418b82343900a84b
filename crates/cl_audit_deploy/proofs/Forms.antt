-- What each kind of form is, and what the world has at a contract's places.
use Rattle.std.proofs.Common.{◌≡◌, ℕ, List, Option, Some, None, refl, sym, ap, ◌∙◌}
use Rattle.cl_types.specs.Types.{PlainType}
use Rattle.cl_types.specs.declared.sized.Access.{Access}
use Rattle.cl_c32.specs.declared.principal.Principal.{Principal}
use Rattle.cl_shapes.specs.declared.name.CostName.TheVariants.{Define}
use Rattle.cl_sexpr.specs.Tree.{Tree}
use Rattle.cl_values.specs.Tree.{Tree as Val, UintV}
use Rattle.cl_values.specs.Wire.{size_of}
use Rattle.cl_maps.specs.Maps.{Map, put, get, empty}
use Rattle.cl_tokens.specs.Ledger.{no_tokens}
use Rattle.cl_forms.specs.Forms.{ConstantForm, VariableForm, MapForm, FungibleForm, NonFungibleForm, FunctionForm, ExpressionForm}
use Rattle.cl_events.specs.State.{State, place, with_variables, with_fungibles, with_nonfungibles}
use Rattle.cl_meaning.specs.Answers.{Answer, give, wrong, charged, and_then}
use Rattle.cl_meaning.specs.Deployed.{Contract, Deployed}
use Rattle.cl_meaning.specs.Deploying.{defined, with_constant, put_variable, put_fungible, put_nonfungible, with_cap}
use Rattle.cl_meaning.specs.Scope.{Frame}
use Rattle.cl_meaning.specs.Top.{top}
use Rattle.cl_audit_deploy.specs.Deploying.{cap_of}

-- ---- each kind of form

-- a value's size is charged, and then it is put there
abbrev pub constant_put : Contract → List ℕ → Val → State → Answer Contract
constant_put c x v s = charged Define (size_of v) (give (with_constant x v c) s)

abbrev pub variable_put : Contract → List ℕ → Val → State → Answer Contract
variable_put c x v s = charged Define (size_of v) (give c (put_variable c x v s))

abbrev pub kept : Contract → Val → State → Answer Contract
kept c v s = give c s

module _ (W : Deployed) (F : Frame) (x : List ℕ) (c : Contract) (s : State) where
  pub constant_at : (e : Tree) → defined W F x (ConstantForm e) c s ≡ and_then (top W F c e s) (constant_put c x)
  unfolding defined
  constant_at e = refl

  pub variable_at : (type : PlainType) (e : Tree) → defined W F x (VariableForm type e) c s ≡ and_then (top W F c e s) (variable_put c x)
  unfolding defined
  variable_at type e = refl

  pub map_at : (key value : PlainType) → defined W F x (MapForm key value) c s ≡ charged Define 0 (give c s)
  unfolding defined
  map_at key value = refl

  pub uncapped_at : defined W F x (FungibleForm None) c s ≡ charged Define 0 (give c (put_fungible c x None s))
  unfolding defined
  uncapped_at = refl

  pub capped_at : (e : Tree) → defined W F x (FungibleForm (Some e)) c s ≡ and_then (top W F c e s) (with_cap c x)
  unfolding defined
  capped_at e = refl

  pub nonfungible_at : (type : PlainType) → defined W F x (NonFungibleForm type) c s ≡ charged Define 0 (give c (put_nonfungible c x s))
  unfolding defined
  nonfungible_at type = refl

  pub function_at : (access : Access) (params : List (List ℕ × PlainType)) (body : Tree) → defined W F x (FunctionForm access params body) c s ≡ charged Define 0 (give c s)
  unfolding defined
  function_at access params body = refl

  pub expression_at : (e : Tree) → defined W F x (ExpressionForm e) c s ≡ and_then (top W F c e s) (kept c)
  unfolding defined
  expression_at e = refl

pub cap_some : (c : Contract) (x : List ℕ) (v : Val) (n : ℕ) (s : State) → Some n ≡ cap_of v → with_cap c x v s ≡ charged Define (size_of v) (give c (put_fungible c x (Some n) s))
cap_some c x (UintV m) n s h = let same : n ≡ m = cc in ap (λ k. charged Define (size_of (UintV m)) (give c (put_fungible c x (Some k) s))) (sym same)
cap_some c x v n s h = absurd cc

pub cap_none : (c : Contract) (x : List ℕ) (v : Val) (s : State) → None ≡ cap_of v → with_cap c x v s ≡ wrong s
cap_none c x (UintV m) s h = absurd cc
cap_none c x v s h = refl

-- ---- what the world has at a place

pub variable_there : (c : Contract) (contract : Principal) (x y : List ℕ) (v : Val) (s : State) → contract ≡ c.principal → y ≡ x → put_variable c x v s ≡ with_variables (put (place contract y) v s.variables) s
variable_there c contract x y v s at named = λ i. with_variables (put (place (sym at i) (sym named i)) v s.variables) s

pub fungible_there : (c : Contract) (contract : Principal) (x y : List ℕ) (cap : Option ℕ) (s : State) → contract ≡ c.principal → y ≡ x → put_fungible c x cap s ≡ with_fungibles (put (place contract y) (no_tokens cap) s.fungibles) s
fungible_there c contract x y cap s at named = λ i. with_fungibles (put (place (sym at i) (sym named i)) (no_tokens cap) s.fungibles) s

pub nonfungible_there : (c : Contract) (contract : Principal) (x y : List ℕ) (s : State) → contract ≡ c.principal → y ≡ x → put_nonfungible c x s ≡ with_nonfungibles (put (place contract y) empty s.nonfungibles) s
nonfungible_there c contract x y s at named = λ i. with_nonfungibles (put (place (sym at i) (sym named i)) empty s.nonfungibles) s

pub absent_there : {A : Type 0} (m : Map A) (p contract : Principal) (x y : List ℕ) → contract ≡ p → y ≡ x → get (place p x) m ≡ None → get (place contract y) m ≡ None
absent_there m p contract x y at named none = (λ i. get (place (at i) (named i)) m) ∙ none

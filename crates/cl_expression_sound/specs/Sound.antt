-- Sound answers, and what stands around an evaluation that is sound.
use Rattle.std.specs.Prelude.{◌≡◌, ℕ, ◌≤◌, ◌<◌, ◌^◌, Bool, true, false, List, [], ◌∷◌, length, Option, Some, None, Ok, Err, map, option_and_then}
use Rattle.std.specs.List.{list_any}
use Rattle.cl_types.specs.Types.{PlainType}
use Rattle.cl_c32.specs.declared.principal.Principal.{Principal}
use Rattle.cl_shapes.specs.declared.cost.Cost5.{Cost5}
use Rattle.cl_shapes.specs.Costs.{IsAtMost}
use Rattle.cl_sexpr.specs.declared.sexpr.Span.{Span}
use Rattle.cl_sexpr.specs.Tree.{Tree}
use Rattle.cl_values.specs.Tree.{Tree as Val}
use Rattle.cl_values.specs.Valid.{IsPrincipal}
use Rattle.cl_maps.specs.Maps.{get, put, without}
use Rattle.cl_tokens.specs.Ledger.{Ledger, balance}
use Rattle.cl_tokens.specs.Owners.{Owners}
use Rattle.cl_tokens.specs.declared.refusal.TokenRefusal.TheVariants.{Code, SupplyOverflow}
use Rattle.cl_events.specs.declared.event.EventKind.{EventKind}
use Rattle.cl_events.specs.declared.event.EventKind.TheVariants.{Print, FtMint, FtTransfer, FtBurn, NftMint, NftTransfer, NftBurn, StxTransfer, StxBurn}
use Rattle.cl_events.specs.State.{State, is_principal, place, spot, with_variables, with_entries, with_event}
use Rattle.cl_events.specs.Acts.{Acted, acted_by}
use Rattle.cl_meaning.specs.Answers.{Outcome, Given, Thrown, Aborted, Wrong, Deeper, Answer}
use Rattle.cl_meaning.specs.Deployed.{Contract, Deployed, Function, contract_at, function_in, native_of, function_of, constant_of, has_map}
use Rattle.cl_meaning.specs.Calls.{callable}
use Rattle.cl_meaning.specs.Scope.{Frame, BoundValues, Scope, OwnFunction, ByName, Take, Enter}
use Rattle.cl_meaning.specs.Limits.{cost}
use Rattle.cl_meaning.specs.Kept.{IsHolder, Stage, Kept}
use Rattle.cl_rules.specs.Faults.{type_rules, form_rules}
use Rattle.cl_rules.specs.Bills.{Charge, cost_under}
use Rattle.cl_rules.specs.Context.{CostTable, Names, Context, Signature, Known, same, named_in, signature_in, if_callable, target_at}
use Rattle.cl_rules.specs.Verdicts.{Found, number_at}
use Rattle.cl_rules.specs.CallShapes.{by_name_row}
use Rattle.cl_forms.specs.Heads.{Row, native, takes, row_of}
use Rattle.cl_rules.specs.FormRules.{function_faults, signature_of}
use Rattle.cl_expression_sound.specs.Fitted.{Fitted}
use Rattle.cl_expression_sound.specs.Stages.{IsThere, IsContext}
use Rattle.cl_values.specs.Typed.{IsOf, AreOf}

-- ---- answers

-- a value of the type that may be thrown
abbrev pub IsThrown : Option PlainType → Val → Type 0
IsThrown None v = ⊥
IsThrown (Some t) v = IsOf v t

-- a value that is expected is given, or one that may be thrown is thrown, or it aborts
abbrev pub IsFine : {A : Type 0} → (A → Type 0) → (Val → Type 0) → Outcome A → Type 0
IsFine Expected Throws (Given a) = Expected a
IsFine Expected Throws (Thrown v) = Throws v
IsFine Expected Throws (Aborted why) = Unit {0}
IsFine Expected Throws Wrong = ⊥
IsFine Expected Throws Deeper = ⊥

-- What evaluations stand in: a cost table, the deployed contracts, and how far they are defined.
pub record World : Type 0 where
  pub costs : CostTable
  pub deployed : Deployed
  pub stage : Stage

abbrev pub deployed_world : CostTable → Deployed → Stage → World
deployed_world costs W stage = record { costs = costs; deployed = W; stage = stage }

-- the states that are kept, and the contexts in which code of the deployed contracts was typed
abbrev pub IsKept : World → State → Type 0
IsKept K s = Kept K.deployed K.stage s

abbrev pub IsGood : World → Context → Type 0
IsGood K G = IsContext K.deployed K.stage G

-- the outcome is fine, the state is kept, and the cost is within a bound
pub record IsSound (K : World) {A : Type 0} (Expected : A → Type 0) (Throws : Val → Type 0) (bound : Cost5) (a : Answer A) : Type 0 where
  pub outcome : IsFine Expected Throws a.outcome
  pub state : IsKept K a.state
  pub within : IsAtMost (cost K.costs a) bound

-- an answer is as was found of its expression
abbrev pub IsAsFound : World → Found → Answer Val → Type 0
IsAsFound K f a = IsSound K (λ v. IsOf v f.type) (IsThrown f.thrown) (cost_under K.costs f.bound) a

-- ---- scopes

-- values under the names that are bound, each of the name's type
abbrev pub AreBound : Names → BoundValues → Type 0
AreBound [] [] = Unit {0}
AreBound (b ∷ bs) (e ∷ es) = (e.0 ≡ b.0) × IsOf e.1 b.1 × AreBound bs es
AreBound bs es = ⊥

-- a frame of this contract
pub record IsFrame (G : Context) (F : Frame) : Type 0 where
  pub home : F.contract ≡ G.principal
  pub contract : IsPrincipal F.contract
  pub sender : IsPrincipal F.sender
  pub caller : IsPrincipal F.caller
  pub height : F.height < 2 ^ 128

abbrev pub scope : World → Frame → BoundValues → Scope
scope K F E = record { deployed = K.deployed; frame = F; bound = E }

-- ---- functions

-- a function has its signature: its body was typed in a good context of its contract
pub record IsServed (K : World) (p : Principal) (g : Signature) (fn : Function) : Type 0 where
  pub inner : Context
  pub good : IsGood K inner
  pub home : inner.principal ≡ p
  pub found : Found
  pub typed : Fitted inner fn.params fn.body found
  pub sound : form_rules (function_faults fn.access found) ≡ []
  pub signature : signature_of fn.name fn.access fn.params found ≡ g

abbrev pub types_of_params : Signature → List PlainType
types_of_params g = map (λ (p : List ℕ × PlainType). p.1) g.params

-- ---- one level down

-- what is typed is sound up to a height
pub record TakesSound (K : World) (take : Take) (depth : ℕ) : Type 0 where
  pub each :
      (G : Context) → IsGood K G → (F : Frame) → IsFrame G F → (B : Names) (E : BoundValues) → AreBound B E → (e : Tree) (f : Found) → Fitted G B e f → f.height ≤ depth →
      (s : State) → IsKept K s → IsAsFound K f (take (scope K F E) e s)

-- nothing may be thrown
abbrev pub NoThrow : Val → Type 0
NoThrow v = ⊥

-- and so is the application of a function
pub record EntersSound (K : World) (enter : Enter) (depth : ℕ) : Type 0 where
  pub each :
      (G : Context) (g : Signature) (fn : Function) → IsServed K G.principal g fn → (F : Frame) → IsFrame G F → (E : BoundValues) → g.height ≤ depth →
      (vs : List Val) → AreOf vs (types_of_params g) →
      (s : State) → IsKept K s → IsSound K (λ v. IsOf v g.returns) NoThrow (cost_under K.costs g.bound) (enter (scope K F E) (OwnFunction fn) vs s)
  -- and of a native that can be given by name
  pub natives :
      1 ≤ depth → (row : Row) → row ≡ row_of row.head → row.by_name ≡ true → (at : Span) (F : Frame) (E : BoundValues) (ts : List PlainType) (vs : List Val) →
      takes row.arity (length ts) ≡ true → AreOf vs ts → type_rules (by_name_row row.head ts).faults ≡ [] →
      (s : State) → IsKept K s → IsSound K (λ v. IsOf v (by_name_row row.head ts).type) NoThrow (cost_under K.costs (Charge row.cost (number_at row.cost ts))) (enter (scope K F E) (ByName row at) vs s)

-- ---- what is needed of a world

abbrev pub is_fungible : Context → List ℕ → Bool
is_fungible G x = list_any (same x) G.fungibles

-- a function with the signature is there
pub record IsServedThere (K : World) (p : Principal) (x : List ℕ) (g : Signature) : Type 0 where
  pub function : Function
  pub there : function_of x (contract_at p K.deployed) ≡ Some function
  pub served : IsServed K p g function

-- numbers of tokens are uints of 128 bits
pub record AreUints (l : Ledger) : Type 0 where
  pub supply : l.supply < 2 ^ 128
  pub balances : (who : List ℕ) → balance who l.balances < 2 ^ 128

pub record IsLedgerThere (o : Option Ledger) : Type 0 where
  pub ledger : Ledger
  pub there : o ≡ Some ledger
  pub uints : AreUints ledger

-- owners who are principals
pub record AreOwnersThere (o : Option Owners) : Type 0 where
  pub owners : Owners
  pub there : o ≡ Some owners
  pub principals : (id owner : List ℕ) → get id owners ≡ Some owner → IsHolder owner

-- an asset's identifier has the token's type
pub record IsAsset (G : Context) (token : List ℕ) (id : Val) : Type 0 where
  pub type : PlainType
  pub told : named_in token G.nonfungibles ≡ Some type
  pub typed : IsOf id type

-- an act on tokens of the context, with a number and with principals
abbrev pub IsAct : Context → EventKind → Type 0
IsAct G (Print v) = ⊥
IsAct G (FtMint token n to) = (is_fungible G token ≡ true) × (n < 2 ^ 128) × IsPrincipal to
IsAct G (FtTransfer token n from to) = (is_fungible G token ≡ true) × (n < 2 ^ 128) × IsPrincipal from × IsPrincipal to
IsAct G (FtBurn token n from) = (is_fungible G token ≡ true) × (n < 2 ^ 128) × IsPrincipal from
IsAct G (NftMint token id to) = IsAsset G token id × IsPrincipal to
IsAct G (NftTransfer token id from to) = IsAsset G token id × IsPrincipal from × IsPrincipal to
IsAct G (NftBurn token id from) = IsAsset G token id × IsPrincipal from
IsAct G (StxTransfer n from to) = (n < 2 ^ 128) × IsPrincipal from × IsPrincipal to
IsAct G (StxBurn n from) = (n < 2 ^ 128) × IsPrincipal from

-- what comes of an act: a state that is kept, or a refusal
abbrev pub IsActed : World → Acted → Type 0
IsActed K None = ⊥
IsActed K (Some (Ok s)) = IsKept K s
IsActed K (Some (Err (Code n))) = n < 2 ^ 128
IsActed K (Some (Err SupplyOverflow)) = Unit {0}

-- another deployed contract, with a function that may be called
pub record IsServedAcross (K : World) (G : Context) (p : Principal) (k : Known) (x : List ℕ) (g : Signature) : Type 0 where
  pub contract : Contract
  pub another : is_principal p G.principal ≡ false
  pub there : contract_at p K.deployed ≡ Some contract
  pub length : contract.source_length ≡ k.length
  pub function : Function
  pub callable_there : option_and_then callable (function_in x contract.forms) ≡ Some function
  pub inner : Context
  pub home : inner.principal ≡ contract.principal
  pub valid : IsPrincipal contract.principal
  pub served : IsServed K inner.principal g function

pub record IsWorld (K : World) : Type 0 where
  -- constants before have values of their types
  pub constants : (G : Context) → IsGood K G → (x : List ℕ) (t : PlainType) → named_in x G.constants ≡ Some t → IsThere (constant_of x (contract_at G.principal K.deployed)) t
  -- natives are those of the version of the contract's text
  pub natives : (G : Context) → IsGood K G → (x : List ℕ) → native_of x (contract_at G.principal K.deployed) ≡ native G.version x
  -- functions before stand in the contract
  pub functions : (G : Context) → IsGood K G → (x : List ℕ) (g : Signature) → signature_in x G.functions ≡ Some g → IsServedThere K G.principal x g
  -- variables, maps and tokens before are there, their values have their types, and values of their types may be put there
  pub variables : (G : Context) → IsGood K G → (x : List ℕ) (t : PlainType) → named_in x G.variables ≡ Some t → (s : State) → IsKept K s → IsThere (get (place G.principal x) s.variables) t
  pub set_variable : (G : Context) → IsGood K G → (x : List ℕ) (t : PlainType) → named_in x G.variables ≡ Some t → (v : Val) → IsOf v t → (s : State) → IsKept K s → IsKept K (with_variables (put (place G.principal x) v s.variables) s)
  pub maps : (G : Context) → IsGood K G → (m : List ℕ) (t : PlainType × PlainType) → named_in m G.maps ≡ Some t → has_map m (contract_at G.principal K.deployed) ≡ true
  pub entries : (G : Context) → IsGood K G → (m : List ℕ) (t : PlainType × PlainType) → named_in m G.maps ≡ Some t → (key : Val) → IsOf key t.0 → (s : State) → IsKept K s → (v : Val) → get (spot G.principal m key) s.entries ≡ Some v → IsOf v t.1
  pub put_entry : (G : Context) → IsGood K G → (m : List ℕ) (t : PlainType × PlainType) → named_in m G.maps ≡ Some t → (key v : Val) → IsOf key t.0 → IsOf v t.1 → (s : State) → IsKept K s → IsKept K (with_entries (put (spot G.principal m key) v s.entries) s)
  pub remove_entry : (key : List ℕ) (s : State) → IsKept K s → IsKept K (with_entries (without key s.entries) s)
  pub fungibles : (G : Context) → IsGood K G → (x : List ℕ) → is_fungible G x ≡ true → (s : State) → IsKept K s → IsLedgerThere (get (place G.principal x) s.fungibles)
  pub stx : (s : State) → IsKept K s → AreUints s.stx
  pub nonfungibles : (G : Context) → IsGood K G → (x : List ℕ) (t : PlainType) → named_in x G.nonfungibles ≡ Some t → (s : State) → IsKept K s → AreOwnersThere (get (place G.principal x) s.nonfungibles)
  pub events : (p : Principal) (kind : EventKind) (s : State) → IsKept K s → IsKept K (with_event p kind s)
  pub acts : (G : Context) → IsGood K G → (sender : Principal) (kind : EventKind) → IsAct G kind → (s : State) → IsKept K s → IsActed K (acted_by sender G.principal kind s)
  -- functions of other contracts
  pub across : (G : Context) → IsGood K G → (p : Principal) (k : Known) → target_at G p ≡ Some k → (x : List ℕ) (g : Signature) → if_callable (signature_in x k.functions) ≡ Some g → IsServedAcross K G p k x g

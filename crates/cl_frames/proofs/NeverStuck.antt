-- Evaluations of accepted contracts are never stuck, and no call throws a value.
use Rattle.std.proofs.Common.{◌≡◌, ◌<◌, ◌^◌, ◌∷◌, [], ◌++◌, ℕ, List, length, map, Option, Some, None, Ok, refl, sym, ap, subst, ◌∙◌}
use Rattle.cl_types.specs.Types.{PlainType}
use Rattle.cl_types.specs.declared.fault.Fault.{Fault}
use Rattle.cl_types.specs.Fault.{IsRefusal}
use Rattle.cl_arith.specs.declared.ArithRefusal.{ArithRefusal}
use Rattle.cl_arith.specs.declared.ArithRefusal.TheVariants.{Overflow, Underflow, DivideByZero, NegativeArgument}
use Rattle.cl_shapes.specs.declared.cost.Cost5.{Cost5}
use Rattle.cl_shapes.specs.Costs.{plus, IsAtMost}
use Rattle.cl_shapes.specs.Limits.{Purse}
use Rattle.cl_values.specs.Tree.{Tree as Val}
use Rattle.cl_values.specs.Typed.{IsOf, AreOf}
use Rattle.cl_values.specs.Valid.{IsPrincipal}
use Rattle.cl_forms.specs.Order.{ordered}
use Rattle.cl_events.specs.State.{State}
use Rattle.cl_rules.specs.Acceptance.{known_of}
use Rattle.cl_rules.specs.Bills.{cost_under}
use Rattle.cl_rules.specs.Context.{Known, Signature, known_at, signature_in}
use Rattle.cl_meaning.specs.Answers.{with_known}
use Rattle.cl_meaning.specs.Deployed.{Contract, Deployed, Function, contract_at, function_in, function_of}
use Rattle.cl_meaning.specs.Deploying.{deployment}
use Rattle.cl_meaning.specs.Kept.{Whole, Kept}
use Rattle.cl_meaning.specs.Limits.{Costs, Limited, Gave, limited}
use Rattle.cl_meaning.specs.Scope.{Frame}
use Rattle.cl_meaning.specs.Top.{call_from}
use Rattle.cl_contracts.specs.declared.checked.Checked.{Checked}
use Rattle.cl_contracts.specs.Seen.{forms_of}
use Rattle.cl_expression_sound.specs.Sound.{types_of_params}
use Rattle.cl_contract_sound.specs.Nodes.{AreContracts, IsNode}
use Rattle.cl_contract_sound.specs.Deployments.{DeploymentsSpendWithin, IsFineEndUnder, LimitsLeaveDeployments, TextsAreSound, of_text}
use Rattle.cl_contract_sound.specs.Laws.{CallsSpendWithin, FunctionsAreSigned, FunctionsAreSound, IsFineUnder, IsSigned, LimitsLeaveSound, spent_in}
use Rattle.cl_expression_sound.proofs.Costs.{and_more, same_cost}
use Rattle.cl_frames.specs.declared.abort.Abort.{Abort}
use Rattle.cl_frames.specs.declared.abort.Abort.TheVariants.{EarlyTop}
use Rattle.cl_frames.specs.declared.stop.Stop.{Stop}
use Rattle.cl_frames.specs.declared.stop.Stop.TheVariants as stops
use Rattle.cl_frames.specs.Aborts.{IsNotStuck, StopsCall, abort_of, fault_of}
use Rattle.cl_frames.specs.Deploys.{contract_with}
use Rattle.cl_frames.specs.Runs.{Stops}
use Rattle.cl_frames.specs.Sound.{IsAcceptedAfter, IsFittingCall, IsKeptWorld, IsReturnOf, SpendsWithin}

-- principals and the height of a frame are within the limits
pub record IsValidFrame (F : Frame) : Type 0 where
  pub contract : IsPrincipal F.contract
  pub sender : IsPrincipal F.sender
  pub caller : IsPrincipal F.caller
  pub height : F.height < 2 ^ 128

-- ---- what is left of a sound call

module _ (sound : FunctionsAreSound) (limits : LimitsLeaveSound) (W : Deployed) (F : Frame) (valid : IsValidFrame F) (x : List ℕ) (vs : List Val) (call : IsFittingCall W F.contract x vs) (table : Costs) (p : Purse) (s : State) where
  abbrev left : Limited Val
  left = limited table p (with_known (function_of x (contract_at F.contract W)) (λ f. call_from W F f vs) s)

  one_function : (f g : Function) → Some f ≡ Some g → f ≡ g
  one_function f g e = cc

  -- of a function that callers see: a value of its return type and a state that is kept, an abort, or a charge above the limit
  signed_call : (known : List Known) → AreContracts W known → Kept W Whole s → (k : Known) → known_at F.contract known ≡ Some k → (g : Signature) → signature_in x k.functions ≡ Some g →
      IsFineUnder (λ v. IsOf v g.returns) (Kept W Whole) left
  signed_call known contracts kept k at g told =
      let f = sound W known contracts table F.contract k at x g told in
      let same : f.function ≡ call.function = one_function f.function call.function (sym f.there ∙ call.there) in
      let params : call.function.params ≡ g.params = ap (λ (h : Function). h.params) (sym same) ∙ f.params in
      let fitting : AreOf vs (types_of_params g) = subst (λ (ps : List (List ℕ × PlainType)). AreOf vs (map (λ (param : List ℕ × PlainType). param.1) ps)) params call.fitting in
      let answer = f.sound F refl valid.sender valid.caller valid.height vs fitting s kept in
      subst (λ (o : Option Function). IsFineUnder (λ v. IsOf v g.returns) (Kept W Whole) (limited table p (with_known o (λ h. call_from W F h vs) s))) (sym f.there)
      (limits table W g.returns (cost_under table g.bound) (call_from W F f.function vs s) answer table p)

  -- what is spent of it
  pub call_spends : CallsSpendWithin → IsKeptWorld W s → (after : Purse) → ((most : Cost5) → IsAtMost (spent_in left) most → IsAtMost p.spent most → IsAtMost after.spent most) → SpendsWithin table W F.contract x p after
  call_spends spend world after low = λ known contracts k at g told.
      let f = sound W known contracts table F.contract k at x g told in
      let same : f.function ≡ call.function = one_function f.function call.function (sym f.there ∙ call.there) in
      let params : call.function.params ≡ g.params = ap (λ (h : Function). h.params) (sym same) ∙ f.params in
      let fitting : AreOf vs (types_of_params g) = subst (λ (ps : List (List ℕ × PlainType)). AreOf vs (map (λ (param : List ℕ × PlainType). param.1) ps)) params call.fitting in
      let answer = f.sound F refl valid.sender valid.caller valid.height vs fitting s world.node.kept in
      let most : Cost5 = plus p.spent (cost_under table g.bound) in
      low most
      (subst (λ (o : Option Function). IsAtMost (spent_in (limited table p (with_known o (λ h. call_from W F h vs) s))) most) (sym f.there)
      (spend table W g.returns (cost_under table g.bound) (call_from W F f.function vs s) answer p))
      (and_more p.spent p.spent (cost_under table g.bound) (same_cost p.spent))

  found_in : (o : Option Contract) → function_of x o ≡ Some call.function → (c : Contract) × (o ≡ Some c) × (function_in x c.forms ≡ Some call.function)
  found_in None e = absurd cc
  found_in (Some c) e = (c, refl, e)

  -- callers see each function that evaluations find
  is_signed : FunctionsAreSigned → (known : List Known) → AreContracts W known → IsSigned known F.contract x
  is_signed signed known contracts =
      let found = found_in (contract_at F.contract W) call.there in
      signed W known contracts F.contract valid.contract found.0 found.1 x call.function found.2

  pub call_fine : FunctionsAreSigned → (world : IsKeptWorld W s) → (t : PlainType) × IsFineUnder (λ v. IsOf v t) (Kept W Whole) left
  call_fine signed world =
      let g = is_signed signed world.known world.node.contracts in
      (g.signature.returns, signed_call world.known world.node.contracts world.node.kept g.known g.there g.signature g.told)

  given_fine : (t : PlainType) (l : Limited Val) (v : Val) (after : State) (q : Purse) → l ≡ Gave v after q → IsFineUnder (λ v. IsOf v t) (Kept W Whole) l → IsOf v t × Kept W Whole after
  given_fine t l v after q e fine = subst (IsFineUnder (λ v. IsOf v t) (Kept W Whole)) e fine

  -- what is given is of the return type
  pub returned_typed : (world : IsKeptWorld W s) (v : Val) (after : State) (q : Purse) → left ≡ Gave v after q → IsReturnOf W F.contract x v
  returned_typed world v after q e = λ known contracts k at g told.
      (given_fine g.returns left v after q e (signed_call known contracts world.node.kept k at g told)).0

  -- and the state then is kept
  pub call_keeps : FunctionsAreSigned → (world : IsKeptWorld W s) (v : Val) (after : State) (q : Purse) → left ≡ Gave v after q → IsKeptWorld W after
  call_keeps signed world v after q e =
      let fine = call_fine signed world in
      record { known = world.known; node = record { contracts = world.node.contracts; kept = (given_fine fine.0 left v after q e fine.1).1 } }

-- ---- what is left of a sound deployment

module _ (sound : TextsAreSound) (limits : LimitsLeaveDeployments) (W : Deployed) (F : Frame) (valid : IsValidFrame F) (c : Checked) (home : c.principal ≡ F.contract) (table : Costs) (p : Purse) (s : State) (a : IsAcceptedAfter W s c) where
  abbrev left_deployed : Limited Contract
  left_deployed = limited table p (deployment W F (contract_with c []) s)

  abbrev Node : Contract → State → Type 0
  Node d t = IsNode (d ∷ W) (a.known ++ known_of c.principal (length a.text.bytes) a.accepted.defined ∷ []) t

  same_contract : contract_with c [] ≡ of_text c.principal a.text a.accepted.forms
  same_contract = λ i. record { principal = c.principal; version = a.version i; forms = a.forms i; source_length = a.size i; constants = [] }

  pub deployment_fine : IsFineEndUnder Node left_deployed
  deployment_fine =
      subst (λ (d : Contract). IsFineEndUnder Node (limited table p (deployment W F d s))) (sym same_contract)
      (limits table W (a.known ++ known_of c.principal (length a.text.bytes) a.accepted.defined ∷ []) (cost_under table a.accepted.defined.deploy) (deployment W F (of_text c.principal a.text a.accepted.forms) s)
      (sound W a.known s a.node c.principal (subst IsPrincipal (sym home) valid.contract) a.new a.costs a.text a.accepted table F (sym home) valid.sender valid.caller valid.height)
      table p)

  -- what is spent of it
  pub deployment_spends : DeploymentsSpendWithin → (after : Purse) → ((most : Cost5) → IsAtMost (spent_in left_deployed) most → IsAtMost p.spent most → IsAtMost after.spent most) → IsAtMost after.spent (plus p.spent (cost_under table a.accepted.defined.deploy))
  deployment_spends spend after low =
      let most : Cost5 = plus p.spent (cost_under table a.accepted.defined.deploy) in
      low most
      (subst (λ (d : Contract). IsAtMost (spent_in (limited table p (deployment W F d s))) most) (sym same_contract)
      (spend table W (a.known ++ known_of c.principal (length a.text.bytes) a.accepted.defined ∷ []) (cost_under table a.accepted.defined.deploy) (deployment W F (of_text c.principal a.text a.accepted.forms) s)
      (sound W a.known s a.node c.principal (subst IsPrincipal (sym home) valid.contract) a.new a.costs a.text a.accepted table F (sym home) valid.sender valid.caller valid.height)
      p))
      (and_more p.spent p.spent (cost_under table a.accepted.defined.deploy) (same_cost p.spent))

  -- the state that it leaves is kept with the contract
  pub deployment_keeps : (d : Contract) (after : State) (q : Purse) → left_deployed ≡ Gave d after q → IsKeptWorld (d ∷ W) after
  deployment_keeps d after q e = record {
    known = a.known ++ known_of c.principal (length a.text.bytes) a.accepted.defined ∷ [];
    node = subst (IsFineEndUnder Node) e deployment_fine;
  }

-- the forms of the accepted text are in its order of evaluation
pub order_accepted : (W : Deployed) (s : State) (c : Checked) → IsAcceptedAfter W s c → ordered (forms_of c) ≡ Ok c.order.items
order_accepted W s c a = ap ordered a.forms ∙ a.accepted.typed.is_ordered.order_is ∙ ap Ok (sym a.order)

-- ---- why evaluations stop

-- a call that is fine is neither stuck, nor does it throw a value
pub call_stops : (t : PlainType) (K : State → Type 0) (l : Limited Val) (e : Stop) (q : Purse) (s : State) → IsFineUnder (λ v. IsOf v t) K l → Stops l e q s → StopsCall e
call_stops t K l (stops.Thrown v) q s fine h = subst (IsFineUnder (λ v. IsOf v t) K) h fine
call_stops t K l (stops.Arithmetic why) q s fine h = tt
call_stops t K l stops.Panic q s fine h = tt
call_stops t K l stops.Supply q s fine h = tt
call_stops t K l (stops.CostLimit over) q s fine h = tt
call_stops t K l stops.Stuck q s fine h = subst (IsFineUnder (λ v. IsOf v t) K) h fine
call_stops t K l stops.NoMemory q s fine h = tt

pub deployment_stops : (Done : Contract → State → Type 0) (l : Limited Contract) (e : Stop) (q : Purse) (s : State) → IsFineEndUnder Done l → Stops l e q s → IsNotStuck e
deployment_stops Done l (stops.Thrown v) q s fine h = tt
deployment_stops Done l (stops.Arithmetic why) q s fine h = tt
deployment_stops Done l stops.Panic q s fine h = tt
deployment_stops Done l stops.Supply q s fine h = tt
deployment_stops Done l (stops.CostLimit over) q s fine h = tt
deployment_stops Done l stops.Stuck q s fine h = subst (IsFineEndUnder Done) h fine
deployment_stops Done l stops.NoMemory q s fine h = tt

pub call_not_stuck : (e : Stop) → StopsCall e → IsNotStuck e
call_not_stuck (stops.Thrown v) h = absurd h
call_not_stuck (stops.Arithmetic why) h = tt
call_not_stuck stops.Panic h = tt
call_not_stuck stops.Supply h = tt
call_not_stuck (stops.CostLimit over) h = tt
call_not_stuck stops.Stuck h = absurd h
call_not_stuck stops.NoMemory h = tt

other_abort : (why : ArithRefusal) → abort_of why ≡ EarlyTop → ⊥
other_abort Overflow e = absurd cc
other_abort Underflow e = absurd cc
other_abort DivideByZero e = absurd cc
other_abort NegativeArgument e = absurd cc

abbrev NotEarly : Option (Fault Abort) → Type 0
NotEarly None = Unit {0}
NotEarly (Some fault) = IsRefusal fault (λ abort. abort ≡ EarlyTop → ⊥)

early_nowhere : (e : Stop) → StopsCall e → NotEarly (fault_of e)
early_nowhere (stops.Thrown v) h = absurd h
early_nowhere (stops.Arithmetic why) h = other_abort why
early_nowhere stops.Panic h = λ e. absurd cc
early_nowhere stops.Supply h = λ e. absurd cc
early_nowhere (stops.CostLimit over) h = λ e. absurd cc
early_nowhere stops.Stuck h = tt
early_nowhere stops.NoMemory h = tt

-- a call doesn't abort as a value that is thrown at the top of a contract does
pub call_is_not_early : (e : Stop) (f : Fault Abort) → StopsCall e → fault_of e ≡ Some f → IsRefusal f (λ abort. abort ≡ EarlyTop → ⊥)
call_is_not_early e f h same = subst NotEarly same (early_nowhere e h)

-- A call at a sound node comes to something, and leaves a sound node.
use Rattle.std.proofs.Common.{◌≡◌, ℕ, suc, nat_eq, eqb-true, Bool, true, false, List, [], ◌∷◌, length, map, Option, Some, None, refl, sym, ap, subst, ◌∙◌, arith}
use Rattle.std.specs.Prelude.{if◌then◌else◌, option_and_then}
use Rattle.std.specs.List.{All}
use Rattle.std.proofs.lemmas.List.Elements.{All-head, All-tail}
use Rattle.cl_types.specs.Types.{PlainType}
use Rattle.cl_types.specs.declared.sized.Access.{Access}
use Rattle.cl_types.specs.declared.sized.Access.TheVariants.{Public, ReadOnly, Private}
use Rattle.cl_types.proofs.OfKind.{response_type}
use Rattle.cl_c32.specs.declared.principal.Principal.{Principal}
use Rattle.cl_c32.specs.Address.{IsAddress}
use Rattle.cl_shapes.specs.declared.cost.Cost5.{Cost5}
use Rattle.cl_shapes.specs.declared.limit.Over.{Over}
use Rattle.cl_shapes.specs.declared.cost.Dimension.{Dimension}
use Rattle.cl_shapes.specs.Costs.{first_above, IsAtMost}
use Rattle.cl_shapes.specs.Limits.{limit_of}
use Rattle.cl_values.specs.Tree.{Tree, ResponseV}
use Rattle.cl_values.specs.Valid.{IsVal, IsPrincipal}
use Rattle.cl_values.specs.Inhabits.{inhabits}
use Rattle.cl_values.specs.Typed.{IsOf, AreOf}
use Rattle.cl_values.proofs.OfTypes.{response_of}
use Rattle.cl_forms.specs.Forms.{FormKind, ConstantForm, VariableForm, MapForm, FungibleForm, NonFungibleForm, FunctionForm, ExpressionForm}
use Rattle.cl_events.specs.State.{State}
use Rattle.cl_meaning.specs.Answers.{Cause}
use Rattle.cl_meaning.specs.Deployed.{Contract, Function, contract_at, form_of, as_function, function_in, function_of}
use Rattle.cl_meaning.specs.Kept.{Whole, Kept}
use Rattle.cl_meaning.specs.Limits.{Costs, cost, Limited, Gave, Threw, AbortedBy, Passed, Lost, limited}
use Rattle.cl_meaning.specs.Top.{call_from}
use Rattle.cl_rules.specs.Bills.{cost_under}
use Rattle.cl_rules.specs.Context.{Known, Signature, known_at, signature_in}
use Rattle.cl_rules.specs.Acceptance.{most_cost}
use Rattle.cl_expression_sound.specs.Sound.{types_of_params, deployed_world}
use Rattle.cl_contract_sound.specs.Laws.{Answers, IsFineUnder}
use Rattle.cl_contract_sound.proofs.Functions.{function_is_sound}
use Rattle.cl_contract_sound.proofs.Signed.{each_signed}
use Rattle.cl_contract_sound.proofs.UnderLimits.{fine_under, charged, charged_low}
use Rattle.cl_expression_sound.proofs.Costs.{at_most}
use Rattle.cl_file.specs.declared.entry.Common.{Common}
use Rattle.cl_post.specs.Post.{holds}
use Rattle.cl_tx.specs.declared.outcome.Outcome.{Outcome}
use Rattle.cl_tx.specs.declared.outcome.Outcome.TheVariants.{Good, Bad, Plain, Aborted}
use Rattle.cl_tx.specs.declared.outcome.Stop.TheVariants.{CostLimit, PostCondition}
use Rattle.cl_tx.specs.declared.outcome.EntryRefusal.{EntryRefusal}
use Rattle.cl_tx.specs.Nodes.{NodeSeen, Stepped, Told, nothing_told, frame_of, purse_of, stop_of, moves_on, stays, aborted, refused, settled_by, settled, answered, call_ended}
use Rattle.cl_tx.specs.Rebounds.{functions_of, above_by, first_over}
use Rattle.cl_tx.specs.Step.{first_misfit, run_call, if_bounded, if_fitting, if_as_many, if_open, if_function, if_deployed, call_step}
use Rattle.cl_node_sound.specs.Sound.{IsSoundNode, IsWithinBound, IsTypedAnswer, given_by}
use Rattle.cl_node_sound.specs.Told.{IsStopped}
use Rattle.cl_node_sound.proofs.Enough.{IsPassed, passes_not, aborts_not_stopped}
use Rattle.cl_node_sound.proofs.SameContracts.{itself, kept_moved}

-- It comes to something: the node after it is sound, this was told, what is charged is low, what it gives is typed, and where it
-- is stopped by its limit, that has a reason.
pub record Comes (told : Told) (Low : Cost5 → Type 0) (Typed : Tree → Type 0) (Reason : Type 0) (o : Option Stepped) : Type 0 where
  pub step : Stepped
  pub is : o ≡ Some step
  pub sound : IsSoundNode step.node
  pub tells : step.result.bounds ≡ told.bounds
  pub low : (cost : Cost5) → step.result.cost ≡ Some cost → Low cost
  pub typed : (v : Tree) → given_by step.result.outcome ≡ Some v → Typed v
  pub stopped : IsStopped step.result.outcome → Reason

pub some_cost : (b c : Cost5) → Some b ≡ Some c → b ≡ c
some_cost b c e = cc

no_cost : (Low : Cost5 → Type 0) (c : Cost5) → None ≡ Some c → Low c
no_cost Low c e = absurd cc

no_value : (Typed : Tree → Type 0) (v : Tree) → None ≡ Some v → Typed v
no_value Typed v e = absurd cc

same_value : (Typed : Tree → Type 0) (u v : Tree) → Typed u → Some u ≡ Some v → Typed v
same_value Typed u v typed e = subst Typed (some_tree u v e) typed
  where
    some_tree : (u v : Tree) → Some u ≡ Some v → u ≡ v
    some_tree u v e = cc

module _ (node : NodeSeen) (N : IsSoundNode node) (told : Told) (Low : Cost5 → Type 0) (Typed : Tree → Type 0) (Reason : Type 0) where
  abbrev HasTyped : Outcome → Type 0
  HasTyped outcome = (v : Tree) → given_by outcome ≡ Some v → Typed v

  stays_sound : (outcome : Outcome) (cost : Cost5) → Low cost → HasTyped outcome → (IsStopped outcome → Reason) → Comes told Low Typed Reason (Some (stays node told outcome (Some cost)))
  stays_sound outcome cost low typed reason = record { step = stays node told outcome (Some cost); is = refl; sound = N; tells = refl; low = λ c e. subst Low (some_cost cost c e) low; typed = typed; stopped = reason }

  -- an abort by a cause
  pub aborted_sound : (why : Cause) (cost : Cost5) → Low cost → Comes told Low Typed Reason (Some (aborted node told (stop_of why) cost))
  aborted_sound why cost low = stays_sound (Aborted (stop_of why)) cost low (no_value Typed) (λ h. absurd (aborts_not_stopped why h))

  -- another outcome than a stop by the limit
  pub failed_sound : (outcome : Outcome) (cost : Cost5) → Low cost → HasTyped outcome → (IsStopped outcome → ⊥) → Comes told Low Typed Reason (Some (stays node told outcome (Some cost)))
  failed_sound outcome cost low typed goes_on = stays_sound outcome cost low typed (λ h. absurd (goes_on h))

  -- a stop by the limit
  pub stopped_sound : (over : Over) (cost : Cost5) → Low cost → Reason → Comes told Low Typed Reason (Some (aborted node told (CostLimit over) cost))
  stopped_sound over cost low reason = stays_sound (Aborted (CostLimit over)) cost low (no_value Typed) (λ h. reason)

  -- a run that is settled, where it would move on to a sound node
  pub settled_sound : (failing : Option ℕ) (after : NodeSeen) (outcome : Outcome) (cost : Cost5) (s : State) → IsSoundNode (moves_on after told outcome cost s).node → Low cost → HasTyped outcome → (IsStopped outcome → ⊥) → Comes told Low Typed Reason (Some (settled_by failing node after told outcome cost s))
  settled_sound None after outcome cost s sound low typed goes_on = record { step = moves_on after told outcome cost s; is = refl; sound = sound; tells = refl; low = λ c e. subst Low (some_cost cost c e) low; typed = typed; stopped = λ h. absurd (goes_on h) }
  settled_sound (Some index) after outcome cost s sound low typed goes_on = failed_sound (Aborted (PostCondition index)) cost low (no_value Typed) (λ h. h)

module _ (node : NodeSeen) (N : IsSoundNode node) (Low : Cost5 → Type 0) (Typed : Tree → Type 0) (Reason : Type 0) (common : Common) where
  abbrev CallComes : Option Stepped → Type 0
  CallComes = Comes nothing_told Low Typed Reason

  refusal : (why : EntryRefusal) → CallComes (Some (refused node why))
  refusal why = record { step = refused node why; is = refl; sound = N; tells = refl; low = λ c e. no_cost Low c e; typed = no_value Typed; stopped = λ h. absurd h }

  moved_sound : (outcome : Outcome) (cost : Cost5) (s : State) → Kept node.contracts Whole s → Low cost → HasTyped node N nothing_told Low Typed Reason outcome → (IsStopped outcome → ⊥) → CallComes (Some (settled common node node nothing_told outcome cost s))
  moved_sound outcome cost s kept low typed goes_on =
      settled_sound node N nothing_told Low Typed Reason (holds s.moves common.mode common.conditions) node outcome cost s
      (record { contracts = N.contracts; kept = kept_moved node.contracts node.contracts (itself node.contracts) Whole s kept; height = N.height; no_events = refl; no_moves = refl })
      low typed goes_on

  -- a public function's value is a response
  public_answer : (t : PlainType) (v : Tree) (cost : Cost5) (s : State) → Answers Public t → IsOf v t → Typed v → Kept node.contracts Whole s → Low cost → CallComes (answered common Public v node cost s)
  public_answer t v cost s answers is_of typed kept low =
      response_type (λ t. IsOf v t → CallComes (answered common Public v node cost s)) t answers
      (λ u e i. response_of (λ v. Typed v → CallComes (answered common Public v node cost s)) v u e i
      (λ w j given. moved_sound (Good w) cost s kept low (λ x e. same_value Typed (ResponseV true w) x given e) (λ h. h))
      (λ w j given. failed_sound node N nothing_told Low Typed Reason (Bad w) cost low (λ x e. same_value Typed (ResponseV false w) x given e) (λ h. h)) typed) is_of

  answer : (access : Access) (t : PlainType) (v : Tree) (cost : Cost5) (s : State) → Answers access t → IsOf v t → Typed v → Kept node.contracts Whole s → Low cost → CallComes (answered common access v node cost s)
  answer Public t v cost s answers is_of typed kept low = public_answer t v cost s answers is_of typed kept low
  answer ReadOnly t v cost s answers is_of typed kept low = moved_sound (Plain v) cost s kept low (λ x e. same_value Typed v x typed e) (λ h. h)
  answer Private t v cost s answers is_of typed kept low = moved_sound (Plain v) cost s kept low (λ x e. same_value Typed v x typed e) (λ h. h)

  ended : (access : Access) (t : PlainType) → Answers access t → ((v : Tree) → IsOf v t → Typed v) → (l : Limited Tree) → IsFineUnder (λ v. IsOf v t) (Kept node.contracts Whole) l → Low (charged l) → (IsPassed l → Reason) → CallComes (call_ended common access node l)
  ended access t answers typed (Gave v s purse) fine low reason = answer access t v purse.spent s answers fine.0 (typed v fine.0) fine.1 low
  ended access t answers typed (Threw v s purse) fine low reason = absurd fine
  ended access t answers typed (AbortedBy why purse) fine low reason = aborted_sound node N nothing_told Low Typed Reason why purse.spent low
  ended access t answers typed (Passed over purse) fine low reason = stopped_sound node N nothing_told Low Typed Reason over over.attempted low (reason tt)
  ended access t answers typed (Lost purse) fine low reason = absurd fine

-- arguments that are fitting are of the parameters' types
pub fitting_are : (n : ℕ) (ps : List (List ℕ × PlainType)) (vs : List Tree) → length vs ≡ length ps → All IsVal vs → first_misfit n ps vs ≡ None → AreOf vs (map (λ (p : List ℕ × PlainType). p.1) ps)
fitting_are n [] [] many vals none = tt
fitting_are n [] (v ∷ vs) many vals none = absurd (omega (arith, many))
fitting_are n (p ∷ ps) [] many vals none = absurd (omega (arith, many))
fitting_are n (p ∷ ps) (v ∷ vs) many vals none = by (inhabits v p.1) refl none (λ none. fitting_are (suc n) ps vs (omega (arith, many)) (All-tail IsVal v vs vals) none)
  where
    by : (b : Bool) → inhabits v p.1 ≡ b → (if b then first_misfit (suc n) ps vs else Some n) ≡ None → (first_misfit (suc n) ps vs ≡ None → AreOf vs (map (λ (p : List ℕ × PlainType). p.1) ps)) → IsOf v p.1 × AreOf vs (map (λ (p : List ℕ × PlainType). p.1) ps)
    by true typed none more = (record { valid = All-head IsVal v vs vals; typed = typed }, more none)
    by false typed none more = absurd cc

-- a function that is found by a name has it
function_named : (x : List ℕ) (o : Option FormKind) (f : Function) → option_and_then (as_function x) o ≡ Some f → f.name ≡ x
function_named x None f e = absurd cc
function_named x (Some (FunctionForm access params body)) f e = sym (ap (λ (f : Function). f.name) (one_function _ f e))
  where
    one_function : (f g : Function) → Some f ≡ Some g → f ≡ g
    one_function f g e = cc
function_named x (Some (ConstantForm e)) f is = absurd cc
function_named x (Some (VariableForm t e)) f is = absurd cc
function_named x (Some (MapForm k v)) f is = absurd cc
function_named x (Some (FungibleForm supply)) f is = absurd cc
function_named x (Some (NonFungibleForm t)) f is = absurd cc
function_named x (Some (ExpressionForm e)) f is = absurd cc

-- the function that callers see under this name has a bound that in some dimension is above the limit
pub record IsBoundAbove (costs : Costs) (ks : List Known) (p : Principal) (x : List ℕ) (limit : Cost5) : Type 0 where
  pub known : Known
  pub signature : Signature
  pub there : known_at p ks ≡ Some known
  pub told : signature_in x known.functions ≡ Some signature
  pub above : IsAtMost (cost_under costs signature.bound) limit → ⊥

module _ (costs : Costs) (node : NodeSeen) (N : IsSoundNode node) where
  module _ (common : Common) (sender : IsAddress common.sender) (p : Principal) (valid : IsPrincipal p) (function : List ℕ) (args : List Tree) (vals : All IsVal args) where
    some_function : (f g : Function) → Some f ≡ Some g → f ≡ g
    some_function f g e = cc

    abbrev Low : Cost5 → Type 0
    Low = IsWithinBound costs node.known p function

    abbrev Typed : Tree → Type 0
    Typed = IsTypedAnswer node.known p function

    abbrev Reason : Type 0
    Reason = IsBoundAbove costs node.known p function (limit_of common.limit)

    abbrev HasCome : Option Stepped → Type 0
    HasCome = Comes nothing_told Low Typed Reason

    run : (c : Contract) (f : Function) → contract_at p node.contracts ≡ Some c → function_in function c.forms ≡ Some f → length args ≡ length f.params → first_misfit 0 f.params args ≡ None → first_over costs node.known p f.name ≡ None → HasCome (run_call costs node common p f args)
    unfolding run_call
    run c f at there many none fits =
        let signed = each_signed node.contracts node.known N.contracts p valid c at function f there in
        let g : Signature = signed.signature in
        let s = function_is_sound node.contracts node.known N.contracts costs p signed.known signed.there function g signed.told in
        let same : s.function ≡ f = some_function s.function f (sym s.there ∙ ap (function_of function) at ∙ there) in
        let bounded : first_above most_cost (cost_under costs g.bound) ≡ None =
        sym (ap (λ o. above_by costs (signature_in function (functions_of o))) signed.there ∙ ap (above_by costs) signed.told)
        ∙ ap (λ x. first_over costs node.known p x) (sym (function_named function (form_of function c.forms) f there)) ∙ fits in
        let params : f.params ≡ g.params = ap (λ (f : Function). f.params) (sym same) ∙ s.params in
        let access : g.access ≡ f.access = sym s.access ∙ ap (λ (f : Function). f.access) same in
        let are : AreOf args (types_of_params g) = subst (λ ps. AreOf args (map (λ (p : List ℕ × PlainType). p.1) ps)) params (fitting_are 0 f.params args many vals none) in
        let frame = frame_of node common.sender p in
        let purse = purse_of common in
        let sound = s.sound frame refl (sender, tt) (sender, tt) N.height args are node.state N.kept in
        let under = fine_under (deployed_world costs node.contracts Whole) (λ v. IsOf v g.returns) (cost_under costs g.bound) (call_from node.contracts frame s.function args node.state) sound costs purse in
        let low : Low (charged (limited costs purse (call_from node.contracts frame s.function args node.state))) = record { known = signed.known; signature = g; there = signed.there; told = signed.told; bounded = bounded; low = at_most _ (cost costs (call_from node.contracts frame s.function args node.state)) (cost_under costs g.bound) (charged_low costs purse.limit (call_from node.contracts frame s.function args node.state)) sound.within } in
        let reason : IsPassed (limited costs purse (call_from node.contracts frame s.function args node.state)) → Reason = λ passed. record { known = signed.known; signature = g; there = signed.there; told = signed.told; above = λ enough. passes_not costs (cost_under costs g.bound) purse.limit (call_from node.contracts frame s.function args node.state) sound.within enough passed } in
        ended node N Low Typed Reason common f.access g.returns (subst (λ a. Answers a g.returns) access s.answers)
        (λ v is_of. record { known = signed.known; signature = g; there = signed.there; told = signed.told; typed = is_of }) (limited costs purse (call_from node.contracts frame f args node.state))
        (subst (λ f. IsFineUnder (λ v. IsOf v g.returns) (Kept node.contracts Whole) (limited costs purse (call_from node.contracts frame f args node.state))) same under)
        (subst (λ f. Low (charged (limited costs purse (call_from node.contracts frame f args node.state)))) same low)
        (subst (λ f. IsPassed (limited costs purse (call_from node.contracts frame f args node.state)) → Reason) same reason)

    refused_here : (why : EntryRefusal) → HasCome (Some (refused node why))
    refused_here = refusal node N Low Typed Reason common

    bounded : (c : Contract) (f : Function) → contract_at p node.contracts ≡ Some c → function_in function c.forms ≡ Some f → length args ≡ length f.params → first_misfit 0 f.params args ≡ None → (over : Option Dimension) → first_over costs node.known p f.name ≡ over → HasCome (if_bounded costs node common p f args over)
    bounded c f at there many none (Some dimension) e = refused_here _
    bounded c f at there many none None e = run c f at there many none e

    fitting : (c : Contract) (f : Function) → contract_at p node.contracts ≡ Some c → function_in function c.forms ≡ Some f → length args ≡ length f.params → (misfit : Option ℕ) → first_misfit 0 f.params args ≡ misfit → HasCome (if_fitting costs node common p f args misfit)
    fitting c f at there many (Some index) e = refused_here _
    fitting c f at there many None e = bounded c f at there many e (first_over costs node.known p f.name) refl

    as_many : (c : Contract) (f : Function) → contract_at p node.contracts ≡ Some c → function_in function c.forms ≡ Some f → (b : Bool) → nat_eq (length args) (length f.params) ≡ b → HasCome (if_as_many costs node common p f args b)
    as_many c f at there false e = refused_here _
    as_many c f at there true e = fitting c f at there (eqb-true (length args) (length f.params) e) (first_misfit 0 f.params args) refl

    opened : (c : Contract) (f : Function) → contract_at p node.contracts ≡ Some c → function_in function c.forms ≡ Some f → (access : Access) → HasCome (if_open costs node common p f args access)
    opened c f at there Private = refused_here _
    opened c f at there Public = as_many c f at there (nat_eq (length args) (length f.params)) refl
    opened c f at there ReadOnly = as_many c f at there (nat_eq (length args) (length f.params)) refl

    found : (c : Contract) → contract_at p node.contracts ≡ Some c → (o : Option Function) → function_in function c.forms ≡ o → HasCome (if_function costs node common p args o)
    found c at None e = refused_here _
    found c at (Some f) e = opened c f at e f.access

    deployed : (o : Option Contract) → contract_at p node.contracts ≡ o → HasCome (if_deployed costs node common p function args o)
    deployed None e = refused_here _
    deployed (Some c) e = found c e (function_in function c.forms) refl

    pub call_comes : HasCome (call_step costs node common p function args)
    unfolding call_step
    call_comes = deployed (contract_at p node.contracts) refl

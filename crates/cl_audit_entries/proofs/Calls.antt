-- What comes of a call: refused, or evaluated on a layer.
use Rattle.std.specs.Prelude.{IfOk, option_and_then}
use Rattle.std.proofs.Common.{◌≡◌, ℕ, Bool, true, false, List, [], Option, Some, None, Result, Ok, Err, refl, sym, ap, subst, ◌∙◌}
use Rattle.cl_shapes.specs.declared.function.CostFn.{CostFn}
use Rattle.cl_costs.specs.Schedules.{always}
use Rattle.cl_costs.specs.Tables.{function_of}
use Rattle.cl_values.specs.Tree.{Tree}
use Rattle.cl_events.specs.State.{State}
use Rattle.cl_forms.specs.Forms.{Form, FormKind, ConstantForm, VariableForm, MapForm, FungibleForm, NonFungibleForm, FunctionForm, ExpressionForm}
use Rattle.cl_meaning.specs.Deployed.{Contract, Deployed, Function, as_function, contract_at, form_of, function_in, function_of as function_under}
use Rattle.cl_meaning.specs.Limits.{Costs, Limited, limited}
use Rattle.cl_meaning.specs.Scope.{Frame, home}
use Rattle.cl_meaning.specs.Top.{call_from}
use Rattle.cl_meaning.specs.Trace.{Claim as Told, trace_of}
use Rattle.cl_rules.specs.Context.{Known}
use Rattle.cl_shapes.specs.declared.cost.Dimension.{Dimension}
use Rattle.cl_node_sound.specs.Laws.{CallsStep}
use Rattle.cl_node_sound.specs.Sound.{HasParts}
use Rattle.cl_tx.specs.declared.outcome.EntryRefusal.{EntryRefusal}
use Rattle.cl_tx.specs.declared.outcome.EntryRefusal.TheVariants.{NoBound}
use Rattle.cl_tx.specs.declared.outcome.Outcome.TheVariants.{Refused}
use Rattle.cl_tx.specs.declared.outcome.TxResult.{TxResult}
use Rattle.cl_tx.specs.Nodes.{NodeSeen, Stepped, call_ended, frame_of, purse_of, refused}
use Rattle.cl_tx.specs.Rebounds.{first_over}
use Rattle.cl_tx.specs.Step.{call_step}
use Rattle.cl_nodes.specs.declared.asked.Invocation.{Invocation}
use Rattle.cl_nodes.specs.declared.contracts.BoundedContracts.{BoundedContracts}
use Rattle.cl_nodes.specs.declared.ending.Ended.{Ended}
use Rattle.cl_nodes.specs.Asked.{call_entry}
use Rattle.cl_nodes.specs.Calling.{Comes, MayBeCalled, ended_by, ended_so}
use Rattle.cl_nodes.specs.Seen.{Seen, node_with}
use Rattle.cl_nodes.specs.Sound.{Contracts, IsSoundWith}
use Rattle.cl_nodes.specs.Steps.{MakesWith}
use Rattle.cl_nodes.specs.Traces.{IsTrace, application_trace, call_trace, claims}
use Rattle.cl_nodes.proofs.CallSteps.{comes_so, ended_so as steps_so, no_bound}
use Rattle.cl_nodes.proofs.Deployments.{under_table}
use Rattle.cl_nodes.proofs.Tracing.{IsRun, as_run, call_runs}
use Rattle.cl_audit_steps.specs.declared.scope.Contract.{Contract as ContractOfCode}
use Rattle.cl_audit_steps.specs.declared.scope.Function.{Function as FunctionOfCode}
use Rattle.cl_audit_steps.specs.declared.scope.Scope.{Scope}
use Rattle.cl_audit_steps.specs.Seen.{contracts_seen, frame_seen, function_seen, seen, with_opening}
use Rattle.cl_audit_walk.specs.declared.run.Run.{Run}
use Rattle.cl_audit.specs.Agrees.{IsAgreement}
use Rattle.cl_audit.specs.Calls.{call_of}
use Rattle.cl_audit_entries.specs.declared.call.Called.{Called}
use Rattle.cl_audit_entries.specs.Agreeing.{AgreesUnder}
use Rattle.cl_audit_entries.specs.Calling.{EndsCall, IsAround, StepsTo, call_limited, call_told}
use Rattle.cl_audit_entries.specs.Seen.{seen_of}

kept_outcome : (kept : Bool) (e : Ended) (node : NodeSeen) (s : State) → (ended_by kept e node s).result.outcome ≡ e.outcome
kept_outcome true e node s = refl
kept_outcome false e node s = refl

pub ended_outcome : (e : Ended) (node : NodeSeen) (s : State) → (ended_so e node s).result.outcome ≡ e.outcome
ended_outcome e node s = kept_outcome e.kept e node s

-- what both facts of an Ok give
pub ok_both : {A E : Type 0} (result : Result A E) (P Q R : A → Type 0) → ((a : A) → P a → Q a → R a) → IfOk result P → IfOk result Q → IfOk result R
ok_both (Ok a) P Q R both p q = both a p q
ok_both (Err e) P Q R both p q = tt

-- what would have to have a name isn't there
pub unnamed : {A P : Type 0} (o : Option A) → ((a : A) → o ≡ Some a → P) → (P → ⊥) → o ≡ None
unnamed None named none = refl
unnamed (Some a) named none = absurd (none (named a refl))

-- a function goes by the name under which it is found
named_so : (x : List ℕ) (o : Option FormKind) (f : Function) → option_and_then (as_function x) o ≡ Some f → f.name ≡ x
named_so x None f h = absurd cc
named_so x (Some (FunctionForm access params body)) f h = let same : record { name = x; access = access; params = params; body = body } ≡ f = cc in ap (λ (g : Function). g.name) (sym same)
named_so x (Some (ConstantForm e)) f h = absurd cc
named_so x (Some (VariableForm type e)) f h = absurd cc
named_so x (Some (MapForm key value)) f h = absurd cc
named_so x (Some (FungibleForm supply)) f h = absurd cc
named_so x (Some (NonFungibleForm id)) f h = absurd cc
named_so x (Some (ExpressionForm e)) f h = absurd cc

pub goes_by : (x : List ℕ) (forms : List Form) (f : Function) → function_in x forms ≡ Some f → f.name ≡ x
goes_by x forms f h = named_so x (form_of x forms) f h

-- ---- the surroundings of a call

module _ (S : Scope) (i : Invocation) (around : IsAround S i) where
  pub home_is : home (seen S []) ≡ contract_at i.contract.now (contracts_seen S.contracts.now.contracts)
  home_is = λ j. contract_at (around.framed j).contract (with_opening (around.opening j) (contracts_seen S.contracts.now.contracts))

  means_so : (f : FunctionOfCode) (vs : List Tree) (s : State) → call_of S f vs s ≡ call_from (contracts_seen S.contracts.now.contracts) (frame_seen S.frame.now) (function_seen f) vs s
  means_so f vs s = λ j. call_from (with_opening (around.opening j) (contracts_seen S.contracts.now.contracts)) (frame_seen S.frame.now) (function_seen f) vs s

  pub limited_is : (f : FunctionOfCode) (run : Run) → call_limited S f i run ≡ limited (function_of S.costs.now) (purse_of i.common.now) (call_from (contracts_seen S.contracts.now.contracts) (frame_seen S.frame.now) (function_seen f) i.args.now run.world.stack.top)
  limited_is f run = ap (limited (function_of S.costs.now) (purse_of i.common.now)) (means_so f i.args.now run.world.stack.top)

  pub told_is : (f : FunctionOfCode) (run : Run) → call_told S f i run ≡ trace_of (function_of S.costs.now) (purse_of i.common.now) (call_from (contracts_seen S.contracts.now.contracts) (frame_seen S.frame.now) (function_seen f) i.args.now run.world.stack.top)
  told_is f run = ap (trace_of (function_of S.costs.now) (purse_of i.common.now)) (means_so f i.args.now run.world.stack.top)

-- ---- a call at a sound node

module _ (i : Invocation) (table : List CostFn) (height : ℕ) (texts : List ContractOfCode) (cs : BoundedContracts) (run : Run) where
  abbrev es : Contracts
  es = cs.deployed.now.contracts

  abbrev before : Seen
  before = seen_of run texts height

  abbrev costs : Costs
  costs = function_of table

  abbrev W : Deployed
  W = contracts_seen texts

  -- it is refused
  pub refused_ends : (refusal : EntryRefusal) (called : Called) → called.ended ≡ record { outcome = Refused refusal; cost = None; kept = false } → IsAgreement [] run.cursor.claims.now called.agreement →
      ((known : List Known) → IsSoundWith es before known → StepsTo costs (node_with known before) i (refused (node_with known before) refusal)) → (after : Run) → EndsCall i table height texts cs run called after
  refused_ends refusal called at agrees is after = record {
    steps = λ known sound. subst (λ (x : Ended). StepsTo costs (node_with known before) i (ended_so x (node_with known before) after.world.stack.top)) (sym at) (is known sound);
    agrees = λ known sound. ([], subst (λ (x : Ended). IsTrace costs (node_with known before) (call_entry i) x.outcome []) (sym at) refl, agrees);
  }

  module _ (K : Contract) (f : Function) (there : contract_at i.contract.now W ≡ Some K) (defined : function_in i.function.now K.forms ≡ Some f) (may : MayBeCalled f i.args.now) where
    -- its bound is above the limit
    pub bound_refused : (dimension : Dimension) → ((known : List Known) → IsSoundWith es before known → first_over costs known i.contract.now f.name ≡ Some dimension) →
        (known : List Known) → IsSoundWith es before known → StepsTo costs (node_with known before) i (refused (node_with known before) (NoBound dimension))
    bound_refused dimension over known sound = no_bound costs (node_with known before) i.common.now i.contract.now i.function.now i.args.now K f dimension there defined may (over known sound)

    -- it is evaluated in this frame
    module _ (within : (known : List Known) → IsSoundWith es before known → first_over costs known i.contract.now f.name ≡ None) (F : Frame)
        (framed : (known : List Known) → F ≡ frame_of (node_with known before) i.common.now.sender i.contract.now) where
      abbrev left : Limited Tree
      left = limited costs (purse_of i.common.now) (call_from W F f i.args.now run.world.stack.top)

      abbrev all : List Told
      all = trace_of costs (purse_of i.common.now) (call_from W F f i.args.now run.world.stack.top)

      steps_are : (known : List Known) → IsSoundWith es before known → call_step costs (node_with known before) i.common.now i.contract.now i.function.now i.args.now ≡ call_ended i.common.now f.access (node_with known before) left
      steps_are known sound = steps_so costs (node_with known before) i.common.now i.contract.now i.function.now i.args.now K f F there defined may (within known sound) (framed known)

      pub comes : CallsStep → HasParts (call_entry i) → (known : List Known) → IsSoundWith es before known → Comes i.common.now f.access left
      comes law parts known sound =
          comes_so costs (node_with known before) i.common.now i.contract.now i.function.now i.args.now K f F there defined may (within known sound) (framed known)
          (under_table (λ (c : Costs). (s : Stepped) × (call_step c (node_with known before) i.common.now i.contract.now i.function.now i.args.now ≡ Some s)) table height
          (law (always table) (node_with known before) i.common.now i.contract.now i.function.now i.args.now parts sound.sound))

      trace_is : (known : List Known) → all ≡ call_trace costs (node_with known before) i.common.now i.contract.now i.function.now i.args.now
      trace_is known =
          let found : function_under i.function.now (contract_at i.contract.now W) ≡ Some f = ap (function_under i.function.now) there ∙ defined in
          ap (λ (G : Frame). trace_of costs (purse_of i.common.now) (call_from W G f i.args.now run.world.stack.top)) (framed known)
          ∙ sym (ap (application_trace costs (node_with known before) i.common.now i.contract.now i.args.now) found)

      pub ends : (called : Called) (after : Run) → ((node : NodeSeen) → call_ended i.common.now f.access node left ≡ Some (ended_so called.ended node after.world.stack.top)) → IsAgreement all run.cursor.claims.now called.agreement → EndsCall i table height texts cs run called after
      ends called after ended agrees = record {
        steps = λ known sound. steps_are known sound ∙ ended (node_with known before);
        agrees = λ known sound.
            let node : NodeSeen = node_with known before in
            let ran : IsRun called.ended.outcome = subst IsRun (ended_outcome called.ended node after.world.stack.top) (call_runs i.common.now f.access node left (ended_so called.ended node after.world.stack.top) (ended node)) in
            (all, as_run claims costs node (call_entry i) all called.ended.outcome ran (trace_is known), agrees);
      }

  -- ---- the layer is closed

  module _ (called : Called) (top : Run) (ended : EndsCall i table height texts cs run called top) where
    pub closed_makes : (r : TxResult) (after : Run) → ((node : NodeSeen) → node.state ≡ run.world.stack.top → ended_so called.ended node top.world.stack.top ≡ record { node = record node { state = after.world.stack.top }; result = r }) →
        (known : List Known) → IsSoundWith es before known → MakesWith costs known before (call_entry i) r es (seen_of after texts height)
    closed_makes r after closed known sound = record {
      now = known;
      trees = sound.trees;
      forms = sound.forms;
      steps = ended.steps known sound ∙ ap Some (closed (node_with known before) refl);
    }

    pub closed_agrees : (r : TxResult) (after : Run) → ((node : NodeSeen) → node.state ≡ run.world.stack.top → ended_so called.ended node top.world.stack.top ≡ record { node = record node { state = after.world.stack.top }; result = r }) →
        AgreesUnder costs es before (call_entry i) r.outcome run.cursor.claims.now called.agreement
    closed_agrees r after closed known sound =
        let node : NodeSeen = node_with known before in
        let same : called.ended.outcome ≡ r.outcome = sym (ended_outcome called.ended node top.world.stack.top) ∙ ap (λ (z : Stepped). z.result.outcome) (closed node refl) in
        let t = ended.agrees known sound in
        (t.0, subst (λ o. IsTrace costs node (call_entry i) o t.0) same t.1, t.2)

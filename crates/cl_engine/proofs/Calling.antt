-- What comes of a call: refused, or evaluated on a layer.
use Rattle.std.specs.Prelude.{IfOk, OnErr}
use Rattle.std.proofs.Common.{◌≡◌, true, false, Bool, List, [], Option, Some, None, Result, Ok, Err, refl, sym, ap, subst, ◌∙◌}
use Rattle.cl_types.specs.declared.fault.Fault.{Fault}
use Rattle.cl_types.specs.declared.fault.Fault.TheVariants.{Refused as RefusedFor, NoMemory as OutOfMemory}
use Rattle.cl_types.specs.declared.fault.NoMemory.{NoMemory}
use Rattle.cl_shapes.specs.declared.cost.Dimension.{Dimension}
use Rattle.cl_costs.specs.Schedules.{always}
use Rattle.cl_values.specs.Tree.{Tree}
use Rattle.cl_events.specs.State.{State, at_rest}
use Rattle.cl_state.specs.Stack.{Seen as World}
use Rattle.cl_code.specs.Watched.{GrewBy}
use Rattle.cl_meaning.specs.Deployed.{Contract, Function, contract_at, function_of as function_under}
use Rattle.cl_meaning.specs.Limits.{Costs, Limited, limited}
use Rattle.cl_meaning.specs.Scope.{Frame}
use Rattle.cl_meaning.specs.Top.{call_from}
use Rattle.cl_rules.specs.Context.{Known}
use Rattle.cl_contracts.specs.declared.deployed.Deployed.{Deployed}
use Rattle.cl_contracts.specs.Seen.{contract_seen, deployed_seen, function_seen}
use Rattle.cl_frames.specs.declared.abort.Abort.{Abort}
use Rattle.cl_frames.specs.Watching.{GrewByStart, Tells, trace}
use Rattle.cl_frames.specs.Watching as watching
use Rattle.cl_node_sound.specs.Laws.{CallsStep}
use Rattle.cl_node_sound.specs.Sound.{HasParts}
use Rattle.cl_tx.specs.declared.outcome.EntryRefusal.{EntryRefusal}
use Rattle.cl_tx.specs.declared.outcome.EntryRefusal.TheVariants.{NoBound}
use Rattle.cl_tx.specs.declared.outcome.Outcome.{Outcome}
use Rattle.cl_tx.specs.declared.outcome.Outcome.TheVariants.{Moved, Done, Good, Bad, Plain, Aborted, Refused}
use Rattle.cl_tx.specs.declared.outcome.TxResult.{TxResult}
use Rattle.cl_tx.specs.Nodes.{NodeSeen, Stepped, call_ended, frame_of, purse_of, refused}
use Rattle.cl_tx.specs.Rebounds.{first_over}
use Rattle.cl_tx.specs.Step.{call_step}
use Rattle.cl_nodes.specs.declared.ending.Ended.{Ended}
use Rattle.cl_nodes.specs.Calling.{Comes, ended_by, ended_so}
use Rattle.cl_nodes.specs.declared.asked.Invocation.{Invocation}
use Rattle.cl_nodes.specs.declared.asked.Moment.{Moment}
use Rattle.cl_engine.specs.declared.call.Found.{Found}
use Rattle.cl_nodes.specs.declared.contracts.BoundedContracts.{BoundedContracts}
use Rattle.cl_nodes.specs.Seen.{Seen, node_with}
use Rattle.cl_nodes.specs.Sound.{Contracts, IsSoundWith}
use Rattle.cl_nodes.specs.Traces.{application_trace, call_trace}
use Rattle.cl_engine.specs.Traces.{SeesAll, Trace, IsTrace, shown}
use Rattle.cl_nodes.specs.Steps.{MakesWith}
use Rattle.cl_nodes.specs.Asked.{call_entry, costs_at, seen_at}
use Rattle.cl_engine.specs.Asked.{SeesPartUnder, SeesTraceUnder, SeesUnder}
use Rattle.cl_engine.specs.Calling.{EndsCall, GivesCall, IsFound, SeesEnded, steps_of}
use Rattle.cl_nodes.proofs.CallSteps.{comes_so, ended_so as steps_so, no_bound}
use Rattle.cl_nodes.proofs.Deployments.{under_table}
use Rattle.cl_nodes.proofs.Tracing.{HasRun, IsRun, as_run, call_runs, of_run}
use Rattle.cl_engine.proofs.Tracing.{grew_none, start_all}

-- what a watch has seen of an answer, by what is judged of it
pub tells_all : (answer : Result Tree (Fault Abort)) (result : Result Ended NoMemory) (seen now : watching.Seen) (all : Trace) →
    Tells seen now all answer → OnErr result (answer ≡ Err OutOfMemory) → IfOk result (λ e. answer ≡ Err OutOfMemory → ⊥) → SeesAll seen now all result
tells_all (Ok v) (Ok e) seen now all tells none given = tells
tells_all (Err (RefusedFor why)) (Ok e) seen now all tells none given = tells
tells_all (Err OutOfMemory) (Ok e) seen now all tells none given = absurd (given refl)
tells_all answer (Err e) seen now all tells none given = subst (Tells seen now all) none tells

-- ---- how a call ended

kept_outcome : (kept : Bool) (e : Ended) (node : NodeSeen) (s : State) → (ended_by kept e node s).result.outcome ≡ e.outcome
kept_outcome true e node s = refl
kept_outcome false e node s = refl

-- it leaves everything of a node but the state
state_after : (kept : Bool) (e : Ended) (node : NodeSeen) (s : State) → (after : State) × (ended_by kept e node s ≡ record { node = record node { state = after }; result = (ended_by kept e node s).result })
state_after true e node s = (at_rest s, refl)
state_after false e node s = (node.state, refl)

pub ended_outcome : (e : Ended) (node : NodeSeen) (s : State) → (ended_so e node s).result.outcome ≡ e.outcome
ended_outcome e node s = kept_outcome e.kept e node s

-- ---- the trace of a call is one

module _ (costs : Costs) (node : NodeSeen) (i : Invocation) where
  pub one_call_trace : (o : Outcome) (a b : Trace) → IsTrace costs node (call_entry i) o a → IsTrace costs node (call_entry i) o b → a ≡ b
  one_call_trace Moved a b x y = x ∙ sym y
  one_call_trace Done a b x y = x ∙ sym y
  one_call_trace (Good v) a b x y = x ∙ sym y
  one_call_trace (Bad v) a b x y = x ∙ sym y
  one_call_trace (Plain v) a b x y = x ∙ sym y
  one_call_trace (Aborted why) a b x y = x ∙ sym y
  one_call_trace (Refused why) a b x y = x ∙ sym y

-- ---- a call at a sound node

module _ (i : Invocation) (m : Moment) (cs : BoundedContracts) (world : World) where
  abbrev deployed : Deployed
  deployed = cs.deployed.now

  abbrev es : Contracts
  es = deployed.contracts

  abbrev before : Seen
  before = seen_at world deployed m

  abbrev costs : Costs
  costs = costs_at m

  -- it is refused
  pub refused_ends : (refusal : EntryRefusal) (e : Ended) → e ≡ record { outcome = Refused refusal; cost = None; kept = false } → ((known : List Known) → IsSoundWith es before known → steps_of costs (node_with known before) i (refused (node_with known before) refusal)) →
      (after : World) → EndsCall i m cs world e after
  refused_ends refusal e at is after known sound = subst (λ x. steps_of costs (node_with known before) i (ended_so x (node_with known before) after.stack.top)) (sym at) (is known sound)

  pub refused_sees : (refusal : EntryRefusal) (e : Ended) → e ≡ record { outcome = Refused refusal; cost = None; kept = false } → (seen : watching.Seen) → SeesTraceUnder costs es before (call_entry i) e.outcome seen seen
  refused_sees refusal e at seen known sound = ([], subst (λ (x : Ended). IsTrace costs (node_with known before) (call_entry i) x.outcome []) (sym at) refl, grew_none seen)

  module _ (f : Found) (is : IsFound i deployed f) where
    abbrev contract : Contract
    contract = contract_seen (i.contract.now, f.contract.now)

    abbrev function : Function
    function = function_seen f.function.now

    -- its bound is above the limit
    pub bound_refused : (dimension : Dimension) → ((known : List Known) → IsSoundWith es before known → first_over costs known i.contract.now f.function.now.name ≡ Some dimension) →
        (known : List Known) → IsSoundWith es before known → steps_of costs (node_with known before) i (refused (node_with known before) (NoBound dimension))
    bound_refused dimension over known sound = no_bound costs (node_with known before) i.common.now i.contract.now i.function.now i.args.now contract function dimension is.there is.function is.may (over known sound)

    -- it is evaluated in this frame
    module _ (within : (known : List Known) → IsSoundWith es before known → first_over costs known i.contract.now f.function.now.name ≡ None) (F : Frame)
        (framed : (known : List Known) → F ≡ frame_of (node_with known before) i.common.now.sender i.contract.now) where
      -- what it means under the limit
      abbrev left : Limited Tree
      left = limited costs (purse_of i.common.now) (call_from (deployed_seen deployed) F function i.args.now world.stack.top)

      abbrev all : Trace
      all = trace costs (purse_of i.common.now) (call_from (deployed_seen deployed) F function i.args.now world.stack.top)

      steps_are : (known : List Known) → IsSoundWith es before known → call_step costs (node_with known before) i.common.now i.contract.now i.function.now i.args.now ≡ call_ended i.common.now function.access (node_with known before) left
      steps_are known sound = steps_so costs (node_with known before) i.common.now i.contract.now i.function.now i.args.now contract function F is.there is.function is.may (within known sound) (framed known)

      pub comes : CallsStep → HasParts (call_entry i) → (known : List Known) → IsSoundWith es before known → Comes i.common.now function.access left
      comes law parts known sound =
          comes_so costs (node_with known before) i.common.now i.contract.now i.function.now i.args.now contract function F is.there is.function is.may (within known sound) (framed known)
          (under_table (λ (c : Costs). (s : Stepped) × (call_step c (node_with known before) i.common.now i.contract.now i.function.now i.args.now ≡ Some s)) m.costs.now m.height
          (law (always m.costs.now) (node_with known before) i.common.now i.contract.now i.function.now i.args.now parts sound.sound))

      pub ends : (e : Ended) (after : World) → ((node : NodeSeen) → call_ended i.common.now function.access node left ≡ Some (ended_so e node after.stack.top)) → EndsCall i m cs world e after
      ends e after ended known sound = steps_are known sound ∙ ended (node_with known before)

      trace_is : (known : List Known) → all ≡ shown (call_trace costs (node_with known before) i.common.now i.contract.now i.function.now i.args.now)
      trace_is known =
          let found : function_under i.function.now (contract_at i.contract.now (deployed_seen deployed)) ≡ Some function = ap (function_under i.function.now) is.there ∙ is.function in
          ap (λ (G : Frame). trace costs (purse_of i.common.now) (call_from (deployed_seen deployed) G function i.args.now world.stack.top)) (framed known)
          ∙ sym (ap (λ (g : Option Function). shown (application_trace costs (node_with known before) i.common.now i.contract.now i.args.now g)) found)

      sees_trace : (e : Ended) (after : World) (seen now : watching.Seen) → ((node : NodeSeen) → call_ended i.common.now function.access node left ≡ Some (ended_so e node after.stack.top)) → GrewBy seen now all → SeesTraceUnder costs es before (call_entry i) e.outcome seen now
      sees_trace e after seen now ended grew known sound =
          let node : NodeSeen = node_with known before in
          let run : IsRun e.outcome = subst IsRun (ended_outcome e node after.stack.top) (call_runs i.common.now function.access node left (ended_so e node after.stack.top) (ended node)) in
          (all, as_run shown costs node (call_entry i) all e.outcome run (trace_is known), grew)

      sees_part : (seen now : watching.Seen) → GrewByStart seen now all → SeesPartUnder costs es before (call_entry i) seen now
      sees_part seen now grew known sound s steps found is_trace =
          let node : NodeSeen = node_with known before in
          let run : HasRun s = call_runs i.common.now function.access node left s (sym (steps_are known sound) ∙ steps) in
          let same : found ≡ shown (call_trace costs node i.common.now i.contract.now i.function.now i.args.now) = of_run shown costs node (call_entry i) found s.result.outcome run is_trace in
          subst (GrewByStart seen now) (trace_is known ∙ sym same) grew

      pub sees_ended : (after : World) (seen now : watching.Seen) (result : Result Ended NoMemory) →
          IfOk result (λ e. (node : NodeSeen) → call_ended i.common.now function.access node left ≡ Some (ended_so e node after.stack.top)) → SeesAll seen now all result → SeesEnded i m cs world result seen now
      sees_ended after seen now (Ok e) ended grew = sees_trace e after seen now ended grew
      sees_ended after seen now (Err e) ended grew = sees_part seen now grew

  -- ---- the layer is closed

  module _ (e : Ended) (top : World) (ended : EndsCall i m cs world e top) where
    pub closed_makes : (r : TxResult) (after : World) → ((node : NodeSeen) → node.state ≡ world.stack.top → ended_so e node top.stack.top ≡ record { node = record node { state = after.stack.top }; result = r }) →
        (known : List Known) → IsSoundWith es before known → MakesWith costs known before (call_entry i) r es (seen_at after deployed m)
    closed_makes r after closed known sound = record {
      now = known;
      trees = sound.trees;
      forms = sound.forms;
      steps = ended known sound ∙ ap Some (closed (node_with known before) refl);
    }

    pub closed_sees : (r : TxResult) (after : World) (seen now : watching.Seen) → ((node : NodeSeen) → node.state ≡ world.stack.top → ended_so e node top.stack.top ≡ record { node = record node { state = after.stack.top }; result = r }) →
        SeesTraceUnder costs es before (call_entry i) e.outcome seen now → SeesTraceUnder costs es before (call_entry i) r.outcome seen now
    closed_sees r after seen now closed sees known sound =
        let node : NodeSeen = node_with known before in
        let same : e.outcome ≡ r.outcome = sym (ended_outcome e node top.stack.top) ∙ ap (λ (z : Stepped). z.result.outcome) (closed node refl) in
        let t = sees known sound in
        (t.0, subst (λ o. IsTrace costs node (call_entry i) o t.0) same t.1, t.2)

    -- there is no memory for the events
    pub unclosed_sees : (seen now : watching.Seen) → SeesTraceUnder costs es before (call_entry i) e.outcome seen now → SeesPartUnder costs es before (call_entry i) seen now
    unclosed_sees seen now sees known sound s steps found is_trace =
        let node : NodeSeen = node_with known before in
        let t = sees known sound in
        let same : ended_so e node top.stack.top ≡ s = one (ended_so e node top.stack.top) s (sym (ended known sound) ∙ steps) in
        let outcome : e.outcome ≡ s.result.outcome = sym (ended_outcome e node top.stack.top) ∙ ap (λ (z : Stepped). z.result.outcome) same in
        let one_trace = one_call_trace costs node i s.result.outcome t.0 found (subst (λ o. IsTrace costs node (call_entry i) o t.0) outcome t.1) is_trace in
        start_all seen now found (subst (GrewBy seen now) one_trace t.2)
      where
        one : (a b : Stepped) → Some a ≡ Some b → a ≡ b
        one a b k = cc

    pub peeked_gives : (r : TxResult) → ((node : NodeSeen) → (ended_so e node top.stack.top).result ≡ r) → GivesCall i m cs world r
    peeked_gives r result known sound =
        let node : NodeSeen = node_with known before in
        let after = state_after e.kept e node top.stack.top in
        (after.0, ended known sound ∙ ap Some (after.1 ∙ ap (λ (z : TxResult). record { node = record node { state = after.0 }; result = z }) (result node)))

    pub close_sees : (after : World) (seen now : watching.Seen) (result : Result TxResult NoMemory) →
        IfOk result (λ r. (node : NodeSeen) → node.state ≡ world.stack.top → ended_so e node top.stack.top ≡ record { node = record node { state = after.stack.top }; result = r }) →
        SeesTraceUnder costs es before (call_entry i) e.outcome seen now → SeesUnder costs es before (call_entry i) result seen now
    close_sees after seen now (Ok r) closed sees = closed_sees r after seen now closed sees
    close_sees after seen now (Err error) closed sees = unclosed_sees seen now sees

-- What an entry makes of a sound node, and what is promised of it.
use Rattle.std.specs.Prelude.{IfOk, OnErr}
use Rattle.std.proofs.Common.{◌≡◌, ℕ, List, Result, Ok, Err, refl, ap}
use Rattle.cl_types.specs.declared.fault.NoMemory.{NoMemory}
use Rattle.cl_costs.specs.Schedules.{ScheduleSeen, costs_at}
use Rattle.cl_meaning.specs.Limits.{Costs}
use Rattle.cl_rules.specs.Context.{Known}
use Rattle.cl_node_sound.specs.Sound.{HasParts}
use Rattle.cl_node_sound.specs.Laws.{CallsStayWithin, DeploymentsStayWithin, CallsAreTyped}
use Rattle.cl_file.specs.Entries.{height_after}
use Rattle.cl_file.specs.declared.entry.Entry.{Entry}
use Rattle.cl_tx.specs.declared.outcome.TxResult.{TxResult}
use Rattle.cl_tx.specs.Laws.{FailedChangeNothing, IsKept}
use Rattle.cl_events.specs.State.{State}
use Rattle.cl_state.specs.Stack.{Seen as World}
use Rattle.cl_contracts.specs.declared.deployed.Deployed.{Deployed}
use Rattle.cl_contracts.specs.Seen.{deployed_seen}
use Rattle.cl_nodes.specs.declared.contracts.Contracts.{Contracts as ContractsOfCode}
use Rattle.cl_nodes.specs.Bounded.{entries_of}
use Rattle.cl_nodes.specs.Seen.{Seen, node_with, seen}
use Rattle.cl_nodes.specs.Sound.{Contracts, IsSound, IsSoundWith, contracts_seen}
use Rattle.cl_nodes.specs.declared.asked.Invocation.{Invocation}
use Rattle.cl_nodes.specs.Steps.{MakesSound}
use Rattle.cl_nodes.specs.Asked.{call_entry}
use Rattle.cl_engine.specs.Asked.{IsUnchanged}
use Rattle.cl_engine.specs.Calling.{steps_of}
use Rattle.cl_engine.specs.Steps.{Gives, MakesSafely}
use Rattle.cl_nodes.proofs.Nodes.{MadeAt, made_at, makes, steps_up}
use Rattle.cl_engine.proofs.Within.{charged_by, typed_by}

-- ---- one step

module _ (schedule : ScheduleSeen) (es fs : Contracts) (before after : Seen) (entry : Entry) where
  module _ (r : TxResult) (sound : IsSound es before) (made : MadeAt schedule sound.known before entry r fs after) where
    undone : FailedChangeNothing → (IsKept r.outcome → ⊥) → after ≡ before
    undone failed lost =
        let same = (failed schedule (node_with sound.known before) entry (record { node = node_with made.now after; result = r }) made.steps lost).0 in
        λ i. record { state = (same i).state; contracts = (same i).contracts; height = (same i).height }

    pub safely : FailedChangeNothing → CallsStayWithin → DeploymentsStayWithin → CallsAreTyped → HasParts entry → after.height ≡ height_after before.height entry → MakesSafely schedule before entry r after
    safely failed calls deployments typed parts height = record {
      makes = makes schedule es fs before after entry r sound made;
      undone = undone failed;
      height = height;
      charged = charged_by schedule before sound.known sound.is_sound.forms sound.is_sound.sound (record { node = node_with made.now after; result = r }) calls deployments entry parts made.steps;
      typed = typed_by schedule before sound.known sound.is_sound.forms sound.is_sound.sound (record { node = node_with made.now after; result = r }) typed entry parts made.steps;
    }

  -- after an entry that may want memory
  module _ (costs : Costs) (is : costs ≡ costs_at schedule before.height) (sound : IsSound es before) (parts : HasParts entry) where
    pub all_safely : FailedChangeNothing → CallsStayWithin → DeploymentsStayWithin → CallsAreTyped → after.height ≡ height_after before.height entry → (result : Result TxResult NoMemory) →
        IfOk result (λ r. MakesSound costs es before entry r fs after) → IfOk result (λ r. MakesSafely schedule before entry r after)
    all_safely failed calls deployments typed height (Ok r) steps = safely r sound (made_at schedule es fs before after entry costs is sound parts r steps) failed calls deployments typed parts height
    all_safely failed calls deployments typed height (Err e) steps = tt

-- ---- what stays where memory ran out

pub still_so : (result : Result TxResult NoMemory) (s t : State) (d : Deployed) (height : ℕ) → OnErr result (t ≡ s) → OnErr result ((seen t (deployed_seen d) height ≡ seen s (deployed_seen d) height) × (d.contracts ≡ d.contracts))
still_so (Ok r) s t d height same = tt
still_so (Err e) s t d height same = (ap (λ (u : State). seen u (deployed_seen d) height) same, refl)

pub unchanged_so : (result : Result TxResult NoMemory) (w v : World) (cs ds : ContractsOfCode) (height : ℕ) → OnErr result (IsUnchanged w cs v ds) →
    OnErr result ((seen v.stack.top (deployed_seen ds.deployed) height ≡ seen w.stack.top (deployed_seen cs.deployed) height) × (entries_of ds ≡ entries_of cs))
unchanged_so (Ok r) w v cs ds height same = tt
unchanged_so (Err e) w v cs ds height same = (λ i. seen (same.state i) (contracts_seen (same.contracts_are i)) height, same.contracts_are)

-- ---- the result of a call that is tried

pub tried_gives : (schedule : ScheduleSeen) (i : Invocation) (costs : Costs) (es : Contracts) (before : Seen) → costs ≡ costs_at schedule before.height → IsSound es before → (result : Result TxResult NoMemory) →
    IfOk result (λ r. (known : List Known) → IsSoundWith es before known → (after : State) × steps_of costs (node_with known before) i (record { node = record (node_with known before) { state = after }; result = r })) →
    IfOk result (λ r. Gives schedule before (call_entry i) r)
tried_gives schedule i costs es before is sound (Ok r) gives =
    let g = gives sound.known sound.is_sound in
    record {
      after = record before { state = g.0 };
      makes = record {
        from = node_with sound.known before;
        to = record (node_with sound.known before) { state = g.0 };
        is_from = record { known = sound.is_sound.forms; is = refl };
        is_to = record { known = sound.is_sound.forms; is = refl };
        steps = steps_up schedule costs (node_with sound.known before) (call_entry i) (record { node = record (node_with sound.known before) { state = g.0 }; result = r }) is g.1;
      };
    }
tried_gives schedule i costs es before is sound (Err e) gives = tt

-- Each entry has a trace, and each file a script.
use Rattle.std.proofs.Common.{◌≡◌, List, [], ◌∷◌, refl, sym, subst, Ok}
use Rattle.cl_costs.specs.Schedules.{ScheduleSeen}
use Rattle.cl_forms.specs.Texts.{text_of}
use Rattle.cl_meaning.specs.Deploying.{deployment}
use Rattle.cl_meaning.specs.Limits.{Costs}
use Rattle.cl_frames.specs.Watching.{trace}
use Rattle.cl_file.specs.declared.entry.Entry.{Entry}
use Rattle.cl_file.specs.declared.entry.Entry.TheVariants.{Deploy, Call, Block}
use Rattle.cl_tx.specs.declared.outcome.Outcome.{Outcome}
use Rattle.cl_tx.specs.declared.outcome.Outcome.TheVariants.{Moved, Done, Good, Bad, Plain, Aborted, Refused}
use Rattle.cl_tx.specs.declared.outcome.TxResult.{TxResult}
use Rattle.cl_tx.specs.Nodes.{NodeSeen, Stepped, contract_of, frame_of, purse_of}
use Rattle.cl_tx.specs.Step.{AllStep, name_taken, source_refused, evaluated, Steps, contract_with, costs_for, first_node, schedule_of}
use Rattle.cl_results.specs.Laws.{EachRuns}
use Rattle.cl_engine.specs.Traces.{Trace, IsRunTrace, IsTrace}
use Rattle.cl_entries.specs.declared.status.Status.TheVariants.{Done as DoneStatus}
use Rattle.cl_traces.specs.Traces.{AllTraced, EachHasTraceScript, trace_steps}

-- an entry that could be run has a trace, whatever becomes of it
by_outcome : (costs : Costs) (node : NodeSeen) (entry : Entry) (found : Trace) → IsRunTrace costs node entry found → (o : Outcome) → (t : Trace) × IsTrace costs node entry o t
by_outcome costs node entry found run Moved = ([], refl)
by_outcome costs node entry found run Done = (found, run)
by_outcome costs node entry found run (Good v) = (found, run)
by_outcome costs node entry found run (Bad v) = (found, run)
by_outcome costs node entry found run (Plain v) = (found, run)
by_outcome costs node entry found run (Aborted why) = (found, run)
by_outcome costs node entry found run (Refused why) = ([], refl)

deployment_there : (schedule : ScheduleSeen) (node : NodeSeen) (entry : Entry) (s t : Stepped) → s ≡ t → IsTrace (costs_for schedule node) node entry t.result.outcome [] → (trace : Trace) × IsTrace (costs_for schedule node) node entry s.result.outcome trace
deployment_there schedule node entry s t is none = ([], subst (λ (x : Stepped). IsTrace (costs_for schedule node) node entry x.result.outcome []) (sym is) none)

pub trace_there : (schedule : ScheduleSeen) (node : NodeSeen) (e : Entry) (s : Stepped) → Steps schedule node e s → (t : Trace) × IsTrace (costs_for schedule node) node e s.result.outcome t
trace_there schedule node (Deploy common name source version) s (name_taken known there is) = deployment_there schedule node (Deploy common name source version) s _ is refl
trace_there schedule node (Deploy common name source version) s (source_refused rule span names new first is) = deployment_there schedule node (Deploy common name source version) s _ is refl
trace_there schedule node (Deploy common name source version) s (evaluated new accepted ended) =
    let principal = contract_of common.sender name in
    by_outcome (costs_for schedule node) node (Deploy common name source version)
    (trace (costs_for schedule node) (purse_of common) (deployment node.contracts (frame_of node common.sender principal) (contract_with principal (text_of source version) accepted.forms) node.state))
    (record { accepted = accepted; is = refl }) s.result.outcome
trace_there schedule node (Call common contract function args) s step = by_outcome (costs_for schedule node) node (Call common contract function args) _ refl s.result.outcome
trace_there schedule node (Block height) s step = by_outcome (costs_for schedule node) node (Block height) [] refl s.result.outcome

all_there : (schedule : ScheduleSeen) (node : NodeSeen) (es : List Entry) (rs : List TxResult) (m : NodeSeen) → AllStep schedule node es rs m → (ts : List Trace) × AllTraced schedule node es ts m
all_there schedule node [] rs m all = ([], (refl, all.1))
all_there schedule node (e ∷ es) rs m all =
    let here = trace_there schedule node e all.0 all.2 in
    let rest = all_there schedule all.0.node es all.1 m all.3 in
    (here.0 ∷ rest.0, (all.0, here.0, rest.0, all.2, here.1, rest.1, refl))

pub each_has_script : EachRuns → EachHasTraceScript
each_has_script runs table file parts =
    let run = runs (schedule_of table file) file parts in
    let all = all_there (schedule_of table file) (first_node file.genesis) file.entries run.0 run.1 run.2.steps in
    (record { steps = trace_steps 0 all.0; end = Ok DoneStatus }, record { traces = all.0; after = run.1; traced = all.1; is = refl })

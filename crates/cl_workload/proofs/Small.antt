-- The results of a workload: how many, and that each is cheap.
use Rattle.std.proofs.Common.{◌≡◌, ℕ, zero, suc, ◌^◌, ◌<◌, ◌%◌, ◌==◌, Bool, true, false, List, [], ◌∷◌, length, All, refl, ap, ◌∙◌, arith, if◌then◌else◌}
use Rattle.std.proofs.lemmas.List.{length-append}
use Rattle.std.proofs.lemmas.List.Elements.{All-nil, All-cons, All-head, All-tail, All-push, All-same}
use Rattle.cl_costs.specs.Tables.{unit_table}
use Rattle.cl_costs.specs.Schedules.{always}
use Rattle.cl_file.specs.declared.entry.Entry.{Entry}
use Rattle.cl_tx.specs.declared.outcome.TxResult.{TxResult}
use Rattle.cl_tx.specs.Nodes.{NodeSeen}
use Rattle.cl_tx.specs.Step.{AllStep, Runs, first_node}
use Rattle.cl_workload.specs.Workload.{deployment, mint, transfer, drawn, call_for, number_after, calls, workload}
use Rattle.cl_workload.specs.Summary.{IsCheap, AreSmall}
use Rattle.cl_workload.proofs.Runtime.{IsLimited, step_cheap}

-- ---- the entries

either_limited : (b : Bool) (d : ℕ) → IsLimited (if b then mint d else transfer d)
either_limited true d = omega arith
either_limited false d = omega arith

call_limited : (d : ℕ) → IsLimited (call_for d)
call_limited d = either_limited (d % 4 == 0) (d % 1000)

calls_limited : (seed count : ℕ) → All IsLimited (calls seed count)
unfolding calls
calls_limited seed zero = All-nil IsLimited
calls_limited seed (suc n) = All-push IsLimited (calls seed n) (call_for (drawn (number_after seed (suc n)))) (calls_limited seed n) (call_limited (drawn (number_after seed (suc n))))

pub length_calls : (seed count : ℕ) → length (calls seed count) ≡ count
unfolding calls
length_calls seed zero = refl
length_calls seed (suc n) =
    let long = length-append (calls seed n) (call_for (drawn (number_after seed (suc n))) ∷ []) in
    let shorter = length_calls seed n in
    omega (arith, long, shorter)

-- ---- their results

results_cheap : (entries : List Entry) (node : NodeSeen) (results : List TxResult) (after : NodeSeen) → All IsLimited entries → AllStep (always unit_table) node entries results after
    → (length results ≡ length entries) × All IsCheap results
results_cheap [] node results after limited x = (ap length x.0, All-same IsCheap results [] x.0 (All-nil IsCheap))
results_cheap (e ∷ es) node results after limited x =
    let more = results_cheap es x.0.node x.1 after (All-tail IsLimited e es limited) x.3 in (
      ap length x.4 ∙ ap suc more.0,
      All-same IsCheap results (x.0.result ∷ x.1) x.4 (All-cons IsCheap x.0.result x.1 (step_cheap node e x.0 (All-head IsLimited e es limited) x.2) more.1),
    )

pub workloads_small : (seed count : ℕ) (results : List TxResult) (after : NodeSeen) → count < 2 ^ 32 → Runs (always unit_table) (workload seed count) results after → AreSmall results
workloads_small seed count results after low runs =
    let found = results_cheap (deployment ∷ calls seed count) (first_node []) results after (All-cons IsLimited deployment (calls seed count) (omega arith) (calls_limited seed count)) runs.steps in
    let long = length_calls seed count in
    record { few = omega (arith, found.0, long, low); cheap = found.1 }

-- What a workload comes to.
use Rattle.std.specs.Prelude.{◌≡◌, ℕ, ◌≤◌, ◌<◌, ◌^◌, List, ◌++◌, length, codes, decimal, All, Option, Some, None}
use Rattle.std.specs.List.{sum_by}
use Rattle.cl_shapes.specs.declared.cost.Cost5.{Cost5}
use Rattle.cl_costs.specs.Tables.{unit_table}
use Rattle.cl_costs.specs.Schedules.{always}
use Rattle.cl_maps.specs.Maps.{get}
use Rattle.cl_tokens.specs.Ledger.{Ledger, balance}
use Rattle.cl_events.specs.State.{State, place, holder}
use Rattle.cl_meaning.specs.Samples.{P1, of_P0}
use Rattle.cl_tx.specs.declared.outcome.Outcome.{Outcome}
use Rattle.cl_tx.specs.declared.outcome.Outcome.TheVariants.{Good, Bad}
use Rattle.cl_tx.specs.declared.outcome.TxResult.{TxResult}
use Rattle.cl_tx.specs.Nodes.{NodeSeen}
use Rattle.cl_tx.specs.Step.{Runs}
use Rattle.cl_workload.specs.Workload.{workload}

-- ---- counts

-- 1 for the ok of a public function
abbrev pub ok_of : Outcome → ℕ
ok_of (Good v) = 1
ok_of outcome = 0

-- 1 for its err
abbrev pub err_of : Outcome → ℕ
err_of (Bad v) = 1
err_of outcome = 0

abbrev pub runtime_of : Option Cost5 → ℕ
runtime_of None = 0
runtime_of (Some cost) = cost.runtime

-- how many entries gave an ok and an err, and what all of them cost in runtime
pub record Counts : Type 0 where
  pub ok : ℕ
  pub err : ℕ
  pub runtime : ℕ

abbrev pub counts_of : List TxResult → Counts
counts_of results = record {
  ok = sum_by (λ r. ok_of r.outcome) results;
  err = sum_by (λ r. err_of r.outcome) results;
  runtime = sum_by (λ r. runtime_of r.cost) results;
}

-- ---- coins

abbrev pub supply_of : Option Ledger → ℕ
supply_of None = 0
supply_of (Some l) = l.supply

abbrev pub balance_of : Option Ledger → ℕ
balance_of None = 0
balance_of (Some l) = balance (holder P1) l.balances

abbrev pub coins : State → Option Ledger
coins s = get (place (of_P0 (codes "token")) (codes "coin")) s.fungibles

-- ---- the line

-- how many calls there were, and what they gave
unfoldable pub counts_text : ℕ → Counts → List ℕ
counts_text count counts = codes "calls " ++ (decimal count ++ (codes " ok " ++ (decimal counts.ok ++ (codes " err " ++ decimal counts.err))))

unfoldable pub summary_line : ℕ → Counts → ℕ → ℕ → List ℕ
summary_line count counts supply held =
    counts_text count counts ++ (codes " supply u" ++ (decimal supply ++ (codes " p1 u" ++ (decimal held ++ (codes " runtime " ++ (decimal counts.runtime ++ codes "\n"))))))

-- The summary of a workload of so many calls: by the results of its entries, and by the state after them.
pub record IsSummary (seed count : ℕ) (line : List ℕ) : Type 0 where
  pub results : List TxResult
  pub after : NodeSeen
  pub runs : Runs (always unit_table) (workload seed count) results after
  pub is : line ≡ summary_line count (counts_of results) (supply_of (coins after.state)) (balance_of (coins after.state))

-- ---- how great the counts can be

-- the entry's runtime has at most 64 bits, or is one more
abbrev pub IsCheap : TxResult → Type 0
IsCheap r = runtime_of r.cost ≤ 2 ^ 64

-- a count of 32 bits is enough, and each is cheap
pub record AreSmall (results : List TxResult) : Type 0 where
  pub few : length results ≤ 2 ^ 32
  pub cheap : All IsCheap results

-- the results of a workload
abbrev pub WorkloadsAreSmall : Type 0
WorkloadsAreSmall = (seed count : ℕ) (results : List TxResult) (after : NodeSeen) → count < 2 ^ 32 → Runs (always unit_table) (workload seed count) results after → AreSmall results

-- What is promised of the step of an entry.
use Rattle.std.specs.Prelude.{◌≡◌}
use Rattle.cl_costs.specs.Schedules.{ScheduleSeen}
use Rattle.cl_file.specs.declared.entry.Entry.{Entry}
use Rattle.cl_file.specs.Entries.{height_after}
use Rattle.cl_file.specs.declared.entry.Entry.TheVariants.{Deploy, Call, Block}
use Rattle.cl_tx.specs.declared.outcome.TxResult.{TxResult}
use Rattle.cl_tx.specs.Laws.{IsKept}
use Rattle.cl_nodes.specs.Seen.{Seen}
use Rattle.cl_nodes.specs.Steps.{Makes}
use Rattle.cl_engine.specs.Within.{IsChargedWithin, GivesTyped}

-- the result of a step, whatever node it makes
pub record Gives (schedule : ScheduleSeen) (before : Seen) (entry : Entry) (result : TxResult) : Type 0 where
  pub after : Seen
  pub makes : Makes schedule before entry result after

-- a step, and what is promised of it: an entry that failed changes nothing, a block alone changes the height, no entry is charged
-- above its bound, and each answer is of its function's type
pub record MakesSafely (schedule : ScheduleSeen) (before : Seen) (entry : Entry) (result : TxResult) (after : Seen) : Type 0 where
  pub makes : Makes schedule before entry result after
  pub undone : (IsKept result.outcome → ⊥) → after ≡ before
  pub height : after.height ≡ height_after before.height entry
  pub charged : IsChargedWithin schedule before entry result
  pub typed : GivesTyped before entry result

-- an entry is a call
abbrev pub IsCall : Entry → Type 0
IsCall (Call common contract function args) = Unit {0}
IsCall (Deploy common name source version) = ⊥
IsCall (Block height) = ⊥

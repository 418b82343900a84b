-- What a block makes of a sound node.
use Rattle.std.proofs.Common.{◌≡◌, ℕ, List, [], None, refl, sym, ap, subst, ◌∙◌}
use Rattle.cl_costs.specs.Schedules.{ScheduleSeen}
use Rattle.cl_file.specs.declared.entry.Entry.TheVariants.{Block}
use Rattle.cl_tx.specs.declared.outcome.Outcome.TheVariants.{Moved}
use Rattle.cl_tx.specs.declared.outcome.Rebound.{Rebound}
use Rattle.cl_tx.specs.declared.outcome.TxResult.{TxResult}
use Rattle.cl_tx.specs.Laws.{IsKept}
use Rattle.cl_tx.specs.Nodes.{nothing_told, result_of}
use Rattle.cl_tx.specs.Rebounds.{rebounds, rebounds_at}
use Rattle.cl_nodes.specs.Seen.{Seen, node_with}
use Rattle.cl_nodes.specs.Sound.{Contracts, IsSound}
use Rattle.cl_engine.specs.Steps.{MakesSafely}
use Rattle.cl_nodes.proofs.Nodes.{MadeAt, makes}

abbrev pub at_height : ℕ → Seen → Seen
at_height height n = record n { height = height }

abbrev pub begun : List Rebound → TxResult
begun lines = record (result_of nothing_told Moved None []) { rebounds = lines }

module _ (schedule : ScheduleSeen) (es : Contracts) (before : Seen) (height : ℕ) (sound : IsSound es before) (lines : List Rebound) (r : TxResult) (is : r ≡ begun lines) (lines_are : lines ≡ rebounds_at schedule (node_with sound.known before) height) where
  made : MadeAt schedule sound.known before (Block height) r es (at_height height before)
  made = record {
    now = sound.known;
    trees = sound.is_sound.trees;
    forms = sound.is_sound.forms;
    steps = λ i. record { node = node_with sound.known (at_height height before); result = (is ∙ ap begun lines_are) i };
  }

  pub block_safely : MakesSafely schedule before (Block height) r (at_height height before)
  block_safely = record {
    makes = makes schedule es es before (at_height height before) (Block height) r sound made;
    undone = λ lost. absurd (lost (subst (λ (z : TxResult). IsKept z.outcome) (sym is) tt));
    height = refl;
    charged = ap (λ (z : TxResult). z.cost) is;
    typed = tt;
  }

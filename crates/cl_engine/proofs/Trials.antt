-- Calls that are tried, and what is grafted.
use Rattle.std.proofs.Common.{◌≡◌, ◌∙◌, Some, List, refl, sym, ap, subst}
use Rattle.cl_costs.specs.Schedules as schedules
use Rattle.cl_costs.specs.Schedules.{ScheduleSeen}
use Rattle.cl_events.specs.State.{State}
use Rattle.cl_tables.specs.declared.spot.Spot.{Spot}
use Rattle.cl_tables.specs.Spots.{grafted}
use Rattle.cl_meaning.specs.Kept.{Kept, Whole}
use Rattle.cl_meaning.specs.Limits.{Costs}
use Rattle.cl_file.specs.declared.entry.Entry.{Entry}
use Rattle.cl_file.specs.declared.entry.Entry.TheVariants.{Deploy, Call, Block}
use Rattle.cl_touch.specs.Laws.{GraftsAreKept}
use Rattle.cl_tx.specs.declared.outcome.TxResult.{TxResult}
use Rattle.cl_tx.specs.Nodes.{NodeSeen, Stepped}
use Rattle.cl_tx.specs.Step.{Steps, call_step}
use Rattle.cl_node_sound.specs.Laws.{SoundStay}
use Rattle.cl_node_sound.specs.Sound.{IsSoundNode, HasParts}
use Rattle.cl_nodes.specs.Seen.{Seen, node_with}
use Rattle.cl_nodes.specs.Sound.{Contracts, IsSound}
use Rattle.cl_nodes.specs.Steps.{Makes, StepsUnder, MakesWith, MakesSound}
use Rattle.cl_engine.specs.Steps.{IsCall}

-- ---- a call that is tried

module _ (schedule : ScheduleSeen) (contracts : Contracts) (before after : Seen) (costs : Costs) (same : costs ≡ schedules.costs_at schedule before.height) (sound : IsSound contracts before) where
  stepped : (e : Entry) → IsCall e → (node : NodeSeen) → node.height ≡ before.height → (s : Stepped) → StepsUnder costs node e s → Steps schedule node e s
  stepped (Call common contract function args) call node height s step =
      subst (λ (k : Costs). call_step k node common contract function args ≡ Some s) (λ i. (same ∙ ap (schedules.costs_at schedule) (sym height)) i) step
  stepped (Deploy common name source version) call node height s step = absurd call
  stepped (Block height) call node is s step = absurd call

  pub trial_made : (e : Entry) → IsCall e → (result : TxResult) → MakesSound costs contracts before e result contracts after → Makes schedule before e result after
  trial_made e call result made =
      let m : MakesWith costs sound.known before e result contracts after = made sound.known sound.is_sound in record {
        from = node_with sound.known before;
        to = node_with m.now after;
        is_from = record { known = sound.is_sound.forms; is = refl };
        is_to = record { known = m.forms; is = refl };
        steps = stepped e call (node_with sound.known before) refl (record { node = node_with m.now after; result = result }) m.steps;
      }

  pub trial_kept : SoundStay → (e : Entry) → IsCall e → HasParts e → (result : TxResult) → MakesSound costs contracts before e result contracts after → Kept after.contracts Whole after.state
  trial_kept stay e call parts result made =
      let m : MakesWith costs sound.known before e result contracts after = made sound.known sound.is_sound in
      let s : Stepped = record { node = node_with m.now after; result = result } in
      let still : IsSoundNode s.node = stay schedule (node_with sound.known before) e s parts sound.is_sound.sound (stepped e call (node_with sound.known before) refl s m.steps) in
      still.kept

-- ---- grafts

pub grafted_sound : GraftsAreKept → (contracts : Contracts) (n : Seen) (from : State) (spots : List Spot) → Kept n.contracts Whole from → IsSound contracts n → IsSound contracts (record n { state = grafted spots from n.state })
grafted_sound law contracts n from spots kept sound = record {
  known = sound.known;
  is_sound = record {
    trees = sound.is_sound.trees;
    forms = sound.is_sound.forms;
    sound = record {
      contracts = sound.is_sound.sound.contracts;
      kept = law n.contracts Whole spots from n.state kept sound.is_sound.sound.kept;
      height = sound.is_sound.sound.height;
      no_events = sound.is_sound.sound.no_events;
      no_moves = sound.is_sound.sound.no_moves;
    };
  };
}

-- What an entry makes of a sound node.
use Rattle.std.specs.Prelude.{IfOk, OnErr}
use Rattle.std.proofs.Common.{◌≡◌, ℕ, List, [], Some, Result, Ok, Err, refl, sym, subst}
use Rattle.cl_types.specs.declared.fault.NoMemory.{NoMemory}
use Rattle.cl_forms.specs.Texts.{text_of}
use Rattle.cl_costs.specs.Schedules.{ScheduleSeen, costs_at}
use Rattle.cl_meaning.specs.Limits.{Costs}
use Rattle.cl_rules.specs.Context.{Known}
use Rattle.cl_contracts.specs.Standings.{AreStanding}
use Rattle.cl_node_sound.specs.Sound.{HasParts}
use Rattle.cl_node_sound.specs.Laws.{SoundStay}
use Rattle.cl_file.specs.declared.entry.Entry.{Entry}
use Rattle.cl_file.specs.declared.entry.Entry.TheVariants.{Deploy, Call, Block}
use Rattle.cl_tx.specs.declared.outcome.TxResult.{TxResult}
use Rattle.cl_tx.specs.Nodes.{NodeSeen, Stepped, contract_of}
use Rattle.cl_tx.specs.Step.{DeploySteps, Steps, call_step}
use Rattle.cl_nodes.specs.Seen.{Seen, node_with}
use Rattle.cl_nodes.specs.Known.{AreKnown}
use Rattle.cl_nodes.specs.Sound.{Contracts, IsSound}
use Rattle.cl_nodes.specs.Steps.{Makes, MakesSound, StepsUnder}

-- ---- the costs of a height

pub steps_up : (schedule : ScheduleSeen) (costs : Costs) (node : NodeSeen) (entry : Entry) (s : Stepped) → costs ≡ costs_at schedule node.height → StepsUnder costs node entry s → Steps schedule node entry s
steps_up schedule costs node (Deploy common name source version) s is x = subst (λ c. DeploySteps c node common (contract_of common.sender name) (text_of source version) s) is x
steps_up schedule costs node (Call common contract function args) s is x = subst (λ c. call_step c node common contract function args ≡ Some s) is x
steps_up schedule costs node (Block height) s is x = absurd x

pub steps_down : (schedule : ScheduleSeen) (costs : Costs) (node : NodeSeen) (entry : Entry) (s : Stepped) → costs ≡ costs_at schedule node.height → ((height : ℕ) → entry ≡ Block height → ⊥) → Steps schedule node entry s → StepsUnder costs node entry s
steps_down schedule costs node (Deploy common name source version) s is none x = subst (λ c. DeploySteps c node common (contract_of common.sender name) (text_of source version) s) (sym is) x
steps_down schedule costs node (Call common contract function args) s is none x = subst (λ c. call_step c node common contract function args ≡ Some s) (sym is) x
steps_down schedule costs node (Block height) s is none x = absurd (none height refl)

-- ---- one step

-- what an entry makes under a schedule, and what callers know then
pub record MadeAt (schedule : ScheduleSeen) (known : List Known) (before : Seen) (entry : Entry) (result : TxResult) (contracts : Contracts) (after : Seen) : Type 0 where
  pub now : List Known
  pub trees : AreStanding [] contracts now
  pub forms : AreKnown [] after.contracts now
  pub steps : Steps schedule (node_with known before) entry (record { node = node_with now after; result = result })

module _ (schedule : ScheduleSeen) (es fs : Contracts) (before after : Seen) (entry : Entry) where
  module _ (r : TxResult) (sound : IsSound es before) (made : MadeAt schedule sound.known before entry r fs after) where
    pub makes : Makes schedule before entry r after
    makes = record {
      from = node_with sound.known before;
      to = node_with made.now after;
      is_from = record { known = sound.is_sound.forms; is = refl };
      is_to = record { known = made.forms; is = refl };
      steps = made.steps;
    }

    pub sound_after : SoundStay → HasParts entry → IsSound fs after
    sound_after stay parts = record {
      known = made.now;
      is_sound = record {
        trees = made.trees;
        forms = made.forms;
        sound = stay schedule (node_with sound.known before) entry (record { node = node_with made.now after; result = r }) parts sound.is_sound.sound made.steps;
      };
    }

  -- after an entry that may want memory
  module _ (costs : Costs) (is : costs ≡ costs_at schedule before.height) (sound : IsSound es before) (parts : HasParts entry) where
    pub made_at : (r : TxResult) → MakesSound costs es before entry r fs after → MadeAt schedule sound.known before entry r fs after
    made_at r steps =
        let m = steps sound.known sound.is_sound in
        record { now = m.now; trees = m.trees; forms = m.forms; steps = steps_up schedule costs (node_with sound.known before) entry (record { node = node_with m.now after; result = r }) is m.steps }

    -- what it makes under the schedule
    pub all_made : {A : Type 0} (of : A → TxResult) (result : Result A NoMemory) → IfOk result (λ a. MakesSound costs es before entry (of a) fs after) → IfOk result (λ a. Makes schedule before entry (of a) after)
    all_made of (Ok a) steps = makes (of a) sound (made_at (of a) steps)
    all_made of (Err e) steps = tt

    pub sound_still : {A : Type 0} (of : A → TxResult) → SoundStay → (result : Result A NoMemory) → IfOk result (λ a. MakesSound costs es before entry (of a) fs after) → OnErr result ((after ≡ before) × (fs ≡ es)) → IsSound fs after
    sound_still of stay (Ok a) steps same = sound_after (of a) sound (made_at (of a) steps) stay parts
    sound_still of stay (Err e) steps same = subst (λ (n : Contracts × Seen). IsSound n.0 n.1) (λ i. (sym same.1 i, sym same.0 i)) sound

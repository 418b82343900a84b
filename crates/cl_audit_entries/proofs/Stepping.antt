-- What an entry makes of the auditor's node, by what it makes of a sound one.
use Rattle.std.specs.Prelude.{IfOk, OnErr}
use Rattle.std.proofs.Common.{◌≡◌, ℕ, List, [], map, None, Result, Ok, Err, refl, sym, ap, subst, ◌∙◌}
use Rattle.cl_types.specs.declared.fault.NoMemory.{NoMemory}
use Rattle.cl_costs.specs.Schedules.{ScheduleSeen, costs_at}
use Rattle.cl_file.specs.declared.entry.Entry.{Entry}
use Rattle.cl_file.specs.declared.entry.Entry.TheVariants.{Block as ABlock}
use Rattle.cl_contracts.specs.declared.deployed.Deployed.{Deployed as DeployedOfCode}
use Rattle.cl_contracts.specs.Seen.{contract_seen as checked_seen, deployed_seen}
use Rattle.cl_meaning.specs.Limits.{Costs}
use Rattle.cl_tx.specs.declared.outcome.Outcome.{Outcome}
use Rattle.cl_tx.specs.declared.outcome.Rebound.{Rebound}
use Rattle.cl_tx.specs.declared.outcome.Outcome.TheVariants.{Moved}
use Rattle.cl_tx.specs.declared.outcome.TxResult.{TxResult}
use Rattle.cl_tx.specs.Nodes.{nothing_told, result_of}
use Rattle.cl_tx.specs.Rebounds.{rebounds_at}
use Rattle.cl_nodes.specs.declared.contracts.Contracts.{Contracts as ContractsOfCode}
use Rattle.cl_nodes.specs.Bounded.{AreLinesAt, entries_of}
use Rattle.cl_nodes.specs.Seen.{Seen, node_with, seen}
use Rattle.cl_nodes.specs.Sound.{Contracts, IsSound}
use Rattle.cl_nodes.specs.Steps.{Makes}
use Rattle.cl_nodes.proofs.Nodes.{MadeAt, makes, sound_after}
use Rattle.cl_node_sound.specs.Laws.{SoundStay}
use Rattle.cl_node_sound.specs.Sound.{HasParts}
use Rattle.cl_nodes.specs.Traces.{IsTrace}
use Rattle.cl_audit_steps.specs.declared.scope.Contract.{Contract as ContractOfCode}
use Rattle.cl_audit_steps.specs.Seen.{contracts_seen}
use Rattle.cl_audit_walk.specs.declared.cursor.Claim.{Claim}
use Rattle.cl_audit_walk.specs.declared.run.Run.{Run}
use Rattle.cl_audit.specs.declared.agreeing.Agreement.{Agreement}
use Rattle.cl_audit.specs.Agrees.{IsAgreement}
use Rattle.cl_audit_entries.specs.declared.node.Audited.{Audited}
use Rattle.cl_audit_entries.specs.Agreeing.{AgreesUnder, AgreesWith}
use Rattle.cl_audit_entries.specs.Deploying.{IsUnchanged}
use Rattle.cl_audit_deploy.specs.Deploying.{without_values}
use Rattle.cl_audit_entries.specs.Seen.{AreThose}
use Rattle.cl_audit_entries.proofs.Bare.{bare_lines}

-- ---- claims

module _ (schedule : ScheduleSeen) (es : Contracts) (before : Seen) (entry : Entry) (costs : Costs) (is : costs ≡ costs_at schedule before.height) (sound : IsSound es before) (claims : List Claim) where
  agrees_with : (outcome : Outcome) (agreement : Agreement) → AgreesUnder costs es before entry outcome claims agreement → AgreesWith schedule before entry outcome claims agreement
  agrees_with outcome agreement agrees =
      let t = agrees sound.known sound.is_sound in
      record {
        from = node_with sound.known before;
        is_from = record { known = sound.is_sound.forms; is = refl };
        told = t.0;
        is_trace = subst (λ (c : Costs). IsTrace c (node_with sound.known before) entry outcome t.0) is t.1;
        agrees = t.2;
      }

  pub all_agree : (result : Result Audited NoMemory) → IfOk result (λ a. AgreesUnder costs es before entry a.result.outcome claims a.agreement) → IfOk result (λ a. AgreesWith schedule before entry a.result.outcome claims a.agreement)
  all_agree (Ok a) agrees = agrees_with a.result.outcome a.agreement agrees
  all_agree (Err e) agrees = tt

-- ---- nothing changed

those_are : (texts texts_after : List ContractOfCode) (deployed after : DeployedOfCode) → texts_after ≡ texts → after.contracts ≡ deployed.contracts → AreThose texts deployed → AreThose texts_after after
those_are texts texts_after deployed after same kept those = record {
  same = ap (λ (ts : List ContractOfCode). map without_values (contracts_seen ts)) same ∙ those.same ∙ sym (ap (map checked_seen) kept);
}

pub those_still : (result : Result Audited NoMemory) (run run_after : Run) (texts texts_after : List ContractOfCode) (cs cs_after : ContractsOfCode) → IfOk result (λ a. AreThose texts_after cs_after.deployed) → OnErr result (IsUnchanged run texts cs run_after texts_after cs_after) →
    AreThose texts cs.deployed → AreThose texts_after cs_after.deployed
those_still (Ok a) run run_after texts texts_after cs cs_after now same those = now
those_still (Err e) run run_after texts texts_after cs cs_after now same those = those_are texts texts_after cs.deployed cs_after.deployed same.texts_are same.contracts_are those

pub unchanged_so : (result : Result Audited NoMemory) (run run_after : Run) (texts texts_after : List ContractOfCode) (cs cs_after : ContractsOfCode) (height : ℕ) → OnErr result (IsUnchanged run texts cs run_after texts_after cs_after) →
    OnErr result ((seen run_after.world.stack.top (contracts_seen texts_after) height ≡ seen run.world.stack.top (contracts_seen texts) height) × (entries_of cs_after ≡ entries_of cs))
unchanged_so (Ok a) run run_after texts texts_after cs cs_after height same = tt
unchanged_so (Err e) run run_after texts texts_after cs cs_after height same = ((λ i. seen (same.state i) (contracts_seen (same.texts_are i)) height), same.contracts_are)

pub still_so : (result : Result Audited NoMemory) (run run_after : Run) (texts : List ContractOfCode) (es : Contracts) (height : ℕ) → OnErr result (run_after.world.stack.top ≡ run.world.stack.top) →
    OnErr result ((seen run_after.world.stack.top (contracts_seen texts) height ≡ seen run.world.stack.top (contracts_seen texts) height) × (es ≡ es))
still_so (Ok a) run run_after texts es height same = tt
still_so (Err e) run run_after texts es height same = ((λ i. seen (same i) (contracts_seen texts) height), refl)

-- ---- blocks

abbrev pub at_height : ℕ → Seen → Seen
at_height height n = record n { height = height }

abbrev pub begun : List Rebound → TxResult
begun lines = record (result_of nothing_told Moved None []) { rebounds = lines }

module _ (schedule : ScheduleSeen) (cs : ContractsOfCode) (before : Seen) (height : ℕ) (sound : IsSound (entries_of cs) before) where
  pub lines_are : map without_values before.contracts ≡ deployed_seen cs.deployed → (lines : List Rebound) → AreLinesAt cs schedule before.height height lines → lines ≡ rebounds_at schedule (node_with sound.known before) height
  lines_are same lines are =
      are (record (node_with sound.known before) { contracts = deployed_seen cs.deployed }) refl sound.is_sound.trees refl
      ∙ bare_lines schedule (node_with sound.known before) (deployed_seen cs.deployed) height same

  module _ (lines : List Rebound) (r : TxResult) (is : r ≡ begun lines) (lines_so : lines ≡ rebounds_at schedule (node_with sound.known before) height) where
    made : MadeAt schedule sound.known before (ABlock height) r (entries_of cs) (at_height height before)
    made = record {
      now = sound.known;
      trees = sound.is_sound.trees;
      forms = sound.is_sound.forms;
      steps = λ i. record { node = node_with sound.known (at_height height before); result = (is ∙ ap begun lines_so) i };
    }

    pub block_made : Makes schedule before (ABlock height) r (at_height height before)
    block_made = makes schedule (entries_of cs) (entries_of cs) before (at_height height before) (ABlock height) r sound made

    pub block_sound : SoundStay → HasParts (ABlock height) → IsSound (entries_of cs) (at_height height before)
    block_sound stay parts = sound_after schedule (entries_of cs) (entries_of cs) before (at_height height before) (ABlock height) r sound made stay parts

  pub block_agrees : (claims : List Claim) (agreement : Agreement) (outcome : Outcome) → outcome ≡ Moved → IsAgreement [] claims agreement → AgreesWith schedule before (ABlock height) outcome claims agreement
  block_agrees claims agreement outcome is agrees = record {
    from = node_with sound.known before;
    is_from = record { known = sound.is_sound.forms; is = refl };
    told = [];
    is_trace = subst (λ (o : Outcome). IsTrace (costs_at schedule before.height) (node_with sound.known before) (ABlock height) o []) (sym is) refl;
    agrees = agrees;
  }

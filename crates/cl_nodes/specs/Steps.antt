-- What an entry makes of a node.
use Rattle.std.specs.Prelude.{◌≡◌, List, [], Some}
use Rattle.cl_costs.specs.Schedules.{ScheduleSeen}
use Rattle.cl_forms.specs.Texts.{text_of}
use Rattle.cl_meaning.specs.Limits.{Costs}
use Rattle.cl_file.specs.declared.entry.Entry.{Entry}
use Rattle.cl_file.specs.declared.entry.Entry.TheVariants.{Deploy, Call, Block}
use Rattle.cl_rules.specs.Context.{Known}
use Rattle.cl_contracts.specs.Standings.{AreStanding}
use Rattle.cl_tx.specs.declared.outcome.TxResult.{TxResult}
use Rattle.cl_tx.specs.Nodes.{NodeSeen, Stepped, contract_of}
use Rattle.cl_tx.specs.Step.{DeploySteps, Steps, call_step}
use Rattle.cl_nodes.specs.Known.{AreKnown, IsNodeOf}
use Rattle.cl_nodes.specs.Seen.{Seen, node_with}
use Rattle.cl_nodes.specs.Sound.{Contracts, IsSoundWith}

-- the step that the rules define, under a schedule of costs
pub record Makes (schedule : ScheduleSeen) (before : Seen) (entry : Entry) (result : TxResult) (after : Seen) : Type 0 where
  pub from : NodeSeen
  pub to : NodeSeen
  pub is_from : IsNodeOf before from
  pub is_to : IsNodeOf after to
  pub steps : Steps schedule from entry (record { node = to; result = result })

-- the step of a deployment or a call, under the costs of the node's height
abbrev pub StepsUnder : Costs → NodeSeen → Entry → Stepped → Type 0
StepsUnder costs node (Deploy common name source version) s = DeploySteps costs node common (contract_of common.sender name) (text_of source version) s
StepsUnder costs node (Call common contract function args) s = call_step costs node common contract function args ≡ Some s
StepsUnder costs node (Block height) s = ⊥

-- ---- what an entry makes of a sound node

-- callers know something of the contracts after the entry, by their trees and by their forms
pub record MakesWith (costs : Costs) (known : List Known) (before : Seen) (entry : Entry) (result : TxResult) (contracts : Contracts) (after : Seen) : Type 0 where
  pub now : List Known
  pub trees : AreStanding [] contracts now
  pub forms : AreKnown [] after.contracts now
  pub steps : StepsUnder costs (node_with known before) entry (record { node = node_with now after; result = result })

abbrev pub MakesSound : Costs → Contracts → Seen → Entry → TxResult → Contracts → Seen → Type 0
MakesSound costs contracts before entry result contracts_after after =
    (known : List Known) → IsSoundWith contracts before known → MakesWith costs known before entry result contracts_after after

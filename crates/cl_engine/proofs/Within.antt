-- What is charged and given at a sound node.
use Rattle.std.proofs.Common.{List, [], ap}
use Rattle.cl_costs.specs.Schedules.{ScheduleSeen}
use Rattle.cl_rules.specs.Context.{Known}
use Rattle.cl_node_sound.specs.Sound.{HasParts, IsSoundNode}
use Rattle.cl_node_sound.specs.Laws.{CallsStayWithin, DeploymentsStayWithin, CallsAreTyped}
use Rattle.cl_file.specs.declared.entry.Entry.{Entry}
use Rattle.cl_file.specs.declared.entry.Entry.TheVariants.{Deploy, Call, Block}
use Rattle.cl_tx.specs.Nodes.{Stepped}
use Rattle.cl_tx.specs.Step.{Steps}
use Rattle.cl_nodes.specs.Seen.{Seen, node_with}
use Rattle.cl_nodes.specs.Known.{AreKnown}
use Rattle.cl_engine.specs.Within.{IsChargedWithin, GivesTyped}

module _ (schedule : ScheduleSeen) (n : Seen) (known : List Known) (are : AreKnown [] n.contracts known) (N : IsSoundNode (node_with known n)) (s : Stepped) where
  pub charged_by : CallsStayWithin → DeploymentsStayWithin → (entry : Entry) → HasParts entry → Steps schedule (node_with known n) entry s → IsChargedWithin schedule n entry s.result
  charged_by calls deployments (Deploy common name source version) parts x = λ cost bounds c b. deployments schedule (node_with known n) common name source version s parts N x cost bounds c b
  charged_by calls deployments (Call common contract function args) parts x = λ cost c.
      record { known = known; are_known = are; within = calls schedule (node_with known n) common contract function args s parts N x cost c }
  charged_by calls deployments (Block height) parts x = ap (λ (s : Stepped). s.result.cost) x

  pub typed_by : CallsAreTyped → (entry : Entry) → HasParts entry → Steps schedule (node_with known n) entry s → GivesTyped n entry s.result
  typed_by law (Deploy common name source version) parts x = tt
  typed_by law (Call common contract function args) parts x = λ v is. record { known = known; are_known = are; typed = law schedule (node_with known n) common contract function args s parts N x v is }
  typed_by law (Block height) parts x = tt

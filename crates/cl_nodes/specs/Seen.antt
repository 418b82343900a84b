-- What contracts see of a node.
use Rattle.std.specs.Prelude.{ℕ, List}
use Rattle.cl_events.specs.State.{State}
use Rattle.cl_meaning.specs.Deployed.{Deployed}
use Rattle.cl_rules.specs.Context.{Known}
use Rattle.cl_tx.specs.Nodes.{NodeSeen}

-- The state, which is at rest; the deployed contracts, in the order of their deployments; and the height of the block.
pub record Seen : Type 0 where
  pub state : State
  pub contracts : Deployed
  pub height : ℕ

-- the node with its contracts as their callers see them
abbrev pub node_with : List Known → Seen → NodeSeen
node_with known n = record { state = n.state; contracts = n.contracts; known = known; height = n.height }

abbrev pub seen : State → Deployed → ℕ → Seen
seen state contracts height = record { state = state; contracts = contracts; height = height }

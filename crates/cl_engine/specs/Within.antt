-- What an entry is charged and gives, against what callers know of the node's contracts.
use Rattle.std.specs.Prelude.{◌≡◌, ℕ, List, [], Some, None}
use Rattle.cl_c32.specs.declared.principal.Principal.{Principal}
use Rattle.cl_costs.specs.Schedules.{ScheduleSeen, costs_at}
use Rattle.cl_shapes.specs.declared.cost.Cost5.{Cost5}
use Rattle.cl_shapes.specs.Costs.{IsAtMost}
use Rattle.cl_values.specs.Tree.{Tree}
use Rattle.cl_meaning.specs.Limits.{Costs}
use Rattle.cl_rules.specs.Context.{Known}
use Rattle.cl_file.specs.declared.entry.Entry.{Entry}
use Rattle.cl_file.specs.declared.entry.Entry.TheVariants.{Deploy, Call, Block}
use Rattle.cl_tx.specs.declared.outcome.Bounds.{Bounds}
use Rattle.cl_tx.specs.declared.outcome.TxResult.{TxResult}
use Rattle.cl_node_sound.specs.Sound.{IsWithinBound, IsTypedAnswer, given_by}
use Rattle.cl_nodes.specs.Seen.{Seen}
use Rattle.cl_nodes.specs.Known.{AreKnown}

-- under these costs the bound of a function of the node is within the limit, and a cost is at most the bound
pub record IsCallWithin (costs : Costs) (n : Seen) (contract : Principal) (function : List ℕ) (cost : Cost5) : Type 0 where
  pub known : List Known
  pub are_known : AreKnown [] n.contracts known
  pub within : IsWithinBound costs known contract function cost

-- a value is of the type that a function of the node returns
pub record IsCallTyped (n : Seen) (contract : Principal) (function : List ℕ) (v : Tree) : Type 0 where
  pub known : List Known
  pub are_known : AreKnown [] n.contracts known
  pub typed : IsTypedAnswer known contract function v

-- What is charged, aborted or not: of a call at most the bound of its function under the costs of the node's height, of a
-- deployment at most the bound in its result, of a block nothing.
abbrev pub IsChargedWithin : ScheduleSeen → Seen → Entry → TxResult → Type 0
IsChargedWithin schedule n (Deploy common name source version) r = (cost : Cost5) (bounds : Bounds) → r.cost ≡ Some cost → r.bounds ≡ Some bounds → IsAtMost cost bounds.deploy
IsChargedWithin schedule n (Call common contract function args) r = (cost : Cost5) → r.cost ≡ Some cost → IsCallWithin (costs_at schedule n.height) n contract function cost
IsChargedWithin schedule n (Block height) r = r.cost ≡ None

-- what a call gives, an ok and an err as responses, is of the type that its function returns
abbrev pub GivesTyped : Seen → Entry → TxResult → Type 0
GivesTyped n (Call common contract function args) r = (v : Tree) → given_by r.outcome ≡ Some v → IsCallTyped n contract function v
GivesTyped n (Deploy common name source version) r = Unit {0}
GivesTyped n (Block height) r = Unit {0}

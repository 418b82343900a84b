-- Nodes whose contracts were accepted, and whose state is kept.
use Rattle.std.specs.Prelude.{List, [], map}
use Rattle.cl_c32.specs.declared.principal.Principal.{Principal}
use Rattle.cl_meaning.specs.Deployed.{Deployed}
use Rattle.cl_contracts.specs.declared.contract.Contract.{Contract as ContractOfCode}
use Rattle.cl_contracts.specs.Seen.{contract_seen}
use Rattle.cl_contracts.specs.Standings.{AreStanding}
use Rattle.cl_node_sound.specs.Sound.{IsSoundNode}
use Rattle.cl_rules.specs.Context.{Known}
use Rattle.cl_nodes.specs.Seen.{Seen, node_with}
use Rattle.cl_nodes.specs.Known.{AreKnown}

-- the deployed contracts with their principals, in the order of their deployments
abbrev pub Contracts : Type 0
Contracts = List (Principal × ContractOfCode)

abbrev pub contracts_seen : Contracts → Deployed
contracts_seen contracts = map contract_seen contracts

-- callers know this of the contracts of a node, by their typed trees and by their forms; and with it the node is sound
pub record IsSoundWith (contracts : Contracts) (n : Seen) (known : List Known) : Type 0 where
  pub trees : AreStanding [] contracts known
  pub forms : AreKnown [] n.contracts known
  pub sound : IsSoundNode (node_with known n)

-- callers know something of them
pub record IsSound (contracts : Contracts) (n : Seen) : Type 0 where
  pub known : List Known
  pub is_sound : IsSoundWith contracts n known

-- What contracts see of the auditor's node: the contracts by their forms.
use Rattle.std.specs.Prelude.{◌≡◌, ℕ, false, List, map}
use Rattle.cl_file.specs.declared.entry.Entry.{Entry}
use Rattle.cl_contracts.specs.declared.deployed.Deployed.{Deployed as DeployedOfCode}
use Rattle.cl_contracts.specs.Seen.{deployed_seen}
use Rattle.cl_node_sound.specs.Sound.{HasParts}
use Rattle.cl_nodes.specs.Seen.{Seen, seen}
use Rattle.cl_nodes.specs.Sound.{IsSound}
use Rattle.cl_audit_steps.specs.declared.scope.Contract.{Contract as ContractOfCode}
use Rattle.cl_audit_steps.specs.Seen.{contracts_seen}
use Rattle.cl_audit_walk.specs.declared.cursor.Cursor.{Cursor}
use Rattle.cl_audit_walk.specs.declared.run.Run.{Run}
use Rattle.cl_audit_deploy.specs.Deploying.{without_values}

-- the checked contracts are those of these forms, of which the checker keeps no values of constants
pub record AreThose (texts : List ContractOfCode) (deployed : DeployedOfCode) : Type 0 where
  pub same : map without_values (contracts_seen texts) ≡ deployed_seen deployed

-- what contracts see at a height
abbrev pub seen_of : Run → List ContractOfCode → ℕ → Seen
seen_of run texts height = seen run.world.stack.top (contracts_seen texts) height

-- the contracts were accepted, the top state is kept, and the parts of the entry are within their limits
pub record IsReady (run : Run) (texts : List ContractOfCode) (deployed : DeployedOfCode) (height : ℕ) (entry : Entry) : Type 0 where
  pub those : AreThose texts deployed
  pub sound : IsSound deployed.contracts (seen_of run texts height)
  pub parts : HasParts entry

-- no claim was looked at
pub record IsFresh (c : Cursor) : Type 0 where
  pub first : c.at ≡ 0
  pub agreed : c.differs ≡ false

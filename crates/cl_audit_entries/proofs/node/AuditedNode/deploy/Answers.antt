use Rattle.std.specs.Prelude.{IfOk}
use Rattle.std.proofs.Common.{List, sym, ap, subst}
use Rattle.cl_costs.specs.Tables.{function_of}
use Rattle.cl_contracts.specs.declared.deployed.Deployed.{Deployed}
use Rattle.cl_file.specs.declared.entry.Entry.{Entry}
use Rattle.cl_nodes.specs.Asked.{deployment_entry}
use Rattle.cl_nodes.specs.Seen.{Seen, seen}
use Rattle.cl_nodes.specs.Sound.{IsSound}
use Rattle.cl_nodes.specs.Steps.{Makes}
use Rattle.cl_nodes.proofs.Nodes.{all_made, sound_still}
use Rattle.cl_audit_steps.specs.Seen.{contracts_seen}
use Rattle.cl_audit_walk.specs.declared.cursor.Claim.{Claim}
use Rattle.cl_audit_entries.specs.Agreeing.{AgreesWith}
use Rattle.cl_audit_entries.specs.Seen.{AreThose}
use Rattle.cl_audit_entries.proofs.Stepping.{all_agree, those_still, unchanged_so}
use Rattle.cl_audit_entries.proofs.node.AuditedNode.deploy.Goals as goal

pub invariant_of-self-2 : goal.invariant_of-self-2
invariant_of-self-2 c =
    let n = c.self.inside in
    let d : Deployed = c.reprice.new.self.deployed in
    let before : Seen = seen n.run.world.stack.top (contracts_seen n.texts.contracts) n.height in
    let after : Seen = seen c.deploy.new.run.world.stack.top (contracts_seen c.deploy.new.texts.contracts) n.height in
    let sound : IsSound d.contracts before = subst (λ (e : Deployed). IsSound e.contracts before) (sym c.in_ok-reprice.ensures.same) c.self.invariant.sound in
    record {
      base = c.deploy.ensures.base;
      whole = c.deploy.ensures.whole;
      those = those_still c.deploy.result (record n.run { cursor = c.new-self-inside.result }) c.deploy.new.run n.texts.contracts c.deploy.new.texts.contracts c.reprice.new.self c.deploy.new.contracts c.deploy.ensures.those c.deploy.ensures.refused
          (subst (λ (e : Deployed). AreThose n.texts.contracts e) (sym c.in_ok-reprice.ensures.same) c.self.invariant.those);
      sound = sound_still c.args.costs.now d.contracts c.deploy.new.contracts.deployed.contracts before after (deployment_entry c.args.deployment.now) (function_of c.at-table.result.now) (ap function_of c.at-table.ensures) sound c.requires
          (λ a. a.result) c.nodes_stay_sound.ensures.stay c.deploy.result c.deploy.ensures.steps (unchanged_so c.deploy.result (record n.run { cursor = c.new-self-inside.result }) c.deploy.new.run n.texts.contracts c.deploy.new.texts.contracts c.reprice.new.self c.deploy.new.contracts n.height c.deploy.ensures.refused);
    }

pub returns-clause-steps : goal.returns-clause-steps
returns-clause-steps c =
    let n = c.self.inside in
    let d : Deployed = c.reprice.new.self.deployed in
    let before : Seen = seen n.run.world.stack.top (contracts_seen n.texts.contracts) n.height in
    let after : Seen = seen c.deploy.new.run.world.stack.top (contracts_seen c.deploy.new.texts.contracts) n.height in
    let entry : Entry = deployment_entry c.args.deployment.now in
    let sound : IsSound d.contracts before = subst (λ (e : Deployed). IsSound e.contracts before) (sym c.in_ok-reprice.ensures.same) c.self.invariant.sound in
    subst (λ (m : Seen). IfOk c.deploy.result (λ a. Makes c.args.costs.now m entry a.result after)) c.self.view_is
    (all_made c.args.costs.now d.contracts c.deploy.new.contracts.deployed.contracts before after entry (function_of c.at-table.result.now) (ap function_of c.at-table.ensures) sound c.requires (λ a. a.result) c.deploy.result c.deploy.ensures.steps)

pub returns-clause-agrees : goal.returns-clause-agrees
returns-clause-agrees c =
    let n = c.self.inside in
    let d : Deployed = c.reprice.new.self.deployed in
    let before : Seen = seen n.run.world.stack.top (contracts_seen n.texts.contracts) n.height in
    let entry : Entry = deployment_entry c.args.deployment.now in
    let sound : IsSound d.contracts before = subst (λ (e : Deployed). IsSound e.contracts before) (sym c.in_ok-reprice.ensures.same) c.self.invariant.sound in
    subst (λ (m : Seen × List Claim). IfOk c.deploy.result (λ a. AgreesWith c.args.costs.now m.0 entry a.result.outcome m.1 a.agreement)) (λ i. (c.self.view_is i, c.new-self-inside.ensures.claims i))
    (all_agree c.args.costs.now d.contracts before entry (function_of c.at-table.result.now) (ap function_of c.at-table.ensures) sound c.new-self-inside.result.claims.now c.deploy.result c.deploy.ensures.agrees)

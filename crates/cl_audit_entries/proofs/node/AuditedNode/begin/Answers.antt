use Rattle.std.proofs.Common.{List, [], sym, ap, subst, ◌∙◌}
use Rattle.cl_contracts.specs.declared.deployed.Deployed.{Deployed}
use Rattle.cl_file.specs.declared.entry.Entry.TheVariants.{Block as ABlock}
use Rattle.cl_tx.specs.declared.outcome.TxResult.{TxResult}
use Rattle.cl_nodes.specs.Seen.{Seen, seen}
use Rattle.cl_nodes.specs.Sound.{IsSound}
use Rattle.cl_nodes.specs.Steps.{Makes}
use Rattle.cl_audit_steps.specs.Seen.{contracts_seen}
use Rattle.cl_audit_walk.specs.declared.cursor.Claim.{Claim}
use Rattle.cl_audit.specs.Agrees.{IsAgreement}
use Rattle.cl_audit_entries.specs.Agreeing.{AgreesWith}
use Rattle.cl_audit_entries.specs.Seen.{AreThose}
use Rattle.cl_audit_entries.proofs.Stepping.{at_height, block_agrees, block_made, block_sound, lines_are}
use Rattle.cl_audit_entries.proofs.node.AuditedNode.begin.Goals as goal

pub invariant_of-self-2 : goal.invariant_of-self-2
invariant_of-self-2 c =
    let n = c.self.inside in
    let before : Seen = seen n.run.world.stack.top (contracts_seen n.texts.contracts) n.height in
    let lines = lines_are c.args.costs.now n.contracts before c.args.height c.self.invariant.sound c.self.invariant.those.same c.in_ok-lines.lines.items c.in_ok-lines.ensures.lines in
    record {
      base = c.self.invariant.base;
      whole = c.rebounds_at.ensures.whole;
      those = subst (λ (e : Deployed). AreThose n.texts.contracts e) (sym c.rebounds_at.ensures.same) c.self.invariant.those;
      sound = subst (λ (e : Deployed). IsSound e.contracts (at_height c.args.height before)) (sym c.rebounds_at.ensures.same)
          (block_sound c.args.costs.now n.contracts before c.args.height c.self.invariant.sound c.in_ok-lines.lines.items c.block_begun.result c.block_begun.ensures lines c.nodes_stay_sound.ensures.stay c.requires);
    }

pub returns-clause-steps : goal.returns-clause-steps
returns-clause-steps c =
    let n = c.self.inside in
    let before : Seen = seen n.run.world.stack.top (contracts_seen n.texts.contracts) n.height in
    let lines = lines_are c.args.costs.now n.contracts before c.args.height c.self.invariant.sound c.self.invariant.those.same c.in_ok-lines.lines.items c.in_ok-lines.ensures.lines in
    subst (λ (m : TxResult × Seen). Makes c.args.costs.now m.1 (ABlock c.args.height) m.0 (at_height c.args.height before)) (λ i. (sym c.of_nothing.ensures.given i, c.self.view_is i))
    (block_made c.args.costs.now n.contracts before c.args.height c.self.invariant.sound c.in_ok-lines.lines.items c.block_begun.result c.block_begun.ensures lines)

pub returns-clause-agrees : goal.returns-clause-agrees
returns-clause-agrees c =
    let n = c.self.inside in
    let before : Seen = seen n.run.world.stack.top (contracts_seen n.texts.contracts) n.height in
    subst (λ (m : Seen). AgreesWith c.args.costs.now m (ABlock c.args.height) c.of_nothing.result.result.outcome c.args.claims.now c.of_nothing.result.agreement) c.self.view_is
    (block_agrees c.args.costs.now n.contracts before c.args.height c.self.invariant.sound c.args.claims.now c.of_nothing.result.agreement c.of_nothing.result.result.outcome
    (ap (λ (r : TxResult). r.outcome) (c.of_nothing.ensures.given ∙ c.block_begun.ensures))
    (subst (λ (cs : List Claim). IsAgreement [] cs c.of_nothing.result.agreement) c.new-self-inside.ensures.claims c.of_nothing.ensures.agrees))

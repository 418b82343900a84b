use Rattle.std.proofs.Common.{Ok, refl, sym, ap, subst}
use Rattle.cl_contracts.specs.Seen.{deployed_seen}
use Rattle.cl_file.specs.declared.entry.Entry.TheVariants.{Block}
use Rattle.cl_tx.specs.declared.outcome.TxResult.{TxResult}
use Rattle.cl_nodes.specs.Seen.{Seen, node_with, seen}
use Rattle.cl_engine.specs.Steps.{MakesSafely}
use Rattle.cl_engine.specs.Traces.{Sees}
use Rattle.cl_engine.proofs.Blocks.{block_safely}
use Rattle.cl_engine.proofs.Tracing.{sees_block}
use Rattle.cl_engine.proofs.node.Node.begin.Goals as goal

pub returns-clause-made : goal.returns-clause-made
returns-clause-made c =
    let n = c.self.inside in
    let before : Seen = seen n.world.stack.top (deployed_seen n.contracts.deployed) n.height in
    let lines = c.in_ok-lines.ensures.lines (node_with c.self.invariant.sound.known before) refl c.self.invariant.sound.is_sound.trees refl in
    let after : Seen = seen n.world.stack.top (deployed_seen c.rebounds_at.new.self.deployed) c.args.height in
    subst (λ (m : Seen × Seen). MakesSafely c.args.costs.now m.0 (Block c.args.height) c.block_begun.result m.1)
    (λ i. (c.self.view_is i, seen n.world.stack.top (deployed_seen (sym c.rebounds_at.ensures.same i)) c.args.height))
    (block_safely c.args.costs.now n.contracts.deployed.contracts before c.args.height c.self.invariant.sound c.in_ok-lines.lines.items c.block_begun.result c.block_begun.ensures lines)

pub returns-clause-seen : goal.returns-clause-seen
returns-clause-seen c = λ w.
    let n = c.self.inside in
    let before : Seen = seen n.world.stack.top (deployed_seen n.contracts.deployed) n.height in
    subst (λ (b : Seen). Sees c.args.costs.now b (Block c.args.height) (Ok c.block_begun.result) w w) c.self.view_is
    (sees_block c.args.costs.now n.contracts.deployed.contracts before (Block c.args.height) c.self.invariant.sound c.args.height refl (Ok c.block_begun.result) (ap (λ (z : TxResult). z.outcome) c.block_begun.ensures) w)

use Rattle.std.proofs.Common.{◌<◌, Bool, List, ap, sym, subst, arith}
use Rattle.std.specs.Prelude.{◌||◌}
use Rattle.cl_rules.specs.Acceptance.{calls_public}
use Rattle.cl_code.specs.Typed.{Typed, typeds, weight_of, weights_of}
use Rattle.cl_code.proofs.Weights.{part_falls}
use Rattle.cl_contracts.specs.Standing.{StandAll}
use Rattle.cl_readonly.proofs.Walking.{Tells, TellsAll, one_gone, found_one, all_gone, none_gone, tree_tells, tree_writes_here}
use Rattle.cl_readonly.proofs.walk.+writing.Goals as goal

pub tree_writes-returns-then-node_writes : goal.tree_writes-returns-then-node_writes
tree_writes-returns-then-node_writes t c known G B f knows own stands =
    tree_writes_here c.args.writing.now.keys (calls_public known c.args.own.now) G B f c.code.inside.op c.code.inside.parts.items c.code.inside.span c.code.inside.ty c.args.code.now own c.code.invariant.fit c.code.view_is stands
    (c.if-node_writes.ensures known knows)

pub tree_writes-returns : goal.tree_writes-returns
tree_writes-returns t c known G B f knows own stands =
    subst (Tells c.args.writing.now.keys (calls_public known c.args.own.now) G c.args.code.now) (ap (λ (b : Bool). b || c.any_writes.result) c.if-node_writes.false)
    (tree_tells c.args.writing.now.keys (calls_public known c.args.own.now) G B f c.code.inside.op c.code.inside.parts.items c.code.inside.span c.code.inside.ty c.args.code.now c.node_writes.result c.any_writes.result own c.code.invariant.fit c.code.view_is stands
    (c.node_writes.ensures known knows)
    (λ p gs s. subst (λ (qs : List Typed). TellsAll c.args.writing.now.keys (calls_public known c.args.own.now) G qs c.any_writes.result) c.deref.ensures.value
    (c.any_writes.ensures known G p gs knows own (subst (λ (qs : List Typed). StandAll G p (typeds qs) gs) (sym c.deref.ensures.value) s))))

pub any_writes-tree_writes-requires : goal.any_writes-tree_writes-requires
any_writes-tree_writes-requires t c =
    let less : weight_of c.part-item.result < weights_of (typeds c.args.parts.now) = part_falls c.args.parts.now c.loop-part.part-index c.part-item.result c.loop-part-test.true (sym c.part-item.is) in
    (omega (arith, less, c.decreases), tt)

pub any_writes-loop-part-init : goal.any_writes-loop-part-init
any_writes-loop-part-init t c known G knows own = none_gone c.args.writing.now.keys (calls_public known c.args.own.now) G c.args.parts.now

pub any_writes-loop-part-preserved : goal.any_writes-loop-part-preserved
any_writes-loop-part-preserved t c known G knows own =
    one_gone c.args.writing.now.keys (calls_public known c.args.own.now) G c.args.parts.now c.loop-part.part-index c.part-item.result c.tree_writes.result c.loop-part-test.true (sym c.part-item.is)
    (λ B f s. c.tree_writes.ensures known G B f knows own s) (c.loop-part.invariant known G knows own) c.if-tree_writes.false

pub any_writes-returns-then-tree_writes : goal.any_writes-returns-then-tree_writes
any_writes-returns-then-tree_writes t c known G p fs knows own stands =
    found_one c.args.writing.now.keys (calls_public known c.args.own.now) G c.args.parts.now c.loop-part.part-index c.part-item.result c.tree_writes.result c.loop-part-test.true (sym c.part-item.is)
    (λ B f s. c.tree_writes.ensures known G B f knows own s) (c.loop-part.invariant known G knows own) c.if-tree_writes.true p fs stands

pub any_writes-returns : goal.any_writes-returns
any_writes-returns t c known G p fs knows own stands =
    all_gone c.args.writing.now.keys (calls_public known c.args.own.now) G c.args.parts.now c.loop-part.part-index c.loop-part-test.false (c.loop-part.invariant known G knows own) p fs stands

use Rattle.std.proofs.Common.{ℕ, List, arith, ap, ◌∙◌}
use Rattle.std.proofs.lemmas.List.{take_all}
use Rattle.cl_sexpr.specs.Tree.{Tree, tree_size}
use Rattle.cl_sexpr.specs.ViewFalls.{part_falls, pair_falls}
use Rattle.cl_sexpr.proofs.sexpr.+copy.Goals as goal
use Rattle.cl_types.proofs.Copies.{copied}

pub copy_all-loop-item-preserved : goal.copy_all-loop-item-preserved
copy_all-loop-item-preserved t c =
    c.in_ok-push.ensures.items
    ∙ copied c.args.items.now c.loop-item.copies.items c.loop-item.item-index c.item-item.result c.in_ok-copy.field-0 c.loop-item-test.true c.item-item.is c.loop-item.invariant c.in_ok-copy.ensures

pub copy_all-returns : goal.copy_all-returns
copy_all-returns t c = c.loop-item.invariant ∙ take_all c.loop-item.item-index c.args.items.now c.loop-item-test.false

pub copy_pairs-loop-pair-preserved : goal.copy_pairs-loop-pair-preserved
copy_pairs-loop-pair-preserved t c =
    c.in_ok-push.ensures.items
    ∙ copied c.args.pairs.now c.loop-pair.copies.items c.loop-pair.pair-index c.pair-item.result (c.pair-item.result.0, c.in_ok-copy.field-0) c.loop-pair-test.true c.pair-item.is c.loop-pair.invariant (ap (λ (v : Tree). (c.pair-item.result.0, v)) c.in_ok-copy.ensures)

pub copy_pairs-returns : goal.copy_pairs-returns
copy_pairs-returns t c = c.loop-pair.invariant ∙ take_all c.loop-pair.pair-index c.args.pairs.now c.loop-pair-test.false

pub copy_all-copy-requires : goal.copy_all-copy-requires
copy_all-copy-requires t c =
    (omega (arith, part_falls c.args.items.now c.loop-item.item-index c.item-item.result c.loop-item-test.true, ap tree_size c.item-item.is, c.decreases), tt)

pub copy_pairs-copy-requires : goal.copy_pairs-copy-requires
copy_pairs-copy-requires t c =
    (omega (arith, pair_falls c.args.pairs.now c.loop-pair.pair-index c.pair-item.result c.loop-pair-test.true, ap (λ (p : List ℕ × Tree). tree_size p.1) c.pair-item.is, c.decreases), tt)

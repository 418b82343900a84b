use Rattle.std.proofs.Common.{ℕ, List, arith, ap}
use Rattle.std.proofs.lemmas.List.{drop_all}
use Rattle.cl_values.specs.Tree.{Tree, items_of, entries_of, items_depth, entries_depth}
use Rattle.cl_values.specs.ViewFalls.{item_lighter, entry_falls}
use Rattle.cl_values.specs.Rows.{items_at, entries_at}
use Rattle.cl_values.proofs.depth.+depth.Goals as goal

pub items_depth-depth_of-requires : goal.items_depth-depth_of-requires
items_depth-depth_of-requires t c =
    (omega (arith, item_lighter c.args.values.now c.loop-value.value-index c.value-item.result c.loop-value-test.true c.value-item.is, c.decreases), omega (arith, ap items_depth (items_at c.args.values.now c.loop-value.value-index c.value-item.result c.loop-value-test.true c.value-item.is), c.loop-value.invariant, c.requires))

pub items_depth-loop-value-preserved : goal.items_depth-loop-value-preserved
items_depth-loop-value-preserved t c = omega (arith, ap items_depth (items_at c.args.values.now c.loop-value.value-index c.value-item.result c.loop-value-test.true c.value-item.is), c.loop-value.invariant)

pub items_depth-returns : goal.items_depth-returns
items_depth-returns t c =
    omega (arith, ap (λ (x : List Tree). items_depth (items_of x)) (drop_all c.loop-value.value-index c.args.values.now c.loop-value-test.false), c.loop-value.invariant)

pub entries_depth-depth_of-requires : goal.entries_depth-depth_of-requires
entries_depth-depth_of-requires t c =
    (omega (arith, entry_falls c.args.entries.now c.loop-entry.entry-index c.entry-item.result c.loop-entry-test.true c.entry-item.is, c.decreases), omega (arith, ap entries_depth (entries_at c.args.entries.now c.loop-entry.entry-index c.entry-item.result c.loop-entry-test.true c.entry-item.is), c.loop-entry.invariant, c.requires))

pub entries_depth-loop-entry-preserved : goal.entries_depth-loop-entry-preserved
entries_depth-loop-entry-preserved t c = omega (arith, ap entries_depth (entries_at c.args.entries.now c.loop-entry.entry-index c.entry-item.result c.loop-entry-test.true c.entry-item.is), c.loop-entry.invariant)

pub entries_depth-returns : goal.entries_depth-returns
entries_depth-returns t c =
    omega (arith, ap (λ (x : List (List ℕ × Tree)). entries_depth (entries_of x)) (drop_all c.loop-entry.entry-index c.args.entries.now c.loop-entry-test.false), c.loop-entry.invariant)

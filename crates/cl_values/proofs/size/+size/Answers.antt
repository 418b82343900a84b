use Rattle.std.proofs.Common.{ℕ, List, arith, ap, sym, subst}
use Rattle.std.proofs.lemmas.List.{drop_all}
use Rattle.cl_values.specs.Tree.{Tree, items_of, entries_of}
use Rattle.cl_values.specs.Wire.{items_size, entries_size}
use Rattle.cl_values.specs.Valid.{ItemsInRange, EntriesInRange}
use Rattle.cl_values.specs.ViewFalls.{item_lighter, entry_falls}
use Rattle.cl_values.specs.Rows.{items_at, entries_at}
use Rattle.cl_values.proofs.size.+size.Goals as goal

pub items_size-size_up_to-requires : goal.items_size-size_up_to-requires
items_size-size_up_to-requires t c = (omega (arith, item_lighter c.args.values.now c.loop-value.value-index c.value-item.result c.loop-value-test.true c.value-item.is, c.decreases), tt)

pub items_size-loop-value-preserved : goal.items_size-loop-value-preserved
items_size-loop-value-preserved t c = record {
  counted = omega (arith, ap items_size (items_at c.args.values.now c.loop-value.value-index c.value-item.result c.loop-value-test.true c.value-item.is), c.loop-value.invariant.counted, c.loop-value.invariant.within);
  within = omega arith;
  ranges = λ h. c.loop-value.invariant.ranges (subst ItemsInRange (sym (items_at c.args.values.now c.loop-value.value-index c.value-item.result c.loop-value-test.true c.value-item.is)) (c.size_up_to.ensures.ranges, h));
}

pub items_size-returns-clause-counted : goal.items_size-returns-clause-counted
items_size-returns-clause-counted t c =
    omega (arith, ap (λ (x : List Tree). items_size (items_of x)) (drop_all c.loop-value.value-index c.args.values.now c.loop-value-test.false), c.loop-value.invariant.counted, c.loop-value.invariant.within)

pub items_size-returns-clause-ranges : goal.items_size-returns-clause-ranges
items_size-returns-clause-ranges t c =
    c.loop-value.invariant.ranges (subst (λ (x : List Tree). ItemsInRange (items_of x)) (sym (drop_all c.loop-value.value-index c.args.values.now c.loop-value-test.false)) tt)

pub entries_size-size_up_to-inner-requires : goal.entries_size-size_up_to-inner-requires
entries_size-size_up_to-inner-requires t c = (omega (arith, entry_falls c.args.entries.now c.loop-entry.entry-index c.entry-item.result c.loop-entry-test.true c.entry-item.is, c.decreases), tt)

pub entries_size-loop-entry-preserved : goal.entries_size-loop-entry-preserved
entries_size-loop-entry-preserved t c = record {
  counted = omega (arith, ap entries_size (entries_at c.args.entries.now c.loop-entry.entry-index c.entry-item.result c.loop-entry-test.true c.entry-item.is), c.loop-entry.invariant.counted, c.loop-entry.invariant.within);
  within = omega arith;
  ranges = λ h. c.loop-entry.invariant.ranges (subst EntriesInRange (sym (entries_at c.args.entries.now c.loop-entry.entry-index c.entry-item.result c.loop-entry-test.true c.entry-item.is)) (c.name_size.ensures.ranges, c.size_up_to-inner.ensures.ranges, h));
}

pub entries_size-returns-clause-counted : goal.entries_size-returns-clause-counted
entries_size-returns-clause-counted t c =
    omega (arith, ap (λ (x : List (List ℕ × Tree)). entries_size (entries_of x)) (drop_all c.loop-entry.entry-index c.args.entries.now c.loop-entry-test.false), c.loop-entry.invariant.counted, c.loop-entry.invariant.within)

pub entries_size-returns-clause-ranges : goal.entries_size-returns-clause-ranges
entries_size-returns-clause-ranges t c =
    c.loop-entry.invariant.ranges (subst (λ (x : List (List ℕ × Tree)). EntriesInRange (entries_of x)) (sym (drop_all c.loop-entry.entry-index c.args.entries.now c.loop-entry-test.false)) tt)

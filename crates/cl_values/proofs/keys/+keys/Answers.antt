use Rattle.std.proofs.Common.{ℕ, ◌+◌, ◌&&◌, Bool, List, drop, arith, ap, sym, ◌∙◌}
use Rattle.std.proofs.lemmas.List.{drop_all}
use Rattle.cl_values.specs.Tree.{Tree, items_of, entries_of}
use Rattle.cl_values.specs.ViewFalls.{item_lighter, entry_falls}
use Rattle.cl_values.specs.Rows.{items_at, entries_at}
use Rattle.cl_values.specs.Valid.{items_have_rising_keys, entries_have_rising_keys}
use Rattle.cl_values.proofs.keys.+keys.Goals as goal

pub items_have_rising_keys-has_rising_keys-requires : goal.items_have_rising_keys-has_rising_keys-requires
items_have_rising_keys-has_rising_keys-requires t c = (omega (arith, item_lighter c.args.values.now c.loop-value.value-index c.value-item.result c.loop-value-test.true c.value-item.is, c.decreases), tt)

pub items_have_rising_keys-returns-then-not-has_rising_keys : goal.items_have_rising_keys-returns-then-not-has_rising_keys
items_have_rising_keys-returns-then-not-has_rising_keys t c =
    sym (c.loop-value.invariant ∙ ap items_have_rising_keys (items_at c.args.values.now c.loop-value.value-index c.value-item.result c.loop-value-test.true c.value-item.is) ∙ ap (λ (b : Bool). b && items_have_rising_keys (items_of (drop (c.loop-value.value-index + 1) c.args.values.now))) (sym c.has_rising_keys.ensures ∙ c.if-not-has_rising_keys.true))

pub items_have_rising_keys-loop-value-preserved : goal.items_have_rising_keys-loop-value-preserved
items_have_rising_keys-loop-value-preserved t c =
    c.loop-value.invariant ∙ ap items_have_rising_keys (items_at c.args.values.now c.loop-value.value-index c.value-item.result c.loop-value-test.true c.value-item.is) ∙ ap (λ (b : Bool). b && items_have_rising_keys (items_of (drop (c.loop-value.value-index + 1) c.args.values.now))) (sym c.has_rising_keys.ensures ∙ c.if-not-has_rising_keys.false)

pub items_have_rising_keys-returns : goal.items_have_rising_keys-returns
items_have_rising_keys-returns t c =
    sym (c.loop-value.invariant ∙ ap (λ (x : List Tree). items_have_rising_keys (items_of x)) (drop_all c.loop-value.value-index c.args.values.now c.loop-value-test.false))

pub entries_have_rising_keys-has_rising_keys-requires : goal.entries_have_rising_keys-has_rising_keys-requires
entries_have_rising_keys-has_rising_keys-requires t c = (omega (arith, entry_falls c.args.entries.now c.loop-entry.entry-index c.entry-item.result c.loop-entry-test.true c.entry-item.is, c.decreases), tt)

pub entries_have_rising_keys-returns-then-not-has_rising_keys : goal.entries_have_rising_keys-returns-then-not-has_rising_keys
entries_have_rising_keys-returns-then-not-has_rising_keys t c =
    sym (c.loop-entry.invariant ∙ ap entries_have_rising_keys (entries_at c.args.entries.now c.loop-entry.entry-index c.entry-item.result c.loop-entry-test.true c.entry-item.is) ∙ ap (λ (b : Bool). b && entries_have_rising_keys (entries_of (drop (c.loop-entry.entry-index + 1) c.args.entries.now))) (sym c.has_rising_keys.ensures ∙ c.if-not-has_rising_keys.true))

pub entries_have_rising_keys-loop-entry-preserved : goal.entries_have_rising_keys-loop-entry-preserved
entries_have_rising_keys-loop-entry-preserved t c =
    c.loop-entry.invariant ∙ ap entries_have_rising_keys (entries_at c.args.entries.now c.loop-entry.entry-index c.entry-item.result c.loop-entry-test.true c.entry-item.is) ∙ ap (λ (b : Bool). b && entries_have_rising_keys (entries_of (drop (c.loop-entry.entry-index + 1) c.args.entries.now))) (sym c.has_rising_keys.ensures ∙ c.if-not-has_rising_keys.false)

pub entries_have_rising_keys-returns : goal.entries_have_rising_keys-returns
entries_have_rising_keys-returns t c =
    sym (c.loop-entry.invariant ∙ ap (λ (x : List (List ℕ × Tree)). entries_have_rising_keys (entries_of x)) (drop_all c.loop-entry.entry-index c.args.entries.now c.loop-entry-test.false))

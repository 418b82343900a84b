use Rattle.std.proofs.Common.{◌+◌, ◌&&◌, Bool, true, List, ℕ, drop, ap, sym, ◌∙◌}
use Rattle.std.proofs.lemmas.List.{drop_all}
use Rattle.cl_values.specs.Rows.{entries_at}
use Rattle.cl_values.specs.Tree.{Tree, entries_of}
use Rattle.cl_values.specs.Valid.{rises_from}
use Rattle.cl_values.proofs.keys.do_rise.Goals as goal

pub returns-then-not-is_below : goal.returns-then-not-is_below
returns-then-not-is_below c =
    let rest : Bool = rises_from c.entry-item.result.0 (entries_of (drop (c.loop-entry.entry-index + 1) c.in-Some.rest.now)) in
    sym (c.loop-entry.invariant ∙ ap (rises_from c.loop-entry.last.now) (entries_at c.in-Some.rest.now c.loop-entry.entry-index c.entry-item.result c.loop-entry-test.true c.entry-item.is) ∙ ap (λ (b : Bool). b && rest) (sym c.is_below.ensures ∙ c.if-not-is_below.true))

pub loop-entry-preserved : goal.loop-entry-preserved
loop-entry-preserved c =
    let rest : Bool = rises_from c.entry-item.result.0 (entries_of (drop (c.loop-entry.entry-index + 1) c.in-Some.rest.now)) in
    c.loop-entry.invariant ∙ ap (rises_from c.loop-entry.last.now) (entries_at c.in-Some.rest.now c.loop-entry.entry-index c.entry-item.result c.loop-entry-test.true c.entry-item.is) ∙ ap (λ (b : Bool). b && rest) (sym c.is_below.ensures ∙ c.if-not-is_below.false)

pub returns : goal.returns
returns c =
    sym (c.loop-entry.invariant ∙ ap (λ (row : List (List ℕ × Tree)). rises_from c.loop-entry.last.now (entries_of row)) (drop_all c.loop-entry.entry-index c.in-Some.rest.now c.loop-entry-test.false))

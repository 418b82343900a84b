use Rattle.std.proofs.Common.{ap, sym, ◌∙◌}
use Rattle.cl_values.specs.Sequences.{equal}
use Rattle.cl_seq.proofs.FirstPlaces.{find_here, find_on, find_end}
use Rattle.cl_seq.proofs.Singles.{item_of_list}
use Rattle.cl_seq.proofs.finding.list_place.Goals as goal

pub are_alike-requires-clause-first : goal.are_alike-requires-clause-first
are_alike-requires-clause-first c = item_of_list c.args.values.now c.loop-i.i c.index-values-i.result c.requires c.loop-i-test.true c.index-values-i.is

pub returns-then-are_alike : goal.returns-then-are_alike
returns-then-are_alike c =
    sym (c.loop-i.invariant ∙ find_here c.args.item.now c.args.values.now c.loop-i.i c.index-values-i.result c.loop-i-test.true c.index-values-i.is (sym c.if-are_alike.true ∙ c.are_alike.ensures ∙ ap (equal c.index-values-i.result) c.value.ensures.tree))

pub loop-i-preserved : goal.loop-i-preserved
loop-i-preserved c =
    c.loop-i.invariant ∙ find_on c.args.item.now c.args.values.now c.loop-i.i c.index-values-i.result c.loop-i-test.true c.index-values-i.is (sym c.if-are_alike.false ∙ c.are_alike.ensures ∙ ap (equal c.index-values-i.result) c.value.ensures.tree)

pub returns : goal.returns
returns c = sym (c.loop-i.invariant ∙ find_end c.args.item.now c.args.values.now c.loop-i.i c.loop-i-test.false)

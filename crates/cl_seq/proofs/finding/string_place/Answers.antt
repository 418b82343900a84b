use Rattle.std.proofs.Common.{sym, ◌∙◌, arith}
use Rattle.cl_values.specs.Tree.{Utf8V}
use Rattle.cl_seq.proofs.FirstPlaces.{single_here, single_on, single_end}
use Rattle.cl_seq.proofs.finding.string_place.Goals as goal

pub returns-then-is_string_of : goal.returns-then-is_string_of
returns-then-is_string_of c =
    sym (c.loop-i.invariant ∙ single_here c.args.item.now Utf8V c.args.characters.now c.loop-i.i c.index-characters-i.result c.loop-i-test.true c.index-characters-i.is (sym c.if-is_string_of.true ∙ c.is_string_of.ensures))

pub loop-i-preserved : goal.loop-i-preserved
loop-i-preserved c =
    c.loop-i.invariant ∙ single_on c.args.item.now Utf8V c.args.characters.now c.loop-i.i c.index-characters-i.result c.loop-i-test.true c.index-characters-i.is (sym c.if-is_string_of.false ∙ c.is_string_of.ensures)

pub returns : goal.returns
returns c = sym (c.loop-i.invariant ∙ single_end c.args.item.now Utf8V c.args.characters.now c.loop-i.i (omega (arith, c.loop-i-test.false)))

use Rattle.std.proofs.Common.{get_or, sym, ◌∙◌, arith}
use Rattle.cl_values.specs.Tree.{AsciiV}
use Rattle.cl_seq.proofs.FirstPlaces.{single_here, single_on, single_end, default_there}
use Rattle.cl_seq.proofs.finding.text_place.Goals as goal

pub returns-then-is_text_of : goal.returns-then-is_text_of
returns-then-is_text_of c =
    sym (c.loop-i.invariant ∙ single_here c.args.item.now AsciiV c.args.bytes.now c.loop-i.i (get_or c.args.bytes.now c.loop-i.i 0) c.loop-i-test.true (default_there c.args.bytes.now c.loop-i.i c.loop-i-test.true) (sym c.if-is_text_of.true ∙ c.is_text_of.ensures))

pub loop-i-preserved : goal.loop-i-preserved
loop-i-preserved c =
    c.loop-i.invariant ∙ single_on c.args.item.now AsciiV c.args.bytes.now c.loop-i.i (get_or c.args.bytes.now c.loop-i.i 0) c.loop-i-test.true (default_there c.args.bytes.now c.loop-i.i c.loop-i-test.true) (sym c.if-is_text_of.false ∙ c.is_text_of.ensures)

pub returns : goal.returns
returns c = sym (c.loop-i.invariant ∙ single_end c.args.item.now AsciiV c.args.bytes.now c.loop-i.i (omega (arith, c.loop-i-test.false)))

use Rattle.std.proofs.Common.{Some, refl, sym, ap, ◌∙◌}
use Rattle.cl_file.proofs.Literals.{literal_end, literal_next}
use Rattle.cl_file.proofs.literal.literals_in.Goals as goal

pub loop-i-init : goal.loop-i-init
loop-i-init c v = rw c.new-values.ensures.items refl

pub loop-i-preserved : goal.loop-i-preserved
loop-i-preserved c v =
    rw c.in_ok-push.ensures.items
    (sym (literal_next v.of c.loop-i.values.items c.args.list.now c.loop-i.i c.index-list-i.result c.in-Some.value c.loop-i-test.true c.index-list-i.is (c.in_ok-value.ensures v ∙ c.in-Some.is)) ∙ c.loop-i.invariant v)

pub returns : goal.returns
returns c v = sym (c.loop-i.invariant v) ∙ (literal_end v.of c.loop-i.values.items c.args.list.now c.loop-i.i c.loop-i-test.false ∙ ap Some (sym c.new.ensures))

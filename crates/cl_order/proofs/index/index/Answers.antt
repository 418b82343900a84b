use Rattle.cl_order.proofs.Indexed.{form_step, indexed}
use Rattle.cl_order.proofs.index.index.Goals as goal

pub loop-place-preserved : goal.loop-place-preserved
loop-place-preserved c x = form_step c.args.forms.now c.loop-place.place c.index-forms-place.result c.loop-place.index c.add_form.new.index x c.loop-place-test.true c.index-forms-place.is (c.loop-place.invariant x) (c.in_ok-add_form.ensures x)

pub returns : goal.returns
returns c = indexed c.args.forms.now c.loop-place.place c.loop-place.index c.loop-place-test.false c.loop-place.invariant

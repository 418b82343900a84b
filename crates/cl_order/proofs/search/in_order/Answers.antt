use Rattle.std.proofs.Common.{◌≡◌, sym, ap, ◌∙◌, ◌+◌, [], length, Err}
use Rattle.cl_types.proofs.Faults.{refused_so}
use Rattle.cl_forms.specs.Order.{visit, ordered}
use Rattle.cl_order.proofs.Stepping.{rest_of, all_left, one_visited, one_refused}
use Rattle.cl_order.proofs.search.in_order.Goals as goal

pub loop-place-init : goal.loop-place-init
loop-place-init c = record {
  sound = c.in_ok-search.ensures.sound;
  ended = c.in_ok-search.ensures.path;
  same = all_left c.args.forms.now ∙ ap (rest_of c.args.forms.now 0) (sym c.in_ok-search.ensures.done);
}

pub returns-in-Err-clause-cycle : goal.returns-in-Err-clause-cycle
returns-in-Err-clause-cycle c =
    refused_so c.in-Err.fault (λ cycle. visit (length c.args.forms.now + 1) c.args.forms.now [] c.loop-place.place c.loop-place.search.done.items ≡ Err cycle.items) (λ cycle. ordered c.args.forms.now ≡ Err cycle.items)
    (λ cycle h. c.loop-place.invariant.same ∙ one_refused c.args.forms.now c.loop-place.place c.loop-place.search.done.items cycle.items c.loop-place-test.true h) c.in-Err.ensures.cycle

pub loop-place-preserved : goal.loop-place-preserved
loop-place-preserved c = record {
  sound = c.in-Ok.ensures.visited.sound;
  ended = c.in-Ok.ensures.visited.ended;
  same = c.loop-place.invariant.same ∙ one_visited c.args.forms.now c.loop-place.place c.loop-place.search.done.items c.visit.new.self.done.items c.loop-place-test.true c.in-Ok.ensures.visited.is;
}

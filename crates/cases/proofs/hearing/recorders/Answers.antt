use Rattle.std.proofs.Common.{refl, [], ◌∷◌}
use Rattle.std.specs.List.{IsDistinct}
use Rattle.cl_listeners.specs.Hearing.{AreDistinct}
use Rattle.cases.proofs.hearing.recorders.Goals as goal

three_apart : AreDistinct (1 ∷ 2 ∷ 3 ∷ [])
unfolding IsDistinct
three_apart = ((refl, (refl, tt)), ((refl, tt), (tt, tt)))

pub new-requires : goal.new-requires
new-requires c = rw (c.in_ok-push-3.ensures.items, c.in_ok-push-2.ensures.items, c.in_ok-push.ensures.items, c.new-active.ensures.items) three_apart

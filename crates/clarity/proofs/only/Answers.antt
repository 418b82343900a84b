use Rattle.std.proofs.Common.{[], ◌∷◌}
use Rattle.std.specs.List.{IsDistinct}
use Rattle.cl_listeners.specs.Hearing.{AreDistinct}
use Rattle.clarity.proofs.only.Goals as goal

one_alone : AreDistinct (1 ∷ [])
unfolding IsDistinct
one_alone = (tt, tt)

pub new-requires : goal.new-requires
new-requires g c = rw (c.in_ok-push.ensures.items, c.new-active.ensures.items) one_alone

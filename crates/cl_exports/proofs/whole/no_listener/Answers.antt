use Rattle.std.proofs.Common.{[]}
use Rattle.std.specs.List.{IsDistinct}
use Rattle.cl_listeners.specs.Hearing.{AreDistinct}
use Rattle.cl_exports.proofs.whole.no_listener.Goals as goal

none_alike : AreDistinct []
unfolding IsDistinct
none_alike = tt

pub new-requires : goal.new-requires
new-requires c = rw c.new-active.ensures.items none_alike

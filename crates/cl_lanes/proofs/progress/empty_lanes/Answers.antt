use Rattle.std.proofs.Common.{List, ◌++◌, ◌∷◌, [], None, Option, ap, ◌∙◌}
use Rattle.cl_lanes.specs.declared.held.Held.{Held}
use Rattle.cl_lanes.proofs.LanesKept.{replicate_push}
use Rattle.cl_lanes.proofs.progress.empty_lanes.Goals as goal

pub loop-lane-preserved : goal.loop-lane-preserved
loop-lane-preserved c = c.in_ok-push.ensures.items ∙ ap (λ (held : List (Option Held)). held ++ None ∷ []) c.loop-lane.invariant ∙ replicate_push c.loop-lane.lane None

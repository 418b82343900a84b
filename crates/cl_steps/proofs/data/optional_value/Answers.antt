use Rattle.cl_values.specs.Computed.{Gives}
use Rattle.cl_frames.proofs.Laws
use Rattle.cl_steps.proofs.data.optional_value.Goals as goal

pub returns-in-Some : goal.returns-in-Some
returns-in-Some c =
    Laws.optional_some c.args.value c.in-Some.value _ c.in-Some.is (c.computed.ensures (Gives (Rattle.cl_values.specs.Tree.SomeV c.in-Some.value)) c.some.ensures)

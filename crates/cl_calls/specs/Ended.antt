-- What a form does that takes its parts one by one.
use Rattle.std.specs.Prelude.{Option, Some, None}
use Rattle.cl_values.specs.Tree.{Tree as Val}
use Rattle.cl_events.specs.State.{State}
use Rattle.cl_meaning.specs.Answers.{Answer, give}

-- it gives the value that it ends with, and takes more parts where it doesn't end
abbrev pub ended_or : Option Val → (State → Answer Val) → State → Answer Val
ended_or (Some v) more s = give v s
ended_or None more s = more s

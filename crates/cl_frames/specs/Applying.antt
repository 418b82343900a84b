-- What is given by name to be applied, and natives that are applied to values.
use Rattle.std.specs.Prelude.{ℕ, ◌&&◌, ◌||◌, Bool, true, false, List, length, Option, Some, None}
use Rattle.cl_shapes.specs.declared.name.CostName.TheVariants.{Control}
use Rattle.cl_sexpr.specs.declared.sexpr.Span.{Span}
use Rattle.cl_values.specs.Tree.{Tree as Val, BoolV}
use Rattle.cl_forms.specs.declared.head.Head.TheVariants as heads
use Rattle.cl_forms.specs.Heads.{row_of}
use Rattle.cl_forms.specs.HeadNames.{name_of}
use Rattle.cl_events.specs.State.{State}
use Rattle.cl_code.specs.declared.op.Applied.{Applied}
use Rattle.cl_code.specs.declared.op.Applied.TheVariants as given
use Rattle.cl_contracts.specs.Seen.{function_seen}
use Rattle.cl_meaning.specs.Answers.{Answer, charged}
use Rattle.cl_meaning.specs.Scope.{Callee, OwnFunction, ByName}
use Rattle.cl_meaning.specs.Calls.{truths, truth_value}
use Rattle.cl_frames.specs.declared.applied.ByName.{ByName as ByNameOfCode}
use Rattle.cl_frames.specs.declared.applied.ByName.TheVariants.{OnValues, And, Or}
use Rattle.cl_frames.specs.declared.applied.Called.{Called}
use Rattle.cl_frames.specs.declared.applied.Called.TheVariants.{Function, Native}

-- the name that is given
abbrev pub name_of_applied : Applied → List ℕ
name_of_applied (given.Function f) = f.name
name_of_applied (given.OnValues native at) = name_of (heads.OnValues native)
name_of_applied (given.And at) = name_of heads.And
name_of_applied (given.Or at) = name_of heads.Or

-- its place
abbrev pub place_of_applied : Applied → Span
place_of_applied (given.Function f) = f.span
place_of_applied (given.OnValues native at) = at
place_of_applied (given.And at) = at
place_of_applied (given.Or at) = at

abbrev pub by_name : ByNameOfCode → Callee
by_name (OnValues native at) = ByName (row_of (heads.OnValues native)) at
by_name (And at) = ByName (row_of heads.And) at
by_name (Or at) = ByName (row_of heads.Or) at

-- the place of its name
abbrev pub place_by_name : ByNameOfCode → Span
place_by_name (OnValues native at) = at
place_by_name (And at) = at
place_by_name (Or at) = at

abbrev pub callee_seen : Called → Callee
callee_seen (Function f) = OwnFunction (function_seen f.now)
callee_seen (Native n) = by_name n

abbrev pub truth_of : Val → Option Bool
truth_of (BoolV b) = Some b
truth_of v = None

-- and, or or
abbrev pub join : Bool → Bool → Bool → Bool
join true b c = b && c
join false b c = b || c

-- whether all of the values are true, or some of them; charged by their number
abbrev pub joined : Bool → List Val → State → Answer Val
joined all vs s = charged Control (length vs) (truth_value (truths (join all) all vs) s)

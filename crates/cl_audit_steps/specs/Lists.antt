-- A list of items: a native with its arguments, or a call of a function.
use Rattle.std.specs.Prelude.{ℕ, List, Option, Some, None}
use Rattle.cl_sexpr.specs.Tree.{Tree}
use Rattle.cl_events.specs.State.{State}
use Rattle.cl_values.specs.Tree.{Tree as Val}
use Rattle.cl_meaning.specs.Answers.{Answer, wrong}
use Rattle.cl_meaning.specs.Deployed.{native_of}
use Rattle.cl_meaning.specs.Scope.{Scope, Take, Enter, home}
use Rattle.cl_meaning.specs.Meaning.{operator}
use Rattle.cl_audit_steps.specs.Items.{headed}

abbrev pub listed : Take → Enter → Scope → Option (List ℕ × List Tree) → State → Answer Val
listed take enter S None s = wrong s
listed take enter S (Some p) s = operator (native_of p.0 (home S)) p.0 take enter S p.1 s

abbrev pub list_form : Take → Enter → Scope → List Tree → State → Answer Val
list_form take enter S es s = listed take enter S (headed es) s

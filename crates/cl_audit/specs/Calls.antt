-- A call of a function, audited.
use Rattle.std.specs.Prelude.{◌≡◌, List, Result}
use Rattle.cl_costs.specs.Tables.{function_of}
use Rattle.cl_values.specs.Tree.{Tree as Val}
use Rattle.cl_events.specs.State.{State}
use Rattle.cl_meaning.specs.Answers.{Answer}
use Rattle.cl_meaning.specs.Limits.{limited}
use Rattle.cl_meaning.specs.Trace.{Claim as Told, trace_of}
use Rattle.cl_meaning.specs.Top.{call_from}
use Rattle.cl_walks.specs.declared.stop.Stop.{Stop}
use Rattle.cl_walks.specs.Ends.{Ends}
use Rattle.cl_walks.specs.Walked.{Walked}
use Rattle.cl_audit_steps.specs.declared.scope.Scope.{Scope}
use Rattle.cl_audit_steps.specs.declared.scope.Function.{Function}
use Rattle.cl_audit_steps.specs.Seen.{contracts_seen, frame_seen, function_seen, with_opening}
use Rattle.cl_audit_walk.specs.declared.cursor.Cursor.{Cursor}
use Rattle.cl_audit_walk.specs.declared.run.Run.{Run}
use Rattle.cl_audit_walk.specs.Evaluates.{book, rules}
use Rattle.cl_audit.specs.Agrees.{looks, with_kept}

-- the meaning of the call of a function
abbrev pub call_of : Scope → Function → List Val → State → Answer Val
call_of S f vs s = call_from (with_opening S.opening (contracts_seen S.contracts.now.contracts)) (frame_seen S.frame.now) (function_seen f) vs s

-- the trace of a call under the limit
abbrev pub trace_of_call : Scope → Function → List Val → Run → List Told
trace_of_call S f vs run = trace_of (function_of S.costs.now) run.meter (call_of S f vs run.world.stack.top)

-- an answer under the limit, and the cursor behind its trace
abbrev pub limited_call : Scope → Run → Answer Val → Walked Cursor Val
limited_call S run a = with_kept (limited (function_of S.costs.now) run.meter a) (looks (rules S) (trace_of (function_of S.costs.now) run.meter a) run.cursor)

-- A call ends as the limit leaves its meaning, and the claims were compared with its trace under the limit, one after another; no
-- state below the top changes.
pub record Audits (S : Scope) (f : Function) (vs : List Val) (old : Run) (result : Result Val Stop) (new : Run) : Type 0 where
  pub call : Ends (limited_call S old (call_of S f vs old.world.stack.top)) result (book new) new.world.stack.top
  pub below : new.world.stack.below ≡ old.world.stack.below

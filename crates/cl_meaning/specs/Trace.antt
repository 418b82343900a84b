-- The trace of an answer: the nodes that gave a value, in the order in which they ended.
use Rattle.std.specs.Prelude.{List, [], ◌∷◌}
use Rattle.cl_shapes.specs.Limits.{Purse, spend}
use Rattle.cl_sexpr.specs.declared.sexpr.Span.{Span}
use Rattle.cl_values.specs.Tree.{Tree as Val}
use Rattle.cl_meaning.specs.Answers.{Answer, Note, Charged, Ended}
use Rattle.cl_meaning.specs.Limits.{Costs, cost_of, Paid, Within, Past, paid_by}

-- a node that ended with a value: its span, and the value
pub record Claim : Type 0 where
  pub span : Span
  pub value : Val

-- the claims of a log, up to the charge whose sum is above the limit
unfoldable pub claims : Costs → Paid → List Note → List Claim
claims costs (Past over p) log = []
claims costs (Within p) [] = []
claims costs (Within p) (Charged name n ∷ log) = claims costs (paid_by p (spend p (cost_of costs name n))) log
claims costs (Within p) (Ended span v ∷ log) = record { span = span; value = v } ∷ claims costs (Within p) log

-- the trace under a limit
unfoldable pub trace_of : {A : Type 0} → Costs → Purse → Answer A → List Claim
trace_of costs p a = claims costs (Within p) a.log

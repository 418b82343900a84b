-- Refusals as plain data.
use Rattle.std.specs.Prelude.{ℕ, List}
use Rattle.cl_sexpr.specs.declared.rule.Rule.{Rule}
use Rattle.cl_sexpr.specs.declared.sexpr.Span.{Span}

-- the rule that a source breaks first, where, and for a cycle its names
pub record SourceBreak : Type 0 where
  pub rule : Rule
  pub span : Span
  pub names : List (List ℕ)

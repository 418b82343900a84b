use Rattle.std.proofs.Common.{◌≡◌, ◌++◌, drop}
use Rattle.cl_costs.specs.Tables.{function_of}
use Rattle.cl_tx.specs.Step.{bound_line}
use Rattle.cl_rules.specs.Acceptance.{Bounded}
use Rattle.cl_rules.specs.FormRules.{Defined}
use Rattle.cl_contracts.specs.Seen.{forms_of}
use Rattle.cl_bound.specs.Seen.{ShowsPrices}
use Rattle.cl_bound.proofs.Lines.{lines_of}
use Rattle.cl_bound.proofs.bounds.lines.Given as goal

abbrev pub invariant-loop-definition : goal.invariant-loop-definition
invariant-loop-definition l = (D : Defined) → ShowsPrices l.prices D.context → Bounded D (forms_of l.parts) (function_of l.prices.costs) → l.lines.items ++ lines_of (bound_line (function_of l.prices.costs) D) (drop l.definition-index l.parts.definitions.items) ≡ lines_of (bound_line (function_of l.prices.costs) D) l.parts.definitions.items

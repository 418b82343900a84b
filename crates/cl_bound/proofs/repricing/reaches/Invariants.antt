use Rattle.std.proofs.Common.{◌≡◌, ◌++◌, drop}
use Rattle.cl_rules.specs.Context.{CostTable}
use Rattle.cl_rules.specs.FormRules.{Defined}
use Rattle.cl_bound.specs.Seen.{ShowFunctions}
use Rattle.cl_bound.specs.Reaches.{reach_line}
use Rattle.cl_bound.proofs.Lines.{lines_of}
use Rattle.cl_bound.proofs.repricing.reaches.Given as goal

abbrev pub invariant-loop-definition : goal.invariant-loop-definition
invariant-loop-definition l = (table : CostTable) (D : Defined) → ShowFunctions table D.context.functions l.contract.functions.entries → l.reaches.items ++ lines_of (reach_line table D) (drop l.definition-index l.definitions) ≡ lines_of (reach_line table D) l.definitions

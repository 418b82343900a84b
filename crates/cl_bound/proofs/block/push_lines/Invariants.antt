use Rattle.std.proofs.Common.{◌≡◌, ◌++◌, List, drop}
use Rattle.cl_rules.specs.Context.{CostTable, Signature}
use Rattle.cl_tx.specs.Rebounds.{rebound_line}
use Rattle.cl_bound.specs.Seen.{ShowFunctions}
use Rattle.cl_bound.specs.Reaches.{AllReturnAs}
use Rattle.cl_bound.proofs.Lines.{lines_of}
use Rattle.cl_bound.proofs.block.push_lines.Given as goal

abbrev pub invariant-loop-definition : goal.invariant-loop-definition
invariant-loop-definition l =
    (table : CostTable) (fs : List Signature) → ShowFunctions table fs l.bounds.functions.entries → AllReturnAs fs l.parts.definitions.items →
    l.lines.items ++ lines_of (rebound_line table l.parts.principal fs) (drop l.definition-index l.parts.definitions.items) ≡ l.fn.lines.items ++ lines_of (rebound_line table l.parts.principal fs) l.parts.definitions.items

use Rattle.std.proofs.Common.{◌≡◌, length, take, drop}
use Rattle.serde_json.specs.View.{view}
use Rattle.cl_shapes.specs.Names.{cost_names}
use Rattle.cl_costs.specs.CostFile.{functions_at}
use Rattle.cl_costs.proofs.Functions.{after}
use Rattle.cl_costs.proofs.cost_file.functions_at.Given as goal

abbrev pub invariant-loop-i : goal.invariant-loop-i
invariant-loop-i l = record {
  read : after (take l.i l.functions) (functions_at (drop l.i cost_names) (view l.table)) ≡ functions_at cost_names (view l.table);
  size : length l.functions ≡ 24;
}

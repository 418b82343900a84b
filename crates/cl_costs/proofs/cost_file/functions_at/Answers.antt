use Rattle.std.proofs.Math.ListN.{length-set}
use Rattle.cl_types.proofs.Faults.{passes}
use Rattle.cl_shapes.specs.Names.{cost_names}
use Rattle.cl_shapes.specs.declared.name.CostName.TheVariants.{Literal}
use Rattle.cl_costs.proofs.Functions.{reads_next, stops_at, reads_all}
use Rattle.cl_costs.proofs.cost_file.functions_at.Goals as goal

pub loop-i-preserved : goal.loop-i-preserved
loop-i-preserved c = record {
  read = reads_next _ cost_names c.loop-i.functions c.loop-i.i Literal c.in_ok-functions.field-0 _ c.loop-i-test.true c.loop-i.invariant.size
      c.in_ok-functions.ensures.found c.loop-i.invariant.read;
  size = simp length-set c.loop-i.invariant.size;
}

pub returns-in_err-functions-clause-refused : goal.returns-in_err-functions-clause-refused
returns-in_err-functions-clause-refused c =
    passes c.from_residual.result _ (λ r h. stops_at _ cost_names c.loop-i.functions c.loop-i.i Literal _ c.loop-i-test.true c.loop-i.invariant.read r h)
    c.from_residual.ensures.1 c.in_err-functions.ensures.refused

pub returns-clause-found : goal.returns-clause-found
returns-clause-found c = reads_all _ cost_names c.loop-i.functions c.loop-i.i _ c.loop-i-test.false c.loop-i.invariant.size c.loop-i.invariant.read

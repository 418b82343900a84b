use Rattle.std.proofs.Common.{◌++◌, length, ◌≤◌, arith}
use Rattle.std.proofs.lemmas.Bool.Decides.{nat_tests}
use Rattle.cl_lines.specs.Costs.{bound_lines}
use Rattle.cl_lines.proofs.Functions.{all_written}
use Rattle.cl_lines.proofs.costs.write_functions.Goals as goal

pub returns-in-None : goal.returns-in-None
returns-in-None c =
    let past : length c.args.types.now ≤ c.loop-i.i = grind (arith, nat_tests, c.in-None.ensures.lookup.0) in
    all_written c.args.functions.now c.args.types.now c.loop-i.i c.loop-i.out.items (c.args.out.now.items ++ bound_lines c.args.functions.now c.args.types.now) past c.loop-i.invariant

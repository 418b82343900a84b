use Rattle.std.proofs.Common.{arith, ap, ◌∙◌}
use Rattle.cl_types.specs.Types.{fields, depths_of}
use Rattle.cl_typing.proofs.TupleRows.{ordered_rise, depths_ordered}
use Rattle.cl_typing.proofs.tuples.tuple.Goals as goal

pub made-requires-clause-keys : goal.made-requires-clause-keys
made-requires-clause-keys c = rw c.in_ok-row.ensures (ordered_rise (fields c.args.row.items) c.requires.rise c.requires.keyed c.requires.differ)

pub made-requires-clause-depth : goal.made-requires-clause-depth
made-requires-clause-depth c = omega (arith, ap depths_of c.in_ok-row.ensures ∙ depths_ordered (fields c.args.row.items), c.requires.depth)

use Rattle.std.proofs.Common.{arith}
use Rattle.cl_values.proofs.Applies.{applied_so}
use Rattle.cl_seq.proofs.Entries.{joined_fine, joined_size, joined_depth, joined_value}
use Rattle.cl_seq.proofs.joining.join_lists.Goals as goal

pub made-requires-clause-fine : goal.made-requires-clause-fine
made-requires-clause-fine c =
    joined_fine c.args.values.items c.args.others.items c.in_ok-values.values.items c.in_ok-values.ensures c.requires.first c.requires.second

pub made-requires-clause-counted : goal.made-requires-clause-counted
made-requires-clause-counted c =
    omega (arith, joined_size c.args.values.items c.args.others.items c.in_ok-values.values.items c.in_ok-values.ensures, c.requires.counted)

pub made-requires-clause-measured : goal.made-requires-clause-measured
made-requires-clause-measured c =
    omega (arith, joined_depth c.args.values.items c.args.others.items c.in_ok-values.values.items c.in_ok-values.ensures, c.requires.measured)

pub returns : goal.returns
returns c =
    applied_so _ _ c.made.result (joined_value c.args.values.items c.args.others.items c.in_ok-values.values.items c.in_ok-values.ensures) c.made.ensures

use Rattle.std.proofs.Common.{◌∙◌, arith}
use Rattle.cl_apply.proofs.SequenceLaws.{shallow_around}
use Rattle.cl_apply.proofs.sequence_definedness.are_shallow.Goals as goal

pub returns-then-are_within_depth : goal.returns-then-are_within_depth
returns-then-are_within_depth c =
    c.are_within_depth-then-are_within_depth.ensures
    ∙ shallow_around c.args.before.now c.args.after.now c.args.item.now c.if-are_within_depth.ensures (omega (arith, c.depth.ensures.counted, c.if-depth-gt-MOST_ENTRY_DEPTH.false))

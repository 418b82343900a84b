use Rattle.std.proofs.Common.{◌<◌, ◌≤◌, length, arith}
use Rattle.cl_operands.proofs.RowLaws.{width_turn, width_first}
use Rattle.cl_operands.proofs.entries.width.Goals as goal

pub loop-sequence-preserved : goal.loop-sequence-preserved
loop-sequence-preserved c =
    let here : c.loop-sequence.sequence-index < length c.args.sequences.now = omega arith in
    width_turn _ _ _ _ _ _ here c.sequence-item.is c.in_ok-try_len.was c.try_len.ensures c.loop-sequence.invariant

pub returns : goal.returns
returns c =
    let past : length c.args.sequences.now ≤ c.loop-sequence.sequence-index = omega arith in
    let some : 0 < length c.args.sequences.now = grind arith in
    width_first _ _ _ _ past some c.index-sequences-0.is c.try_len-2.ensures c.loop-sequence.invariant

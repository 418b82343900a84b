use Rattle.std.proofs.Common.{◌<◌, ◌≤◌, ◌++◌, length, option_map, ap, ◌∙◌, arith}
use Rattle.cl_operands.specs.Rows.{row_at}
use Rattle.cl_operands.proofs.RowLaws.{row_turn, row_stops, row_starts, row_ends, one_longer}
use Rattle.cl_operands.proofs.entries.row_at.Goals as goal

pub returns-in-None : goal.returns-in-None
returns-in-None c =
    let here : c.loop-sequence.sequence-index < length c.args.sequences.now = omega arith in
    record {
      row = row_stops _ _ _ _ _ _ _ here c.sequence-item.is c.in-None.is c.in_ok-entry.ensures c.loop-sequence.invariant.so_far;
      count = tt;
    }

pub loop-sequence-init : goal.loop-sequence-init
loop-sequence-init c = record {
  so_far = ap (λ l. option_map (λ r. l ++ r) (row_at c.args.place c.args.sequences.now)) c.in_ok-row.ensures.items ∙ row_starts c.args.sequences.now c.args.place;
  count = ap length c.in_ok-row.ensures.items;
}

pub loop-sequence-preserved : goal.loop-sequence-preserved
loop-sequence-preserved c =
    let here : c.loop-sequence.sequence-index < length c.args.sequences.now = omega arith in
    record {
      so_far = row_turn _ _ _ _ _ _ _ _ _ here c.sequence-item.is c.in-Some.is c.in_ok-entry.ensures c.in_ok-push-in-Some.ensures.items c.loop-sequence.invariant.so_far;
      count = one_longer c.loop-sequence.row.items c.in-Some.entry c.push.new.self.items _ c.in_ok-push-in-Some.ensures.items c.loop-sequence.invariant.count;
    }

pub returns : goal.returns
returns c =
    let past : length c.args.sequences.now ≤ c.loop-sequence.sequence-index = omega arith in
    record {
      row = row_ends _ _ _ _ _ past c.loop-sequence.invariant.so_far;
      count = omega (arith, c.loop-sequence.invariant.count);
    }

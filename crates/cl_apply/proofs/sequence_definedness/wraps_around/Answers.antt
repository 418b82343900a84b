use Rattle.std.proofs.Common.{◌+◌, ◌++◌, ◌∷◌, sym, arith}
use Rattle.cl_values.specs.Tree.{items_of}
use Rattle.cl_apply.proofs.SequenceLaws.{shallow_list, deep_list, around_size}
use Rattle.cl_apply.proofs.sequence_definedness.wraps_around.Goals as goal

pub returns-then-are_shallow : goal.returns-then-are_shallow
returns-then-are_shallow c =
    let sizes = around_size c.args.before.now c.args.after.now c.args.item.now in
    shallow_list (items_of (c.args.before.now ++ c.args.item.now ∷ c.args.after.now)) (c.entries_size-front.result + c.size.result + c.entries_size-back.result + 6)
    (sym c.if-are_shallow.ensures) (omega (arith, sizes, c.entries_size-front.ensures, c.size.ensures.counted, c.entries_size-back.ensures))

pub returns-else-are_shallow : goal.returns-else-are_shallow
returns-else-are_shallow c = deep_list (items_of (c.args.before.now ++ c.args.item.now ∷ c.args.after.now)) (sym c.if-are_shallow.ensures)

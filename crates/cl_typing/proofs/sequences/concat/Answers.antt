use Rattle.std.proofs.Common.{sym, ap, ◌∙◌, arith}
use Rattle.cl_types.specs.TypeView.{plain_of}
use Rattle.cl_types.specs.Sized.{length_of}
use Rattle.cl_typing.proofs.SequenceRows.{joined_lists}
use Rattle.cl_typing.proofs.sequences.concat.Goals as goal

pub returns-in_ok-second-in-List-List : goal.returns-in_ok-second-in-List-List
returns-in_ok-second-in-List-List c =
    let first = ap plain_of (sym c.in-List-List.is-0) ∙ c.behind-t.view_is ∙ c.ty.ensures.tree in
    let second = ap plain_of (sym c.in-List-List.is-1) ∙ c.behind-u.view_is ∙ c.ty-2.ensures.tree in
    joined_lists c.in-List-List.field-0-0 c.in-List-List.field-0-1 c.in-List-List.field-1-0.value c.in-List-List.field-1-1.value c.args.t.now c.args.u.now c.in_ok-first-in-List-List.first c.in_ok-second-in-List-List.second _ c.joined_list.result first second c.in_ok-first-in-List-List.ensures c.in_ok-second-in-List-List.ensures
    (omega (arith, c.from.ensures, c.from-2.ensures, c.greatest_length.ensures, c.greatest_length-2.ensures, ap length_of first, ap length_of second))
    c.joined_list.ensures

use Rattle.std.proofs.Common.{sym, ap, ◌∙◌, arith}
use Rattle.cl_types.specs.TypeView.{plain_of}
use Rattle.cl_typing.proofs.SequenceRows.{appended}
use Rattle.cl_typing.proofs.sequences.append.Goals as goal

pub returns-in_ok-entry-in-List : goal.returns-in_ok-entry-in-List
returns-in_ok-entry-in-List c = appended c.in-List.most c.in-List.field-1.value c.args.t.now c.args.u.now c.in_ok-entry-in-List.entry _ c.joined_list.result (ap plain_of (sym c.in-List.is) ∙ c.behind-t.view_is ∙ c.ty.ensures.tree) c.in_ok-entry-in-List.ensures (omega (arith, c.from.ensures)) c.joined_list.ensures

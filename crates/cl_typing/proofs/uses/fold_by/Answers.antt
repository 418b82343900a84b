use Rattle.cl_typing.proofs.UseRows.{fold_then}
use Rattle.cl_typing.proofs.uses.fold_by.Goals as goal

pub returns-in-Ok : goal.returns-in-Ok
returns-in-Ok c = fold_then c.args.used.now c.args.entry.now c.args.initial.now c.in-Ok.given c.fold_again.result c.in-Ok.ensures c.fold_again.ensures

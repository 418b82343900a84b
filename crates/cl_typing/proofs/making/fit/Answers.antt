use Rattle.cl_typing.proofs.MadeTypes.{fit_same, fit_never}
use Rattle.cl_typing.proofs.making.fit.Goals as goal

pub unreachable-requires : goal.unreachable-requires
unreachable-requires c = fit_never c.args.ty c.in-Err-Refused.field-0-0 c.requires (rw c.in-Err-Refused.field-0-is at c.in-Err-Refused.ensures.broken)

pub returns-in-Ok : goal.returns-in-Ok
returns-in-Ok c = fit_same c.args.ty c.in-Ok.ty c.requires c.in-Ok.ensures.found

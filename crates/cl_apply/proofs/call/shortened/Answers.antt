use Rattle.std.proofs.Common.{ap}
use Rattle.cl_values.specs.Computed.{kept}
use Rattle.cl_values.proofs.Applies.{applied_so}
use Rattle.cl_apply.proofs.EntryLaws.{within_found, within_undefined}
use Rattle.cl_apply.proofs.call.shortened.Goals as goal

pub returns-in-Some : goal.returns-in-Some
returns-in-Some c = applied_so _ _ c.held.result (within_found c.args.most c.args.sequence c.in-Some.fits c.in-Some.ensures) c.held.ensures

pub returns-in-None : goal.returns-in-None
returns-in-None c = ap kept (within_undefined c.args.most c.args.sequence c.in-None.ensures)

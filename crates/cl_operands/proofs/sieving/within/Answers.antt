use Rattle.cl_operands.proofs.SieveLaws.{within_given, within_wrong}
use Rattle.cl_operands.proofs.sieving.within.Goals as goal

pub returns-in-Ok : goal.returns-in-Ok
returns-in-Ok c = within_given c.args.value _ c.requires.keys c.requires.texts c.in-Ok.ensures

pub returns-in-Err : goal.returns-in-Err
returns-in-Err c = within_wrong c.args.value _ c.requires.keys c.requires.texts c.in-Err.ensures

use Rattle.cl_app.proofs.Read.{called_bad, called_give}
use Rattle.cl_app.proofs.inputs.read_called.Goals as goal

pub returns-in-Ok-clause-gives : goal.returns-in-Ok-clause-gives
returns-in-Ok-clause-gives g c =
    called_give c.args.file.now c.args.function.now c.args.version c.args.args (g.F.Files.held c.args.files.now) c.in-Ok.source (rw c.in-Ok.is at c.in_ok-source.ensures.text)

pub returns-in-Err-clause-gives : goal.returns-in-Err-clause-gives
returns-in-Err-clause-gives g c =
    called_bad c.args.file.now c.args.function.now c.args.version c.args.args (g.F.Files.held c.args.files.now) c.in-Err.fault (rw c.in-Err.is at c.in_ok-source.ensures.text)

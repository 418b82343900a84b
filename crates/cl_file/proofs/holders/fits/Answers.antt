use Rattle.cl_file.proofs.Tests.{is_some_fitting}
use Rattle.cl_file.specs.Files.{total}
use Rattle.std.proofs.Common.{◌∙◌, ap}
use Rattle.std.specs.Option.{is_some}
use Rattle.cl_file.proofs.holders.fits.Goals as goal

pub returns : goal.returns
returns c = c.is_some.ensures ∙ ap is_some c.total.ensures ∙ is_some_fitting (total c.args.holders.now.entries)

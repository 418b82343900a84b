use Rattle.std.proofs.Common.{length}
use Rattle.cl_types.specs.Types.{AsciiType}
use Rattle.cl_rules.specs.NativeTypes.{made}
use Rattle.cl_judging.proofs.literals.ascii.Goals as goal

pub returns-clause-found : goal.returns-clause-found
returns-clause-found c G name judge = c.value.ensures.found (made (AsciiType (length c.args.text.now))) G name judge c.ascii_of-ruled.ensures

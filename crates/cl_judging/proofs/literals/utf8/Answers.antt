use Rattle.std.proofs.Common.{length}
use Rattle.cl_types.specs.Types.{Utf8Type}
use Rattle.cl_rules.specs.NativeTypes.{made}
use Rattle.cl_judging.proofs.literals.utf8.Goals as goal

pub returns-clause-found : goal.returns-clause-found
returns-clause-found c G name judge = c.value.ensures.found (made (Utf8Type (length c.args.text.now))) G name judge c.utf8_of-ruled.ensures

use Rattle.std.proofs.Common.{length}
use Rattle.cl_types.specs.Types.{BuffType}
use Rattle.cl_rules.specs.NativeTypes.{made}
use Rattle.cl_judging.proofs.literals.buff.Goals as goal

pub returns-clause-found : goal.returns-clause-found
returns-clause-found c G name judge = c.value.ensures.found (made (BuffType (length c.args.bytes.now))) G name judge c.buffer_of-ruled.ensures

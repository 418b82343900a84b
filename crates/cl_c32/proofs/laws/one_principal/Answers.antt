use Rattle.cl_c32.proofs.Principals.{principals_equal, principal_itself, principals_turned}
use Rattle.cl_c32.proofs.laws.one_principal.Goals as goal

pub returns-clause-equal : goal.returns-clause-equal
returns-clause-equal c = principals_equal

pub returns-clause-itself : goal.returns-clause-itself
returns-clause-itself c = principal_itself

pub returns-clause-turned : goal.returns-clause-turned
returns-clause-turned c = principals_turned

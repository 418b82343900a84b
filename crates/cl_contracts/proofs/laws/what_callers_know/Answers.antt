use Rattle.cl_contracts.proofs.StandingTyped.{standing_is_typed}
use Rattle.cl_contracts.proofs.KnownLaws.{known_is, kept_is}
use Rattle.cl_contracts.proofs.Constants.{constants_kept}
use Rattle.cl_contracts.proofs.laws.what_callers_know.Goals as goal

pub returns-clause-typed : goal.returns-clause-typed
returns-clause-typed c = standing_is_typed

pub returns-clause-known : goal.returns-clause-known
returns-clause-known c = known_is

pub returns-clause-defined : goal.returns-clause-defined
returns-clause-defined c = kept_is

pub returns-clause-constants : goal.returns-clause-constants
returns-clause-constants c = constants_kept

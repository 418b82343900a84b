use Rattle.cl_types.proofs.LatticeLeast.{one_least}
use Rattle.cl_types.proofs.LatticeKept.{least_deep}
use Rattle.cl_types.proofs.LatticeAnswers.{decided}
use Rattle.cl_types.proofs.lattice_laws.one_least_supertype.Goals as goal

pub returns-clause-one : goal.returns-clause-one
returns-clause-one c = one_least

pub returns-clause-decided : goal.returns-clause-decided
returns-clause-decided c = decided

pub returns-clause-depth : goal.returns-clause-depth
returns-clause-depth c = least_deep

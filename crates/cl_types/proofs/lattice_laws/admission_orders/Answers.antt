use Rattle.cl_types.proofs.Lattice.{admits_same, admits_trans, admits_both}
use Rattle.cl_types.proofs.lattice_laws.admission_orders.Goals as goal

pub returns-clause-reflexive : goal.returns-clause-reflexive
returns-clause-reflexive c = admits_same

pub returns-clause-transitive : goal.returns-clause-transitive
returns-clause-transitive c = admits_trans

pub returns-clause-antisymmetric : goal.returns-clause-antisymmetric
returns-clause-antisymmetric c = admits_both

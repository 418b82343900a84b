use Rattle.cl_types.proofs.LatticeAnswers.{ok_least, ok_sized, sized_ok, err_differ, differ_err, err_large, large_err, no_other}
use Rattle.cl_types.proofs.lattice_laws.least_supertype_is.Goals as goal

pub returns-clause-least : goal.returns-clause-least
returns-clause-least c = ok_least

pub returns-clause-sized : goal.returns-clause-sized
returns-clause-sized c = ok_sized

pub returns-clause-found : goal.returns-clause-found
returns-clause-found c = sized_ok

pub returns-clause-differ : goal.returns-clause-differ
returns-clause-differ c = λ a b. (err_differ a b, differ_err a b)

pub returns-clause-too_large : goal.returns-clause-too_large
returns-clause-too_large c = λ a b. (err_large a b, large_err a b)

pub returns-clause-no_other : goal.returns-clause-no_other
returns-clause-no_other c = no_other

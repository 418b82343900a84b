use Rattle.cl_values.proofs.Comparisons.{less_agrees, at_most_agrees, greater_agrees, at_least_agrees}
use Rattle.cl_values.proofs.laws.comparisons_agree.Goals as goal

pub returns-clause-less : goal.returns-clause-less
returns-clause-less c = less_agrees

pub returns-clause-at_most : goal.returns-clause-at_most
returns-clause-at_most c = at_most_agrees

pub returns-clause-greater : goal.returns-clause-greater
returns-clause-greater c = greater_agrees

pub returns-clause-at_least : goal.returns-clause-at_least
returns-clause-at_least c = at_least_agrees

use Rattle.cl_values.proofs.Parts.{some_part, response_part, list_part, values_part, tuple_part, entry_part}
use Rattle.cl_values.proofs.laws.parts_are_values.Goals as goal

pub returns-clause-some : goal.returns-clause-some
returns-clause-some c = some_part

pub returns-clause-response : goal.returns-clause-response
returns-clause-response c = response_part

pub returns-clause-list : goal.returns-clause-list
returns-clause-list c = λ vs h. values_part vs (list_part vs h)

pub returns-clause-tuple : goal.returns-clause-tuple
returns-clause-tuple c = λ k es v h e. entry_part k es v (tuple_part es h) e

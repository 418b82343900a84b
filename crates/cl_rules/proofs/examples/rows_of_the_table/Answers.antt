use Rattle.cl_rules.proofs.ComputedRows.{literal_rows, number_rows, hash_and_wrap_rows, make_rows, state_rows, control_rows, bind_rows, iteration_rows}
use Rattle.cl_rules.proofs.examples.rows_of_the_table.Goals as goal

pub returns-clause-literals : goal.returns-clause-literals
returns-clause-literals c = literal_rows

pub returns-clause-numbers : goal.returns-clause-numbers
returns-clause-numbers c = number_rows

pub returns-clause-hashes : goal.returns-clause-hashes
returns-clause-hashes c = hash_and_wrap_rows

pub returns-clause-made : goal.returns-clause-made
returns-clause-made c = make_rows

pub returns-clause-state : goal.returns-clause-state
returns-clause-state c = state_rows

pub returns-clause-control : goal.returns-clause-control
returns-clause-control c = control_rows

pub returns-clause-bound : goal.returns-clause-bound
returns-clause-bound c = bind_rows

pub returns-clause-iterations : goal.returns-clause-iterations
returns-clause-iterations c = iteration_rows

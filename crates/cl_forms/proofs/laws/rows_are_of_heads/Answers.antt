use Rattle.cl_forms.proofs.Found.{is_row, is_had_row}
use Rattle.cl_forms.proofs.laws.rows_are_of_heads.Goals as goal

pub returns-clause-own : goal.returns-clause-own
returns-clause-own c = is_row

pub returns-clause-had : goal.returns-clause-had
returns-clause-had c = is_had_row

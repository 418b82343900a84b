use Rattle.cl_rules.proofs.ComputedLater.{later_lines, later_rows, later_breaks, reserved_names}
use Rattle.cl_rules.proofs.examples.rows_of_version_two.Goals as goal

pub returns-clause-lines : goal.returns-clause-lines
returns-clause-lines c = later_lines

pub returns-clause-rows : goal.returns-clause-rows
returns-clause-rows c = later_rows

pub returns-clause-breaks : goal.returns-clause-breaks
returns-clause-breaks c = later_breaks

pub returns-clause-reserved : goal.returns-clause-reserved
returns-clause-reserved c = reserved_names

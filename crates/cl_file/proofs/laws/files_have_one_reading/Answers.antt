use Rattle.cl_file.proofs.Readings.{one_file, each_file}
use Rattle.cl_file.proofs.laws.files_have_one_reading.Goals as goal

pub returns-clause-one : goal.returns-clause-one
returns-clause-one c = one_file c.one_outcome.ensures

pub returns-clause-each : goal.returns-clause-each
returns-clause-each c = each_file c.one_outcome.ensures

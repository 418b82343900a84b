use Rattle.cl_sexpr.proofs.Laws.{reads_same, reads_or_breaks, breaks_same}
use Rattle.cl_sexpr.proofs.Sizes.{items_few}
use Rattle.cl_sexpr.proofs.reader.one_reading.Goals as goal

pub returns-clause-reading : goal.returns-clause-reading
returns-clause-reading c = reads_same

pub returns-clause-either : goal.returns-clause-either
returns-clause-either c = reads_or_breaks

pub returns-clause-first : goal.returns-clause-first
returns-clause-first c = breaks_same

pub returns-clause-few : goal.returns-clause-few
returns-clause-few c = items_few

use Rattle.cl_answers.proofs.WritingDecided.{each_writes_or_not}
use Rattle.cl_answers.proofs.each_function_writes_or_not.Goals as goal

pub returns : goal.returns
returns c = each_writes_or_not

use Rattle.cl_sexpr.proofs.TextsRead.{each_text}
use Rattle.cl_sexpr.proofs.reader.each_text_has_an_answer.Goals as goal

pub returns : goal.returns
returns c = each_text

use Rattle.cl_text.proofs.EachParses.{each_parses}
use Rattle.cl_text.proofs.laws.each_text_has_an_outcome.Goals as goal

pub returns : goal.returns
returns c = each_parses

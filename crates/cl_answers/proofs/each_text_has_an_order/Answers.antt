use Rattle.cl_answers.proofs.Orders.{each_has_order}
use Rattle.cl_answers.proofs.each_text_has_an_order.Goals as goal

pub returns : goal.returns
returns c = each_has_order c.each_text_has_an_answer.ensures

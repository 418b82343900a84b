use Rattle.cl_answers.proofs.Answered.{each_has_answer}
use Rattle.cl_answers.proofs.each_source_has_an_answer.Goals as goal

pub returns : goal.returns
returns c = each_has_answer (record {
  order = c.each_text_has_an_order.ensures;
  good = c.orders_are_good.ensures;
  typing = c.forms_of_texts_are_decided.ensures.decided;
  writing = c.each_function_writes_or_not.ensures;
  stop = c.the_first_bound_is_found.ensures.first;
  no_stop = c.the_first_bound_is_found.ensures.none;
})

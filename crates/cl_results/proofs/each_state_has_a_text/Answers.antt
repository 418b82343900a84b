use Rattle.cl_results.proofs.StateTexts.{each_text, each_root, each_line}
use Rattle.cl_results.proofs.each_state_has_a_text.Goals as goal

pub returns-clause-text : goal.returns-clause-text
returns-clause-text c = each_text c.one_spelling.ensures.own

pub returns-clause-root : goal.returns-clause-root
returns-clause-root c = each_root c.one_spelling.ensures.own c.rows_have_keys_of_their_own.ensures.own

pub returns-clause-rows : goal.returns-clause-rows
returns-clause-rows c = each_line c.one_spelling.ensures.own c.rows_have_keys_of_their_own.ensures.own

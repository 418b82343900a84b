use Rattle.cl_tx.proofs.OneStep.{step_one, run_one, commit_one}
use Rattle.cl_tx.proofs.laws.steps_have_one_result.Goals as goal

pub returns-clause-step : goal.returns-clause-step
returns-clause-step c =
    step_one c.texts_have_one_answer.ensures.clean c.texts_have_one_answer.ensures.one_defined c.texts_have_one_order.ensures.order
    c.texts_have_one_answer.ensures.one_first

pub returns-clause-run : goal.returns-clause-run
returns-clause-run c =
    run_one c.texts_have_one_answer.ensures.clean c.texts_have_one_answer.ensures.one_defined c.texts_have_one_order.ensures.order
    c.texts_have_one_answer.ensures.one_first

pub returns-clause-events : goal.returns-clause-events
returns-clause-events c =
    commit_one c.texts_have_one_answer.ensures.clean c.texts_have_one_answer.ensures.one_defined c.texts_have_one_order.ensures.order
    c.texts_have_one_answer.ensures.one_first

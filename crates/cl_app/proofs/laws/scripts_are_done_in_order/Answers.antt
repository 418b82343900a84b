use Rattle.cl_app.proofs.Done.{all_is_part, tells_part, writes_part}
use Rattle.cl_app.proofs.InTurn.{in_turn}
use Rattle.cl_app.proofs.laws.scripts_are_done_in_order.Goals as goal

pub returns-clause-writes : goal.returns-clause-writes
returns-clause-writes c = λ script. writes_part script.steps

pub returns-clause-tells : goal.returns-clause-tells
returns-clause-tells c = λ script. tells_part script.steps

pub returns-clause-all : goal.returns-clause-all
returns-clause-all c = λ script. all_is_part script.steps

pub returns-clause-commits : goal.returns-clause-commits
returns-clause-commits c = c.a_file_has_one_script.ensures.commits

pub returns-clause-turn : goal.returns-clause-turn
returns-clause-turn c = in_turn

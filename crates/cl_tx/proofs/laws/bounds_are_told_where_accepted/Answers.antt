use Rattle.cl_forms.specs.Texts.{text_of}
use Rattle.cl_tx.specs.Nodes.{contract_of}
use Rattle.cl_tx.specs.Step.{costs_for}
use Rattle.cl_tx.proofs.StepLaws.{told_accepted, accepted_told, call_tells_none, block_tells_none}
use Rattle.cl_tx.proofs.laws.bounds_are_told_where_accepted.Goals as goal

pub returns-clause-told : goal.returns-clause-told
returns-clause-told c = λ schedule node common name source version s. told_accepted (costs_for schedule node) node common (contract_of common.sender name) (text_of source version) s

pub returns-clause-accepted : goal.returns-clause-accepted
returns-clause-accepted c = λ schedule node common name source version s. accepted_told c.texts_have_one_answer.ensures.clean (costs_for schedule node) node common (contract_of common.sender name) (text_of source version) s

pub returns-clause-call : goal.returns-clause-call
returns-clause-call c = λ schedule node common contract function args s. call_tells_none (costs_for schedule node) node common contract function args s

pub returns-clause-block : goal.returns-clause-block
returns-clause-block c = block_tells_none

use Rattle.cl_exports.proofs.Answering.{answers, answers_part}
use Rattle.cl_exports.proofs.whole.answer_request.Goals as goal

pub returns-in-Ok-clause-whole : goal.returns-in-Ok-clause-whole
returns-in-Ok-clause-whole c = λ n3 n9. answers c.args.bytes.now c.args.ends.now c.args.words _ _ _ c.in-Ok.ensures.found (c.answer_to.ensures.whole n3 n9)

pub returns-in-Ok-clause-part : goal.returns-in-Ok-clause-part
returns-in-Ok-clause-part c = answers_part c.args.bytes.now c.args.ends.now c.args.words _ _ c.in-Ok.ensures.found c.answer_to.ensures.part

use Rattle.cl_exports.proofs.Answering.{cut_out, no_request_out, part_out, whole_out}
use Rattle.clarity_c.proofs.answer.clarity_answer.Goals as goal

pub returns-in-Ok-clause-whole : goal.returns-in-Ok-clause-whole
returns-in-Ok-clause-whole c = λ n3 n4 n9 n10. whole_out c.args.bytes.now c.args.ends.now c.args.words _ _ _ _ c.hand_out.ensures.status c.hand_out.ensures.whole c.in-Ok.ensures.whole n3 n4 n9

pub returns-in-Ok-clause-part : goal.returns-in-Ok-clause-part
returns-in-Ok-clause-part c = λ is. part_out c.args.bytes.now c.args.ends.now c.args.words _ _ c.hand_out.result c.hand_out.ensures.whole c.in-Ok.ensures.part is

pub returns-in-Ok-clause-cut : goal.returns-in-Ok-clause-cut
returns-in-Ok-clause-cut c = λ is. cut_out c.args.bytes.now c.args.ends.now c.args.words _ _ _ _ (c.hand_out.ensures.cut is) c.in-Ok.ensures.kept c.in-Ok.ensures.whole c.in-Ok.ensures.part

pub returns-in-Ok-clause-none : goal.returns-in-Ok-clause-none
returns-in-Ok-clause-none c = λ is. absurd (no_request_out c.args.bytes.now c.args.ends.now c.args.words _ _ _ _ c.hand_out.ensures.status c.hand_out.ensures.whole c.in-Ok.ensures.whole is)

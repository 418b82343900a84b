use Rattle.cl_apply.proofs.SequenceLaws.{buff_part, no_buff_part, text_part, no_text_part}
use Rattle.cl_apply.proofs.sequence_definedness.has_bytes_part.Goals as goal

pub returns-in-Some-clause-buff : goal.returns-in-Some-clause-buff
returns-in-Some-clause-buff c = buff_part c.args.left c.args.right c.args.bytes.now c.in-Some.part.now c.in-Some.ensures

pub returns-in-Some-clause-ascii : goal.returns-in-Some-clause-ascii
returns-in-Some-clause-ascii c = text_part c.args.left c.args.right c.args.bytes.now c.in-Some.part.now c.in-Some.ensures

pub returns-in-None-clause-buff : goal.returns-in-None-clause-buff
returns-in-None-clause-buff c = no_buff_part c.args.left c.args.right c.args.bytes.now c.in-None.ensures

pub returns-in-None-clause-ascii : goal.returns-in-None-clause-ascii
returns-in-None-clause-ascii c = no_text_part c.args.left c.args.right c.args.bytes.now c.in-None.ensures

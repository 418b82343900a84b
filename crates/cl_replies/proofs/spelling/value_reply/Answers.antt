use Rattle.cl_replies.proofs.Spellings.{value_of_bytes}
use Rattle.cl_replies.proofs.spelling.value_reply.Goals as goal

pub returns-in-Ok : goal.returns-in-Ok
returns-in-Ok c =
    value_of_bytes c.reply_of_bytes.result c.args.word.now c.digits_in.result.now c.in-Ok.bytes.items c.deref.result.now c.digits_in.ensures c.in-Ok.ensures.ok c.deref.ensures.value c.reply_of_bytes.ensures

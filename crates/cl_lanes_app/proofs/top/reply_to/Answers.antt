use Rattle.std.proofs.Common.{Option, ap, option_map}
use Rattle.cl_replies.specs.Inputs.{inputs_seen}
use Rattle.cl_lanes_app.specs.declared.words.Request.{Request as RequestOfCode}
use Rattle.cl_lanes_app.specs.Words.{request_seen}
use Rattle.cl_lanes_app.proofs.Replied.{usage_if_none}
use Rattle.cl_lanes_app.proofs.top.reply_to.Goals as goal

pub returns-in-None : goal.returns-in-None
returns-in-None c =
    usage_if_none (option_map request_seen c.args.request.now) (inputs_seen c.args.inputs) c.usage_reply.result (ap (λ (q : Option RequestOfCode). option_map request_seen q) c.in-None.is) c.requires.inputs c.usage_reply.ensures

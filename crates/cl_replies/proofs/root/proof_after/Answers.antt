use Rattle.std.proofs.Common.{◌≡◌, ap}
use Rattle.std.proofs.lemmas.Result.{IfOk-weaker}
use Rattle.cl_state.specs.Stack.{Stack}
use Rattle.cl_replies.proofs.SteppedFiles.{proof_replied}
use Rattle.cl_replies.proofs.root.proof_after.Goals as goal

pub returns : goal.returns
returns c =
    let n = c.step_all.new.node in
    let top : c.world.result.now.stack.top ≡ n.state = ap (λ (stack : Stack). stack.top) c.world.ensures.stack in
    IfOk-weaker c.proof_in.result _ _
    (λ reply is. proof_replied c.in_ok-schedule.schedule c.args.file.now c.args.costs.now c.in_ok-schedule.ensures n c.in_ok-step_all.ensures c.args.number c.world.result.now.stack.top reply top is)
    c.proof_in.ensures

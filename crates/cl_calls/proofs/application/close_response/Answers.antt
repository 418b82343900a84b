use Rattle.std.proofs.Common.{ap, ◌∙◌, sym}
use Rattle.std.specs.Prelude.{Some}
use Rattle.cl_events.specs.State.{State}
use Rattle.cl_state.specs.Stack.{Stack, onto}
use Rattle.cl_meaning.specs.Answers.{Given}
use Rattle.cl_meaning.specs.Limits.{Gave, limited}
use Rattle.cl_meaning.proofs.LimitLaws.{limited-stop}
use Rattle.cl_frames.proofs.Closing.{closing_err}
use Rattle.cl_calls.proofs.application.close_response.Goals as goal

pub returns-else-good : goal.returns-else-good
returns-else-good c costs p before rest h =
    let off = c.drop_layer.ensures.stack ∙ ap (onto c.args.world.now.stack) h in
    let err = sym (c.requires.response ∙ ap Some c.if-good.false) in
    record {
      answer =
          ap (limited costs p) (closing_err c.args.value before c.args.world.now.stack.top err) ∙ limited-stop costs p (Given c.args.value) before
          ∙ ap (λ (t : State). Gave c.args.value t p) (sym (ap (λ (s : Stack). s.top) off));
      below = ap (λ (s : Stack). s.below) off;
    }

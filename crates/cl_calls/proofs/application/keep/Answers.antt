use Rattle.std.proofs.Common.{ap, ◌∙◌, sym}
use Rattle.cl_events.specs.State.{State}
use Rattle.cl_state.specs.Stack.{Stack, rest_of, onto, dropped}
use Rattle.cl_meaning.specs.Answers.{Given}
use Rattle.cl_meaning.specs.Limits.{Gave, limited}
use Rattle.cl_meaning.proofs.LimitLaws.{limited-stop}
use Rattle.cl_frames.proofs.Closing.{closing_ok}
use Rattle.cl_calls.proofs.application.keep.Goals as goal

pub returns-in-Ok : goal.returns-in-Ok
returns-in-Ok c costs p before rest h = record {
  answer =
      ap (limited costs p) (closing_ok c.args.value before c.args.world.now.stack.top (sym c.requires.ok)) ∙ limited-stop costs p (Given c.args.value) c.args.world.now.stack.top
      ∙ ap (λ (t : State). Gave c.args.value t p) (sym (ap (λ (s : Stack). s.top) c.in-Ok.ensures.done));
  below = ap (λ (s : Stack). s.below) c.in-Ok.ensures.done ∙ ap rest_of h;
}

pub returns-in-Err : goal.returns-in-Err
returns-in-Err c costs p before rest h = record {
  answer = tt;
  below = ap (λ (s : Stack). s.below) (c.drop_layer.ensures.stack ∙ ap dropped c.in-Err.ensures.refused ∙ ap (onto c.args.world.now.stack) h);
}

use Rattle.std.proofs.Common.{ap, ◌∙◌}
use Rattle.cl_state.specs.Stack.{Stack, onto}
use Rattle.cl_meaning.specs.Answers.{Wrong}
use Rattle.cl_meaning.specs.Limits.{limited}
use Rattle.cl_meaning.proofs.LimitLaws.{limited-stop}
use Rattle.cl_frames.proofs.Closing.{closing_wrong}
use Rattle.cl_calls.proofs.application.close_with.Goals as goal

pub returns-in-None : goal.returns-in-None
returns-in-None c costs p before rest h = record {
  answer = ap (limited costs p) (closing_wrong c.args.value before c.args.world.now.stack.top c.in-None.ensures) ∙ limited-stop costs p Wrong c.args.world.now.stack.top;
  below = ap (λ (s : Stack). s.below) (c.drop_layer.ensures.stack ∙ ap (onto c.args.world.now.stack) h);
}

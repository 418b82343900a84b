use Rattle.std.proofs.Common.{refl}
use Rattle.cl_session.proofs.Running.{ok_so}
use Rattle.cl_session.proofs.session.Session.step.Goals as goal

pub returns-clause-made : goal.returns-clause-made
returns-clause-made c =
    ok_so _ _ c.add_lines.result (λ added. record {
      made = record { result = c.in_ok-given.given; makes = c.in_ok-given.ensures.steps; height = c.in_ok-given.ensures.height; done = refl };
      lines = added;
      costs = refl;
    }) c.add_lines.ensures.added

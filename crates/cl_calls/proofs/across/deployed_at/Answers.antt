use Rattle.std.proofs.Common.{Some, sym, ap, ◌∙◌}
use Rattle.cl_meaning.specs.Deployed.{Contract}
use Rattle.cl_frames.proofs.HomeLaws
use Rattle.cl_calls.proofs.across.deployed_at.Goals as goal

pub returns-in-Some : goal.returns-in-Some
returns-in-Some c =
    ap (λ (k : Contract). Some k) (sym (HomeLaws.seen_at_home c.args.principal.now c.in-Some.contract.now (record { checked = c.checked.result; constants = c.constants.result }) c.in-Some.ensures.entry.principal c.checked.ensures c.constants.ensures))
    ∙ c.in-Some.ensures.seen

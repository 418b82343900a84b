use Rattle.std.proofs.Common.{ap, ◌∙◌}
use Rattle.cl_c32.specs.declared.principal.Principal.{Principal}
use Rattle.cl_contracts.specs.declared.parts.Parts.{Parts}
use Rattle.cl_tx.specs.Nodes.{person}
use Rattle.cl_engine.proofs.prepare.prepare.Goals as goal

pub returns-in-Ok-clause-prepared : goal.returns-in-Ok-clause-prepared
returns-in-Ok-clause-prepared c =
    let d = c.args.deployment.now in
    let m = c.args.moment.now in
    record {
      accepted = c.in-Ok.ensures.accepted;
      frame = c.frame_of-frame.ensures ∙ ap (λ (q : Principal). record { contract = q; sender = person d.common.now.sender; caller = person d.common.now.sender; height = m.height }) (ap (λ (q : Parts). q.principal) c.parts-own.ensures ∙ c.in-Ok.ensures.accepted.checked.principal_is);
    }

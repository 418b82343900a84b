use Rattle.std.proofs.Common.{ap, ◌∙◌}
use Rattle.cl_ports.specs.Memory.{held_of}
use Rattle.cl_request.proofs.Joined.{joined}
use Rattle.cl_request.proofs.Parts.{files_none}
use Rattle.cl_request.proofs.request.files.Goals as goal

pub returns-in_default-rest-clause-broken : goal.returns-in_default-rest-clause-broken
returns-in_default-rest-clause-broken c =
    c.loop-rest.invariant ∙ ap (joined (held_of c.loop-rest.files.items)) (files_none (λ p. p.now) c.loop-rest.rest.now c.in_default.len_below c.in_default-rest.len_at_least)

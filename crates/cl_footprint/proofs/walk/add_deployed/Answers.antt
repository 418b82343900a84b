use Rattle.std.proofs.Common.{Option, ap, ◌∙◌}
use Rattle.cl_meaning.specs.Deployed.{Contract}
use Rattle.cl_contracts.specs.Seen.{deployed_seen}
use Rattle.cl_footprint.specs.Gathering.{gathered, with_crossed}
use Rattle.cl_footprint.proofs.walk.add_deployed.Goals as goal

pub returns-in_ok-add_own-in-Some : goal.returns-in_ok-add_own-in-Some
returns-in_ok-add_own-in-Some c p touched written =
    c.in_ok-add_own-in-Some.ensures (deployed_seen c.args.deployed.now) touched written
    ∙ ap (λ (o : Option Contract). with_crossed o c.args.name.now (gathered c.args.reached.now.keys touched written)) c.in-Some.ensures.seen

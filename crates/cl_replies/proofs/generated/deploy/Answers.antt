use Rattle.cl_replies.proofs.Counted.{after_deployment, deployment_follows}
use Rattle.cl_replies.proofs.generated.deploy.Goals as goal

pub step-requires : goal.step-requires
step-requires c = record { rises = deployment_follows c.args.node.now.height c.in_ok-entry.entry c.in_ok-entry.ensures }

pub returns : goal.returns
returns c =
    after_deployment c.nodes_are_known_in_one_way.ensures c.workloads_are_small.ensures c.args.costs.now c.args.node.now c.step.new.self c.in_ok-entry.entry c.in_ok-given.given c.args.tally.now c.add.new.self
    c.requires.costs c.requires.first c.in_ok-entry.ensures c.step.ensures.parts c.in_ok-given.ensures.steps c.requires.none c.add.ensures

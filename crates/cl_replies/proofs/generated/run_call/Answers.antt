use Rattle.cl_workload.specs.Workload.{drawn}
use Rattle.cl_replies.proofs.Counted.{after_call, call_follows}
use Rattle.cl_replies.proofs.generated.run_call.Goals as goal

pub step-requires : goal.step-requires
step-requires c = record { rises = call_follows c.args.node.now.height (drawn c.next_call.new.self) c.in_ok-entry.entry c.in_ok-entry.ensures.call }

pub returns : goal.returns
returns c =
    after_call c.nodes_are_known_in_one_way.ensures c.workloads_are_small.ensures c.args.costs.now c.args.node.now c.step.new.self c.in_ok-entry.entry c.in_ok-given.given c.args.tally.now c.add.new.self
    c.args.draws.now c.next_call.new.self c.requires c.next_call.ensures.number c.in_ok-entry.ensures.call c.step.ensures.parts c.in_ok-given.ensures.steps c.add.ensures

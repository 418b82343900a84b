use Rattle.std.specs.Prelude.{IfOk}
use Rattle.std.proofs.Common.{List, ap, subst}
use Rattle.cl_events.specs.State.{State}
use Rattle.cl_state.specs.Stack.{Stack}
use Rattle.cl_rules.specs.Context.{Known}
use Rattle.cl_contracts.specs.Seen.{deployed_seen}
use Rattle.cl_nodes.proofs.Facts.{ok_also}
use Rattle.cl_nodes.specs.Seen.{node_with, seen}
use Rattle.cl_nodes.specs.Sound.{IsSoundWith}
use Rattle.cl_nodes.specs.Asked.{costs_at}
use Rattle.cl_engine.specs.Calling.{steps_of}
use Rattle.cl_engine.proofs.Calling.{peeked_gives}
use Rattle.cl_engine.proofs.call.try_call.Goals as goal

pub returns-in-Ok-clause-gives : goal.returns-in-Ok-clause-gives
returns-in-Ok-clause-gives c =
    let i = c.args.invocation.now in
    let m = c.args.moment.now in
    let cs = c.args.contracts.now in
    let d = cs.deployed.now in
    subst (λ (s : State). IfOk c.peek.result (λ r. (known : List Known) → IsSoundWith d.contracts (seen s (deployed_seen d) m.height) known →
    (after : State) × steps_of (costs_at m) (node_with known (seen s (deployed_seen d) m.height)) i (record { node = record (node_with known (seen s (deployed_seen d) m.height)) { state = after }; result = r }))) (ap (λ (k : Stack). k.top) c.in_ok-push_layer.ensures.done)
    (ok_also c.peek.result _ _ (λ r result. peeked_gives i m cs c.push_layer.new.self c.in-Ok.ended c.evaluate.new.world c.in-Ok.ensures.ended r result) c.peek.ensures.result)

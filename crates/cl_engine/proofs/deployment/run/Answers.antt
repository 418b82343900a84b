use Rattle.std.proofs.Common.{[], ◌∷◌, refl, sym, ap, subst, ◌∙◌}
use Rattle.cl_shapes.specs.Limits.{Purse}
use Rattle.cl_meaning.specs.Deploying.{deployment}
use Rattle.cl_meaning.specs.Limits.{limited}
use Rattle.cl_contracts.specs.Seen.{deployed_seen}
use Rattle.cl_newness.specs.Newness.{HasNoTokens}
use Rattle.cl_frames.specs.Deploys.{Deploys, contract_with}
use Rattle.cl_frames.specs.Homes.{frame_seen}
use Rattle.cl_frames.specs.Sound.{IsAcceptedAfter}
use Rattle.cl_frames.specs.Watching.{Tells, trace}
use Rattle.cl_state.specs.Stack.{Stack}
use Rattle.cl_post.specs.Post.{holds}
use Rattle.cl_tx.specs.Nodes.{purse_of}
use Rattle.cl_nodes.proofs.Facts.{ok_also}
use Rattle.cl_nodes.specs.Bounded.{costs_of}
use Rattle.cl_engine.specs.Deploying.{evaluation_of}
use Rattle.cl_engine.proofs.Evaluated.{runs, tells_ran}
use Rattle.cl_engine.proofs.deployment.run.Goals as goal

pub run_top_watched-ended-requires-clause-accepted : goal.run_top_watched-ended-requires-clause-accepted
run_top_watched-ended-requires-clause-accepted g c =
    subst (λ (k : Stack). IsAcceptedAfter (deployed_seen c.args.contracts.now.deployed) k.top c.args.prepared.now.accepted.checked) (sym c.in_ok-push_layer.ensures.done) c.requires.accepted

pub run_top_watched-ended-requires-clause-tokens : goal.run_top_watched-ended-requires-clause-tokens
run_top_watched-ended-requires-clause-tokens g c = subst (HasNoTokens c.args.prepared.now.frame.contract) (sym (ap (λ (k : Stack). k.top) c.in_ok-push_layer.ensures.done)) c.requires.tokens

pub returns-clause-runs : goal.returns-clause-runs
returns-clause-runs g c =
    let F = frame_seen c.args.prepared.now.frame in
    let s = c.args.world.now.stack.top in
    let checked = c.args.prepared.now.accepted.checked in
    let shown : Deploys (limited (costs_of c.args.contracts.now) (purse_of c.args.common.now) (evaluation_of c.args.contracts.now c.args.prepared.now c.args.world.now)) checked c.run_top_watched-ended.result c.run_top_watched-ended.new.meter c.run_top_watched-ended.new.world.stack.top =
    subst (λ (n : Purse × Stack). Deploys (limited (costs_of c.args.contracts.now) n.0 (deployment (deployed_seen c.args.contracts.now.deployed) F (contract_with checked []) n.1.top)) checked c.run_top_watched-ended.result c.run_top_watched-ended.new.meter c.run_top_watched-ended.new.world.stack.top)
    (λ i. (c.meter_of-meter.ensures i, c.in_ok-push_layer.ensures.done i)) c.run_top_watched-ended.ensures.meant in
    ok_also c.finish.result _ _
    (λ ran e. runs c.args.common.now (limited (costs_of c.args.contracts.now) (purse_of c.args.common.now) (evaluation_of c.args.contracts.now c.args.prepared.now c.args.world.now)) checked s c.run_top_watched-ended.new.meter c.run_top_watched-ended.new.world.stack c.run_top_watched-ended.result (holds c.run_top_watched-ended.new.world.stack.top.moves c.args.common.now.mode c.args.common.now.conditions) ran c.finish.new.world.stack.top c.spent.result
    (c.run_top_watched-ended.ensures.below ∙ ap (λ (k : Stack). k.below) c.in_ok-push_layer.ensures.done ∙ ap (λ b. s ∷ b) c.requires.base) c.spent.ensures.value refl shown e)
    c.finish.ensures.ended

pub returns-clause-seen : goal.returns-clause-seen
returns-clause-seen g c =
    let F = frame_seen c.args.prepared.now.frame in
    let checked = c.args.prepared.now.accepted.checked in
    let seen = g.W.Watch.seen c.args.watch.now in
    let now = g.W.Watch.seen c.run_top_watched-ended.new.watch in
    let tells : Tells seen now (trace (costs_of c.args.contracts.now) (purse_of c.args.common.now) (evaluation_of c.args.contracts.now c.args.prepared.now c.args.world.now)) c.run_top_watched-ended.result =
    subst (λ (n : Purse × Stack). Tells seen now (trace (costs_of c.args.contracts.now) n.0 (deployment (deployed_seen c.args.contracts.now.deployed) F (contract_with checked []) n.1.top)) c.run_top_watched-ended.result)
    (λ i. (c.meter_of-meter.ensures i, c.in_ok-push_layer.ensures.done i)) c.run_top_watched-ended.ensures.seen in
    tells_ran c.run_top_watched-ended.result (holds c.run_top_watched-ended.new.world.stack.top.moves c.args.common.now.mode c.args.common.now.conditions) c.spent.result c.run_top_watched-ended.new.world.stack c.finish.new.world.stack.top c.finish.result seen now _ tells c.finish.ensures.ended

use Rattle.std.proofs.Common.{List, ℕ, Ok, Err, ap, ◌∙◌, sym, subst}
use Rattle.cl_values.specs.Tree.{Tree as Val}
use Rattle.cl_costs.specs.Tables.{function_of}
use Rattle.cl_contracts.specs.Seen.{deployed_seen}
use Rattle.cl_meaning.specs.Limits.{limited}
use Rattle.cl_frames.specs.declared.deploying.Deploying.{Deploying}
use Rattle.cl_frames.specs.Deploys.{AreNew}
use Rattle.cl_frames.specs.Homes.{frame_seen}
use Rattle.cl_frames.specs.Watching.{watched}
use Rattle.cl_shapes.specs.Costs.{IsAtMost}
use Rattle.cl_shapes.specs.Limits.{Purse}
use Rattle.cl_frames.proofs.AbortLaws.{aborts, given_spends, memory_spends_nothing, no_fault, same_fault, stopped_spends}
use Rattle.cl_frames.proofs.Steps.{stops_eq}
use Rattle.cl_frames.proofs.WatchSteps as steps
use Rattle.cl_frames.proofs.Telling.{run_ends, tells_given, tells_stopped}
use Rattle.cl_frames.proofs.Defining.{deployed_so, tokens_at}
use Rattle.cl_frames.proofs.NeverStuck.{IsValidFrame, deployment_fine, deployment_keeps, deployment_spends, deployment_stops, order_accepted}
use Rattle.cl_frames.proofs.Newness.{new_at_first}
use Rattle.cl_runs.proofs.top.run_top_watched.Goals as goal

pub deploy-requires-clause-fits : goal.deploy-requires-clause-fits
deploy-requires-clause-fits g c = record { home = c.requires.home }

pub deploy-requires-clause-new : goal.deploy-requires-clause-new
deploy-requires-clause-new g c =
    subst (λ (cs : List (List ℕ × Val)). AreNew c.args.checked.now 0 cs c.args.world.now.stack.top) (sym c.with_hasher-constants.ensures.empty)
    (new_at_first c.args.checked.now c.args.world.now.stack.top (tokens_at _ _ _ c.requires.home c.requires.tokens))

pub fault-requires : goal.fault-requires
fault-requires g c =
    let d : Deploying = record { alloc = c.args.alloc; deployed = c.args.deployed; checked = c.args.checked; frame = c.args.frame; costs = c.args.costs } in
    let valid : IsValidFrame (frame_seen c.args.frame.now) = record { contract = c.is_valid.ensures.contract; sender = c.is_valid.ensures.sender; caller = c.is_valid.ensures.caller; height = c.is_valid.ensures.height } in
    deployment_stops _ _ c.in-Err.stop _ _
    (deployment_fine c.deployments_are_sound.ensures.texts c.limits_leave_sound_answers.ensures.deployments (deployed_seen c.args.deployed.now) (frame_seen c.args.frame.now) valid c.args.checked.now c.requires.home (function_of c.args.costs.now) c.args.meter.now c.args.world.now.stack.top c.requires.accepted)
    (stops_eq _ _ _ _ _ (ap (limited _ _) (deployed_so d _ _ (order_accepted _ _ _ c.requires.accepted) c.with_hasher-constants.ensures.empty)) (run_ends _ _ _ _ _ _ (Err _) _ c.in-Err.ensures.meant))

pub returns-in-Ok-clause-meant : goal.returns-in-Ok-clause-meant
returns-in-Ok-clause-meant g c =
    let d : Deploying = record { alloc = c.args.alloc; deployed = c.args.deployed; checked = c.args.checked; frame = c.args.frame; costs = c.args.costs } in
    ap (limited _ _) (deployed_so d _ _ (order_accepted _ _ _ c.requires.accepted) c.with_hasher-constants.ensures.empty) ∙ run_ends _ _ _ _ _ _ (Ok _) _ c.in-Ok.ensures.meant

pub returns-in-Ok-clause-kept : goal.returns-in-Ok-clause-kept
returns-in-Ok-clause-kept g c =
    let d : Deploying = record { alloc = c.args.alloc; deployed = c.args.deployed; checked = c.args.checked; frame = c.args.frame; costs = c.args.costs } in
    let valid : IsValidFrame (frame_seen c.args.frame.now) = record { contract = c.is_valid.ensures.contract; sender = c.is_valid.ensures.sender; caller = c.is_valid.ensures.caller; height = c.is_valid.ensures.height } in
    deployment_keeps c.deployments_are_sound.ensures.texts c.limits_leave_sound_answers.ensures.deployments (deployed_seen c.args.deployed.now) (frame_seen c.args.frame.now) valid c.args.checked.now c.requires.home (function_of c.args.costs.now) c.args.meter.now c.args.world.now.stack.top c.requires.accepted _ _ _
    (ap (limited _ _) (deployed_so d _ _ (order_accepted _ _ _ c.requires.accepted) c.with_hasher-constants.ensures.empty) ∙ run_ends _ _ _ _ _ _ (Ok _) _ c.in-Ok.ensures.meant)

pub returns-in-Ok-clause-seen : goal.returns-in-Ok-clause-seen
returns-in-Ok-clause-seen g c =
    let d : Deploying = record { alloc = c.args.alloc; deployed = c.args.deployed; checked = c.args.checked; frame = c.args.frame; costs = c.args.costs } in
    tells_given _ _ _ _ _ _ _ _ (ap (watched _ _ _) (deployed_so d _ _ (order_accepted _ _ _ c.requires.accepted) c.with_hasher-constants.ensures.empty) ∙ c.in-Ok.ensures.meant)

pub returns-in-Err-clause-meant : goal.returns-in-Err-clause-meant
returns-in-Err-clause-meant g c =
    let d : Deploying = record { alloc = c.args.alloc; deployed = c.args.deployed; checked = c.args.checked; frame = c.args.frame; costs = c.args.costs } in
    aborts _ _ _ _ _ _ _ c.fault.ensures.fault c.fault.ensures.meter (stops_eq _ _ _ _ _ (ap (limited _ _) (deployed_so d _ _ (order_accepted _ _ _ c.requires.accepted) c.with_hasher-constants.ensures.empty)) (run_ends _ _ _ _ _ _ (Err _) _ c.in-Err.ensures.meant))

pub returns-in-Err-clause-seen : goal.returns-in-Err-clause-seen
returns-in-Err-clause-seen g c =
    let d : Deploying = record { alloc = c.args.alloc; deployed = c.args.deployed; checked = c.args.checked; frame = c.args.frame; costs = c.args.costs } in
    tells_stopped _ _ _ _ _ _ _ _ _ c.fault.ensures.fault c.in-Err.ensures.grew (steps.stops_eq _ _ _ _ _ _ (ap (watched _ _ _) (deployed_so d _ _ (order_accepted _ _ _ c.requires.accepted) c.with_hasher-constants.ensures.empty)) c.in-Err.ensures.meant)

pub returns-in-Ok-clause-within : goal.returns-in-Ok-clause-within
returns-in-Ok-clause-within g c =
    let d : Deploying = record { alloc = c.args.alloc; deployed = c.args.deployed; checked = c.args.checked; frame = c.args.frame; costs = c.args.costs } in
    let valid : IsValidFrame (frame_seen c.args.frame.now) = record { contract = c.is_valid.ensures.contract; sender = c.is_valid.ensures.sender; caller = c.is_valid.ensures.caller; height = c.is_valid.ensures.height } in
    λ a.
    deployment_spends c.deployments_are_sound.ensures.texts c.limits_leave_sound_answers.ensures.deployments (deployed_seen c.args.deployed.now) (frame_seen c.args.frame.now) valid c.args.checked.now c.requires.home (function_of c.args.costs.now) c.args.meter.now c.args.world.now.stack.top a
    c.charges_stay_within_bounds.ensures.deployments c.deploy.new.meter (λ most low least. given_spends _ _ _ _ most (ap (limited _ _) (deployed_so d _ _ (order_accepted _ _ _ c.requires.accepted) c.with_hasher-constants.ensures.empty) ∙ (run_ends _ _ _ _ _ _ (Ok _) _ c.in-Ok.ensures.meant)) low)

pub returns-in-Ok-clause-memory : goal.returns-in-Ok-clause-memory
returns-in-Ok-clause-memory g c = λ e. no_fault _ _ _ e

pub returns-in-Err-clause-within : goal.returns-in-Err-clause-within
returns-in-Err-clause-within g c =
    let d : Deploying = record { alloc = c.args.alloc; deployed = c.args.deployed; checked = c.args.checked; frame = c.args.frame; costs = c.args.costs } in
    let valid : IsValidFrame (frame_seen c.args.frame.now) = record { contract = c.is_valid.ensures.contract; sender = c.is_valid.ensures.sender; caller = c.is_valid.ensures.caller; height = c.is_valid.ensures.height } in
    λ a.
    deployment_spends c.deployments_are_sound.ensures.texts c.limits_leave_sound_answers.ensures.deployments (deployed_seen c.args.deployed.now) (frame_seen c.args.frame.now) valid c.args.checked.now c.requires.home (function_of c.args.costs.now) c.args.meter.now c.args.world.now.stack.top a
    c.charges_stay_within_bounds.ensures.deployments c.fault.new.meter
    (λ most low least. subst (λ (q : Purse). IsAtMost q.spent most) (sym c.fault.ensures.meter) (stopped_spends _ c.in-Err.stop _ _ _ most (stops_eq _ _ _ _ _ (ap (limited _ _) (deployed_so d _ _ (order_accepted _ _ _ c.requires.accepted) c.with_hasher-constants.ensures.empty)) (run_ends _ _ _ _ _ _ (Err _) _ c.in-Err.ensures.meant)) low (subst (λ (q : Purse). IsAtMost q.spent most) (sym c.copy-before.ensures) least)))

pub returns-in-Err-clause-memory : goal.returns-in-Err-clause-memory
returns-in-Err-clause-memory g c = λ e. memory_spends_nothing c.in-Err.stop c.fault.result _ _ _ c.fault.ensures.fault c.fault.ensures.meter (same_fault _ _ e) ∙ c.copy-before.ensures

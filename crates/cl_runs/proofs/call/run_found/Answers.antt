use Rattle.std.proofs.Common.{sym, subst, ◌∙◌}
use Rattle.std.specs.Prelude.{Ok, Err}
use Rattle.cl_costs.specs.Tables.{function_of as cost_function}
use Rattle.cl_contracts.specs.Seen.{deployed_seen}
use Rattle.cl_meaning.specs.Deployed.{Deployed}
use Rattle.cl_meaning.specs.Scope.{Frame}
use Rattle.cl_frames.specs.Homes.{frame_seen}
use Rattle.cl_shapes.specs.Costs.{IsAtMost}
use Rattle.cl_shapes.specs.Limits.{Purse}
use Rattle.cl_frames.proofs.AbortLaws.{aborts, given_spends, memory_spends_nothing, no_fault, same_fault, stopped_spends}
use Rattle.cl_frames.proofs.NeverStuck.{IsValidFrame, call_fine, call_is_not_early, call_keeps, call_not_stuck, call_spends, call_stops, returned_typed}
use Rattle.cl_frames.proofs.Telling.{run_ends, tells_given, tells_stopped}
use Rattle.cl_runs.proofs.Calls.{fits, named}
use Rattle.cl_runs.proofs.call.run_found.Goals as goal

pub fault-requires : goal.fault-requires
fault-requires g c =
    let W : Deployed = deployed_seen c.args.called.now.deployed.now in
    let F : Frame = frame_seen c.args.called.now.frame.now in
    let called = fits c.args.called.now c.requires.called c.args.args.items c.requires.fitting in
    let valid : IsValidFrame (frame_seen c.args.called.now.frame.now) = record { contract = c.is_valid.ensures.contract; sender = c.is_valid.ensures.sender; caller = c.is_valid.ensures.caller; height = c.is_valid.ensures.height } in
    let fine = call_fine c.functions_are_sound.ensures.sound c.limits_leave_sound_answers.ensures.sound W F valid c.args.called.now.function.now.name c.args.args.items called (cost_function c.args.called.now.costs.now) c.args.meter.now c.args.world.now.stack.top c.functions_are_sound.ensures.signed c.requires.kept in
    call_not_stuck c.in-Err.stop (call_stops fine.0 _ _ c.in-Err.stop _ _ fine.1 (named c.args.called.now c.requires.called (cost_function c.args.called.now.costs.now) c.args.meter.now c.args.args.items c.args.world.now.stack.top (Err _) _ _ (run_ends _ _ _ _ _ _ (Err _) _ c.in-Err.ensures.meant)))

pub returns-in-Ok-clause-meant : goal.returns-in-Ok-clause-meant
returns-in-Ok-clause-meant g c = run_ends _ _ _ _ _ _ (Ok _) _ c.in-Ok.ensures.meant

pub returns-in-Ok-clause-typed : goal.returns-in-Ok-clause-typed
returns-in-Ok-clause-typed g c =
    let W : Deployed = deployed_seen c.args.called.now.deployed.now in
    let F : Frame = frame_seen c.args.called.now.frame.now in
    let called = fits c.args.called.now c.requires.called c.args.args.items c.requires.fitting in
    let valid : IsValidFrame (frame_seen c.args.called.now.frame.now) = record { contract = c.is_valid.ensures.contract; sender = c.is_valid.ensures.sender; caller = c.is_valid.ensures.caller; height = c.is_valid.ensures.height } in
    returned_typed c.functions_are_sound.ensures.sound c.limits_leave_sound_answers.ensures.sound W F valid c.args.called.now.function.now.name c.args.args.items called (cost_function c.args.called.now.costs.now) c.args.meter.now c.args.world.now.stack.top c.requires.kept _ _ _ (named c.args.called.now c.requires.called (cost_function c.args.called.now.costs.now) c.args.meter.now c.args.args.items c.args.world.now.stack.top (Ok _) _ _ (run_ends _ _ _ _ _ _ (Ok _) _ c.in-Ok.ensures.meant))

pub returns-in-Ok-clause-kept : goal.returns-in-Ok-clause-kept
returns-in-Ok-clause-kept g c =
    let W : Deployed = deployed_seen c.args.called.now.deployed.now in
    let F : Frame = frame_seen c.args.called.now.frame.now in
    let called = fits c.args.called.now c.requires.called c.args.args.items c.requires.fitting in
    let valid : IsValidFrame (frame_seen c.args.called.now.frame.now) = record { contract = c.is_valid.ensures.contract; sender = c.is_valid.ensures.sender; caller = c.is_valid.ensures.caller; height = c.is_valid.ensures.height } in
    call_keeps c.functions_are_sound.ensures.sound c.limits_leave_sound_answers.ensures.sound W F valid c.args.called.now.function.now.name c.args.args.items called (cost_function c.args.called.now.costs.now) c.args.meter.now c.args.world.now.stack.top c.functions_are_sound.ensures.signed c.requires.kept _ _ _ (named c.args.called.now c.requires.called (cost_function c.args.called.now.costs.now) c.args.meter.now c.args.args.items c.args.world.now.stack.top (Ok _) _ _ (run_ends _ _ _ _ _ _ (Ok _) _ c.in-Ok.ensures.meant))

pub returns-in-Ok-clause-seen : goal.returns-in-Ok-clause-seen
returns-in-Ok-clause-seen g c = tells_given _ _ _ _ _ _ _ _ c.in-Ok.ensures.meant

pub returns-in-Err-clause-meant : goal.returns-in-Err-clause-meant
returns-in-Err-clause-meant g c =
    aborts _ _ _ _ _ _ _ c.fault.ensures.fault c.fault.ensures.meter (run_ends _ _ _ _ _ _ (Err _) _ c.in-Err.ensures.meant)

pub returns-in-Err-clause-returned : goal.returns-in-Err-clause-returned
returns-in-Err-clause-returned g c =
    let W : Deployed = deployed_seen c.args.called.now.deployed.now in
    let F : Frame = frame_seen c.args.called.now.frame.now in
    let called = fits c.args.called.now c.requires.called c.args.args.items c.requires.fitting in
    let valid : IsValidFrame (frame_seen c.args.called.now.frame.now) = record { contract = c.is_valid.ensures.contract; sender = c.is_valid.ensures.sender; caller = c.is_valid.ensures.caller; height = c.is_valid.ensures.height } in
    let fine = call_fine c.functions_are_sound.ensures.sound c.limits_leave_sound_answers.ensures.sound W F valid c.args.called.now.function.now.name c.args.args.items called (cost_function c.args.called.now.costs.now) c.args.meter.now c.args.world.now.stack.top c.functions_are_sound.ensures.signed c.requires.kept in
    call_is_not_early c.in-Err.stop c.fault.result (call_stops fine.0 _ _ c.in-Err.stop _ _ fine.1 (named c.args.called.now c.requires.called (cost_function c.args.called.now.costs.now) c.args.meter.now c.args.args.items c.args.world.now.stack.top (Err _) _ _ (run_ends _ _ _ _ _ _ (Err _) _ c.in-Err.ensures.meant))) c.fault.ensures.fault

pub returns-in-Err-clause-seen : goal.returns-in-Err-clause-seen
returns-in-Err-clause-seen g c = tells_stopped _ _ _ _ _ _ _ _ _ c.fault.ensures.fault c.in-Err.ensures.grew c.in-Err.ensures.meant

pub returns-in-Ok-clause-within : goal.returns-in-Ok-clause-within
returns-in-Ok-clause-within g c =
    let W : Deployed = deployed_seen c.args.called.now.deployed.now in
    let F : Frame = frame_seen c.args.called.now.frame.now in
    let called = fits c.args.called.now c.requires.called c.args.args.items c.requires.fitting in
    let valid : IsValidFrame (frame_seen c.args.called.now.frame.now) = record { contract = c.is_valid.ensures.contract; sender = c.is_valid.ensures.sender; caller = c.is_valid.ensures.caller; height = c.is_valid.ensures.height } in
    call_spends c.functions_are_sound.ensures.sound c.limits_leave_sound_answers.ensures.sound W F valid c.args.called.now.function.now.name c.args.args.items called (cost_function c.args.called.now.costs.now) c.args.meter.now c.args.world.now.stack.top
    c.charges_stay_within_bounds.ensures.calls c.requires.kept c.enter_called.new.meter (λ most low least. given_spends _ _ _ _ most (named c.args.called.now c.requires.called (cost_function c.args.called.now.costs.now) c.args.meter.now c.args.args.items c.args.world.now.stack.top (Ok _) _ _ (run_ends _ _ _ _ _ _ (Ok _) _ c.in-Ok.ensures.meant)) low)

pub returns-in-Ok-clause-memory : goal.returns-in-Ok-clause-memory
returns-in-Ok-clause-memory g c = λ e. no_fault _ _ _ e

pub returns-in-Err-clause-within : goal.returns-in-Err-clause-within
returns-in-Err-clause-within g c =
    let W : Deployed = deployed_seen c.args.called.now.deployed.now in
    let F : Frame = frame_seen c.args.called.now.frame.now in
    let called = fits c.args.called.now c.requires.called c.args.args.items c.requires.fitting in
    let valid : IsValidFrame (frame_seen c.args.called.now.frame.now) = record { contract = c.is_valid.ensures.contract; sender = c.is_valid.ensures.sender; caller = c.is_valid.ensures.caller; height = c.is_valid.ensures.height } in
    call_spends c.functions_are_sound.ensures.sound c.limits_leave_sound_answers.ensures.sound W F valid c.args.called.now.function.now.name c.args.args.items called (cost_function c.args.called.now.costs.now) c.args.meter.now c.args.world.now.stack.top
    c.charges_stay_within_bounds.ensures.calls c.requires.kept c.fault.new.meter
    (λ most low least. subst (λ (q : Purse). IsAtMost q.spent most) (sym c.fault.ensures.meter) (stopped_spends _ c.in-Err.stop _ _ _ most (named c.args.called.now c.requires.called (cost_function c.args.called.now.costs.now) c.args.meter.now c.args.args.items c.args.world.now.stack.top (Err _) _ _ (run_ends _ _ _ _ _ _ (Err _) _ c.in-Err.ensures.meant)) low (subst (λ (q : Purse). IsAtMost q.spent most) (sym c.copy-before.ensures) least)))

pub returns-in-Err-clause-memory : goal.returns-in-Err-clause-memory
returns-in-Err-clause-memory g c = λ e. memory_spends_nothing c.in-Err.stop c.fault.result _ _ _ c.fault.ensures.fault c.fault.ensures.meter (same_fault _ _ e) ∙ c.copy-before.ensures

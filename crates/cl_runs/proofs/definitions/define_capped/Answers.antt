use Rattle.std.proofs.Common.{◌∙◌, ap}
use Rattle.std.proofs.lemmas.Result.{err_from_is_err_and}
use Rattle.cl_events.specs.State.{place}
use Rattle.cl_frames.specs.Watching.{watched}
use Rattle.cl_frames.proofs.WatchLaws.{then_gave}
use Rattle.cl_frames.proofs.WatchSteps.{part_fails, ends_so}
use Rattle.cl_frames.proofs.Defining as Defining
use Rattle.cl_frames.proofs.Telling.{run_ends}
use Rattle.std.specs.Prelude.{Ok}
use Rattle.cl_frames.proofs.Newness.{top_gave}
use Rattle.cl_runs.proofs.definitions.define_capped.Goals as goal

pub put_capped-requires : goal.put_capped-requires
put_capped-requires g c =
    record { new = (top_gave _ _ _ _ _ _ _ _ _ _ (run_ends _ _ _ _ _ _ (Ok c.in_ok-cap.cap) _ c.in_ok-cap.ensures.meant)).fungibles (place c.args.deploying.now.checked.now.principal c.args.name.now) c.requires.new }

pub returns-in_err-cap-clause-meant : goal.returns-in_err-cap-clause-meant
returns-in_err-cap-clause-meant g c at =
    part_fails _ _ c.in_err-cap.field-0.0 _ _ _ _ _ _ _ _ (Defining.hand c.args.deploying.now _ _ _ (err_from_is_err_and c.from_residual.result c.from_residual.ensures.1)) (ap (watched _ _ _) (Defining.capped_at _ _ _ _ _ _)) c.in_err-cap.ensures.meant

pub returns-clause-meant : goal.returns-clause-meant
returns-clause-meant g c at =
    ends_so _ _ _ _ _ _ (ap (watched _ _ _) (Defining.capped_at _ _ _ _ _ _) ∙ then_gave _ _ _ _ _ _ _ _ _ c.in_ok-cap.ensures.meant) (Defining.builds c.args.deploying.now _ _ _ _ _ _ _ (Defining.cap_unseen _ _ _ _) c.put_capped.ensures.meant)

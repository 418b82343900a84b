use Rattle.std.proofs.Common.{◌∙◌, ap}
use Rattle.std.proofs.lemmas.Result.{err_from_is_err_and}
use Rattle.cl_frames.specs.Watching.{watched}
use Rattle.cl_frames.proofs.WatchLaws.{watched-stop, then_gave}
use Rattle.cl_frames.proofs.WatchSteps.{part_fails}
use Rattle.cl_frames.proofs.Defining as Defining
use Rattle.cl_runs.proofs.definitions.evaluate_alone.Goals as goal

pub returns-in_err-evaluate_top-clause-meant : goal.returns-in_err-evaluate_top-clause-meant
returns-in_err-evaluate_top-clause-meant g c name at =
    part_fails _ _ c.in_err-evaluate_top.field-0.0 _ _ _ _ _ _ _ _ (Defining.hand c.args.deploying.now _ _ _ (err_from_is_err_and c.from_residual.result c.from_residual.ensures.1)) (ap (watched _ _ _) (Defining.expression_at _ _ _ _ _ _)) c.in_err-evaluate_top.ensures.meant

pub returns-clause-meant : goal.returns-clause-meant
returns-clause-meant g c name at =
    ap (watched _ _ _) (Defining.expression_at _ _ _ _ _ _) ∙ then_gave _ _ _ _ _ _ _ _ _ c.in_ok-evaluate_top.ensures.meant ∙ watched-stop _ _ _ _ _

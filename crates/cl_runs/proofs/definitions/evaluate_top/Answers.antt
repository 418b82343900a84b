use Rattle.std.proofs.Common.{ap, sym, refl}
use Rattle.cl_frames.specs.Watching.{watched}
use Rattle.cl_frames.proofs.WatchSteps.{ends_so}
use Rattle.cl_frames.proofs.Defining.{top_is, fits_top}
use Rattle.cl_runs.proofs.definitions.evaluate_top.Goals as goal

pub returns-clause-meant : goal.returns-clause-meant
returns-clause-meant g c =
    ends_so _ _ _ _ _ _ (ap (watched _ _ _) (sym (top_is _ _ _ _ _ _ c.alone.ensures))) (c.evaluate.ensures.meant (fits_top c.args.deploying.now _ c.requires.fits refl))

pub evaluate-requires : goal.evaluate-requires
evaluate-requires g c = record { goes = λ fits. c.requires.goes }

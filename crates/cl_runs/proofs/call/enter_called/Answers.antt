use Rattle.std.proofs.Common.{◌≡◌, true, [], ap, sym, subst}
use Rattle.cl_code.specs.Typed.{goes_by}
use Rattle.cl_contracts.specs.declared.parts.Parts.{Parts}
use Rattle.cl_frames.specs.Watching.{watched}
use Rattle.cl_frames.proofs.WatchSteps.{ends_so}
use Rattle.cl_frames.proofs.HomeLaws
use Rattle.cl_frames.proofs.Forms.{called_at}
use Rattle.cl_runs.proofs.call.enter_called.Goals as goal

pub returns-clause-meant : goal.returns-clause-meant
returns-clause-meant g c =
    ends_so _ _ _ _ _ _ (ap (watched _ _ _) (called_at _ _ _ _ _)) (c.enter.ensures.meant [] (HomeLaws.fits_called _ c.args.called.now.contract.now _ _ c.requires.called.there c.requires.called.entry.principal c.checked.ensures c.constants.ensures))

pub enter-requires-clause-goes : goal.enter-requires-clause-goes
enter-requires-clause-goes g c = λ fits. subst (λ (q : Parts). goes_by q.version c.args.called.now.function.now.body ≡ true) (sym c.checked.ensures) c.requires.called.goes

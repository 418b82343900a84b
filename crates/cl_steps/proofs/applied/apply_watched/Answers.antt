use Rattle.std.proofs.Common.{refl, ◌∙◌}
use Rattle.std.proofs.lemmas.Result.{err_from_is_err_and}
use Rattle.std.specs.Prelude.{Ok, Err}
use Rattle.cl_frames.proofs.WatchLaws.{grew_more}
use Rattle.cl_frames.proofs.WatchSteps.{stops_eq, stops_after, hands_on, memory_ends, as_ends, noting_on, node_gives, node_unseen}
use Rattle.cl_frames.proofs.Unseen.{by_name_noted}
use Rattle.cl_steps.proofs.applied.apply_watched.Goals as goal

pub returns-in_err-value-clause-meant : goal.returns-in_err-value-clause-meant
returns-in_err-value-clause-meant g c bound s =
    hands_on _ _ c.in_err-value.field-0.0 _ _ _ (err_from_is_err_and c.from_residual.result c.from_residual.ensures.1)
    (stops_eq _ _ _ _ _ _ (by_name_noted _ _ _ _ _ _ _ _) (stops_after _ _ _ _ _ _ (noting_on _) (as_ends _ (Err c.in_err-value.field-0.0) _ _ _ (c.in_err-value.ensures bound s))))

pub returns-in_err-saw-clause-meant : goal.returns-in_err-saw-clause-meant
returns-in_err-saw-clause-meant g c bound s =
    memory_ends _ _ _ _ _ _ (err_from_is_err_and c.from_residual-in_err-saw.result c.from_residual-in_err-saw.ensures.1)
    (by_name_noted _ _ _ _ _ _ _ _) (node_unseen _ _ _ _ _ _ _ (as_ends _ (Ok c.in_ok-value.value) _ _ _ (c.in_ok-value.ensures bound s)) c.in_err-saw.ensures)

pub returns-clause-meant : goal.returns-clause-meant
returns-clause-meant g c bound s =
    by_name_noted _ _ _ _ _ _ _ _ ∙ node_gives _ _ _ _ _ _ _ _ _ (as_ends _ (Ok c.in_ok-value.value) _ _ _ (c.in_ok-value.ensures bound s)) c.place.ensures refl c.in_ok-saw.ensures

pub returns-clause-grew : goal.returns-clause-grew
returns-clause-grew g c = grew_more _ _ _ c.in_ok-saw.ensures

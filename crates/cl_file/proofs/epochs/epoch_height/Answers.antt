use Rattle.std.proofs.Common.{◌∙◌, ap, sym, Err, codes}
use Rattle.cl_types.proofs.Faults.{refused_so}
use Rattle.cl_file.proofs.Handed.{ok_so, refuses_so}
use Rattle.cl_file.proofs.Chain.{needed_there, needed_absent}
use Rattle.cl_file.specs.Paths.{below, said}
use Rattle.cl_file.proofs.epochs.epoch_height.Goals as goal

pub returns-in-Some-clause-found : goal.returns-in-Some-clause-found
returns-in-Some-clause-found c v =
    ok_so c.said.result (λ t h. needed_there _ _ _ _ _ _ c.in-Some.ensures ∙ ap (said (below c.args.path.now (codes "height"))) (sym c.height_above.ensures.value) ∙ h) c.said.ensures.found

pub returns-in-Some-clause-broken : goal.returns-in-Some-clause-broken
returns-in-Some-clause-broken c v =
    refuses_so c.said.result (λ t h. needed_there _ _ _ _ _ _ c.in-Some.ensures ∙ ap (said (below c.args.path.now (codes "height"))) (sym c.height_above.ensures.value) ∙ h) c.said.ensures.broken

pub returns-in-None-clause-broken : goal.returns-in-None-clause-broken
returns-in-None-clause-broken c v = refused_so c.field.result _ _ (λ r h. needed_absent _ _ _ _ _ c.in-None.ensures ∙ ap Err h) c.field.ensures

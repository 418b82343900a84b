use Rattle.std.proofs.Common.{◌≡◌, ◌∙◌, ap, sym, subst, Err}
use Rattle.serde_json.specs.View.{view}
use Rattle.cl_types.specs.Fault.{IsRefusal}
use Rattle.cl_costs.specs.CostFile.{table_in}
use Rattle.cl_types.proofs.Faults.{refused_so}
use Rattle.cl_file.proofs.Chain.{needed_there, needed_absent, said_some, said_none}
use Rattle.cl_file.specs.Epochs.{found_table}
use Rattle.cl_file.proofs.epochs.epoch_costs.Goals as goal

pub returns-in_default-clause-broken : goal.returns-in_default-clause-broken
returns-in_default-clause-broken c v = refused_so c.field.result _ _ (λ r h. needed_absent _ _ _ _ _ c.in_default.ensures ∙ ap Err h) c.field.ensures

pub returns-in-Ok-clause-found : goal.returns-in-Ok-clause-found
returns-in-Ok-clause-found c v = needed_there _ _ _ _ _ _ c.in-Some.ensures ∙ said_some _ _ _ (sym (ap found_table c.in-Ok.ensures.found))

pub returns-in-Err-Refused-clause-broken : goal.returns-in-Err-Refused-clause-broken
returns-in-Err-Refused-clause-broken c v =
    let found : table_in (view c.in-Some.value.now) ≡ Err c.in-Err-Refused.field-0-0 =
    subst (λ f. IsRefusal f (λ r. table_in (view c.in-Some.value.now) ≡ Err r)) c.in-Err-Refused.field-0-is c.in-Err-Refused.ensures.refused in
    refused_so c.bad_member.result _ _ (λ r h. needed_there _ _ _ _ _ _ c.in-Some.ensures ∙ said_none _ _ (sym (ap found_table found)) ∙ ap Err h) c.bad_member.ensures

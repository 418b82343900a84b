use Rattle.std.proofs.Common.{sym, ap, ◌∙◌}
use Rattle.std.specs.Prelude.{option_map}
use Rattle.cl_audit_steps.specs.Items.{fields_seen}
use Rattle.cl_audit_steps.proofs.FormLaws.{not_begun}
use Rattle.cl_audit_steps.proofs.LeafLaws.{no_charge}
use Rattle.cl_audit_steps.proofs.SequenceLaws.{known_tuple, no_tuple}
use Rattle.cl_audit_steps.proofs.tuples.tuple_of_start.Goals as goal

pub returns-in-Some : goal.returns-in-Some
returns-in-Some c S take enter s = no_charge _ _ (known_tuple _ _ take S s (sym (ap (option_map (λ fs. fields_seen fs.items)) c.in-Some.is) ∙ c.in_ok-fields.ensures))

pub returns-in-None : goal.returns-in-None
returns-in-None c S take enter s = not_begun _ _ take enter S s (no_tuple _ take S s (sym (ap (option_map (λ fs. fields_seen fs.items)) c.in-None.is) ∙ c.in_ok-fields.ensures)) c.wrong.ensures

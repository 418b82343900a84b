use Rattle.std.proofs.Common.{sym, ap}
use Rattle.cl_meaning.specs.Values.{tuple_form}
use Rattle.cl_audit_steps.proofs.LeafLaws.{no_charge}
use Rattle.cl_audit_steps.proofs.tuples.tuple_start.Goals as goal

pub returns : goal.returns
returns c S take enter s = no_charge _ _ (ap (λ ps. tuple_form take S ps s) (sym c.in_ok-fields.ensures))

use Rattle.std.proofs.Common.{◌∙◌, ap, sym}
use Rattle.serde_json.specs.View.{view}
use Rattle.cl_types.proofs.Faults.{passes}
use Rattle.cl_file.proofs.Handed.{ok_so, refuses_so}
use Rattle.cl_file.proofs.Chain.{then_ok, then_err, object_is}
use Rattle.cl_file.specs.Objects.{only}
use Rattle.cl_file.proofs.object.object.Goals as goal

pub returns-in_err-only-clause-broken : goal.returns-in_err-only-clause-broken
returns-in_err-only-clause-broken g c v =
    passes c.from_residual.result _
    (λ r h. object_is _ _ _ _ _ ∙ then_err _ _ _ (ap (λ names. only c.args.path.now names (view c.args.value.now)) (sym c.names_of-names.ensures) ∙ h)) c.from_residual.ensures.1 c.in_err-only.ensures.broken

pub returns-clause-found : goal.returns-clause-found
returns-clause-found g c v =
    ok_so c.read.result (λ t h. object_is _ _ _ _ _ ∙ then_ok _ _ _ (ap (λ names. only c.args.path.now names (view c.args.value.now)) (sym c.names_of-names.ensures) ∙ c.in_ok-only.ensures.found)
    ∙ ap (λ names. g.T.Members.table v.of c.args.path.now names (view c.args.value.now)) (sym c.names_of-names.ensures) ∙ h) (c.read.ensures.found v)

pub returns-clause-broken : goal.returns-clause-broken
returns-clause-broken g c v =
    refuses_so c.read.result (λ r h. object_is _ _ _ _ _ ∙ then_ok _ _ _ (ap (λ names. only c.args.path.now names (view c.args.value.now)) (sym c.names_of-names.ensures) ∙ c.in_ok-only.ensures.found)
    ∙ ap (λ names. g.T.Members.table v.of c.args.path.now names (view c.args.value.now)) (sym c.names_of-names.ensures) ∙ h) (c.read.ensures.broken v)

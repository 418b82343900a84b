use Rattle.std.proofs.Common.{sym, ap, ◌∙◌}
use Rattle.cl_forms.specs.Forms.{Form}
use Rattle.cl_audit_steps.proofs.PlaceLaws.{one_form_more, one_unnamed_more}
use Rattle.cl_audit_steps.proofs.forms.places_of.Goals as goal
use Rattle.cl_audit_steps.proofs.forms.places_of.Goals.{in-Some+in_ok-put_place, in_default}

pub loop-place-preserved : goal.loop-place-preserved
loop-place-preserved c =
    elim c.match-form.branch [
      | in-Some+in_ok-put_place w ↦
          one_form_more c.args.forms.now c.loop-place.place c.index-forms-place.result _ c.loop-place.places.entries _ c.loop-place-test.true c.index-forms-place.is
          (sym (ap (λ (f : Form). f.name) c.form.view_is) ∙ w.in-Some.is) (ap (λ t. t.entries) w.places-is ∙ w.in_ok-put_place.ensures.put) c.loop-place.invariant
      | in_default w ↦
          one_unnamed_more c.args.forms.now c.loop-place.place c.index-forms-place.result c.loop-place.places.entries _ c.loop-place-test.true c.index-forms-place.is
          (sym (ap (λ (f : Form). f.name) c.form.view_is) ∙ w.in_default.is) (ap (λ t. t.entries) w.places-is) c.loop-place.invariant
    ]

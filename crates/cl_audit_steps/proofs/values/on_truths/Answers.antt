use Rattle.std.proofs.Common.{◌≡◌, refl, sym, ap, ◌∙◌, arith}
use Rattle.cl_shapes.specs.declared.name.CostName.TheVariants.{Control}
use Rattle.std.proofs.Common.{length}
use Rattle.cl_meaning.specs.Calls.{truths}
use Rattle.cl_operands.specs.Truths.{join}
use Rattle.cl_audit_steps.proofs.ValueLaws.{charged_as}
use Rattle.cl_audit_steps.proofs.ValueLaws.{truth_some, truth_none}
use Rattle.cl_audit_steps.proofs.values.on_truths.Goals as goal

pub returns-in-Some : goal.returns-in-Some
returns-in-Some c S take enter s =
    let count : c.len.result ≡ length c.args.values.items = omega (arith, c.args.values.ok.0) in
    charged_as _ _ _ _ _ _ _ S take enter s refl (c.in_ok-charge.ensures ∙ ap (λ n. (Control, n)) count) (truth_some _ _ _ s (sym c.in-Some.is ∙ c.join_truths.ensures ∙ ap (truths (join c.args.all) c.args.all) c.deref.ensures.value) c.bool_value.ensures) c.charged_end.ensures

pub returns : goal.returns
returns c S take enter s =
    let count : c.len.result ≡ length c.args.values.items = omega (arith, c.args.values.ok.0) in
    charged_as _ _ _ _ _ _ _ S take enter s refl (c.in_ok-charge.ensures ∙ ap (λ n. (Control, n)) count) (truth_none _ s (sym c.in-None.is ∙ c.join_truths.ensures ∙ ap (truths (join c.args.all) c.args.all) c.deref.ensures.value)) c.charged_end-in-None.ensures

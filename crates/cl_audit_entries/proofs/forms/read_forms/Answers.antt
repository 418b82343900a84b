use Rattle.std.proofs.Common.{subst}
use Rattle.cl_types.specs.Fault.{IsRefusal}
use Rattle.cl_forms.specs.FormBreaks.{IsFirstBreak}
use Rattle.cl_nodes.specs.Asked.{text_in}
use Rattle.cl_audit_entries.proofs.Texts.{no_form_break, same_forms}
use Rattle.cl_audit_entries.proofs.forms.read_forms.Goals as goal

pub unreachable-requires : goal.unreachable-requires
unreachable-requires c =
    let items = c.in_ok-items.items.items in
    let broken = subst (λ f. IsRefusal f (λ r. IsFirstBreak c.args.deployment.now.version items (record { rule = r.rule; span = r.span }))) c.in-Err-Refused.field-0-is c.in-Err-Refused.ensures.broken in
    no_form_break (text_in c.args.deployment.now) c.args.own.now c.requires c.one_reading.ensures.reading items c.in_ok-items.ensures _ broken

pub returns-in-Ok : goal.returns-in-Ok
returns-in-Ok c =
    same_forms (text_in c.args.deployment.now) c.args.own.now c.requires c.one_reading.ensures.reading c.in_ok-items.items.items c.in_ok-items.ensures c.in-Ok.forms.items c.in-Ok.ensures.found

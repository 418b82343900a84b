use Rattle.std.proofs.Common.{subst}
use Rattle.cl_types.specs.Fault.{IsRefusal}
use Rattle.cl_sexpr.specs.Text.{Breaks}
use Rattle.cl_nodes.specs.Asked.{text_in}
use Rattle.cl_audit_entries.proofs.Texts.{no_break}
use Rattle.cl_audit_entries.proofs.forms.items_of.Goals as goal

pub unreachable-requires : goal.unreachable-requires
unreachable-requires c =
    let broken = subst (λ f. IsRefusal f (λ r. Breaks c.args.deployment.now.source.now (record { rule = r.rule; span = r.span }))) c.in-Err-Refused.field-0-is c.in-Err-Refused.ensures.broken in
    no_break (text_in c.args.deployment.now) c.args.own.now c.requires c.one_reading.ensures.either _ broken

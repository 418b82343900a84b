use Rattle.std.proofs.Common.{sym, subst}
use Rattle.cl_types.specs.Fault.{IsRefusal}
use Rattle.cl_types.specs.declared.fault.Fault.{Fault}
use Rattle.cl_sexpr.specs.declared.rule.Break.{Break}
use Rattle.cl_forms.specs.FormBreaks.{IsFirstBreak}
use Rattle.cl_forms.proofs.definitions.forms_with_hash_key.Goals as goal

pub returns-in-Err-Refused-clause-broken : goal.returns-in-Err-Refused-clause-broken
returns-in-Err-Refused-clause-broken c =
    let broken = subst (λ (f : Fault Break). IsRefusal f (IsFirstBreak c.args.version c.args.items.items)) c.in-Err-Refused.field-0-is c.in-Err-Refused.ensures.broken in
    subst (λ (b : Break). IsFirstBreak c.args.version c.args.items.items b) (λ i. record { rule = (sym c.of.ensures.rule) i; span = (sym c.of.ensures.span) i }) broken

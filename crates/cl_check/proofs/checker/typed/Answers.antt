use Rattle.std.proofs.Common.{List, subst, ◌∙◌}
use Rattle.cl_types.specs.Fault.{IsRefusal}
use Rattle.cl_forms.specs.Forms.{Form}
use Rattle.cl_rules.specs.Acceptance.{forms_at}
use Rattle.cl_rules.specs.FormRules.{nothing_defined}
use Rattle.cl_check.specs.Checking.{BreaksForms}
use Rattle.cl_check.specs.JudgingForms.{StandingAs}
use Rattle.cl_check.proofs.CheckedTexts.{typed_breaks, is_known, is_good, forms_same}
use Rattle.cl_check.proofs.checker.typed.Goals as goal

pub walk-requires-clause-known : goal.walk-requires-clause-known
walk-requires-clause-known c =
    is_known c.args.program.now.forms.items c.deref.result.now c.args.program.now.order.items c.deref-2.result.now c.deref.ensures.value c.deref-2.ensures.value c.requires.known

pub walk-requires-clause-good : goal.walk-requires-clause-good
walk-requires-clause-good c =
    is_good c.args.program.now.forms.items c.deref.result.now c.args.program.now.order.items c.deref-2.result.now c.deref.ensures.value c.deref-2.ensures.value c.requires.good

pub returns-in-Err-clause-broken : goal.returns-in-Err-clause-broken
returns-in-Err-clause-broken c =
    let same = forms_same c.args.program.now.forms.items c.deref.result.now c.args.program.now.order.items c.deref-2.result.now c.deref.ensures.value c.deref-2.ensures.value in
    subst (λ (fs : List Form). IsRefusal c.in-Err.fault (BreaksForms c.args.deployed.now c.args.principal.now c.args.version fs)) same
    (typed_breaks c.args.deployed.now c.args.principal.now c.args.version c.nothing-ctx.result (forms_at c.deref.result.now c.deref-2.result.now) c.in-Err.fault c.nothing-ctx.ensures.shown c.in-Err.ensures.broken)

pub returns-clause-forms : goal.returns-clause-forms
returns-clause-forms c =
    c.in-Ok.ensures.forms ∙ forms_same c.args.program.now.forms.items c.deref.result.now c.args.program.now.order.items c.deref-2.result.now c.deref.ensures.value c.deref-2.ensures.value

pub returns-clause-standing : goal.returns-clause-standing
returns-clause-standing c known size k =
    let same = forms_same c.args.program.now.forms.items c.deref.result.now c.args.program.now.order.items c.deref-2.result.now c.deref.ensures.value c.deref-2.ensures.value in
    let D = nothing_defined known c.args.principal.now c.args.version size in
    subst (λ (fs : List Form). StandingAs D fs c.in-Ok.done.items) same (c.in-Ok.ensures.standing D (c.nothing-ctx.ensures.shown known size k))

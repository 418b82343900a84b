use Rattle.std.proofs.Common.{ℕ, ◌≤◌, List, sym, subst, ◌∙◌}
use Rattle.cl_forms.specs.Forms.{Form}
use Rattle.cl_forms.specs.declared.version.Version.{Version}
use Rattle.cl_forms.specs.Texts.{text_of}
use Rattle.cl_rules.specs.FormRules.{nothing_defined}
use Rattle.cl_contracts.specs.Seen.{forms_of}
use Rattle.cl_readonly.specs.Functions.{HaveOwnNames}
use Rattle.cl_check.specs.Checking.{forms_in_order}
use Rattle.cl_check.proofs.CheckedTexts.{text_unordered, text_untyped, text_typed}
use Rattle.cl_check.proofs.Going.{standing_goes}
use Rattle.cl_check.proofs.checker.typed_text.Goals as goal

pub returns-in-Err-clause-broken : goal.returns-in-Err-clause-broken
returns-in-Err-clause-broken c = text_unordered c.args.deployed.now c.args.principal.now (text_of c.args.source.now c.args.version) c.in-Err.fault c.in-Err.ensures.broken

pub returns-in-Err-typed-clause-broken : goal.returns-in-Err-typed-clause-broken
returns-in-Err-typed-clause-broken c =
    text_untyped c.args.deployed.now c.args.principal.now (text_of c.args.source.now c.args.version) c.in-Ok.program.forms.items c.in-Ok.program.order.items c.in-Ok.ensures.found
    c.in-Err-typed.fault c.refusal.result c.refusal.ensures c.in-Err-typed.ensures.broken c.the_plain_program_is_right.ensures.forms_stop c.forms_of_texts_are_decided.ensures.walk

pub made-requires-clause-goes : goal.made-requires-clause-goes
made-requires-clause-goes c =
    let known = c.are_known.ensures.known in
    standing_goes (nothing_defined known.known c.args.principal.now c.args.version 0) (forms_in_order c.in-Ok.program) c.in-Ok-typed.done.items (c.in-Ok-typed.ensures.standing known.known 0 known.knows)

pub returns-clause-found : goal.returns-clause-found
returns-clause-found c =
    text_typed c.args.deployed.now c.args.principal.now (text_of c.args.source.now c.args.version) c.in-Ok.program.forms.items c.in-Ok.program.order.items c.in-Ok.ensures.found
    c.in-Ok-typed.done.items c.in_ok-parts.parts c.in_ok-parts.ensures.forms c.in_ok-parts.ensures.order c.in_ok-parts.ensures.done
    c.in-Ok-typed.ensures.standing c.the_plain_program_is_right.ensures.forms_typed

pub returns-clause-own : goal.returns-clause-own
returns-clause-own c =
    subst (λ (v : Version). HaveOwnNames v (forms_of c.in_ok-parts.parts)) (sym c.in_ok-parts.ensures.version)
    (subst (λ (fs : List Form). HaveOwnNames c.args.version fs) (sym c.in_ok-parts.ensures.forms) c.in-Ok.ensures.own)

pub returns-clause-length : goal.returns-clause-length
returns-clause-length c = c.in_ok-parts.ensures.length ∙ c.size_of.ensures

pub returns-clause-small : goal.returns-clause-small
returns-clause-small c = subst (λ (n : ℕ). n ≤ 1048576) (sym (c.in_ok-parts.ensures.length ∙ c.size_of.ensures)) c.in-Ok.ensures.size

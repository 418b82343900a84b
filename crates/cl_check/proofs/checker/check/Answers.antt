use Rattle.std.proofs.Common.{List, refl, sym, subst}
use Rattle.cl_sexpr.specs.declared.sexpr.Span.{Span}
use Rattle.cl_sexpr.specs.declared.rule.Rule.TheVariants.{WritesInReadOnly}
use Rattle.cl_forms.specs.Texts.{text_of}
use Rattle.cl_rules.specs.Context.{Known}
use Rattle.cl_rules.specs.FormRules.{Defined}
use Rattle.cl_rules.specs.Acceptance.{FirstWriting}
use Rattle.cl_contracts.specs.Seen.{forms_of}
use Rattle.cl_contracts.specs.Standings.{FitsAfter, Knows, StandsAfter}
use Rattle.cl_check.specs.Checking.{IsContractOf}
use Rattle.cl_check.proofs.CheckedTexts.{text_well_formed, text_fits, text_found, text_writes, found_at}
use Rattle.cl_check.proofs.checker.check.Goals as goal

pub returns-in-Some-clause-broken : goal.returns-in-Some-clause-broken
returns-in-Some-clause-broken c =
    text_writes c.args.deployed.now c.args.principal.now (text_of c.args.source.now c.args.version) c.in-Ok.parts c.in-Ok.ensures.principal c.in-Ok.ensures.version c.in-Ok.ensures.length c.in-Ok.ensures.found
    c.in-Some.span (record { rule = WritesInReadOnly; span = c.in-Some.span }) c.refusal.result refl refl c.refusal.ensures
    (found_at (λ (s : Span). (known : List Known) (E : Defined) → Knows c.args.deployed.now known → StandsAfter known c.in-Ok.parts E → FirstWriting known c.in-Ok.parts.principal (forms_of c.in-Ok.parts) c.in-Ok.parts.order.items s)
    c.in-Ok-first_writing.writing c.in-Some.span c.in-Some.is c.in-Ok-first_writing.ensures.first)

pub new-requires-clause-well_formed : goal.new-requires-clause-well_formed
new-requires-clause-well_formed c =
    text_well_formed c.args.deployed.now c.args.principal.now (text_of c.args.source.now c.args.version) c.in-Ok.parts c.in-Ok.ensures.principal c.in-Ok.ensures.version c.in-Ok.ensures.length c.in-Ok.ensures.found
    c.are_known.ensures.known c.in-Ok.ensures.small (c.in-Ok-first_writing.ensures.none c.in-None.is)

pub returns-in-None-clause-found : goal.returns-in-None-clause-found
returns-in-None-clause-found c =
    subst (IsContractOf c.args.deployed.now c.args.principal.now (text_of c.args.source.now c.args.version)) (sym c.new.ensures)
    (text_found c.args.deployed.now c.args.principal.now (text_of c.args.source.now c.args.version) c.in-Ok.parts c.in-Ok.ensures.principal c.in-Ok.ensures.version c.in-Ok.ensures.length c.in-Ok.ensures.found
    (c.in-Ok-first_writing.ensures.none c.in-None.is))

pub returns-in-None-clause-fits : goal.returns-in-None-clause-fits
returns-in-None-clause-fits c =
    subst (FitsAfter c.args.deployed.now) (sym c.new.ensures)
    (text_fits c.args.deployed.now c.args.principal.now (text_of c.args.source.now c.args.version) c.in-Ok.parts c.in-Ok.ensures.principal c.in-Ok.ensures.version c.in-Ok.ensures.length c.in-Ok.ensures.found)

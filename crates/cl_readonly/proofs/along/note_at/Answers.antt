use Rattle.std.proofs.Common.{◌≡◌, List, Some, slice_get, sym, ap, subst, ◌∙◌}
use Rattle.std.proofs.lemmas.Result.{on_ok_weaker}
use Rattle.cl_code.specs.declared.definition.Definition.{Definition}
use Rattle.cl_rules.specs.Acceptance.{calls_public}
use Rattle.cl_contracts.specs.Standings.{StandsAs}
use Rattle.cl_readonly.proofs.InOrder.{there_at, same_definition, not_none, IsWith}
use Rattle.cl_readonly.proofs.along.note_at.Goals as goal

pub returns-in-Some-clause-there : goal.returns-in-Some-clause-there
returns-in-Some-clause-there c =
    on_ok_weaker c.note.result (λ noted d known D fs is knows own stands.
    let there : slice_get c.args.parts.now.definitions.items c.args.place ≡ Some c.in-Some.definition.now = ap (λ (ds : List Definition). slice_get ds c.args.place) (sym c.deref.ensures.value) ∙ there_at c.deref.result.now c.args.place c.in-Some.definition.now c.in-Some.ensures.lookup.3.0 c.in-Some.ensures.lookup.1 in
    let one : c.in-Some.definition.now ≡ d = same_definition c.in-Some.definition.now d (sym there ∙ is) in
    subst (λ (e : Definition). IsWith (calls_public known c.args.parts.now.principal) D e c.args.writing.now.keys c.note.new.writing.keys) one
    (noted known D fs knows own (subst (λ (e : Definition). StandsAs D e fs) (sym one) stands))) c.note.ensures

pub returns-in-Some-clause-none : goal.returns-in-Some-clause-none
returns-in-Some-clause-none c =
    on_ok_weaker c.note.result (λ noted none.
    let there : slice_get c.args.parts.now.definitions.items c.args.place ≡ Some c.in-Some.definition.now = ap (λ (ds : List Definition). slice_get ds c.args.place) (sym c.deref.ensures.value) ∙ there_at c.deref.result.now c.args.place c.in-Some.definition.now c.in-Some.ensures.lookup.3.0 c.in-Some.ensures.lookup.1 in
    absurd (not_none c.in-Some.definition.now (sym none ∙ there))) c.note.ensures

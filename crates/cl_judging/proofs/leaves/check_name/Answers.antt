use Rattle.std.proofs.Common.{Some, ap, sym, refl, ◌∙◌}
use Rattle.cl_types.specs.Types.{PlainType}
use Rattle.cl_rules.specs.Context.{keyword_type}
use Rattle.cl_judging.proofs.Atoms.{keyword_found, bound_found, constant_found, no_value, unknown}
use Rattle.cl_forms.proofs.Keywords.{no_keyword}
use Rattle.cl_judging.proofs.leaves.check_name.Goals as goal

pub returns-in-Some-clause-found : goal.returns-in-Some-clause-found
returns-in-Some-clause-found c = keyword_found c.args.ctx.now c.args.scope.now.entries c.args.name.now c.args.span c.in-Some.found (keyword_type c.in-Some.found) c.keyword.result c.in-Some.ensures.facts refl c.keyword.ensures.found

pub bound-requires : goal.bound-requires
bound-requires c = no_keyword c.args.name.now (sym c.in_default.ensures.facts)

pub constant-requires : goal.constant-requires
constant-requires c = no_keyword c.args.name.now (sym c.in_default.ensures.facts)

pub returns-in-Some-type_under-clause-found : goal.returns-in-Some-type_under-clause-found
returns-in-Some-type_under-clause-found c = bound_found c.args.ctx.now c.args.scope.now.entries c.args.name.now c.args.span c.in_ok-ty.ty c.bound.result c.in_default.ensures.facts (ap (λ (t : PlainType). Some t) c.in_ok-ty.ensures ∙ c.in-Some-type_under.ensures) c.bound.ensures.found

pub returns-in-Some-type_under-2-clause-found : goal.returns-in-Some-type_under-2-clause-found
returns-in-Some-type_under-2-clause-found c = constant_found c.args.ctx.now c.args.scope.now.entries c.args.name.now c.args.span c.in_ok-ty-2.ty c.constant.result c.in_default.ensures.facts c.in_default-type_under.ensures (ap (λ (t : PlainType). Some t) c.in_ok-ty-2.ensures ∙ c.in-Some-type_under-2.ensures) c.constant.ensures.found

pub returns-then-is_no_value-clause-found : goal.returns-then-is_no_value-clause-found
returns-then-is_no_value-clause-found c = no_value c.args.ctx.now c.args.scope.now.entries c.args.name.now c.args.span c.broken.result c.in_default.ensures.facts c.in_default-type_under.ensures c.in_default-type_under-2.ensures (sym c.if-is_no_value.true ∙ c.is_no_value.ensures) c.broken.ensures

pub returns-clause-found : goal.returns-clause-found
returns-clause-found c = unknown c.args.ctx.now c.args.scope.now.entries c.args.name.now c.args.span c.broken-2.result c.in_default.ensures.facts c.in_default-type_under.ensures c.in_default-type_under-2.ensures (sym c.if-is_no_value.false ∙ c.is_no_value.ensures) c.broken-2.ensures

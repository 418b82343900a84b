use Rattle.std.proofs.Common.{◌∙◌, sym, ap, option_map}
use Rattle.cl_forms.specs.WrittenTypes.{written_type}
use Rattle.cl_forms.proofs.Typed.{typed_more, typed_stops, all_typed}
use Rattle.cl_forms.proofs.types.typed.Goals as goal

pub loop-param-preserved : goal.loop-param-preserved
loop-param-preserved c =
    rw c.in_ok-push-in-Some.ensures.items
    (typed_more c.args.params.now c.loop-param.param-index c.param-item.result c.loop-param-test.true _ _ c.loop-param.invariant c.in-Some.pair
    (sym c.in-Some.is ∙ c.in_ok-pair.ensures ∙ ap (λ p. option_map (λ t. (p.0, t)) (written_type p.1)) c.param-item.is))

pub returns-in-None : goal.returns-in-None
returns-in-None c =
    typed_stops c.args.params.now c.loop-param.param-index c.param-item.result c.loop-param-test.true _ _ c.loop-param.invariant
    (sym c.in-None.is ∙ c.in_ok-pair.ensures ∙ ap (λ p. option_map (λ t. (p.0, t)) (written_type p.1)) c.param-item.is)

pub returns : goal.returns
returns c = all_typed c.args.params.now c.loop-param.param-index _ _ c.loop-param-test.false c.loop-param.invariant

use Rattle.std.proofs.Common.{Ok, ◌+◌, drop, ◌∙◌, sym, ap, arith}
use Rattle.serde_json.specs.View.{items_view}
use Rattle.cl_types.proofs.Faults.{passes}
use Rattle.cl_file.specs.Conditions.{condition_at}
use Rattle.cl_file.specs.Paths.{each_from}
use Rattle.cl_file.proofs.Chain.{each_next, each_stops, each_end}
use Rattle.cl_file.proofs.condition.conditions.Goals as goal

pub returns-in_err-next-clause-broken : goal.returns-in_err-next-clause-broken
returns-in_err-next-clause-broken c v =
    passes c.from_residual-in_err-next.result _
    (λ r h. sym (c.loop-i.invariant v) ∙ each_stops _ _ _ _ _ c.index-list-i.result r _ c.loop-i-test.true c.index-list-i.is (c.as_str.ensures.value ∙ c.in_ok-at.ensures) h)
    c.from_residual-in_err-next.ensures.1 (c.in_err-next.ensures.broken v)

pub loop-i-preserved : goal.loop-i-preserved
loop-i-preserved c v =
    ap (λ done. each_from (condition_at v.of) c.args.path.now done (c.loop-i.i + 1) (items_view (drop (c.loop-i.i + 1) c.args.list.now))) c.in_ok-push.ensures.items
    ∙ sym (each_next _ _ _ _ _ c.index-list-i.result _ _ c.loop-i-test.true c.index-list-i.is (c.as_str.ensures.value ∙ c.in_ok-at.ensures) (c.in_ok-next.ensures.found v)) ∙ c.loop-i.invariant v

pub returns-clause-found : goal.returns-clause-found
returns-clause-found c v = sym (c.loop-i.invariant v) ∙ each_end _ _ _ _ _ (omega (arith, c.loop-i-test.false)) ∙ ap Ok (sym c.new.ensures)

use Rattle.std.proofs.Common.{◌<◌, subst, length, ◌+◌, drop, ◌∙◌, sym, ap, arith}
use Rattle.std.proofs.lemmas.List.{length-append}
use Rattle.serde_json.specs.View.{view, items_view}
use Rattle.cl_types.proofs.Faults.{passes}
use Rattle.cl_file.specs.Paths.{each_from}
use Rattle.cl_file.specs.Epochs.{last_height, epoch_above, next_epoch}
use Rattle.cl_file.proofs.Chain.{each_next, each_stops, each_end}
use Rattle.cl_costs.specs.Schedules.{RiseFrom}
use Rattle.cl_file.proofs.Rising.{last_next, rise_next}
use Rattle.cl_file.proofs.epochs.epochs.Goals as goal

pub returns-in_err-next-clause-broken : goal.returns-in_err-next-clause-broken
returns-in_err-next-clause-broken c v =
    passes c.from_residual-in_err-next.result _
    (λ r h. sym (c.loop-i.invariant.read v) ∙ each_stops _ _ _ _ _ c.index-list-i.result r _ c.loop-i-test.true c.index-list-i.is (c.as_str.ensures.value ∙ c.in_ok-at.ensures)
    (ap (λ n. epoch_above v.of n c.as_str.result.now (view c.index-list-i.result)) (sym c.loop-i.invariant.height) ∙ h))
    c.from_residual-in_err-next.ensures.1 (c.in_err-next.ensures.broken v)

pub loop-i-preserved : goal.loop-i-preserved
loop-i-preserved c = record {
  height = sym (last_next 0 c.loop-i.read.items c.in_ok-next.next) ∙ ap (last_height 0) (sym c.in_ok-push.ensures.items);
  rises = subst (RiseFrom 1) (sym c.in_ok-push.ensures.items) (rise_next 0 c.loop-i.read.items c.in_ok-next.next c.loop-i.invariant.rises
      (subst (λ n. n < c.in_ok-next.next.0) c.loop-i.invariant.height c.in_ok-next.ensures.above));
  count = ap length c.in_ok-push.ensures.items ∙ length-append c.loop-i.read.items _ ∙ ap (λ n. n + 1) c.loop-i.invariant.count;
  read = λ v.
      ap (λ done. each_from (next_epoch v.of) c.args.path.now done (c.loop-i.i + 1) (items_view (drop (c.loop-i.i + 1) c.args.list.now))) c.in_ok-push.ensures.items
      ∙ sym (each_next _ _ _ _ _ c.index-list-i.result _ _ c.loop-i-test.true c.index-list-i.is (c.as_str.ensures.value ∙ c.in_ok-at.ensures)
      (ap (λ n. epoch_above v.of n c.as_str.result.now (view c.index-list-i.result)) (sym c.loop-i.invariant.height) ∙ c.in_ok-next.ensures.found v))
      ∙ c.loop-i.invariant.read v;
}

pub returns-clause-found : goal.returns-clause-found
returns-clause-found c v = sym (c.loop-i.invariant.read v) ∙ each_end _ _ _ _ _ (omega (arith, c.loop-i-test.false))

pub returns-clause-rising : goal.returns-clause-rising
returns-clause-rising c = c.loop-i.invariant.rises

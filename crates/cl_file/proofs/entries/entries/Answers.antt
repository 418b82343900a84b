use Rattle.std.proofs.Common.{◌≤◌, subst, length, ◌+◌, drop, ◌∙◌, sym, ap, arith}
use Rattle.std.proofs.lemmas.List.{length-append}
use Rattle.serde_json.specs.View.{view, items_view}
use Rattle.cl_types.proofs.Faults.{passes}
use Rattle.cl_file.specs.Paths.{each_from}
use Rattle.cl_file.specs.Entries.{height_after, height_of, NeverFall, entry_after, entry_at}
use Rattle.cl_file.proofs.Chain.{each_next, each_stops, each_end}
use Rattle.cl_file.proofs.Heights.{height_next, never_fall_next}
use Rattle.cl_file.proofs.entries.entries.Goals as goal

pub returns-in_err-next-clause-broken : goal.returns-in_err-next-clause-broken
returns-in_err-next-clause-broken c v =
    passes c.from_residual-in_err-next.result _
    (λ r h. sym (c.loop-i.invariant.read v) ∙ each_stops _ _ _ _ _ c.index-list-i.result r _ c.loop-i-test.true c.index-list-i.is (c.as_str.ensures.value ∙ c.in_ok-at.ensures)
    (ap (λ n. entry_after v.of n c.as_str.result.now (view c.index-list-i.result)) (sym c.loop-i.invariant.height) ∙ h))
    c.from_residual-in_err-next.ensures.1 (c.in_err-next.ensures.broken v)

pub loop-i-preserved : goal.loop-i-preserved
loop-i-preserved c = record {
  height = c.height_after-height.ensures ∙ ap (λ n. height_after n c.in_ok-next.next) c.loop-i.invariant.height ∙ sym (height_next 0 c.loop-i.read.items c.in_ok-next.next) ∙ ap (height_of 0) (sym c.in_ok-push.ensures.items);
  rises = subst (NeverFall 0) (sym c.in_ok-push.ensures.items) (never_fall_next 0 c.loop-i.read.items c.in_ok-next.next c.loop-i.invariant.rises
      (subst (λ n. n ≤ height_after n c.in_ok-next.next) c.loop-i.invariant.height c.in_ok-next.ensures.rises));
  count = ap length c.in_ok-push.ensures.items ∙ length-append c.loop-i.read.items _ ∙ ap (λ n. n + 1) c.loop-i.invariant.count;
  read = λ v.
      ap (λ done. each_from (entry_at v.of) c.args.path.now done (c.loop-i.i + 1) (items_view (drop (c.loop-i.i + 1) c.args.list.now))) c.in_ok-push.ensures.items
      ∙ sym (each_next _ _ _ _ _ c.index-list-i.result _ _ c.loop-i-test.true c.index-list-i.is (c.as_str.ensures.value ∙ c.in_ok-at.ensures)
      (ap (λ n. entry_after v.of n c.as_str.result.now (view c.index-list-i.result)) (sym c.loop-i.invariant.height) ∙ c.in_ok-next.ensures.found v))
      ∙ c.loop-i.invariant.read v;
}

pub returns-clause-found : goal.returns-clause-found
returns-clause-found c v = sym (c.loop-i.invariant.read v) ∙ each_end _ _ _ _ _ (omega (arith, c.loop-i-test.false))

pub returns-clause-rising : goal.returns-clause-rising
returns-clause-rising c = c.loop-i.invariant.rises

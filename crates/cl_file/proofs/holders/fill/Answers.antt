use Rattle.std.proofs.Common.{subst, [], ◌+◌, drop, ◌∙◌, sym, ap, arith}
use Rattle.serde_json.specs.View.{items_view}
use Rattle.cl_types.proofs.Faults.{passes}
use Rattle.cl_file.specs.Paths.{each_from}
use Rattle.cl_file.specs.Files.{holder_at, AreOnce}
use Rattle.cl_file.proofs.Chain.{each_next, each_stops, each_end}
use Rattle.cl_file.proofs.Holdings.{once_next}
use Rattle.cl_file.proofs.holders.fill.Goals as goal

pub returns-in_err-principal-clause-broken : goal.returns-in_err-principal-clause-broken
returns-in_err-principal-clause-broken c v =
    passes c.from_residual-in_err-principal.result _
    (λ r h. sym (c.loop-i.invariant.read v) ∙ each_stops _ _ _ _ _ c.index-list-i.result r _ c.loop-i-test.true c.index-list-i.is (c.as_str.ensures.value ∙ c.in_ok-at.ensures) h)
    c.from_residual-in_err-principal.ensures.1 (c.in_err-principal.ensures.broken v)

pub loop-i-preserved : goal.loop-i-preserved
loop-i-preserved c = record {
  once = subst (AreOnce []) (sym c.in_ok-grow.ensures) (once_next [] c.loop-i.held.entries _ c.loop-i.invariant.once c.in_ok-principal.ensures.new);
  read = λ v.
      ap (λ done. each_from (holder_at v.of) c.args.path.now done (c.loop-i.i + 1) (items_view (drop (c.loop-i.i + 1) c.args.list.now))) c.in_ok-grow.ensures
      ∙ sym (each_next _ _ _ _ _ c.index-list-i.result _ _ c.loop-i-test.true c.index-list-i.is (c.as_str.ensures.value ∙ c.in_ok-at.ensures) (c.in_ok-principal.ensures.found v)) ∙ c.loop-i.invariant.read v;
}

pub returns-clause-found : goal.returns-clause-found
returns-clause-found c v = sym (c.loop-i.invariant.read v) ∙ each_end _ _ _ _ _ (omega (arith, c.loop-i-test.false))

pub returns-clause-once : goal.returns-clause-once
returns-clause-once c = c.loop-i.invariant.once

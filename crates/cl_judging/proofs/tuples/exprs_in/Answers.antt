use Rattle.std.proofs.Common.{ℕ, List, map, refl, ap, ◌∙◌}
use Rattle.std.specs.Borrow.{Bor}
use Rattle.cl_sexpr.specs.Tree.{Tree}
use Rattle.cl_typing.proofs.InOrder.{one_read, one_shown, all_taken}
use Rattle.cl_judging.proofs.tuples.exprs_in.Goals as goal

pub loop-pair-preserved : goal.loop-pair-preserved
loop-pair-preserved c =
    one_shown (λ (e : Bor Tree). e.now) c.loop-pair.exprs.items _ _ _ c.pair-item.result.1 c.in_ok-push.ensures.items refl c.loop-pair.invariant
    ∙ one_read (λ (p : List ℕ × Tree). p.1) c.args.pairs.now c.loop-pair.pair-index c.pair-item.result c.loop-pair-test.true c.pair-item.is

pub returns : goal.returns
returns c = c.loop-pair.invariant ∙ ap (map (λ (p : List ℕ × Tree). p.1)) (all_taken c.args.pairs.now c.loop-pair.pair-index c.loop-pair-test.false)

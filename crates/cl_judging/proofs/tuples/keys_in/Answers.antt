use Rattle.std.proofs.Common.{ℕ, List, [], ◌∷◌, ◌++◌, ap, ◌∙◌}
use Rattle.cl_sexpr.specs.Tree.{Tree}
use Rattle.cl_rules.specs.DataShapes.{keys_of}
use Rattle.cl_typing.proofs.InOrder.{one_read, all_taken}
use Rattle.cl_judging.proofs.tuples.keys_in.Goals as goal

pub loop-pair-preserved : goal.loop-pair-preserved
loop-pair-preserved c =
    c.in_ok-push.ensures.items ∙ ap (λ (ks : List (List ℕ)). ks ++ c.pair-item.result.0 ∷ []) c.loop-pair.invariant
    ∙ one_read (λ (p : List ℕ × Tree). p.0) c.args.pairs.now c.loop-pair.pair-index c.pair-item.result c.loop-pair-test.true c.pair-item.is

pub returns : goal.returns
returns c = c.loop-pair.invariant ∙ ap keys_of (all_taken c.args.pairs.now c.loop-pair.pair-index c.loop-pair-test.false)

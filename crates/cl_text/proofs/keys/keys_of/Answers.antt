use Rattle.std.proofs.Common.{◌+◌, ℕ, List, ◌++◌, [], ◌∷◌, drop, ap, sym, ◌∙◌, append_assoc, append-nil}
use Rattle.std.proofs.lemmas.List.{drop_all}
use Rattle.cl_sexpr.specs.Tree.{Tree as Item, Pairs, pairs}
use Rattle.cl_text.specs.Literal.{keys_of}
use Rattle.cl_text.proofs.Rows.{pairs_at}
use Rattle.cl_text.proofs.keys.keys_of.Goals as goal

pub loop-part-preserved : goal.loop-part-preserved
loop-part-preserved c =
    let rest : List (List ℕ) = keys_of (pairs (drop (c.loop-part.part-index + 1) c.args.parts.now)) in
    c.loop-part.invariant
    ∙ ap (λ (ps : Pairs). c.loop-part.keys.items ++ keys_of ps) (pairs_at c.args.parts.now c.loop-part.part-index c.part-item.result c.loop-part-test.true c.part-item.is)
    ∙ sym (append_assoc c.loop-part.keys.items (c.part-item.result.0 ∷ []) rest)
    ∙ ap (λ (ks : List (List ℕ)). ks ++ rest) (sym c.in_ok-push.ensures.items)

pub returns : goal.returns
returns c =
    sym (c.loop-part.invariant
    ∙ ap (λ (ps : List (List ℕ × Item)). c.loop-part.keys.items ++ keys_of (pairs ps)) (drop_all c.loop-part.part-index c.args.parts.now c.loop-part-test.false)
    ∙ append-nil c.loop-part.keys.items)

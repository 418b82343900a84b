use Rattle.std.proofs.Common.{ℕ, List, [], ◌∷◌, ◌++◌, get_or, sym, ap, ◌∙◌}
use Rattle.std.proofs.lemmas.List.{take_more}
use Rattle.cl_typing.proofs.InOrder.{all_taken}
use Rattle.cl_check.proofs.reading.widened.Goals as goal

pub loop-place-preserved : goal.loop-place-preserved
loop-place-preserved c =
    c.in_ok-push.ensures.items ∙ ap (λ (ps : List ℕ). ps ++ get_or c.args.places.now c.loop-place.place-index 0 ∷ []) c.loop-place.invariant
    ∙ sym (take_more c.args.places.now c.loop-place.place-index 0 c.loop-place-test.true)

pub returns : goal.returns
returns c = c.loop-place.invariant ∙ all_taken c.args.places.now c.loop-place.place-index c.loop-place-test.false

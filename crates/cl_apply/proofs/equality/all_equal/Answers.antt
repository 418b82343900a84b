use Rattle.std.proofs.Common.{◌≡◌, ℕ, ◌+◌, ◌<◌, ◌&&◌, get_or, drop, Bool, true, false, List, length, refl, ap, sym, ◌∙◌}
use Rattle.std.proofs.lemmas.List.{drop_more, drop_all}
use Rattle.cl_values.specs.Tree.{Tree}
use Rattle.cl_values.specs.Sequences.{equal}
use Rattle.cl_values.specs.Natives.{all_equal}
use Rattle.cl_apply.proofs.equality.all_equal.Goals as goal

-- one value more is compared
compared : (v w : Tree) (vs : List Tree) (i : ℕ) (b : Bool) → i < length vs → w ≡ get_or vs i w → equal v w ≡ b → all_equal v (drop i vs) ≡ b && all_equal v (drop (i + 1) vs)
compared v w vs i b low at is =
    ap (all_equal v) (drop_more vs i w low) ∙ ap (λ x. equal v x && all_equal v (drop (i + 1) vs)) (sym at) ∙ ap (λ c. c && all_equal v (drop (i + 1) vs)) is

pub loop-other-init : goal.loop-other-init
loop-other-init c = refl

pub loop-other-preserved : goal.loop-other-preserved
loop-other-preserved c =
    let is : equal c.args.first.now c.other-item.result ≡ true = sym (λ j. equal (c.value.ensures.tree j) (c.value-in-loop-other.ensures.tree j)) ∙ sym c.are_alike.ensures ∙ c.if-not-are_alike.false in
    c.loop-other.invariant ∙ compared c.args.first.now c.other-item.result c.args.others.now c.loop-other.other-index true c.loop-other-test.true c.other-item.is is

pub returns-then-not-are_alike : goal.returns-then-not-are_alike
returns-then-not-are_alike c =
    let is : equal c.args.first.now c.other-item.result ≡ false = sym (λ j. equal (c.value.ensures.tree j) (c.value-in-loop-other.ensures.tree j)) ∙ sym c.are_alike.ensures ∙ c.if-not-are_alike.true in
    sym (c.loop-other.invariant ∙ compared c.args.first.now c.other-item.result c.args.others.now c.loop-other.other-index false c.loop-other-test.true c.other-item.is is)

pub returns : goal.returns
returns c = sym (c.loop-other.invariant ∙ ap (all_equal c.args.first.now) (drop_all c.loop-other.other-index c.args.others.now c.loop-other-test.false))

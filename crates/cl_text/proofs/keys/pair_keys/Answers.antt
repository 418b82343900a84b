use Rattle.std.proofs.Common.{◌+◌, ℕ, List, drop, ap, sym, ◌∙◌, append-nil}
use Rattle.std.specs.Prelude.{Option, Some}
use Rattle.std.proofs.lemmas.List.{drop_all}
use Rattle.cl_sexpr.specs.Tree.{Tree as Item, forest}
use Rattle.cl_text.specs.Literal.{pair_keys}
use Rattle.cl_text.proofs.Rows.{behind_keys, pair_keys_begin, pair_keys_more, pair_keys_none}
use Rattle.cl_text.proofs.keys.pair_keys.Goals as goal

pub loop-item-init : goal.loop-item-init
loop-item-init c =
    let o : Option (List (List ℕ)) = pair_keys (forest c.args.items.now) in
    pair_keys_begin o ∙ ap (λ (ks : List (List ℕ)). behind_keys ks o) (sym c.in_ok-keys.ensures.items)

pub loop-item-preserved : goal.loop-item-preserved
loop-item-preserved c =
    c.loop-item.invariant
    ∙ pair_keys_more c.args.items.now c.loop-item.item-index c.item-item.result c.loop-item.keys.items c.in-Some.key c.loop-item-test.true c.item-item.is (sym c.in-Some.is ∙ c.pair_key.ensures)
    ∙ ap (λ (ks : List (List ℕ)). behind_keys ks (pair_keys (forest (drop (c.loop-item.item-index + 1) c.args.items.now)))) (sym c.in_ok-push-in-Some.ensures.items)

pub returns-in-None : goal.returns-in-None
returns-in-None c =
    sym (c.loop-item.invariant ∙ pair_keys_none c.args.items.now c.loop-item.item-index c.item-item.result c.loop-item.keys.items c.loop-item-test.true c.item-item.is (sym c.in-None.is ∙ c.pair_key.ensures))

pub returns : goal.returns
returns c =
    sym (c.loop-item.invariant
    ∙ ap (λ (x : List Item). behind_keys c.loop-item.keys.items (pair_keys (forest x))) (drop_all c.loop-item.item-index c.args.items.now c.loop-item-test.false)
    ∙ ap (λ (ks : List (List ℕ)). Some ks) (append-nil c.loop-item.keys.items))

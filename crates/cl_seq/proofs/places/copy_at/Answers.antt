use Rattle.std.proofs.Common.{◌<◌, length, None, Some, ap, sym, subst, ◌∙◌, arith}
use Rattle.cl_values.specs.Valid.{IsVal}
use Rattle.cl_seq.proofs.Singles.{item_of_list, item_there, listed, nothing_there}
use Rattle.cl_seq.proofs.places.copy_at.Goals as goal

pub returns-then-at-values : goal.returns-then-at-values
returns-then-at-values c = listed c.args.values.now c.args.at None (nothing_there c.args.values.now c.args.at (omega (arith, c.if-at-values.true)))

pub counted-requires : goal.counted-requires
counted-requires c =
    let small : c.args.at < length c.args.values.now = omega (arith, c.if-at-values.false) in
    subst IsVal (sym c.in_ok-value.ensures) (item_of_list c.args.values.now c.args.at c.index-values-at.result c.requires small c.index-values-at.is)

pub returns : goal.returns
returns c =
    let small : c.args.at < length c.args.values.now = omega (arith, c.if-at-values.false) in
    listed c.args.values.now c.args.at (Some c.counted.result)
    (ap Some (c.counted.ensures ∙ c.in_ok-value.ensures) ∙ item_there c.args.values.now c.args.at c.index-values-at.result small c.index-values-at.is)

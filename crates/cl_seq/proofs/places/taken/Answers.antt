use Rattle.std.proofs.Common.{◌<◌, length, Some, ap, ◌∙◌, arith}
use Rattle.cl_seq.proofs.Singles.{item_of_list, item_there}
use Rattle.cl_seq.proofs.places.taken.Goals as goal

pub counted-requires : goal.counted-requires
counted-requires c =
    let small : c.args.at < length c.args.values.items = omega (arith, c.if-at-len.false, c.len.ensures, c.args.values.ok.0) in
    item_of_list c.args.values.items c.args.at c.swap_remove.result c.requires small c.swap_remove.ensures.value

pub returns : goal.returns
returns c =
    let small : c.args.at < length c.args.values.items = omega (arith, c.if-at-len.false, c.len.ensures, c.args.values.ok.0) in
    ap Some c.counted.ensures ∙ item_there c.args.values.items c.args.at c.swap_remove.result small c.swap_remove.ensures.value

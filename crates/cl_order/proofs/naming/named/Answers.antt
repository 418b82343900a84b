use Rattle.cl_order.proofs.Sorted.{places_named}
use Rattle.cl_order.proofs.naming.named.Goals as goal

pub returns : goal.returns
returns c =
    places_named c.args.forms.now c.args.index.now c.args.place c.index-forms-place.result c.in_ok-found.found.items c.sort_unstable.new.self.items c.dedup.new.self.items
    c.requires.index c.requires.there c.index-forms-place.is c.in_ok-found.ensures c.sort_unstable.ensures.permutation c.sort_unstable.ensures.sorted c.dedup.ensures.filtered

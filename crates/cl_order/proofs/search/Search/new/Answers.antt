use Rattle.cl_order.proofs.Stepping.{all_fresh}
use Rattle.cl_order.proofs.search.Search.new.Goals as goal

pub returns-clause-sound : goal.returns-clause-sound
returns-clause-sound c = all_fresh c.args.forms.now _ (c.in_ok-vec.ensures.items_if_clones_equal (λ y h. h)) c.new.ensures.items c.new-2.ensures.items

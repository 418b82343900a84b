use Rattle.cl_values.specs.Tree.{BuffV}
use Rattle.cl_seq.proofs.Singles.{no_single, one_single}
use Rattle.cl_seq.proofs.places.buff_at.Goals as goal

pub returns-in-None : goal.returns-in-None
returns-in-None c = no_single BuffV c.args.bytes.now c.args.at c.in-None.ensures

pub returns-in_ok-single_buff-in-Some : goal.returns-in_ok-single_buff-in-Some
returns-in_ok-single_buff-in-Some c = one_single BuffV c.args.bytes.now c.args.at c.in-Some.byte _ c.in-Some.ensures c.in_ok-single_buff-in-Some.ensures

use Rattle.cl_values.specs.Tree.{AsciiV}
use Rattle.cl_seq.proofs.Singles.{no_single, one_single, text_at}
use Rattle.cl_seq.proofs.places.text_at.Goals as goal

pub single_text-requires : goal.single_text-requires
single_text-requires c = text_at c.args.bytes.now c.args.at c.in-Some.byte c.requires c.in-Some.ensures

pub returns-in-None : goal.returns-in-None
returns-in-None c = no_single AsciiV c.args.bytes.now c.args.at c.in-None.ensures

pub returns-in_ok-single_text-in-Some : goal.returns-in_ok-single_text-in-Some
returns-in_ok-single_text-in-Some c = one_single AsciiV c.args.bytes.now c.args.at c.in-Some.byte _ c.in-Some.ensures c.in_ok-single_text-in-Some.ensures

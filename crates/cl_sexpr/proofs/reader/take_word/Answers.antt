use Rattle.cl_sexpr.proofs.Names.{name_lexes}
use Rattle.cl_sexpr.proofs.reader.take_word.Goals as goal

pub take_named-requires-clause-name : goal.take_named-requires-clause-name
take_named-requires-clause-name c =
    name_lexes c.args.at c.run_length-size.result c.args.bytes.now c.in-Some.name c.run_length-size.ensures.value c.run_length-size.ensures.within c.requires.begun c.in-Some.ensures.0 c.in-Some.ensures.1

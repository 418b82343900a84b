use Rattle.std.proofs.Common.{rules}
use Rattle.cl_values.specs.Tree.{AsciiV}
use Rattle.cl_values.specs.Valid.{IsVal}
use Rattle.cl_seq.proofs.Exchanges.{text_set_fine}
use Rattle.cl_seq.proofs.replacing.replace_in_text.Goals as goal

pub some_whole-requires-clause-fine : goal.some_whole-requires-clause-fine
some_whole-requires-clause-fine c =
    let item : IsVal (AsciiV c.deref.result.now) = search rules in
    text_set_fine c.args.bytes.items c.in-Some.bytes.items c.deref.result.now c.args.at c.requires item c.in-Some.ensures

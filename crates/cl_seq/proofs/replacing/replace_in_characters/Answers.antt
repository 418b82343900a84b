use Rattle.std.proofs.Common.{rules}
use Rattle.cl_values.specs.Tree.{Utf8V}
use Rattle.cl_values.specs.Valid.{IsVal}
use Rattle.cl_seq.proofs.Exchanges.{characters_set_fine}
use Rattle.cl_seq.proofs.replacing.replace_in_characters.Goals as goal

pub some_whole-requires-clause-fine : goal.some_whole-requires-clause-fine
some_whole-requires-clause-fine c =
    let item : IsVal (Utf8V c.deref.result.now) = search rules in
    characters_set_fine c.args.characters.items c.in-Some.characters.items c.deref.result.now c.args.at c.requires item c.in-Some.ensures

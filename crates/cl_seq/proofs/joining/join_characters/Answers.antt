use Rattle.std.proofs.Common.{arith}
use Rattle.cl_seq.proofs.Characters.{characters_fine, characters_size}
use Rattle.cl_seq.proofs.joining.join_characters.Goals as goal

pub made-requires-clause-fine : goal.made-requires-clause-fine
made-requires-clause-fine c =
    characters_fine c.args.characters.items c.args.others.items c.in_ok-characters.characters.items c.in_ok-characters.ensures c.requires.first c.requires.second

pub made-requires-clause-counted : goal.made-requires-clause-counted
made-requires-clause-counted c =
    omega (arith, characters_size c.args.characters.items c.args.others.items c.in_ok-characters.characters.items c.in_ok-characters.ensures, c.requires.counted)

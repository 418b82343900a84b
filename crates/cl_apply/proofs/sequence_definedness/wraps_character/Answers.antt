use Rattle.cl_apply.proofs.SequenceLaws.{character_fits}
use Rattle.cl_apply.proofs.sequence_definedness.wraps_character.Goals as goal

pub returns : goal.returns
returns c =
    character_fits c.args.characters.now c.args.at c.index-characters-at.result c.args.character c.characters_size.result c.len_utf8-2.result c.len_utf8.result
    c.requires.place c.index-characters-at.is c.characters_size.ensures.counted c.requires.long c.len_utf8-2.ensures.len c.len_utf8.ensures.len

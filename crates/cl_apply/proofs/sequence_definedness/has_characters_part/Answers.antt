use Rattle.cl_apply.proofs.SequenceLaws.{characters_part, no_characters_part}
use Rattle.cl_apply.proofs.sequence_definedness.has_characters_part.Goals as goal

pub returns-in-Some : goal.returns-in-Some
returns-in-Some c = characters_part c.args.left c.args.right c.args.characters.now c.in-Some.part.now c.characters_size.result c.characters_size.ensures.counted c.in-Some.ensures

pub returns-in-None : goal.returns-in-None
returns-in-None c = no_characters_part c.args.left c.args.right c.args.characters.now c.in-None.ensures

use Rattle.cl_values.specs.Tree.{Utf8V}
use Rattle.cl_seq.proofs.Singles.{no_single, one_single}
use Rattle.cl_seq.proofs.places.character_at.Goals as goal

pub returns-in-None : goal.returns-in-None
returns-in-None c = no_single Utf8V c.args.characters.now c.args.at c.in-None.ensures

pub returns-in_ok-single_character-in-Some : goal.returns-in_ok-single_character-in-Some
returns-in_ok-single_character-in-Some c = one_single Utf8V c.args.characters.now c.args.at c.in-Some.character _ c.in-Some.ensures c.in_ok-single_character-in-Some.ensures

use Rattle.std.proofs.Common.{sym, ◌∙◌}
use Rattle.cl_check.proofs.AddedNames.{at_end}
use Rattle.cl_check.proofs.NamePlaces.{nameless, is_new, name_placed}
use Rattle.cl_check.proofs.placing.add_place.Goals as goal

pub returns-in_ok-insert-in-Some : goal.returns-in_ok-insert-in-Some
returns-in_ok-insert-in-Some c forms own here h =
    name_placed forms c.args.place c.args.places.now.entries c.in-Some.name.now own (here ∙ sym c.in-Some.ensures) h c.insert.new.self.entries
    (at_end c.in-Some.name.now c.args.place c.args.places.now c.insert.new.self.entries (is_new forms c.args.place c.args.places.now.entries c.in-Some.name.now own (here ∙ sym c.in-Some.ensures) h) c.in_ok-insert-in-Some.ensures.entries)

pub returns-in-None : goal.returns-in-None
returns-in-None c forms own here h = nameless forms c.args.place c.args.places.now.entries (here ∙ sym c.in-None.ensures) h

use Rattle.std.proofs.Common.{map}
use Rattle.cl_code.specs.Definitions.{form_defined}
use Rattle.cl_check.proofs.NamePlaces.{none_placed, name_defined, all_names_placed}
use Rattle.cl_check.proofs.placing.places.Goals as goal

pub loop-place-init : goal.loop-place-init
loop-place-init c = none_placed (map form_defined c.args.definitions.now) c.with_hasher-places.result.entries c.with_hasher-places.ensures.empty

pub loop-place-preserved : goal.loop-place-preserved
loop-place-preserved c =
    c.in_ok-add_place.ensures (map form_defined c.args.definitions.now) c.requires
    (name_defined c.args.definitions.now c.loop-place.place c.index-definitions-place.result c.loop-place-test.true c.index-definitions-place.is) c.loop-place.invariant

pub returns : goal.returns
returns c = all_names_placed c.args.definitions.now c.loop-place.place c.loop-place.places.entries c.loop-place.invariant c.loop-place-test.false

-- What bodies of both versions use.
use Rattle.std.proofs.Common.{◌≡◌, [], ◌∷◌, refl, codes}
use Rattle.cl_meaning.specs.Opened.{opened}
use Rattle.cl_meaning.specs.Samples.{of_P0}
use Rattle.cl_tables.specs.declared.spot.Spot.TheVariants.{Variable}
use Rattle.cl_touch.specs.Uses.{Writes, Applies, Crosses, of_own}
use Rattle.cl_touch.specs.Touches.{at_write, at_function, at_contract, Written}
use Rattle.cl_touch.specs.Bodies.{uses_of}
use Rattle.cl_touch.specs.VersionRow.{old, old_and_new}
use Rattle.cl_touch.proofs.Samples.{used_first}

pub own_function : uses_of old_and_new (of_P0 (codes "old")) (codes "go") ≡ Applies (codes "bit-and") ∷ []
unfolding opened
own_function = refl

pub native_there : uses_of old_and_new (of_P0 (codes "new")) (codes "low") ≡ []
unfolding opened
native_there = refl

pub asks : uses_of old_and_new (of_P0 (codes "new")) (codes "ask") ≡ Crosses (of_P0 (codes "old")) (codes "go") ∷ []
unfolding opened
asks = refl

sets : uses_of old_and_new (of_P0 (codes "old")) (codes "bit-and") ≡ Writes (Variable (of_own (of_P0 (codes "old")) (codes "n"))) ∷ []
unfolding opened
sets = refl

pub through : Written old_and_new (of_P0 (codes "new")) (codes "ask") (Variable (of_own (of_P0 (codes "old")) (codes "n")))
through =
    at_contract (of_P0 (codes "old")) (codes "go") old (used_first old_and_new (of_P0 (codes "new")) (codes "ask") _ _ asks) refl
    (at_function (codes "bit-and") (used_first old_and_new (of_P0 (codes "old")) (codes "go") _ _ own_function) (at_write (used_first old_and_new (of_P0 (codes "old")) (codes "bit-and") _ _ sets)))

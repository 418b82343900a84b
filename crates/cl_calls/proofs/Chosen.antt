-- A part that was true or false, and what its form does then.
use Rattle.std.proofs.Common.{◌≡◌, Bool, true, false, refl}
use Rattle.cl_shapes.specs.Limits.{Purse}
use Rattle.cl_values.specs.Tree.{Tree as Val, BoolV}
use Rattle.cl_events.specs.State.{State}
use Rattle.cl_meaning.specs.Answers.{Answer, and_then}
use Rattle.cl_meaning.specs.Control.{choice}
use Rattle.cl_meaning.specs.Limits.{Costs}
use Rattle.cl_frames.specs.Watching.{Seen, Gave, watched, truthful}
use Rattle.cl_frames.proofs.Ways.{chose_first, chose_second}

pub chose_by : (costs : Costs) (p q : Purse) (sp sq : Seen) (a : Answer Val) (x y : State → Answer Val) (b : Bool) (s : State) → truthful (watched costs p sp a) ≡ Gave b s q sq → watched costs p sp (and_then a (λ v t. choice v x y t)) ≡ watched costs q sq (choice (BoolV b) x y s)
chose_by costs p q sp sq a x y true s h = chose_first costs p q sp sq a x y true s h refl
chose_by costs p q sp sq a x y false s h = chose_second costs p q sp sq a x y false s h refl

-- What was committed since a node, and what a trial at that node is worth then.
use Rattle.std.proofs.Common.{◌≡◌, List, [], ◌∷◌, ◌++◌, Contains, Option, Some, None, refl, sym, subst}
use Rattle.cl_costs.specs.Schedules.{ScheduleSeen}
use Rattle.cl_tx.specs.Nodes.{NodeSeen}
use Rattle.cl_tables.specs.declared.spot.Spot.{Spot}
use Rattle.cl_spots.specs.Spots.{IsSpot, AgreeAt}
use Rattle.cl_spots.proofs.Grafts.{agree_itself, agree_on}
use Rattle.cl_touch_sound.specs.Calls.{IsAtRest, DifferInState, CallBetween}
use Rattle.cl_touch_sound.proofs.Grafting.{AgreesOff, call_agrees_off, differ_on}
use Rattle.cl_lanes.specs.Lanes.{Spares}

abbrev pub AreValid : List Spot → Type 0
AreValid spots = (x : Spot) → Contains spots x → IsSpot x

-- From one node to another by calls, each with the spots that it writes, and maybe more; after a barrier nothing is known.
abbrev pub Since : ScheduleSeen → NodeSeen → List (Option (List Spot)) → NodeSeen → Type 0
Since schedule n [] m = m ≡ n
Since schedule n (None ∷ more) m = Unit {0}
Since schedule n (Some spots ∷ more) m =
    (next : NodeSeen) × CallBetween schedule n spots next × AreValid spots × Since schedule next more m

pub since_call : (schedule : ScheduleSeen) (wrote : List (Option (List Spot))) (n m o : NodeSeen) (spots : List Spot) → Since schedule n wrote m → CallBetween schedule m spots o → AreValid spots → Since schedule n (wrote ++ Some spots ∷ []) o
since_call schedule [] n m o spots is between valid = subst (λ (n : NodeSeen). Since schedule n (Some spots ∷ []) o) is (o, between, valid, refl)
since_call schedule (None ∷ more) n m o spots h between valid = tt
since_call schedule (Some w ∷ more) n m o spots h between valid = (h.0, h.1, h.2, since_call schedule more h.0 m o spots h.3 between valid)

pub since_barrier : (schedule : ScheduleSeen) (wrote : List (Option (List Spot))) (n m o : NodeSeen) → Since schedule n wrote m → Since schedule n (wrote ++ None ∷ []) o
since_barrier schedule [] n m o is = tt
since_barrier schedule (None ∷ more) n m o h = tt
since_barrier schedule (Some w ∷ more) n m o h = (h.0, h.1, h.2, since_barrier schedule more h.0 m o h.3)

-- where the calls spared these spots, the nodes differ in state alone, and agree there
pub record AgreeStill (touched : List Spot) (n m : NodeSeen) : Type 0 where
  pub differ : DifferInState n m
  pub rest : IsAtRest m.state
  pub agree : (x : Spot) → Contains touched x → AgreeAt n.state m.state x

pub spared_agree : (schedule : ScheduleSeen) (touched : List Spot) → AreValid touched → (wrote : List (Option (List Spot))) (n m : NodeSeen) → IsAtRest n.state → Since schedule n wrote m → Spares touched wrote → AgreeStill touched n m
spared_agree schedule touched are [] n m calm is spare =
    subst (AgreeStill touched n) (sym is) (record { differ = refl; rest = calm; agree = λ x c. agree_itself n.state x })
spared_agree schedule touched are (None ∷ more) n m calm h spare = absurd spare
spared_agree schedule touched are (Some spots ∷ more) n m calm (next, between, valid, rest) spare =
    let one : AgreesOff spots n next = call_agrees_off schedule n next spots calm valid between in
    let after : AgreeStill touched next m = spared_agree schedule touched are more next m one.rest rest spare.1 in record {
      differ = differ_on n next m one.differ after.differ;
      rest = after.rest;
      agree = λ x there. agree_on n.state next.state m.state x (one.agree x (are x there) (spare.0 x there)) (after.agree x there);
    }

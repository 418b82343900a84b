-- A trial that is grafted is a step, and what calls between two nodes leave as it was.
use Rattle.std.proofs.Common.{◌≡◌, List, [], ◌∷◌, Contains, refl, sym, ap, subst, ◌∙◌}
use Rattle.std.proofs.lemmas.List.Elements.{Contains-push, Contains-append_left, Contains-append_right}
use Rattle.cl_events.specs.State.{State}
use Rattle.cl_costs.specs.Schedules.{ScheduleSeen}
use Rattle.cl_meaning.specs.Deployed.{Deployed}
use Rattle.cl_file.specs.declared.entry.Entry.{Entry}
use Rattle.cl_file.specs.declared.entry.Entry.TheVariants.{Call, Deploy, Block}
use Rattle.cl_tx.specs.Nodes.{NodeSeen, Stepped}
use Rattle.cl_tx.specs.Step.{Steps}
use Rattle.cl_tables.specs.declared.spot.Spot.{Spot}
use Rattle.cl_spots.specs.Spots.{IsSpot, AgreeAt, Agree, IsChangedAt, grafted}
use Rattle.cl_spots.proofs.Grafts.{agree_itself, agree_back, agree_on, grafts_are_all, others_agree, wider}
use Rattle.cl_touch.proofs.Functions.{of_written}
use Rattle.cl_touch_sound.specs.Calls.{IsCall, TouchedBy, WrittenBy, IsFootprintOf, IsAtRest, DifferInState, IsNodeChangedAt, StepAlike, CallBetween, CallsBetween}
use Rattle.cl_touch_sound.specs.Laws.{with_graft, GraftsAreSteps, AreSpots, AgreeElsewhere, OthersStay, TrialsMayBeCommitted}
use Rattle.cl_touch_sound.proofs.Alike.{nodes_step_alike, calls_change_nodes}

-- ---- the spots of an entry

-- an entry that has spots is a call, its lists have them all, they are valid, and what is written is touched
pub record AreSpotsOf (W : Deployed) (e : Entry) (touched written : List Spot) : Type 0 where
  pub call : IsCall e
  pub touches : (x : Spot) → TouchedBy W e x → Contains touched x
  pub writes : (x : Spot) → WrittenBy W e x → Contains written x
  pub written_touched : (x : Spot) → Contains written x → TouchedBy W e x
  pub valid : (x : Spot) → Contains touched x → IsSpot x

pub spots_of : (W : Deployed) (e : Entry) (touched written : List Spot) → IsFootprintOf W e touched written → AreSpotsOf W e touched written
spots_of W (Call common p f args) touched written foot = record {
  call = tt;
  touches = foot.touches.whole;
  writes = foot.writes.whole;
  written_touched = λ x c. let w = foot.writes.sound x c in (w.0, of_written W x p f w.1);
  valid = foot.valid;
}
spots_of W (Deploy common name source version) touched written foot = absurd foot
spots_of W (Block height) touched written foot = absurd foot

-- ---- grafts

pub grafts_are_steps : GraftsAreSteps
grafts_are_steps schedule n m e touched written trial differ calm_n calm_m foot agree step =
    subst (Steps schedule m e) (λ i. record { node = same_node i; result = sym second.2.result i }) second.1
  where
    spots : AreSpotsOf n.contracts e touched written
    spots = spots_of n.contracts e touched written foot

    second : (b : Stepped) × Steps schedule m e b × StepAlike (TouchedBy n.contracts e) (WrittenBy n.contracts e) n m trial b
    second = nodes_step_alike schedule n m e trial spots.call differ calm_n calm_m (λ x h. agree x (spots.touches x h)) step

    there : Agree (Contains written) second.0.node.state trial.node.state
    there x c = agree_back trial.node.state second.0.node.state x (second.2.agree x (spots.written_touched x c))

    same_state : second.0.node.state ≡ grafted written trial.node.state m.state
    same_state =
        grafts_are_all written trial.node.state m.state second.0.node.state there (wider (WrittenBy n.contracts e) (Contains written) spots.writes m.state second.0.node.state second.2.second.state)
        second.2.second.events second.2.second.moves

    same_node : second.0.node ≡ with_graft written trial.node.state m
    same_node = second.2.second.rest ∙ ap (λ (s : State). record m { state = s }) same_state

-- ---- calls in between

here : {X : Type 0} (x : X) (xs : List X) → Contains (x ∷ xs) x
here x xs = Contains-append_left (x ∷ []) xs x (Contains-push [] x)

later : {X : Type 0} (x : X) (xs : List X) (y : X) → Contains xs y → Contains (x ∷ xs) y
later x xs y c = Contains-append_right (x ∷ []) xs y c

pub differ_on : (n m o : NodeSeen) → DifferInState n m → DifferInState m o → DifferInState n o
differ_on n m o d e = e ∙ ap (λ (k : NodeSeen). record k { state = o.state }) d

-- a call leaves contracts and height, and the state at the spots that it doesn't write
pub record AgreesOff (spots : List Spot) (n m : NodeSeen) : Type 0 where
  pub differ : DifferInState n m
  pub rest : IsAtRest m.state
  pub agree : (x : Spot) → IsSpot x → (Contains spots x → ⊥) → AgreeAt n.state m.state x

pub call_agrees_off : (schedule : ScheduleSeen) (n m : NodeSeen) (spots : List Spot) → IsAtRest n.state → ((x : Spot) → Contains spots x → IsSpot x) → CallBetween schedule n spots m → AgreesOff spots n m
call_agrees_off schedule n m spots calm valid between = subst (AgreesOff spots n) between.after (record {
  differ = c.rest;
  rest = (c.events ∙ calm.0, c.moves ∙ calm.1);
  agree = λ x is none. agree_back between.step.node.state n.state x (others_agree spots valid n.state between.step.node.state changed x is none);
})
  where
    c : IsNodeChangedAt (WrittenBy n.contracts between.entry) n between.step.node
    c = calls_change_nodes schedule n between.entry between.step between.call calm between.steps

    changed : IsChangedAt (Contains spots) n.state between.step.node.state
    changed = wider (WrittenBy n.contracts between.entry) (Contains spots) between.covers n.state between.step.node.state c.state

pub others_stay_from : (schedule : ScheduleSeen) (wrote : List (List Spot)) (n m : NodeSeen) → IsAtRest n.state → AreSpots wrote → CallsBetween schedule n wrote m → AgreeElsewhere wrote n m
others_stay_from schedule [] n m calm valid is =
    subst (AgreeElsewhere [] n) (sym is) (record { differ = refl; rest = calm; agree = λ x spot none. agree_itself n.state x })
others_stay_from schedule (spots ∷ more) n m calm valid (next, one, rest) =
    let first : AgreesOff spots n next = call_agrees_off schedule n next spots calm (valid spots (here spots more)) one in
    let after : AgreeElsewhere more next m = others_stay_from schedule more next m first.rest (λ other there x d. valid other (later spots more other there) x d) rest in record {
      differ = differ_on n next m first.differ after.differ;
      rest = after.rest;
      agree = λ x spot none. agree_on n.state next.state m.state x (first.agree x spot (none spots (here spots more))) (after.agree x spot (λ other there d. none other (later spots more other there) d));
    }

pub others_stay : OthersStay
others_stay schedule n m wrote calm valid between = others_stay_from schedule wrote n m calm valid between

pub trials_may_be_committed : TrialsMayBeCommitted
trials_may_be_committed schedule n m wrote e touched written trial calm valid between foot apart step =
    let after : AgreeElsewhere wrote n m = others_stay_from schedule wrote n m calm valid between in
    let spots : AreSpotsOf n.contracts e touched written = spots_of n.contracts e touched written foot in
    grafts_are_steps schedule n m e touched written trial after.differ calm after.rest foot (λ x c. after.agree x (spots.valid x c) (apart x c)) step

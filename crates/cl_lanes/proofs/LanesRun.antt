-- Whatever the moves of lanes, what was committed is the first entries one after another.
use Rattle.std.proofs.Common.{◌≡◌, ◌⊎◌, inl, inr, ℕ, zero, suc, ◌≤◌, ◌+◌, List, [], ◌∷◌, ◌++◌, length, take, drop, replicate, Contains, slice_get, slice_set, Option, Some, None, refl, sym, ap, subst, ◌∙◌, arith, le_of_eq}
use Rattle.std.proofs.lemmas.List.{take_more, drop_all, drop-append-le, length_push}
use Rattle.std.proofs.lemmas.Option.{none-some, same_Some, slice_get_within, get_or_from_slice_get}
use Rattle.cl_c32.specs.declared.principal.Principal.{Principal}
use Rattle.cl_costs.specs.Schedules.{ScheduleSeen}
use Rattle.cl_file.specs.declared.entry.Entry.{Entry}
use Rattle.cl_tx.specs.declared.outcome.TxResult.{TxResult}
use Rattle.cl_tx.specs.Nodes.{NodeSeen, Stepped}
use Rattle.cl_tx.specs.Step.{Steps, AllStep, first_node}
use Rattle.cl_tx.specs.Laws.{IsNode, FirstIsNode, NodesStay, OneStep}
use Rattle.cl_tables.specs.declared.spot.Spot.{Spot}
use Rattle.cl_meaning.specs.Deployed.{Deployed}
use Rattle.cl_touch_sound.specs.Calls.{IsAtRest, WrittenBy, IsFootprintOf, CallBetween}
use Rattle.cl_touch_sound.specs.Laws.{grafted_step}
use Rattle.cl_touch_sound.proofs.Grafting.{AreSpotsOf, spots_of, grafts_are_steps}
use Rattle.cl_lanes.specs.declared.moves.Move.{Move}
use Rattle.cl_lanes.specs.Lanes.{HeldSeen, ProgressSeen, first_progress, committed_in, IsGood, with_lane, with_step, with_redone, with_skipped, trial_of, Moves, runs, commits, redoes, empties, steps, skips, AllMove}
use Rattle.cl_lanes.specs.Laws.{LanesRunTheEntries, LanesGiveAPrefix}
use Rattle.cl_lanes.proofs.Committed.{AreValid, Since, since_call, since_barrier, AgreeStill, spared_agree}

-- ---- lists

all_step_more : (schedule : ScheduleSeen) (es : List Entry) (n m : NodeSeen) (results : List TxResult) (e : Entry) (s : Stepped) → AllStep schedule n es results m → Steps schedule m e s → AllStep schedule n (es ++ e ∷ []) (results ++ s.result ∷ []) s.node
all_step_more schedule [] n m results e s h step = (s, [], subst (λ (n : NodeSeen). Steps schedule n e s) h.1 step, (refl, refl), ap (λ (rs : List TxResult). rs ++ s.result ∷ []) h.0)
all_step_more schedule (d ∷ es) n m results e s h step = (h.0, h.1 ++ s.result ∷ [], h.2, all_step_more schedule es h.0.node m h.1 e s h.3 step, ap (λ (rs : List TxResult). rs ++ s.result ∷ []) h.4)

one_more_taken : (entries : List Entry) (results : List TxResult) (r : TxResult) (e : Entry) → slice_get entries (length results) ≡ Some e → take (length (results ++ r ∷ [])) entries ≡ take (length results) entries ++ e ∷ []
one_more_taken entries results r e h =
    ap (λ (n : ℕ). take n entries) (length_push results r)
    ∙ take_more entries (length results) e (slice_get_within entries (length results) e h)
    ∙ ap (λ (d : Entry). take (length results) entries ++ d ∷ []) (get_or_from_slice_get entries (length results) e e h)

pub set_cases : {X : Type 0} (xs : List X) (i j : ℕ) (v y : X) → slice_get (slice_set xs i v) j ≡ Some y → (v ≡ y) ⊎ (slice_get xs j ≡ Some y)
set_cases [] i j v y h = inr h
set_cases (x ∷ xs) zero zero v y h = inl (same_Some v y h)
set_cases (x ∷ xs) zero (suc j) v y h = inr h
set_cases (x ∷ xs) (suc i) zero v y h = inr h
set_cases (x ∷ xs) (suc i) (suc j) v y h = set_cases xs i j v y h

none_held : (lanes j : ℕ) (h : HeldSeen) → slice_get (replicate lanes None) j ≡ Some (Some h) → ⊥
none_held zero j h e = none-some (Some h) e
none_held (suc lanes) zero h e = none-some h (same_Some None (Some h) e)
none_held (suc lanes) (suc j) h e = none_held lanes j h e

-- ---- what is kept

module _ (first_is : FirstIsNode) (node_stays : NodesStay) (schedule : ScheduleSeen) (entries : List Entry) where
  -- what a lane holds was tried at a node since which this was written
  record IsHeld (wrote : List (Option (List Spot))) (node : NodeSeen) (h : HeldSeen) : Type 0 where
    within : h.start ≤ length wrote
    tried_at : NodeSeen
    calm : IsAtRest tried_at.state
    call : Entry
    there : slice_get entries h.entry ≡ Some call
    trial : Stepped
    result : h.result ≡ trial.result
    state : h.state ≡ trial.node.state
    step : Steps schedule tried_at call trial
    footprint : IsFootprintOf tried_at.contracts call h.touched h.written
    since : Since schedule tried_at (drop h.start wrote) node

  record IsProgress (first : NodeSeen) (P : ProgressSeen) : Type 0 where
    done : AllStep schedule first (take (committed_in P) entries) P.results P.node
    as_many : length P.wrote ≡ committed_in P
    node : IsNode P.node
    lanes : (lane : ℕ) (h : HeldSeen) → slice_get P.held lane ≡ Some (Some h) → IsHeld P.wrote P.node h

  later_drop : (wrote : List (Option (List Spot))) (w : Option (List Spot)) (n : ℕ) → n ≤ length wrote → drop n (wrote ++ w ∷ []) ≡ drop n wrote ++ w ∷ []
  later_drop wrote w n h = drop-append-le n wrote (w ∷ []) h

  longer : (wrote : List (Option (List Spot))) (w : Option (List Spot)) (n : ℕ) → n ≤ length wrote → n ≤ length (wrote ++ w ∷ [])
  longer wrote w n h = let e = length_push wrote w in omega (arith, h, e)

  -- after one more entry
  held_after : (wrote : List (Option (List Spot))) (w : Option (List Spot)) (node after : NodeSeen) (h : HeldSeen) (i : IsHeld wrote node h) → Since schedule i.tried_at (drop h.start wrote ++ w ∷ []) after → IsHeld (wrote ++ w ∷ []) after h
  held_after wrote w node after h i since = record {
    within = longer wrote w h.start i.within;
    tried_at = i.tried_at;
    calm = i.calm;
    call = i.call;
    there = i.there;
    trial = i.trial;
    result = i.result;
    state = i.state;
    step = i.step;
    footprint = i.footprint;
    since = subst (λ (ws : List (Option (List Spot))). Since schedule i.tried_at ws after) (sym (later_drop wrote w h.start i.within)) since;
  }

  -- a trial that is good is the step of the present node
  record IsStepOf (node : NodeSeen) (h : HeldSeen) : Type 0 where
    call : Entry
    there : slice_get entries h.entry ≡ Some call
    step : Steps schedule node call (grafted_step h.written h.result h.state node)
    between : CallBetween schedule node h.written (grafted_step h.written h.result h.state node).node
    valid : AreValid h.written

  good_steps : (P : ProgressSeen) (h : HeldSeen) → IsHeld P.wrote P.node h → IsGood P h → IsStepOf P.node h
  good_steps P h i good =
      let spots : AreSpotsOf i.tried_at.contracts i.call h.touched h.written = spots_of i.tried_at.contracts i.call h.touched h.written i.footprint in
      let a : AgreeStill h.touched i.tried_at P.node = spared_agree schedule h.touched spots.valid (drop h.start P.wrote) i.tried_at P.node i.calm i.since good in
      let step : Steps schedule P.node i.call (grafted_step h.written h.result h.state P.node) =
      subst (λ (x : Stepped). Steps schedule P.node i.call x) (λ k. grafted_step h.written (sym i.result k) (sym i.state k) P.node)
      (grafts_are_steps schedule i.tried_at P.node i.call h.touched h.written i.trial a.differ i.calm a.rest i.footprint a.agree i.step) in
      record {
        call = i.call;
        there = i.there;
        step = step;
        between = record {
          entry = i.call;
          call = spots.call;
          step = grafted_step h.written h.result h.state P.node;
          steps = step;
          after = refl;
          covers = covers spots a;
        };
        valid = λ x c. spots.valid x (spots.touches x (spots.written_touched x c));
      }
    where
      covers : AreSpotsOf i.tried_at.contracts i.call h.touched h.written → AgreeStill h.touched i.tried_at P.node → (x : Spot) → WrittenBy P.node.contracts i.call x → Contains h.written x
      covers spots a x w = spots.writes x (subst (λ (W : Deployed). WrittenBy W i.call x) (ap (λ (n : NodeSeen). n.contracts) a.differ) w)

  -- ---- each move

  -- what a lane holds changes, and nothing else does
  lane_set : (first : NodeSeen) (P : ProgressSeen) (lane : ℕ) (v : Option HeldSeen) → IsProgress first P → ((h : HeldSeen) → v ≡ Some h → IsHeld P.wrote P.node h) → (j : ℕ) (h : HeldSeen) → slice_get (slice_set P.held lane v) j ≡ Some (Some h) → IsHeld P.wrote P.node h
  lane_set first P lane v I new j h e = by (set_cases P.held lane j v (Some h) e)
    where
      by : (v ≡ Some h) ⊎ (slice_get P.held j ≡ Some (Some h)) → IsHeld P.wrote P.node h
      by (inl is) = new h is
      by (inr is) = I.lanes j h is

  nothing_held : (P : ProgressSeen) (h : HeldSeen) → None ≡ Some h → IsHeld P.wrote P.node h
  nothing_held P h e = absurd (none-some h e)

  one_committed : (first : NodeSeen) (P : ProgressSeen) → IsProgress first P → (e : Entry) → slice_get entries (committed_in P) ≡ Some e → (s : Stepped) (w : Option (List Spot)) → Steps schedule P.node e s → ((lane : ℕ) (h : HeldSeen) → slice_get P.held lane ≡ Some (Some h) → IsHeld (P.wrote ++ w ∷ []) s.node h) → IsProgress first (with_step s w P)
  one_committed first P I e there s w step lanes = record {
    done = subst (λ (es : List Entry). AllStep schedule first es (P.results ++ s.result ∷ []) s.node) (sym (one_more_taken entries P.results s.result e there)) (all_step_more schedule (take (committed_in P) entries) first P.node P.results e s I.done step);
    as_many = length_push P.wrote w ∙ ap (λ (n : ℕ). n + 1) I.as_many ∙ sym (length_push P.results s.result);
    node = node_stays schedule P.node e s I.node step;
    lanes = lanes;
  }

  cleared : (first : NodeSeen) (P : ProgressSeen) (lane : ℕ) → IsProgress first P → IsProgress first (with_lane lane None P)
  cleared first P lane I = record { done = I.done; as_many = I.as_many; node = I.node; lanes = lane_set first P lane None I (nothing_held P) }

  tried : (first : NodeSeen) (P : ProgressSeen) (ahead : ℕ) (e : Entry) (trial : Stepped) (touched written : List Spot) → IsProgress first P →
      slice_get entries (committed_in P + ahead) ≡ Some e → Steps schedule P.node e trial → IsFootprintOf P.node.contracts e touched written →
      (h : HeldSeen) → Some (trial_of (committed_in P) ahead trial touched written) ≡ Some h → IsHeld P.wrote P.node h
  tried first P ahead e trial touched written I there step footprint h is =
      subst (λ (h : HeldSeen). IsHeld P.wrote P.node h) (same_Some _ h is) (record {
        within = le_of_eq (sym I.as_many);
        tried_at = P.node;
        calm = (I.node.no_events, I.node.no_moves);
        call = e;
        there = there;
        trial = trial;
        result = refl;
        state = refl;
        step = step;
        footprint = footprint;
        since = subst (λ (w : List (Option (List Spot))). Since schedule P.node w P.node) (sym (drop_all (committed_in P) P.wrote (le_of_eq I.as_many))) refl;
      })

  moved : (first : NodeSeen) (P Q : ProgressSeen) (move : Move) → IsProgress first P → Moves schedule entries P move Q → IsProgress first Q
  moved first P Q move I (runs lane ahead before e trial touched written held there footprint step) =
      record { done = I.done; as_many = I.as_many; node = I.node; lanes = lane_set first P lane _ I (tried first P ahead e trial touched written I there step footprint) }
  moved first P Q move I (commits lane h held next good) =
      let s : IsStepOf P.node h = good_steps P h (I.lanes lane h held) good in
      let after : Stepped = grafted_step h.written h.result h.state P.node in
      cleared first (with_step after (Some h.written) P) lane
      (one_committed first P I s.call (ap (slice_get entries) (sym next) ∙ s.there) after (Some h.written) s.step
      (λ j other e. let i : IsHeld P.wrote P.node other = I.lanes j other e in held_after P.wrote (Some h.written) P.node after.node other i (since_call schedule (drop other.start P.wrote) i.tried_at P.node after.node h.written i.since s.between s.valid)))
  moved first P Q move I (redoes lane h held next bad) = cleared first (with_redone P) lane (record { done = I.done; as_many = I.as_many; node = I.node; lanes = I.lanes })
  moved first P Q move I (empties lane h held before) = cleared first (with_skipped P) lane (record { done = I.done; as_many = I.as_many; node = I.node; lanes = I.lanes })
  moved first P Q move I (steps e s there no_call step) =
      one_committed first P I e there s None step
      (λ j other h. let i : IsHeld P.wrote P.node other = I.lanes j other h in held_after P.wrote None P.node s.node other i (since_barrier schedule (drop other.start P.wrote) i.tried_at P.node s.node i.since))
  moved first P Q move I (skips _ none) = record { done = I.done; as_many = I.as_many; node = I.node; lanes = I.lanes }

  all_moved : (moves : List Move) (first : NodeSeen) (P Q : ProgressSeen) → IsProgress first P → AllMove schedule entries P moves Q → IsProgress first Q
  all_moved [] first P Q I is = subst (IsProgress first) (sym is) I
  all_moved (move ∷ moves) first P Q I (M, step, rest) = all_moved moves first M Q (moved first P M move I step) rest

  first_progressed : (holders : List (Principal × ℕ)) (lanes : ℕ) → IsProgress (first_node holders) (first_progress (first_node holders) lanes)
  first_progressed holders lanes = record { done = (refl, refl); as_many = refl; node = first_is holders; lanes = λ j h e. absurd (none_held lanes j h e) }

pub lanes_run_the_entries : FirstIsNode → NodesStay → LanesRunTheEntries
lanes_run_the_entries first_is node_stays schedule entries holders lanes moves P all =
    let I = all_moved first_is node_stays schedule entries moves (first_node holders) (first_progress (first_node holders) lanes) P (first_progressed first_is node_stays schedule entries holders lanes) all in
    record { steps = I.done; as_many = I.as_many }

-- ---- a prefix of all

first_part : OneStep → (schedule : ScheduleSeen) (es : List Entry) (k : ℕ) (n m o : NodeSeen) (all some : List TxResult) → AllStep schedule n es all m → AllStep schedule n (take k es) some o → some ≡ take (length some) all
first_part one schedule es zero n m o all some h g = g.0 ∙ sym (ap (λ (rs : List TxResult). take (length rs) all) g.0)
first_part one schedule [] (suc k) n m o all some h g = g.0 ∙ sym (ap (λ (rs : List TxResult). take (length rs) all) g.0)
first_part one schedule (e ∷ es) (suc k) n m o all some h g =
    let same : g.0 ≡ h.0 = one schedule n e g.0 h.0 g.2 h.2 in
    let rest : AllStep schedule h.0.node (take k es) g.1 o = subst (λ (s : Stepped). AllStep schedule s.node (take k es) g.1 o) same g.3 in
    let more : g.1 ≡ take (length g.1) h.1 = first_part one schedule es k h.0.node m o h.1 g.1 h.3 rest in
    let there : g.0.result ∷ g.1 ≡ take (length (g.0.result ∷ g.1)) (h.0.result ∷ h.1) = λ i. (same i).result ∷ more i in
    g.4 ∙ there ∙ (λ i. take (length (sym g.4 i)) (sym h.4 i))

pub lanes_give_a_prefix : FirstIsNode → NodesStay → OneStep → LanesGiveAPrefix
lanes_give_a_prefix first_is node_stays one schedule file results after lanes moves P run all =
    first_part one schedule file.entries (committed_in P) (first_node file.genesis) after P.node results P.results run.steps (lanes_run_the_entries first_is node_stays schedule file.entries file.genesis lanes moves P all).steps

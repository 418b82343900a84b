-- Moves that the code makes.
use Rattle.std.proofs.Common.{◌≡◌, ℕ, zero, suc, ◌<◌, ◌≤◌, ◌+◌, get_or, arith, List, [], ◌∷◌, length, slice_get, slice_set, Option, Some, None, refl, sym, ap, subst, ◌∙◌}
use Rattle.std.proofs.lemmas.Option.{slice_get-map, slice_get-get_or}
use Rattle.std.proofs.lemmas.List.{length-map, map-set}
use Rattle.std.specs.Option.{option_map}
use Rattle.cl_costs.specs.Schedules.{ScheduleSeen}
use Rattle.cl_events.specs.State.{State}
use Rattle.cl_meaning.specs.Deployed.{Deployed}
use Rattle.cl_file.specs.declared.entry.Entry.{Entry}
use Rattle.cl_tables.specs.declared.spot.Spot.{Spot}
use Rattle.cl_spots.specs.Spots.{grafted}
use Rattle.cl_tx.specs.declared.outcome.TxResult.{TxResult}
use Rattle.cl_tx.specs.Nodes.{NodeSeen}
use Rattle.cl_tx.specs.Step.{Steps}
use Rattle.cl_touch_sound.specs.Calls.{IsCall, IsFootprintOf}
use Rattle.cl_touch_sound.specs.Laws.{grafted_step}
use Rattle.cl_nodes.specs.Seen.{Seen}
use Rattle.cl_nodes.specs.Known.{IsNodeOf}
use Rattle.cl_nodes.specs.Laws.{OneNode}
use Rattle.cl_nodes.specs.Steps.{Makes}
use Rattle.cl_lanes.specs.declared.held.Held.{Held}
use Rattle.cl_lanes.specs.declared.ready.Ready.{Ready}
use Rattle.cl_lanes.specs.declared.ready.Ready.TheVariants.{Idle}
use Rattle.cl_lanes.specs.Ready.{IsReady}
use Rattle.cl_lanes.specs.declared.moves.Move.{Move}
use Rattle.cl_lanes.specs.declared.moves.Move.TheVariants.{Run, Commit, Barrier}
use Rattle.cl_lanes.specs.Held.{held_seen, lane_seen, lanes_seen, IsTrial}
use Rattle.cl_lanes.specs.Lanes.{HeldSeen, ProgressOf, ProgressSeen, committed_in, IsGood, IsIdle, with_lane, with_entry, with_step, with_redone, with_skipped, trial_of, Moves, runs, commits, redoes, empties, steps, skips}
use Rattle.cl_lanes.specs.Progress.{with_node, IsProgressOf, MakesMove}

-- ---- any move

module _ (schedule : ScheduleSeen) (entries : List Entry) where
  -- one that is made whatever callers know of the node's contracts
  abbrev MakesAt : ProgressOf Seen → Move → ProgressOf Seen → NodeSeen → Type 0
  MakesAt p move after N = (Q : ProgressSeen) × IsProgressOf after Q × Moves schedule entries (with_node N p) move Q

  made_at : (p : ProgressOf Seen) (move : Move) (after : ProgressOf Seen) → ((N : NodeSeen) → IsNodeOf p.node N → MakesAt p move after N) → MakesMove schedule entries p move after
  made_at p move after h P is = subst (λ (P : ProgressSeen). (Q : ProgressSeen) × IsProgressOf after Q × Moves schedule entries P move Q) (sym is.is) (h P.node is.node)

  -- the node stays
  with_same : (p after : ProgressOf Seen) (N : NodeSeen) → IsNodeOf after.node N → IsProgressOf after (with_node N after)
  with_same p after N is = record { node = is; is = refl }

  pub made_skip : (p : ProgressOf Seen) (move : Move) → IsIdle entries p move → MakesMove schedule entries p move (with_skipped p)
  made_skip p move idle = made_at p move (with_skipped p) (λ N is. (with_node N (with_skipped p), record { node = is; is = refl }, skips move (same_idle move N idle)))
    where
      same_idle : (move : Move) (N : NodeSeen) → IsIdle entries p move → IsIdle entries (with_node N p) move
      same_idle (Run lane ahead) N h = h
      same_idle (Commit lane) N h = h
      same_idle Barrier N h = h

  pub made_redo : (p : ProgressOf Seen) (lane : ℕ) (h : HeldSeen) → slice_get p.held lane ≡ Some (Some h) → h.entry ≡ committed_in p → (IsGood p h → ⊥) → MakesMove schedule entries p (Commit lane) (with_lane lane None (with_redone p))
  made_redo p lane h held next bad = made_at p (Commit lane) (with_lane lane None (with_redone p)) (λ N is. (with_node N (with_lane lane None (with_redone p)), record { node = is; is = refl }, redoes lane h held next bad))

  pub made_empty : (p : ProgressOf Seen) (lane : ℕ) (h : HeldSeen) → slice_get p.held lane ≡ Some (Some h) → h.entry < committed_in p → MakesMove schedule entries p (Commit lane) (with_lane lane None (with_skipped p))
  made_empty p lane h held before = made_at p (Commit lane) (with_lane lane None (with_skipped p)) (λ N is. (with_node N (with_lane lane None (with_skipped p)), record { node = is; is = refl }, empties lane h held before))

  -- ---- a node with another state

  state_only : (n : Seen) (s : State) (N : NodeSeen) → IsNodeOf n N → IsNodeOf (record n { state = s }) (record N { state = s })
  state_only n s N is = record { known = is.known; is = ap (λ (m : NodeSeen). record m { state = s }) is.is }

  abbrev grafted_in : ProgressOf Seen → HeldSeen → Seen
  grafted_in p h = record p.node { state = grafted h.written h.state p.node.state }

  pub made_commit : (p : ProgressOf Seen) (lane : ℕ) (h : HeldSeen) → slice_get p.held lane ≡ Some (Some h) → h.entry ≡ committed_in p → IsGood p h → MakesMove schedule entries p (Commit lane) (with_lane lane None (with_entry (grafted_in p h) h.result (Some h.written) p))
  made_commit p lane h held next good =
      made_at p (Commit lane) after
      (λ N is. (
        with_lane lane None (with_step (grafted_step h.written h.result h.state N) (Some h.written) (with_node N p)),
        record { node = same_node N is; is = refl },
        commits lane h held next good,
      ))
    where
      after : ProgressOf Seen
      after = with_lane lane None (with_entry (grafted_in p h) h.result (Some h.written) p)

      same_node : (N : NodeSeen) → IsNodeOf p.node N → IsNodeOf (grafted_in p h) (record N { state = grafted h.written h.state N.state })
      same_node N is =
          subst (λ (s : State). IsNodeOf (grafted_in p h) (record N { state = grafted h.written h.state s })) (sym (ap (λ (m : NodeSeen). m.state) is.is))
          (state_only p.node (grafted h.written h.state p.node.state) N is)

  module _ (one : OneNode) where
    -- ---- a trial

    trial_held : (p : ProgressOf Seen) (ahead : ℕ) (e : Entry) (h : Held) (t : IsTrial schedule p.node e h) → h.entry ≡ committed_in p + ahead → h.start ≡ committed_in p →
        trial_of (committed_in p) ahead (record { node = t.makes.to; result = h.trial.result }) h.footprint.touched h.footprint.written ≡ held_seen h
    trial_held p ahead e h t place start = λ i. record {
      entry = sym place i;
      start = sym start i;
      result = h.trial.result;
      state = ap (λ (m : NodeSeen). m.state) t.makes.is_to.is i;
      touched = h.footprint.touched;
      written = h.footprint.written;
    }

    pub made_run : (p : ProgressOf Seen) (lane ahead : ℕ) (before : Option HeldSeen) (e : Entry) (h : Held) → slice_get p.held lane ≡ Some before → slice_get entries (committed_in p + ahead) ≡ Some e → IsTrial schedule p.node e h → h.entry ≡ committed_in p + ahead → h.start ≡ committed_in p →
        MakesMove schedule entries p (Run lane ahead) (with_lane lane (Some (held_seen h)) p)
    made_run p lane ahead before e h held there t place start =
        made_at p (Run lane ahead) (with_lane lane (Some (held_seen h)) p) (λ N is. (
          with_node N (with_lane lane (Some (held_seen h)) p),
          record { node = is; is = refl },
          subst (λ (g : HeldSeen). Moves schedule entries (with_node N p) (Run lane ahead) (with_lane lane (Some g) (with_node N p))) (trial_held p ahead e h t place start)
              (runs lane ahead before e (record { node = t.makes.to; result = h.trial.result }) h.footprint.touched h.footprint.written held there (footprint N is) (step N is)),
        ))
      where
        footprint : (N : NodeSeen) → IsNodeOf p.node N → IsFootprintOf N.contracts e h.footprint.touched h.footprint.written
        footprint N is = subst (λ (W : Deployed). IsFootprintOf W e h.footprint.touched h.footprint.written) (sym (ap (λ (m : NodeSeen). m.contracts) is.is)) t.footprint

        step : (N : NodeSeen) → IsNodeOf p.node N → Steps schedule N e (record { node = t.makes.to; result = h.trial.result })
        step N is = subst (λ (m : NodeSeen). Steps schedule m e (record { node = t.makes.to; result = h.trial.result })) (one p.node t.makes.from N t.makes.is_from is) t.makes.steps

    -- ---- a barrier

    pub made_barrier : (p : ProgressOf Seen) (e : Entry) (result : TxResult) (after : Seen) → slice_get entries (committed_in p) ≡ Some e → (IsCall e → ⊥) → Makes schedule p.node e result after → MakesMove schedule entries p Barrier (with_entry after result None p)
    made_barrier p e result after there other m =
        made_at p Barrier (with_entry after result None p) (λ N is. (
          with_step (record { node = m.to; result = result }) None (with_node N p),
          record { node = m.is_to; is = refl },
          steps e (record { node = m.to; result = result }) there other (subst (λ (n : NodeSeen). Steps schedule n e (record { node = m.to; result = result })) (one p.node m.from N m.is_from is) m.steps),
        ))

-- ---- the progress of these fields

abbrev pub seen_of : Seen → List TxResult → List (Option (List Spot)) → List (Option Held) → ℕ → ℕ → ProgressOf Seen
seen_of node results wrote held redone skipped =
    record { node = node; results = results; wrote = wrote; held = lanes_seen held; redone = redone; skipped = skipped }

pub lanes-set : (held : List (Option Held)) (lane : ℕ) (h : Option Held) → lanes_seen (slice_set held lane h) ≡ slice_set (lanes_seen held) lane (lane_seen h)
lanes-set held lane h = map-set lane_seen held lane h

pub lane_found : (held : List (Option Held)) (lane : ℕ) (h : Option Held) → slice_get held lane ≡ Some h → slice_get (lanes_seen held) lane ≡ Some (lane_seen h)
lane_found held lane h is = slice_get-map lane_seen held lane ∙ ap (option_map lane_seen) is

-- where a lane holds something, the code's does
pub lane_held : (held : List (Option Held)) (lane : ℕ) (g : HeldSeen) → slice_get (lanes_seen held) lane ≡ Some (Some g) → (h : Held) × (slice_get held lane ≡ Some (Some h)) × (held_seen h ≡ g)
lane_held held lane g is = by (slice_get held lane) refl (sym (slice_get-map lane_seen held lane) ∙ is)
  where
    by : (o : Option (Option Held)) → slice_get held lane ≡ o → option_map lane_seen o ≡ Some (Some g) → (h : Held) × (slice_get held lane ≡ Some (Some h)) × (held_seen h ≡ g)
    by None e k = absurd cc
    by (Some None) e k = absurd cc
    by (Some (Some h)) e k = (h, e, cc)

-- ---- lanes by their numbers

pub none_past : {X : Type 0} (xs : List X) (i : ℕ) → length xs ≤ i → slice_get xs i ≡ None
none_past [] i h = refl
none_past (x ∷ xs) zero h = absurd (omega (arith, h))
none_past (x ∷ xs) (suc i) h = none_past xs i (omega (arith, h))

-- no such lane
pub no_lane : (held : List (Option Held)) (lane : ℕ) → length held ≤ lane → slice_get (lanes_seen held) lane ≡ None
no_lane held lane h = none_past (lanes_seen held) lane (omega (arith, h, length-map held lane_seen))

-- what a lane that is there holds
pub some_lane : (held : List (Option Held)) (lane : ℕ) → lane < length held → (before : Option HeldSeen) × (slice_get (lanes_seen held) lane ≡ Some before)
some_lane held lane h = (get_or (lanes_seen held) lane None, slice_get-get_or (lanes_seen held) lane None (omega (arith, h, length-map held lane_seen)))

-- ---- the code's lanes

-- the same progress before a move
pub made_of : (schedule : ScheduleSeen) (entries : List Entry) (p q : ProgressOf Seen) (move : Move) (after : ProgressOf Seen) → p ≡ q → MakesMove schedule entries p move after → MakesMove schedule entries q move after
made_of schedule entries p q move after e h = subst (λ (p : ProgressOf Seen). MakesMove schedule entries p move after) e h

-- what becomes of a lane, of equal lists
pub ready_as : (a b : Ready) (held held' : List (Option Held)) (wrote wrote' : List (Option (List Spot))) (lane : ℕ) → a ≡ b → held ≡ held' → wrote ≡ wrote' → IsReady a held wrote lane → IsReady b held' wrote' lane
ready_as a b held held' wrote wrote' lane e f g h = subst (λ (x : Ready × List (Option Held) × List (Option (List Spot))). IsReady x.0 x.1 x.2 lane) (λ i. (e i, f i, g i)) h

pub idle_lane : (entries : List Entry) (node : Seen) (results : List TxResult) (wrote : List (Option (List Spot))) (held : List (Option Held)) (redone skipped lane : ℕ) → length wrote ≡ length results → IsReady Idle held wrote lane →
    IsIdle entries (seen_of node results wrote held redone skipped) (Commit lane)
idle_lane entries node results wrote held redone skipped lane many idle g there =
    let found : (h : Held) × (slice_get held lane ≡ Some (Some h)) × (held_seen h ≡ g) = lane_held held lane g there in
    let above = idle found.0 found.1 in
    let place : found.0.entry ≡ g.entry = ap (λ (h : HeldSeen). h.entry) found.2 in
    omega (arith, many, above, place)

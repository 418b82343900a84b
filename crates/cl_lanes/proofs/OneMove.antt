-- A move of lanes has one result.
use Rattle.std.proofs.Common.{◌≡◌, inl, inr, ℕ, zero, suc, ◌<◌, ◌+◌, List, [], ◌∷◌, ◌++◌, length, drop, Contains, slice_get, slice_set, Option, Some, None, refl, sym, ap, subst, ◌∙◌, arith}
use Rattle.std.proofs.lemmas.Option.{none-some, same_Some}
use Rattle.cl_events.specs.State.{State}
use Rattle.cl_costs.specs.Schedules.{ScheduleSeen}
use Rattle.cl_meaning.specs.Deployed.{Deployed}
use Rattle.cl_file.specs.declared.entry.Entry.{Entry}
use Rattle.cl_file.specs.declared.entry.Entry.TheVariants.{Call, Deploy, Block}
use Rattle.cl_tx.specs.declared.outcome.TxResult.{TxResult}
use Rattle.cl_tx.specs.Nodes.{NodeSeen, Stepped}
use Rattle.cl_tx.specs.Step.{Steps}
use Rattle.cl_tx.specs.Laws.{OneStep}
use Rattle.cl_tables.specs.declared.spot.Spot.{Spot}
use Rattle.cl_spots.specs.Spots.{grafted}
use Rattle.cl_spots.proofs.Grafts.{grafts_agree, grafts_change_spots_alone, grafts_are_all, wider}
use Rattle.cl_touch_sound.specs.Calls.{IsCall, IsFootprintOf}
use Rattle.cl_touch_sound.specs.Laws.{grafted_step}
use Rattle.cl_lanes.specs.declared.moves.Move.{Move}
use Rattle.cl_lanes.specs.declared.moves.Move.TheVariants.{Run, Commit, Barrier}
use Rattle.cl_lanes.specs.Lanes.{HeldSeen, ProgressSeen, committed_in, Spares, IsGood, IsIdle, with_lane, with_step, with_redone, with_skipped, trial_of, Moves, runs, commits, redoes, empties, steps, skips}
use Rattle.cl_lanes.specs.Same.{AreSame, SameWrote, SameHeld, SameLane, SameLanes, SameProgress}
use Rattle.cl_lanes.specs.Laws.{MovesHaveOneResult}

-- ---- the same, the other way round

same_back : (a b : List Spot) → AreSame a b → AreSame b a
same_back a b h x = ((h x).1, (h x).0)

-- ---- lanes

lane_at : (a b : List (Option HeldSeen)) → SameLanes a b → (n : ℕ) (h k : Option HeldSeen) → slice_get a n ≡ Some h → slice_get b n ≡ Some k → SameLane h k
lane_at [] [] s n h k e g = absurd (none-some h e)
lane_at (x ∷ a) (y ∷ b) s zero h k e g = subst (λ (k : Option HeldSeen). SameLane h k) (same_Some y k g) (subst (λ (h : Option HeldSeen). SameLane h y) (same_Some x h e) s.0)
lane_at (x ∷ a) (y ∷ b) s (suc n) h k e g = lane_at a b s.1 n h k e g
lane_at [] (y ∷ b) s n h k e g = absurd s
lane_at (x ∷ a) [] s n h k e g = absurd s

-- a lane that is there on one side is there on the other
lane_there : (a b : List (Option HeldSeen)) → SameLanes a b → (n : ℕ) (h : Option HeldSeen) → slice_get a n ≡ Some h → slice_get b n ≡ None → ⊥
lane_there [] [] s n h e g = none-some h e
lane_there (x ∷ a) (y ∷ b) s zero h e g = none-some y (sym g)
lane_there (x ∷ a) (y ∷ b) s (suc n) h e g = lane_there a b s.1 n h e g
lane_there [] (y ∷ b) s n h e g = absurd s
lane_there (x ∷ a) [] s n h e g = absurd s

lanes_set : (a b : List (Option HeldSeen)) → SameLanes a b → (n : ℕ) (h k : Option HeldSeen) → SameLane h k → SameLanes (slice_set a n h) (slice_set b n k)
lanes_set [] [] s n h k l = tt
lanes_set (x ∷ a) (y ∷ b) s zero h k l = (l, s.1)
lanes_set (x ∷ a) (y ∷ b) s (suc n) h k l = (s.0, lanes_set a b s.1 n h k l)
lanes_set [] (y ∷ b) s n h k l = absurd s
lanes_set (x ∷ a) [] s n h k l = absurd s

lane_back : (h k : Option HeldSeen) → SameLane h k → SameLane k h
lane_back None None s = tt
lane_back (Some h) (Some k) s = record { entry = sym s.entry; start = sym s.start; result = sym s.result; state = sym s.state; touched = same_back h.touched k.touched s.touched; written = same_back h.written k.written s.written }
lane_back None (Some k) s = absurd s
lane_back (Some h) None s = absurd s

lanes_back : (a b : List (Option HeldSeen)) → SameLanes a b → SameLanes b a
lanes_back [] [] s = tt
lanes_back (x ∷ a) (y ∷ b) s = (lane_back x y s.0, lanes_back a b s.1)
lanes_back [] (y ∷ b) s = absurd s
lanes_back (x ∷ a) [] s = absurd s

-- ---- what was written

wrote_back : (a b : List (Option (List Spot))) → SameWrote a b → SameWrote b a
wrote_back [] [] s = tt
wrote_back (None ∷ a) (None ∷ b) s = wrote_back a b s
wrote_back (Some x ∷ a) (Some y ∷ b) s = (same_back x y s.0, wrote_back a b s.1)
wrote_back [] (y ∷ b) s = absurd s
wrote_back (None ∷ a) [] s = absurd s
wrote_back (Some x ∷ a) [] s = absurd s
wrote_back (None ∷ a) (Some y ∷ b) s = absurd s
wrote_back (Some x ∷ a) (None ∷ b) s = absurd s

wrote_more : (a b : List (Option (List Spot))) → SameWrote a b → (v w : Option (List Spot)) → SameWrote (v ∷ []) (w ∷ []) → SameWrote (a ++ v ∷ []) (b ++ w ∷ [])
wrote_more [] [] s v w l = l
wrote_more (None ∷ a) (None ∷ b) s v w l = wrote_more a b s v w l
wrote_more (Some x ∷ a) (Some y ∷ b) s v w l = (s.0, wrote_more a b s.1 v w l)
wrote_more [] (y ∷ b) s v w l = absurd s
wrote_more (None ∷ a) [] s v w l = absurd s
wrote_more (Some x ∷ a) [] s v w l = absurd s
wrote_more (None ∷ a) (Some y ∷ b) s v w l = absurd s
wrote_more (Some x ∷ a) (None ∷ b) s v w l = absurd s

wrote_drop : (n : ℕ) (a b : List (Option (List Spot))) → SameWrote a b → SameWrote (drop n a) (drop n b)
wrote_drop zero a b s = s
wrote_drop (suc n) [] [] s = tt
wrote_drop (suc n) (None ∷ a) (None ∷ b) s = wrote_drop n a b s
wrote_drop (suc n) (Some x ∷ a) (Some y ∷ b) s = wrote_drop n a b s.1
wrote_drop (suc n) [] (y ∷ b) s = absurd s
wrote_drop (suc n) (None ∷ a) [] s = absurd s
wrote_drop (suc n) (Some x ∷ a) [] s = absurd s
wrote_drop (suc n) (None ∷ a) (Some y ∷ b) s = absurd s
wrote_drop (suc n) (Some x ∷ a) (None ∷ b) s = absurd s

spares_same : (t u : List Spot) → AreSame t u → (a b : List (Option (List Spot))) → SameWrote a b → Spares t a → Spares u b
spares_same t u h [] [] s g = tt
spares_same t u h (None ∷ a) (None ∷ b) s g = absurd g
spares_same t u h (Some x ∷ a) (Some y ∷ b) s g = (λ z c d. g.0 z ((h z).1 c) ((s.0 z).1 d), spares_same t u h a b s.1 g.1)
spares_same t u h [] (y ∷ b) s g = absurd s
spares_same t u h (None ∷ a) [] s g = absurd s
spares_same t u h (Some x ∷ a) [] s g = absurd s
spares_same t u h (None ∷ a) (Some y ∷ b) s g = absurd s
spares_same t u h (Some x ∷ a) (None ∷ b) s g = absurd s

-- ---- grafts and footprints

graft_same : (a b : List Spot) → AreSame a b → (from s : State) → grafted a from s ≡ grafted b from s
graft_same a b h from s = grafts_are_all b from s (grafted a from s) (λ x c. grafts_agree a from s x ((h x).1 c)) (wider (Contains a) (Contains b) (λ x c. (h x).0 c) s (grafted a from s) (grafts_change_spots_alone a from s)) refl refl

prints_same : (W : Deployed) (e : Entry) (t w u v : List Spot) → IsFootprintOf W e t w → IsFootprintOf W e u v → AreSame t u × AreSame w v
prints_same W (Call common p f args) t w u v a b = (λ x. (λ c. b.touches.whole x (a.touches.sound x c), λ c. a.touches.whole x (b.touches.sound x c)), λ x. (λ c. b.writes.whole x (a.writes.sound x c), λ c. a.writes.whole x (b.writes.sound x c)))
prints_same W (Deploy common name source version) t w u v a b = absurd a
prints_same W (Block height) t w u v a b = absurd a

has_call : (W : Deployed) (e : Entry) (t w : List Spot) → IsFootprintOf W e t w → IsCall e
has_call W (Call common p f args) t w h = tt
has_call W (Deploy common name source version) t w h = absurd h
has_call W (Block height) t w h = absurd h

module _ (one : OneStep) (schedule : ScheduleSeen) (entries : List Entry) where
  -- there is one entry at a place
  same_entry : (P Q : ProgressSeen) (n : ℕ) → SameProgress P Q → (d e : Entry) → slice_get entries (committed_in P + n) ≡ Some d → slice_get entries (committed_in Q + n) ≡ Some e → d ≡ e
  same_entry P Q n s d e g h = same_Some d e (sym g ∙ ap (λ (rs : List TxResult). slice_get entries (length rs + n)) s.results ∙ h)

  entry_now : (P Q : ProgressSeen) → SameProgress P Q → (d e : Entry) → slice_get entries (committed_in P) ≡ Some d → slice_get entries (committed_in Q) ≡ Some e → d ≡ e
  entry_now P Q s d e g h = same_Some d e (sym g ∙ ap (λ (rs : List TxResult). slice_get entries (length rs)) s.results ∙ h)

  both_skipped : (P Q : ProgressSeen) → SameProgress P Q → SameProgress (with_skipped P) (with_skipped Q)
  both_skipped P Q s = record { node = s.node; results = s.results; wrote = s.wrote; held = s.held; redone = s.redone; skipped = ap (λ (n : ℕ). n + 1) s.skipped }

  both_redone : (P Q : ProgressSeen) → SameProgress P Q → SameProgress (with_redone P) (with_redone Q)
  both_redone P Q s = record { node = s.node; results = s.results; wrote = s.wrote; held = s.held; redone = ap (λ (n : ℕ). n + 1) s.redone; skipped = s.skipped }

  both_set : (P Q : ProgressSeen) → SameProgress P Q → (lane : ℕ) (h k : Option HeldSeen) → SameLane h k → SameProgress (with_lane lane h P) (with_lane lane k Q)
  both_set P Q s lane h k l = record { node = s.node; results = s.results; wrote = s.wrote; held = lanes_set P.held Q.held s.held lane h k l; redone = s.redone; skipped = s.skipped }

  both_stepped : (P Q : ProgressSeen) → SameProgress P Q → (a b : Stepped) → a ≡ b → (v w : Option (List Spot)) → SameWrote (v ∷ []) (w ∷ []) → SameProgress (with_step a v P) (with_step b w Q)
  both_stepped P Q s a b e v w l = record {
    node = λ i. (e i).node;
    results = λ i. s.results i ++ (e i).result ∷ [];
    wrote = wrote_more P.wrote Q.wrote s.wrote v w l;
    held = s.held;
    redone = s.redone;
    skipped = s.skipped;
  }

  good_same : (P Q : ProgressSeen) → SameProgress P Q → (h k : HeldSeen) → SameHeld h k → IsGood P h → IsGood Q k
  good_same P Q s h k l good = spares_same h.touched k.touched l.touched (drop h.start P.wrote) (drop k.start Q.wrote) (subst (λ (n : ℕ). SameWrote (drop h.start P.wrote) (drop n Q.wrote)) l.start (wrote_drop h.start P.wrote Q.wrote s.wrote)) good

  same_count : (P Q : ProgressSeen) → SameProgress P Q → committed_in P ≡ committed_in Q
  same_count P Q s = ap (λ (rs : List TxResult). length rs) s.results

  same_back_so : (P Q : ProgressSeen) → SameProgress P Q → SameProgress Q P
  same_back_so P Q s = record { node = sym s.node; results = sym s.results; wrote = wrote_back P.wrote Q.wrote s.wrote; held = lanes_back P.held Q.held s.held; redone = sym s.redone; skipped = sym s.skipped }

  -- a trial can't be made here and be idle there
  run_or_idle : (P Q : ProgressSeen) → SameProgress P Q → (lane ahead : ℕ) (before : Option HeldSeen) (e : Entry) → slice_get P.held lane ≡ Some before → slice_get entries (committed_in P + ahead) ≡ Some e → IsCall e → IsIdle entries Q (Run lane ahead) → ⊥
  run_or_idle P Q s lane ahead before e held there call (inl none) = lane_there P.held Q.held s.held lane before held none
  run_or_idle P Q s lane ahead before e held there call (inr other) = other e (ap (λ (rs : List TxResult). slice_get entries (length rs + ahead)) (sym s.results) ∙ there) call

  -- a lane that holds an entry that isn't ahead isn't idle there
  commit_or_idle : (P Q : ProgressSeen) → SameProgress P Q → (lane : ℕ) (h : HeldSeen) → slice_get P.held lane ≡ Some (Some h) → (committed_in P < h.entry → ⊥) → IsIdle entries Q (Commit lane) → ⊥
  commit_or_idle P Q s lane h held not ahead = by (slice_get Q.held lane) refl
    where
      by : (o : Option (Option HeldSeen)) → slice_get Q.held lane ≡ o → ⊥
      by None e = lane_there P.held Q.held s.held lane (Some h) held e
      by (Some None) e = absurd (lane_at P.held Q.held s.held lane (Some h) None held e)
      by (Some (Some k)) e =
          let l : SameHeld h k = lane_at P.held Q.held s.held lane (Some h) (Some k) held e in
          let n = same_count P Q s in
          let m = l.entry in
          let lt = ahead k e in
          not (omega (arith, n, m, lt))

  barrier_or_idle : (P Q : ProgressSeen) → SameProgress P Q → (e : Entry) → slice_get entries (committed_in P) ≡ Some e → (IsCall e → ⊥) → IsIdle entries Q Barrier → ⊥
  barrier_or_idle P Q s e there no_call calls = no_call (calls e (ap (λ (rs : List TxResult). slice_get entries (length rs)) (sym s.results) ∙ there))

  same_held : (P Q : ProgressSeen) → SameProgress P Q → (lane : ℕ) (h k : HeldSeen) → slice_get P.held lane ≡ Some (Some h) → slice_get Q.held lane ≡ Some (Some k) → SameHeld h k
  same_held P Q s lane h k e g = lane_at P.held Q.held s.held lane (Some h) (Some k) e g

  both_tried : (P Q : ProgressSeen) → SameProgress P Q → (ahead : ℕ) (d e : Entry) (trial other : Stepped) (t w u v : List Spot) →
      slice_get entries (committed_in P + ahead) ≡ Some d → slice_get entries (committed_in Q + ahead) ≡ Some e → IsFootprintOf P.node.contracts d t w → IsFootprintOf Q.node.contracts e u v → Steps schedule P.node d trial → Steps schedule Q.node e other →
      SameHeld (trial_of (committed_in P) ahead trial t w) (trial_of (committed_in Q) ahead other u v)
  both_tried P Q s ahead d e trial other t w u v there that foot print step after =
      let same : d ≡ e = same_entry P Q ahead s d e there that in
      let trials : trial ≡ other = one schedule Q.node e trial other (subst (λ (e : Entry). Steps schedule Q.node e trial) same (subst (λ (n : NodeSeen). Steps schedule n d trial) s.node step)) after in
      let spots = prints_same Q.node.contracts e t w u v (subst (λ (e : Entry). IsFootprintOf Q.node.contracts e t w) same (subst (λ (n : NodeSeen). IsFootprintOf n.contracts d t w) s.node foot)) print in
      record { entry = ap (λ (n : ℕ). n + ahead) (same_count P Q s); start = same_count P Q s; result = ap (λ (s : Stepped). s.result) trials; state = ap (λ (s : Stepped). s.node.state) trials; touched = spots.0; written = spots.1 }

  grafted_same : (n m : NodeSeen) → n ≡ m → (h k : HeldSeen) → SameHeld h k → grafted_step h.written h.result h.state n ≡ grafted_step k.written k.result k.state m
  grafted_same n m nodes h k l =
      let states : grafted h.written h.state n.state ≡ grafted k.written k.state m.state =
      graft_same h.written k.written l.written h.state n.state ∙ (λ i. grafted k.written (l.state i) (nodes i).state) in
      λ i. record { node = record (nodes i) { state = states i }; result = l.result i }

  not_below : (P : ProgressSeen) (h : HeldSeen) → h.entry ≡ committed_in P → committed_in P < h.entry → ⊥
  not_below P h e lt = omega (arith, e, lt)

  not_below_either : (P : ProgressSeen) (h : HeldSeen) → h.entry < committed_in P → committed_in P < h.entry → ⊥
  not_below_either P h e lt = omega (arith, e, lt)

  now_or_stale : (P Q : ProgressSeen) → SameProgress P Q → (h k : HeldSeen) → SameHeld h k → h.entry ≡ committed_in P → k.entry < committed_in Q → ⊥
  now_or_stale P Q s h k l e lt = let n = same_count P Q s in let m = l.entry in omega (arith, e, lt, n, m)

  pub one_move : (P Q : ProgressSeen) (move : Move) (R S : ProgressSeen) → SameProgress P Q → Moves schedule entries P move R → Moves schedule entries Q move S → SameProgress R S
  one_move P Q move R S s (runs lane ahead before d trial t w held there foot step) (runs _ _ before' e other u v held' that print after) =
      both_set P Q s lane _ _ (both_tried P Q s ahead d e trial other t w u v there that foot print step after)
  one_move P Q move R S s (runs lane ahead before d trial t w held there foot step) (skips _ none) = absurd (run_or_idle P Q s lane ahead before d held there (has_call P.node.contracts d t w foot) none)
  one_move P Q move R S s (skips _ none) (runs lane ahead before d trial t w held there foot step) = absurd (run_or_idle Q P (same_back_so P Q s) lane ahead before d held there (has_call Q.node.contracts d t w foot) none)
  one_move P Q move R S s (commits lane h held next good) (commits _ k held' next' good') =
      let l : SameHeld h k = same_held P Q s lane h k held held' in
      both_set (with_step (grafted_step h.written h.result h.state P.node) (Some h.written) P) (with_step (grafted_step k.written k.result k.state Q.node) (Some k.written) Q) (both_stepped P Q s (grafted_step h.written h.result h.state P.node) (grafted_step k.written k.result k.state Q.node) (grafted_same P.node Q.node s.node h k l) (Some h.written) (Some k.written) (l.written, tt)) lane None None tt
  one_move P Q move R S s (commits lane h held next good) (redoes _ k held' next' bad) = absurd (bad (good_same P Q s h k (same_held P Q s lane h k held held') good))
  one_move P Q move R S s (commits lane h held next good) (empties _ k held' before) = absurd (now_or_stale P Q s h k (same_held P Q s lane h k held held') next before)
  one_move P Q move R S s (commits lane h held next good) (skips _ none) = absurd (commit_or_idle P Q s lane h held (not_below P h next) none)
  one_move P Q move R S s (redoes lane h held next bad) (commits _ k held' next' good) = absurd (bad (good_same Q P (same_back_so P Q s) k h (same_held Q P (same_back_so P Q s) lane k h held' held) good))
  one_move P Q move R S s (redoes lane h held next bad) (redoes _ k held' next' bad') = both_set (with_redone P) (with_redone Q) (both_redone P Q s) lane None None tt
  one_move P Q move R S s (redoes lane h held next bad) (empties _ k held' before) = absurd (now_or_stale P Q s h k (same_held P Q s lane h k held held') next before)
  one_move P Q move R S s (redoes lane h held next bad) (skips _ none) = absurd (commit_or_idle P Q s lane h held (not_below P h next) none)
  one_move P Q move R S s (empties lane h held before) (commits _ k held' next good) = absurd (now_or_stale Q P (same_back_so P Q s) k h (same_held Q P (same_back_so P Q s) lane k h held' held) next before)
  one_move P Q move R S s (empties lane h held before) (redoes _ k held' next bad) = absurd (now_or_stale Q P (same_back_so P Q s) k h (same_held Q P (same_back_so P Q s) lane k h held' held) next before)
  one_move P Q move R S s (empties lane h held before) (empties _ k held' before') = both_set (with_skipped P) (with_skipped Q) (both_skipped P Q s) lane None None tt
  one_move P Q move R S s (empties lane h held before) (skips _ none) = absurd (commit_or_idle P Q s lane h held (not_below_either P h before) none)
  one_move P Q move R S s (steps e a there no_call step) (steps d b that no_call' after) =
      both_stepped P Q s a b (one schedule Q.node d a b (subst (λ (e : Entry). Steps schedule Q.node e a) (entry_now P Q s e d there that) (subst (λ (n : NodeSeen). Steps schedule n e a) s.node step)) after) None None tt
  one_move P Q move R S s (steps e a there no_call step) (skips _ none) = absurd (barrier_or_idle P Q s e there no_call none)
  one_move P Q move R S s (skips _ none) (commits lane h held next good) = absurd (commit_or_idle Q P (same_back_so P Q s) lane h held (not_below Q h next) none)
  one_move P Q move R S s (skips _ none) (redoes lane h held next bad) = absurd (commit_or_idle Q P (same_back_so P Q s) lane h held (not_below Q h next) none)
  one_move P Q move R S s (skips _ none) (empties lane h held before) = absurd (commit_or_idle Q P (same_back_so P Q s) lane h held (not_below_either Q h before) none)
  one_move P Q move R S s (skips _ none) (steps e a there no_call step) = absurd (barrier_or_idle Q P (same_back_so P Q s) e there no_call none)
  one_move P Q move R S s (skips _ none) (skips _ none') = both_skipped P Q s

pub moves_have_one_result : OneStep → MovesHaveOneResult
moves_have_one_result one schedule entries P Q move R S s a b = one_move one schedule entries P Q move R S s a b

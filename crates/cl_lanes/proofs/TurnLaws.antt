-- An entry that is done in its turn changes neither number of lanes.
use Rattle.std.proofs.Common.{◌≡◌, inl, inr, ℕ, zero, suc, List, [], ◌∷◌, length, slice_get, slice_set, Option, Some, refl, sym, ap, subst, ◌∙◌, arith}
use Rattle.std.proofs.lemmas.List.{drop_all, length_push}
use Rattle.std.proofs.lemmas.Option.{none-some, same_Some}
use Rattle.cl_costs.specs.Schedules.{ScheduleSeen}
use Rattle.cl_file.specs.declared.entry.Entry.{Entry}
use Rattle.cl_touch_sound.specs.Calls.{IsCall}
use Rattle.cl_lanes.specs.declared.moves.Move.TheVariants.{Run, Commit}
use Rattle.cl_lanes.specs.Lanes.{HeldSeen, ProgressSeen, committed_in, Spares, IsGood, with_lane, trial_of, Moves, runs, commits, redoes, empties, steps, skips}
use Rattle.cl_lanes.specs.Laws.{IsOneFurther, CallsDoneInTurn, BarriersDoneInTurn}

-- what was put in a lane is there
put_there : {X : Type 0} (xs : List X) (i : ℕ) (v x y : X) → slice_get xs i ≡ Some x → slice_get (slice_set xs i v) i ≡ Some y → v ≡ y
put_there [] i v x y there h = absurd (none-some x there)
put_there (z ∷ xs) zero v x y there h = same_Some v y h
put_there (z ∷ xs) (suc i) v x y there h = put_there xs i v x y there h

put_not_none : {X : Type 0} (xs : List X) (i : ℕ) (v x : X) → slice_get xs i ≡ Some x → slice_get (slice_set xs i v) i ≡ Some v
put_not_none [] i v x there = absurd (none-some x there)
put_not_none (z ∷ xs) zero v x there = refl
put_not_none (z ∷ xs) (suc i) v x there = put_not_none xs i v x there

module _ (schedule : ScheduleSeen) (entries : List Entry) (P : ProgressSeen) (as_many : length P.wrote ≡ committed_in P) where
  -- a trial that was just made is good
  good_now : (h : HeldSeen) → h.start ≡ committed_in P → IsGood P h
  good_now h start = subst (Spares h.touched) (sym (drop_all h.start P.wrote (omega (arith, as_many, start)))) tt

  committed_now : (lane : ℕ) (before : Option HeldSeen) (k : HeldSeen) → slice_get P.held lane ≡ Some before → k.entry ≡ committed_in P → k.start ≡ committed_in P → (Q : ProgressSeen) → Moves schedule entries (with_lane lane (Some k) P) (Commit lane) Q → IsOneFurther P Q
  committed_now lane before k there entry start Q (commits _ h held now good) = record { results = length_push P.results h.result; redone = refl; skipped = refl }
  committed_now lane before k there entry start Q (redoes _ h held now bad) =
      let same : k ≡ h = same_Some k h (put_there P.held lane (Some k) before (Some h) there held) in
      absurd (bad (subst (IsGood P) same (good_now k start)))
  committed_now lane before k there entry start Q (empties _ h held below) =
      let same : k ≡ h = same_Some k h (put_there P.held lane (Some k) before (Some h) there held) in
      let n : k.entry ≡ h.entry = ap (λ (h : HeldSeen). h.entry) same in
      absurd (omega (arith, below, n, entry))
  committed_now lane before k there entry start Q (skips _ nothing) =
      let above = nothing k (put_not_none P.held lane (Some k) before there) in
      absurd (omega (arith, above, entry))

  call_in_turn : (lane : ℕ) (before : Option HeldSeen) → slice_get P.held lane ≡ Some before → (e : Entry) → slice_get entries (committed_in P) ≡ Some e → IsCall e → (M Q : ProgressSeen) → Moves schedule entries P (Run lane 0) M → Moves schedule entries M (Commit lane) Q → IsOneFurther P Q
  call_in_turn lane before there e at call M Q (runs _ _ was d trial touched written held is print step) next =
      committed_now lane before (trial_of (committed_in P) 0 trial touched written) there (omega arith) refl Q next
  call_in_turn lane before there e at call M Q (skips _ (inl none)) next = absurd (none-some before (sym none ∙ there))
  call_in_turn lane before there e at call M Q (skips _ (inr other)) next = absurd (other e (ap (slice_get entries) (omega arith) ∙ at) call)

pub calls_done_in_turn : CallsDoneInTurn
calls_done_in_turn schedule entries P as_many lane before there e at call M Q first next = call_in_turn schedule entries P as_many lane before there e at call M Q first next

pub barriers_done_in_turn : BarriersDoneInTurn
barriers_done_in_turn schedule entries P e at no_call Q (steps d s there other step) = record { results = length_push P.results s.result; redone = refl; skipped = refl }
barriers_done_in_turn schedule entries P e at no_call Q (skips _ calls) = absurd (no_call (calls e at))

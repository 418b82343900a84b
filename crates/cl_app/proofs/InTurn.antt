-- The script of `run`, entry by entry: no byte is written but of entries whose events were told.
use Rattle.std.proofs.Common.{◌≡◌, ◌⊎◌, inl, inr, ℕ, zero, suc, ◌+◌, Bool, true, false, List, [], ◌∷◌, ◌++◌, length, refl, sym, ap, subst, ◌∙◌, append_assoc, append-nil}
use Rattle.cl_events.specs.State.{State}
use Rattle.cl_events.specs.declared.event.Event.{Event}
use Rattle.cl_file.specs.declared.entry.Entry.{Entry}
use Rattle.cl_tx.specs.declared.outcome.TxResult.{TxResult}
use Rattle.cl_tx.specs.Step.{first_node, if_committed, schedule_of}
use Rattle.cl_report.specs.Lines.{lines_of, report_from}
use Rattle.cl_entries.specs.declared.status.Step.{Step}
use Rattle.cl_entries.specs.Scripts.{IsDoneTo, nothing, part, more, Script, bytes_of, events_of}
use Rattle.cl_entries.specs.Entries.{AreStateSteps, steps_from}
use Rattle.cl_entries.proofs.Scripts.{each_result}
use Rattle.cl_app.specs.Top.{IsOfAll, IsOfFirst, RunInTurn}
use Rattle.cl_app.proofs.Done.{told_part, written_part}

-- a first part of nothing
none_before : (front back : List Event) → [] ≡ front ++ back → front ≡ []
none_before [] back is = refl
none_before (x ∷ front) back is = absurd cc

-- behind all entries
all_told : (n : ℕ) (behind : List Step) (events : List Event) (bytes : List ℕ) → events_of behind ≡ [] → IsDoneTo behind events bytes → IsOfAll n [] [] (bytes_of behind) events bytes
all_told n behind events bytes silent d =
    let told = told_part d in
    let written = written_part d in
    record { told = none_before events told.0 (sym silent ∙ told.1); rest = written.0; written = written.1 }

-- behind one more
one_more : (n : ℕ) (e : Entry) (r : TxResult) (es : List Entry) (rs : List TxResult) (behind : List ℕ) (events : List Event) (bytes : List ℕ) → IsOfFirst (n + 1) es rs events bytes ⊎ IsOfAll (n + 1) es rs behind events bytes
    → IsOfFirst n (e ∷ es) (r ∷ rs) (if_committed r.outcome r.events ++ events) (lines_of n e r ++ bytes) ⊎ IsOfAll n (e ∷ es) (r ∷ rs) behind (if_committed r.outcome r.events ++ events) (lines_of n e r ++ bytes)
one_more n e r es rs behind events bytes (inl f) = inl (record {
  count = suc f.count;
  told = ap (λ (l : List Event). if_committed r.outcome r.events ++ l) f.told;
  rest = f.rest;
  written = append_assoc (lines_of n e r) bytes f.rest ∙ ap (λ (l : List ℕ). lines_of n e r ++ l) f.written;
})
one_more n e r es rs behind events bytes (inr a) = inr (record {
  told = ap (λ (l : List Event). if_committed r.outcome r.events ++ l) a.told;
  rest = a.rest;
  written = append_assoc (lines_of n e r) bytes a.rest ∙ ap (λ (l : List ℕ). lines_of n e r ++ l) a.written ∙ sym (append_assoc (lines_of n e r) (report_from (n + 1) es rs) behind);
})

-- steps of entries, and behind them some that tell nothing
steps_in_turn : (n : ℕ) (es : List Entry) (rs : List TxResult) (behind : List Step) (events : List Event) (bytes : List ℕ) → length es ≡ length rs → events_of behind ≡ [] → IsDoneTo (steps_from n es rs ++ behind) events bytes → IsOfFirst n es rs events bytes ⊎ IsOfAll n es rs (bytes_of behind) events bytes
steps_in_turn n [] [] behind events bytes same silent d = inr (all_told n behind events bytes silent d)
steps_in_turn n [] (r ∷ rs) behind events bytes same silent d = absurd cc
steps_in_turn n (e ∷ es) [] behind events bytes same silent d = absurd cc
steps_in_turn n (e ∷ es) (r ∷ rs) behind events bytes same silent nothing = inl (record { count = zero; told = refl; rest = []; written = refl })
steps_in_turn n (e ∷ es) (r ∷ rs) behind events bytes same silent (part front back is) = inl (record {
  count = suc zero;
  told = sym (append-nil (if_committed r.outcome r.events));
  rest = back;
  written = sym is ∙ sym (append-nil (lines_of n e r));
})
steps_in_turn n (e ∷ es) (r ∷ rs) behind events bytes same silent (more {events = told} {bytes = written} d) =
    let fewer : length es ≡ length rs = cc in
    one_more n e r es rs (bytes_of behind) told written (steps_in_turn (n + 1) es rs behind told written fewer silent d)

-- the state tells nothing
state_is_silent : (state : Bool) (s : State) (steps : List Step) → AreStateSteps state s steps → events_of steps ≡ []
state_is_silent true s steps are = ap events_of are.2
state_is_silent false s steps are = ap events_of are

pub in_turn : RunInTurn
in_turn table file state script is events bytes d =
    steps_in_turn 0 file.entries is.results is.state_steps events bytes (each_result (schedule_of table file) (first_node file.genesis) file.entries is.results is.after is.runs.steps)
    (state_is_silent state is.after.state is.state_steps is.are_state) (subst (λ (x : Script). IsDoneTo x.steps events bytes) is.is d)

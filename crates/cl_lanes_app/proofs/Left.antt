-- The moves that do the entries which are left change neither number.
use Rattle.std.proofs.Common.{◌≡◌, ℕ, zero, suc, ◌+◌, ◌<◌, ◌≤◌, List, [], ◌∷◌, length, take, drop, replicate, get_or, slice_get, Option, Some, None, refl, sym, ap, ◌∙◌, arith}
use Rattle.std.proofs.lemmas.List.{length-set, length-take, length_push}
use Rattle.std.proofs.lemmas.Option.{slice_get-get_or}
use Rattle.cl_costs.specs.Schedules.{ScheduleSeen}
use Rattle.cl_file.specs.declared.entry.Entry.{Entry}
use Rattle.cl_file.specs.declared.entry.Entry.TheVariants as entry
use Rattle.cl_tx.specs.Step.{first_node}
use Rattle.cl_touch_sound.specs.Calls.{IsCall}
use Rattle.cl_entries.proofs.Scripts.{each_result}
use Rattle.cl_lanes.specs.declared.moves.Move.{Move}
use Rattle.cl_lanes.specs.declared.moves.Move.TheVariants.{Run, Commit, Barrier}
use Rattle.cl_lanes.specs.Lanes.{AllMove, HeldSeen, Moves, ProgressSeen, committed_in, first_progress, runs, commits, redoes, empties, steps, skips}
use Rattle.cl_lanes.specs.Laws.{BarriersDoneInTurn, CallsDoneInTurn, IsOneFurther, LanesRunTheEntries}
use Rattle.cl_lanes_app.specs.Left.{CommitsAll, LeftEntriesKeepNumbers, moves_for_each}

-- ---- lists

none_left : (n : ℕ) (es : List Entry) → drop n es ≡ [] → length es ≤ n
none_left n [] none = omega arith
none_left zero (e ∷ es) none = absurd cc
none_left (suc n) (e ∷ es) none =
    let more = none_left n es none in
    omega (arith, more)

-- the first entry that is left is the next one, and behind it are the others
pub record IsNextLeft (n : ℕ) (all : List Entry) (e : Entry) (es : List Entry) : Type 0 where
  pub there : slice_get all n ≡ Some e
  pub others : drop (suc n) all ≡ es
  pub within : n < length all

next_left : (n : ℕ) (all : List Entry) (e : Entry) (es : List Entry) → drop n all ≡ e ∷ es → IsNextLeft n all e es
next_left zero [] e es is = absurd cc
next_left (suc n) [] e es is = absurd cc
next_left zero (x ∷ xs) e es is = record { there = ap (λ (l : List Entry). slice_get l 0) is; others = ap (drop 1) is; within = omega arith }
next_left (suc n) (x ∷ xs) e es is =
    let more = next_left n xs e es is in
    let low = more.within in
    record { there = more.there; others = more.others; within = omega (arith, low) }

lanes_long : (lanes : ℕ) → length (replicate {A = Option HeldSeen} lanes None) ≡ lanes
lanes_long zero = refl
lanes_long (suc lanes) = ap suc (lanes_long lanes)

module _ (schedule : ScheduleSeen) (entries : List Entry) where
  -- ---- what each move keeps

  one_keeps_lanes : (P Q : ProgressSeen) (move : Move) → Moves schedule entries P move Q → length Q.held ≡ length P.held
  one_keeps_lanes P Q move (runs lane ahead before e trial touched written held there footprint step) = length-set P.held lane _
  one_keeps_lanes P Q move (commits lane h held next good) = length-set P.held lane None
  one_keeps_lanes P Q move (redoes lane h held next bad) = length-set P.held lane None
  one_keeps_lanes P Q move (empties lane h held below) = length-set P.held lane None
  one_keeps_lanes P Q move (steps e s there other step) = refl
  one_keeps_lanes P Q move (skips _ idle) = refl

  all_keep_lanes : (moves : List Move) (P Q : ProgressSeen) → AllMove schedule entries P moves Q → length Q.held ≡ length P.held
  all_keep_lanes [] P Q is = ap (λ (P : ProgressSeen). length P.held) is
  all_keep_lanes (move ∷ moves) P Q (M, step, rest) = all_keep_lanes moves M Q rest ∙ one_keeps_lanes P M move step

  one_keeps_wrote : (P Q : ProgressSeen) (move : Move) → Moves schedule entries P move Q → length P.wrote ≡ committed_in P → length Q.wrote ≡ committed_in Q
  one_keeps_wrote P Q move (runs lane ahead before e trial touched written held there footprint step) as_many = as_many
  one_keeps_wrote P Q move (commits lane h held next good) as_many = length_push P.wrote (Some h.written) ∙ ap (λ (n : ℕ). n + 1) as_many ∙ sym (length_push P.results h.result)
  one_keeps_wrote P Q move (redoes lane h held next bad) as_many = as_many
  one_keeps_wrote P Q move (empties lane h held below) as_many = as_many
  one_keeps_wrote P Q move (steps e s there other step) as_many = length_push P.wrote None ∙ ap (λ (n : ℕ). n + 1) as_many ∙ sym (length_push P.results s.result)
  one_keeps_wrote P Q move (skips _ idle) as_many = as_many

  -- ---- entry by entry

  -- there is a first lane, and what was written is noted for each committed entry
  pub record IsReady (P : ProgressSeen) : Type 0 where
    pub within : committed_in P ≤ length entries
    pub as_many : length P.wrote ≡ committed_in P
    pub some : 0 < length P.held

  module _ (calls : CallsDoneInTurn) (barriers : BarriersDoneInTurn) where
    call_then : (P M N : ProgressSeen) (e : Entry) (es : List Entry) → IsReady P → drop (committed_in P) entries ≡ e ∷ es → IsCall e → Moves schedule entries P (Run 0 0) M → Moves schedule entries M (Commit 0) N → IsOneFurther P N × IsReady N × (drop (committed_in N) entries ≡ es)
    call_then P M N e es ready left is_call first second =
        let next = next_left (committed_in P) entries e es left in
        let one = calls schedule entries P ready.as_many 0 (get_or P.held 0 None) (slice_get-get_or P.held 0 None ready.some) e next.there is_call M N first second in
        let low = next.within in
        let count = one.results in
        let one_more : committed_in N ≡ suc (committed_in P) = omega (arith, count) in
        let long = one_keeps_lanes M N (Commit 0) second ∙ one_keeps_lanes P M (Run 0 0) first in
        let some = ready.some in (
          one,
          record {
            within = omega (arith, low, count);
            as_many = one_keeps_wrote M N (Commit 0) second (one_keeps_wrote P M (Run 0 0) first ready.as_many);
            some = omega (arith, some, long);
          },
          ap (λ (n : ℕ). drop n entries) one_more ∙ next.others,
        )

    barrier_then : (P N : ProgressSeen) (e : Entry) (es : List Entry) → IsReady P → drop (committed_in P) entries ≡ e ∷ es → (IsCall e → ⊥) → Moves schedule entries P Barrier N → IsOneFurther P N × IsReady N × (drop (committed_in N) entries ≡ es)
    barrier_then P N e es ready left no_call step =
        let next = next_left (committed_in P) entries e es left in
        let one = barriers schedule entries P e next.there no_call N step in
        let low = next.within in
        let count = one.results in
        let one_more : committed_in N ≡ suc (committed_in P) = omega (arith, count) in
        let long = one_keeps_lanes P N Barrier step in
        let some = ready.some in (
          one,
          record {
            within = omega (arith, low, count);
            as_many = one_keeps_wrote P N Barrier step ready.as_many;
            some = omega (arith, some, long);
          },
          ap (λ (n : ℕ). drop n entries) one_more ∙ next.others,
        )

    then_all : (P N Q : ProgressSeen) → IsOneFurther P N → CommitsAll entries N Q → CommitsAll entries P Q
    then_all P N Q one rest = record { all = rest.all; redone = rest.redone ∙ one.redone; skipped = rest.skipped ∙ one.skipped }

    left_keep : (es : List Entry) (P Q : ProgressSeen) → IsReady P → drop (committed_in P) entries ≡ es → AllMove schedule entries P (moves_for_each es) Q → CommitsAll entries P Q
    left_keep [] P Q ready left is =
        let count : committed_in Q ≡ committed_in P = ap (λ (P : ProgressSeen). committed_in P) is in
        let within = ready.within in
        let above = none_left (committed_in P) entries left in
        record { all = omega (arith, count, within, above); redone = ap (λ (P : ProgressSeen). P.redone) is; skipped = ap (λ (P : ProgressSeen). P.skipped) is }
    left_keep (entry.Call common contract function args ∷ es) P Q ready left (M, first, (N, second, rest)) =
        let one = call_then P M N (entry.Call common contract function args) es ready left tt first second in
        then_all P N Q one.0 (left_keep es N Q one.1 one.2 rest)
    left_keep (entry.Deploy common name source version ∷ es) P Q ready left (N, step, rest) =
        let one = barrier_then P N (entry.Deploy common name source version) es ready left (λ is_call. is_call) step in
        then_all P N Q one.0 (left_keep es N Q one.1 one.2 rest)
    left_keep (entry.Block height ∷ es) P Q ready left (N, step, rest) =
        let one = barrier_then P N (entry.Block height) es ready left (λ is_call. is_call) step in
        then_all P N Q one.0 (left_keep es N Q one.1 one.2 rest)

pub left_entries_keep_numbers : LanesRunTheEntries → CallsDoneInTurn → BarriersDoneInTurn → LeftEntriesKeepNumbers
left_entries_keep_numbers law calls barriers schedule file lanes moves before after some made rest =
    let ran = law schedule file.entries file.genesis lanes moves before made in
    let first : ProgressSeen = first_progress (first_node file.genesis) lanes in
    let long : length before.held ≡ lanes = all_keep_lanes schedule file.entries moves first before made ∙ lanes_long lanes in
    let as_many = each_result schedule (first_node file.genesis) (take (committed_in before) file.entries) before.results before.node ran.steps in
    let taken = length-take (committed_in before) file.entries in
    let ready : IsReady schedule file.entries before = record {
      within = omega (arith, as_many, taken);
      as_many = ran.as_many;
      some = omega (arith, long, some);
    } in
    left_keep schedule file.entries calls barriers (drop (committed_in before) file.entries) before after ready refl rest

-- Entries that are done in their turn.
use Rattle.std.proofs.Common.{◌≡◌, inl, inr, ℕ, zero, suc, ◌<◌, ◌≤◌, ◌+◌, List, [], ◌∷◌, ◌++◌, length, take, take_all, replicate, get_or, slice_get, Option, Some, None, refl, sym, ap, subst, ◌∙◌, arith}
use Rattle.std.proofs.Math.ListN.{length-set}
use Rattle.std.proofs.lemmas.Option.{none-some, slice_get_within, slice_get-get_or}
use Rattle.cl_costs.specs.Schedules.{ScheduleSeen}
use Rattle.cl_file.specs.declared.entry.Entry.{Entry}
use Rattle.cl_file.specs.Files.{FileSeen}
use Rattle.cl_touch_sound.specs.Calls.{IsCall}
use Rattle.cl_tx.specs.declared.outcome.TxResult.{TxResult}
use Rattle.cl_tx.specs.Nodes.{NodeSeen}
use Rattle.cl_tx.specs.Step.{AllStep, first_node}
use Rattle.cl_nodes.specs.Seen.{Seen}
use Rattle.cl_lanes.specs.declared.moves.Move.{Move}
use Rattle.cl_lanes.specs.declared.moves.Move.TheVariants.{Run, Commit, Barrier}
use Rattle.cl_lanes.specs.Lanes.{HeldSeen, ProgressOf, ProgressSeen, first_progress, committed_in, Moves, runs, commits, redoes, empties, steps, skips, AllMove}
use Rattle.cl_lanes.specs.Laws.{IsOneFurther, LanesRunTheEntries}
use Rattle.cl_lanes.specs.InTurn.{IsReached, IsNext, SameCounts, IsOneLater, RanRest, EndsAs, RanAllOf}
use Rattle.cl_lanes.specs.Progress.{HasCounts, IsProgressOf, MakesMove, MakesMoves, RanFirstOf, Rises}
use Rattle.cl_lanes.proofs.AllMade.{all_then, one_counted, ran_first}
use Rattle.cl_lanes.proofs.TurnLaws.{calls_done_in_turn, barriers_done_in_turn}

-- ---- lanes stay

one_stays : (schedule : ScheduleSeen) (entries : List Entry) (P Q : ProgressSeen) (move : Move) → Moves schedule entries P move Q → length Q.held ≡ length P.held
one_stays schedule entries P Q move (runs lane ahead before e trial touched written held there foot step) = length-set P.held lane _
one_stays schedule entries P Q move (commits lane h held next good) = length-set P.held lane None
one_stays schedule entries P Q move (redoes lane h held next bad) = length-set P.held lane None
one_stays schedule entries P Q move (empties lane h held before) = length-set P.held lane None
one_stays schedule entries P Q move (steps e s there other step) = refl
one_stays schedule entries P Q move (skips _ idle) = refl

all_stay : (schedule : ScheduleSeen) (entries : List Entry) (moves : List Move) (P Q : ProgressSeen) → AllMove schedule entries P moves Q → length Q.held ≡ length P.held
all_stay schedule entries [] P Q is = ap (λ (P : ProgressSeen). length P.held) is
all_stay schedule entries (m ∷ ms) P Q (M, step, rest) = all_stay schedule entries ms M Q rest ∙ one_stays schedule entries P M m step

all_counted : (schedule : ScheduleSeen) (entries : List Entry) (moves : List Move) (P Q : ProgressSeen) → AllMove schedule entries P moves Q → Q.redone + Q.skipped ≤ P.redone + P.skipped + length moves
all_counted schedule entries [] P Q is =
    let a : Q.redone ≡ P.redone = ap (λ (P : ProgressSeen). P.redone) is in
    let b : Q.skipped ≡ P.skipped = ap (λ (P : ProgressSeen). P.skipped) is in
    omega (arith, a, b)
all_counted schedule entries (m ∷ ms) P Q (M, step, rest) =
    let one = one_counted schedule entries P M m step in
    let more = all_counted schedule entries ms M Q rest in
    omega (arith, one, more)

replicate_long : (n : ℕ) (x : Option HeldSeen) → length (replicate n x) ≡ n
replicate_long zero x = refl
replicate_long (suc n) x = ap suc (replicate_long n x)

the_entry : (d e : Entry) → Some d ≡ Some e → d ≡ e
the_entry d e h = cc

some_entry : (es : List Entry) (i : ℕ) → i < length es → (e : Entry) × (slice_get es i ≡ Some e)
some_entry [] i low = absurd (omega (arith, low))
some_entry (e ∷ es) zero low = (e, refl)
some_entry (e ∷ es) (suc i) low = some_entry es i (omega (arith, low))

-- ---- progress that is reached

module _ (schedule : ScheduleSeen) (file : FileSeen) where
  -- the first lane is there
  first_lane : (p : ProgressOf Seen) (r : IsReached schedule file p) → (before : Option HeldSeen) × (slice_get r.made.to.held 0 ≡ Some before)
  first_lane p r =
      let nothing : Option HeldSeen = None in
      let long : length r.made.to.held ≡ length (replicate r.lanes nothing) = all_stay schedule file.entries r.moves (first_progress (first_node file.genesis) r.lanes) r.made.to r.made.moved in
      let some = r.some in
      let count = replicate_long r.lanes nothing in
      (get_or r.made.to.held 0 None, slice_get-get_or r.made.to.held 0 None (omega (arith, long, some, count)))

  -- the numbers of a progress are those of what it is seen as
  count_of : (p : ProgressOf Seen) (P : ProgressSeen) → IsProgressOf p P → committed_in P ≡ committed_in p
  count_of p P is = ap (λ (P : ProgressSeen). committed_in P) is.is

  redone_of : (p : ProgressOf Seen) (P : ProgressSeen) → IsProgressOf p P → P.redone ≡ p.redone
  redone_of p P is = ap (λ (P : ProgressSeen). P.redone) is.is

  skipped_of : (p : ProgressOf Seen) (P : ProgressSeen) → IsProgressOf p P → P.skipped ≡ p.skipped
  skipped_of p P is = ap (λ (P : ProgressSeen). P.skipped) is.is

  abbrev Made : ProgressOf Seen → ProgressSeen → Move → ProgressOf Seen → Type 0
  Made p P move q = (Q : ProgressSeen) × IsProgressOf q Q × Moves schedule file.entries P move Q

  entry_there : (p : ProgressOf Seen) (n : IsNext schedule file p) → slice_get file.entries (committed_in n.reached.made.to) ≡ Some n.entry
  entry_there p n = ap (slice_get file.entries) (count_of p n.reached.made.to n.reached.made.is_to) ∙ n.there

  below : (p : ProgressOf Seen) (n : IsNext schedule file p) → committed_in p < length file.entries
  below p n = slice_get_within file.entries (committed_in p) n.entry n.there

  -- what is found there
  pub next_is_call : (p : ProgressOf Seen) (n : IsNext schedule file p) (rs : List TxResult) → rs ≡ p.results → (e : Entry) → slice_get file.entries (length rs) ≡ Some e → IsCall e → IsCall n.entry
  next_is_call p n rs same e there call =
      subst IsCall (the_entry e n.entry (sym there ∙ ap (λ (rs : List TxResult). slice_get file.entries (length rs)) same ∙ n.there)) call

  pub next_no_call : (p : ProgressOf Seen) (n : IsNext schedule file p) (rs : List TxResult) → rs ≡ p.results → ((e : Entry) → slice_get file.entries (length rs) ≡ Some e → IsCall e → ⊥) → IsCall n.entry → ⊥
  next_no_call p n rs same none = none n.entry (ap (λ (rs : List TxResult). slice_get file.entries (length rs)) same ∙ n.there)

  -- ---- a trial in its turn

  -- the numbers stay when the next entry, a call, is tried in the first lane
  trial_counts : (P M : ProgressSeen) (before : Option HeldSeen) → slice_get P.held 0 ≡ Some before → (e : Entry) → slice_get file.entries (committed_in P + 0) ≡ Some e → IsCall e → Moves schedule file.entries P (Run 0 0) M → (M.redone ≡ P.redone) × (M.skipped ≡ P.skipped)
  trial_counts P M before lane e there call (runs _ _ was d trial touched written held is foot step) = (refl, refl)
  trial_counts P M before lane e there call (skips _ (inl none)) = absurd (none-some before (sym none ∙ lane))
  trial_counts P M before lane e there call (skips _ (inr other)) = absurd (other e there call)

  there_now : (P : ProgressSeen) (e : Entry) → slice_get file.entries (committed_in P) ≡ Some e → slice_get file.entries (committed_in P + 0) ≡ Some e
  there_now P e there = let same : committed_in P + 0 ≡ committed_in P = omega arith in ap (slice_get file.entries) same ∙ there

  pub tried_counts : (p m : ProgressOf Seen) (n : IsNext schedule file p) → IsCall n.entry → MakesMove schedule file.entries p (Run 0 0) m → HasCounts p → HasCounts m
  tried_counts p m n call makes counts =
      let P = n.reached.made.to in
      let one : Made p P (Run 0 0) m = makes P n.reached.made.is_to in
      let lane = first_lane p n.reached in
      let same = trial_counts P one.0 lane.0 lane.1 n.entry (there_now P n.entry (entry_there p n)) call one.2 in
      record {
        redone = (let a = same.0 in let b = redone_of p P n.reached.made.is_to in let d = redone_of m one.0 one.1 in let k = counts.redone in omega (arith, a, b, d, k));
        skipped = (let a = same.1 in let b = skipped_of p P n.reached.made.is_to in let d = skipped_of m one.0 one.1 in let k = counts.skipped in omega (arith, a, b, d, k));
      }

  -- ---- the next entry is done

  -- after these moves, which did one entry
  done : (p q : ProgressOf Seen) (n : IsNext schedule file p) (moves : List Move) (Q : ProgressSeen) → IsProgressOf q Q → AllMove schedule file.entries (first_progress (first_node file.genesis) n.reached.lanes) moves Q → IsOneFurther n.reached.made.to Q → IsOneLater schedule file p q
  done p q n moves Q is all one =
      let P = n.reached.made.to in
      let a = count_of p P n.reached.made.is_to in
      let b = count_of q Q is in
      let d = one.results in
      let low = below p n in
      record {
        reached = record { lanes = n.reached.lanes; moves = moves; some = n.reached.some; made = record { to = Q; is_to = is; moved = all }; within = omega (arith, a, b, d, low) };
        count = omega (arith, a, b, d);
        counts = record {
          redone = sym (redone_of q Q is) ∙ one.redone ∙ redone_of p P n.reached.made.is_to;
          skipped = sym (skipped_of q Q is) ∙ one.skipped ∙ skipped_of p P n.reached.made.is_to;
        };
      }

  module _ (law : LanesRunTheEntries) where
    as_many : (p : ProgressOf Seen) (r : IsReached schedule file p) → length r.made.to.wrote ≡ committed_in r.made.to
    as_many p r = (law schedule file.entries file.genesis r.lanes r.moves r.made.to r.made.moved).as_many

    pub call_done : (p m q : ProgressOf Seen) (n : IsNext schedule file p) → IsCall n.entry → MakesMove schedule file.entries p (Run 0 0) m → MakesMove schedule file.entries m (Commit 0) q → IsOneLater schedule file p q
    call_done p m q n call first second =
        let P = n.reached.made.to in
        let one : Made p P (Run 0 0) m = first P n.reached.made.is_to in
        let two : Made m one.0 (Commit 0) q = second one.0 one.1 in
        let lane = first_lane p n.reached in
        let start : ProgressSeen = first_progress (first_node file.genesis) n.reached.lanes in
        done p q n ((n.reached.moves ++ Run 0 0 ∷ []) ++ Commit 0 ∷ []) two.0 two.1
        (all_then schedule file.entries (n.reached.moves ++ Run 0 0 ∷ []) start one.0 two.0 (Commit 0) (all_then schedule file.entries n.reached.moves start P one.0 (Run 0 0) n.reached.made.moved one.2) two.2)
        (calls_done_in_turn schedule file.entries P (as_many p n.reached) 0 lane.0 lane.1 n.entry (entry_there p n) call one.0 two.0 one.2 two.2)

  pub barrier_done : (p q : ProgressOf Seen) (n : IsNext schedule file p) → (IsCall n.entry → ⊥) → MakesMove schedule file.entries p Barrier q → IsOneLater schedule file p q
  barrier_done p q n other makes =
      let P = n.reached.made.to in
      let one : Made p P Barrier q = makes P n.reached.made.is_to in
      let start : ProgressSeen = first_progress (first_node file.genesis) n.reached.lanes in
      done p q n (n.reached.moves ++ Barrier ∷ []) one.0 one.1 (all_then schedule file.entries n.reached.moves start P one.0 Barrier n.reached.made.moved one.2)
      (barriers_done_in_turn schedule file.entries P n.entry (entry_there p n) other one.0 one.2)

  -- ---- the others

  -- so many entries are done, and neither number has changed
  pub record RanSoFar (first p : ProgressOf Seen) (place : ℕ) : Type 0 where
    pub reached : IsReached schedule file p
    pub count : committed_in p ≡ place
    pub counts : SameCounts first p

  pub ran_none : (first : ProgressOf Seen) → IsReached schedule file first → RanSoFar first first (committed_in first)
  ran_none first r = record { reached = r; count = refl; counts = record { redone = refl; skipped = refl } }

  pub ran_one : (first p q : ProgressOf Seen) (place : ℕ) → RanSoFar first p place → IsOneLater schedule file p q → RanSoFar first q (place + 1)
  ran_one first p q place so_far one = record {
    reached = one.reached;
    count = one.count ∙ ap (λ (n : ℕ). n + 1) so_far.count;
    counts = record { redone = one.counts.redone ∙ so_far.counts.redone; skipped = one.counts.skipped ∙ so_far.counts.skipped };
  }

  pub same_counts : (first p : ProgressOf Seen) → SameCounts first p → HasCounts first → HasCounts p
  same_counts first p same counts = record {
    redone = (let a = same.redone in let b = counts.redone in omega (arith, a, b));
    skipped = (let a = same.skipped in let b = counts.skipped in omega (arith, a, b));
  }

  -- ---- all

  each_result : (n : NodeSeen) (es : List Entry) (rs : List TxResult) (m : NodeSeen) → AllStep schedule n es rs m → length es ≡ length rs
  each_result n [] rs m all = sym (ap length all.0)
  each_result n (e ∷ es) rs m all = ap suc (each_result all.0.node es all.1 m all.3) ∙ sym (ap length all.4)

  taken_within : (es : List Entry) (n : ℕ) → length (take n es) ≡ n → n ≤ length es
  taken_within [] zero h = omega arith
  taken_within [] (suc n) h = omega (arith, h)
  taken_within (e ∷ es) zero h = omega arith
  taken_within (e ∷ es) (suc n) h =
      let k : length (take n es) ≡ n = omega (arith, h) in
      let more = taken_within es n k in
      omega (arith, more)

  pub reached_so : (lanes : ℕ) (moves : List Move) (p : ProgressOf Seen) → 1 ≤ lanes → MakesMoves schedule file lanes moves p → RanFirstOf schedule file p → IsReached schedule file p
  reached_so lanes moves p some made ran = record {
    lanes = lanes;
    moves = moves;
    some = some;
    made = made;
    within = taken_within file.entries (committed_in p) (each_result (first_node file.genesis) (take (committed_in p) file.entries) p.results ran.node ran.steps);
  }

  pub counted_so : (lanes : ℕ) (moves : List Move) (p : ProgressOf Seen) → MakesMoves schedule file lanes moves p → p.redone + p.skipped ≤ length moves
  counted_so lanes moves p made =
      let all = all_counted schedule file.entries moves (first_progress (first_node file.genesis) lanes) made.to made.moved in
      let a = redone_of p made.to made.is_to in
      let b = skipped_of p made.to made.is_to in
      omega (arith, all, a, b)

  pub ran_all : LanesRunTheEntries → (p q : ProgressOf Seen) → RanRest schedule file p q → RanAllOf schedule file q
  ran_all law p q rest =
      let ran : RanFirstOf schedule file q = ran_first law schedule file rest.reached.lanes rest.reached.moves q rest.reached.made in
      record {
        node = ran.node;
        is_node = ran.is_node;
        runs = record { steps = subst (λ (es : List Entry). AllStep schedule (first_node file.genesis) es q.results ran.node) (ap (λ (n : ℕ). take n file.entries) rest.all ∙ take_all (length file.entries) file.entries (omega arith)) ran.steps };
      }

  -- ---- one after another

  pub next_so : (first p : ProgressOf Seen) (place : ℕ) → RanSoFar first p place → place < length file.entries → Rises file.entries p → IsNext schedule file p
  next_so first p place so_far below rises =
      let count = so_far.count in
      let within : committed_in p < length file.entries = omega (arith, count, below) in
      let entry = some_entry file.entries (committed_in p) within in
      record { reached = so_far.reached; entry = entry.0; there = entry.1; rises = rises }

  pub ran_rest : (first p : ProgressOf Seen) (place : ℕ) → RanSoFar first p place → length file.entries ≤ place → RanRest schedule file first p
  ran_rest first p place so_far all =
      let count = so_far.count in
      let within = so_far.reached.within in
      record { reached = so_far.reached; all = omega (arith, count, within, all); counts = so_far.counts }

  pub ends_as : (lanes : ℕ) (moves : List Move) (p q : ProgressOf Seen) → MakesMoves schedule file lanes moves p → RanRest schedule file p q → EndsAs schedule file lanes moves q
  ends_as lanes moves p q made rest = record { after = p; made = made; counts = rest.counts }

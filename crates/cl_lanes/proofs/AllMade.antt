-- Moves one after another, as the code makes them.
use Rattle.std.proofs.Common.{◌≡◌, ℕ, zero, suc, ◌≤◌, ◌+◌, List, [], ◌∷◌, ◌++◌, length, take, slice_get, Some, refl, sym, ap, subst, ◌∙◌, arith}
use Rattle.std.proofs.lemmas.Option.{none-some}
use Rattle.cl_costs.specs.Schedules.{ScheduleSeen}
use Rattle.cl_file.specs.declared.entry.Entry.{Entry}
use Rattle.cl_file.specs.Entries.{height_after, height_of, NeverFall}
use Rattle.cl_file.specs.Files.{FileSeen}
use Rattle.cl_tx.specs.declared.outcome.TxResult.{TxResult}
use Rattle.cl_tx.specs.Laws.{HeightIsLast}
use Rattle.cl_tx.specs.Nodes.{NodeSeen}
use Rattle.cl_tx.specs.Step.{AllStep, first_node}
use Rattle.cl_nodes.specs.Seen.{Seen}
use Rattle.cl_lanes.specs.declared.moves.Move.{Move}
use Rattle.cl_lanes.specs.Lanes.{ProgressOf, ProgressSeen, first_progress, committed_in, Moves, runs, commits, redoes, empties, steps, skips, AllMove}
use Rattle.cl_lanes.specs.Laws.{RanFirst, LanesRunTheEntries, LanesGiveAPrefix}
use Rattle.cl_lanes.specs.Progress.{first_seen, IsProgressOf, MakesMove, MakesMoves, RanFirstOf, HasPrefix, Rises}

-- ---- one more move

pub all_then : (schedule : ScheduleSeen) (entries : List Entry) (moves : List Move) (P M Q : ProgressSeen) (move : Move) → AllMove schedule entries P moves M → Moves schedule entries M move Q → AllMove schedule entries P (moves ++ move ∷ []) Q
all_then schedule entries [] P M Q move is step = (Q, subst (λ (M : ProgressSeen). Moves schedule entries M move Q) is step, refl)
all_then schedule entries (m ∷ ms) P M Q move (N, first, rest) step = (N, first, all_then schedule entries ms N M Q move rest step)

-- a move raises one number at most, by one
pub one_counted : (schedule : ScheduleSeen) (entries : List Entry) (P Q : ProgressSeen) (move : Move) → Moves schedule entries P move Q → Q.redone + Q.skipped ≤ P.redone + P.skipped + 1
one_counted schedule entries P Q move (runs lane ahead before e trial touched written held there foot step) = omega arith
one_counted schedule entries P Q move (commits lane h held next good) = omega arith
one_counted schedule entries P Q move (redoes lane h held next bad) = omega arith
one_counted schedule entries P Q move (empties lane h held before) = omega arith
one_counted schedule entries P Q move (steps e s there other step) = omega arith
one_counted schedule entries P Q move (skips _ idle) = omega arith

-- ---- so many moves

-- what the first so many moves made, of a file's first node; at most so many of them are counted
pub record MadeSoFar (schedule : ScheduleSeen) (file : FileSeen) (lanes : ℕ) (moves : List Move) (count : ℕ) (p : ProgressOf Seen) : Type 0 where
  pub made : MakesMoves schedule file lanes moves p
  pub counted : p.redone + p.skipped ≤ count

pub made_first : (schedule : ScheduleSeen) (file : FileSeen) (lanes : ℕ) (p : ProgressOf Seen) → p ≡ first_progress (first_seen file.genesis) lanes → MadeSoFar schedule file lanes [] 0 p
made_first schedule file lanes p is = subst (MadeSoFar schedule file lanes [] 0) (sym is) (record {
  made = record {
    to = first_progress (first_node file.genesis) lanes;
    is_to = record { node = record { known = refl; is = refl }; is = refl };
    moved = refl;
  };
  counted = omega arith;
})

pub made_next : (schedule : ScheduleSeen) (file : FileSeen) (lanes : ℕ) (moves : List Move) (count : ℕ) (p q : ProgressOf Seen) (move : Move) → MadeSoFar schedule file lanes moves count p → MakesMove schedule file.entries p move q → MadeSoFar schedule file lanes (moves ++ move ∷ []) (count + 1) q
made_next schedule file lanes moves count p q move so_far makes =
    let next : (Q : ProgressSeen) × IsProgressOf q Q × Moves schedule file.entries so_far.made.to move Q = makes so_far.made.to so_far.made.is_to in
    record {
      made = record { to = next.0; is_to = next.1; moved = all_then schedule file.entries moves (first_progress (first_node file.genesis) lanes) so_far.made.to next.0 move so_far.made.moved next.2 };
      counted = counted next;
    }
  where
    counted : ((Q : ProgressSeen) × IsProgressOf q Q × Moves schedule file.entries so_far.made.to move Q) → q.redone + q.skipped ≤ count + 1
    counted (Q, is, step) =
        let one = one_counted schedule file.entries so_far.made.to Q move step in
        let before = so_far.counted in
        let a : so_far.made.to.redone ≡ p.redone = ap (λ (P : ProgressSeen). P.redone) so_far.made.is_to.is in
        let b : so_far.made.to.skipped ≡ p.skipped = ap (λ (P : ProgressSeen). P.skipped) so_far.made.is_to.is in
        let d : Q.redone ≡ q.redone = ap (λ (P : ProgressSeen). P.redone) is.is in
        let e : Q.skipped ≡ q.skipped = ap (λ (P : ProgressSeen). P.skipped) is.is in
        omega (arith, one, before, a, b, d, e)

-- ---- what moves commit

module _ (law : LanesRunTheEntries) where
  pub ran_first : (schedule : ScheduleSeen) (file : FileSeen) (lanes : ℕ) (moves : List Move) (p : ProgressOf Seen) → MakesMoves schedule file lanes moves p → RanFirstOf schedule file p
  ran_first schedule file lanes moves p made =
      let ran : RanFirst schedule (first_node file.genesis) file.entries made.to = law schedule file.entries file.genesis lanes moves made.to made.moved in
      record {
        node = made.to.node;
        is_node = made.is_to.node;
        steps = subst (λ (rs : List TxResult). AllStep schedule (first_node file.genesis) (take (length rs) file.entries) rs made.to.node) (ap (λ (P : ProgressSeen). P.results) made.is_to.is) ran.steps;
      }

  -- ---- heights

  never_falls_at : (height : ℕ) (es : List Entry) (i : ℕ) (e : Entry) → slice_get es i ≡ Some e → NeverFall height es → height_of height (take i es) ≤ height_after (height_of height (take i es)) e
  never_falls_at height [] i e there rises = absurd (none-some e there)
  never_falls_at height (d ∷ es) zero e there rises = subst (λ (d : Entry). height ≤ height_after height d) (same d e there) rises.0
    where
      same : (d e : Entry) → Some d ≡ Some e → d ≡ e
      same d e h = cc
  never_falls_at height (d ∷ es) (suc i) e there rises = never_falls_at (height_after height d) es i e there rises.1

  -- the next entry may follow
  pub next_rises : HeightIsLast → (schedule : ScheduleSeen) (file : FileSeen) (lanes : ℕ) (moves : List Move) (p : ProgressOf Seen) → NeverFall 0 file.entries → MakesMoves schedule file lanes moves p → Rises file.entries p
  next_rises height schedule file lanes moves p falls made e there =
      let ran : RanFirstOf schedule file p = ran_first schedule file lanes moves p made in
      let first : FileSeen = record { genesis = file.genesis; epochs = file.epochs; entries = take (committed_in p) file.entries } in
      let at : ran.node.height ≡ height_of 0 (take (committed_in p) file.entries) = height schedule first p.results ran.node (record { steps = ran.steps }) in
      let own : p.node.height ≡ height_of 0 (take (committed_in p) file.entries) = sym (ap (λ (n : NodeSeen). n.height) ran.is_node.is) ∙ at in
      subst (λ (h : ℕ). h ≤ height_after h e) (sym own) (never_falls_at 0 file.entries (committed_in p) e there falls)

pub has_prefix : LanesGiveAPrefix → (schedule : ScheduleSeen) (file : FileSeen) (lanes : ℕ) (moves : List Move) (p : ProgressOf Seen) → MakesMoves schedule file lanes moves p → HasPrefix schedule file p
has_prefix law schedule file lanes moves p made results after run =
    subst (λ (rs : List TxResult). rs ≡ take (length rs) results) (ap (λ (P : ProgressSeen). P.results) made.is_to.is) (law schedule file results after lanes moves made.to run made.moved)

-- Moves of the lanes in the code.
use Rattle.std.specs.Prelude.{◌≡◌, ◌<◌, ◌≤◌, ◌-◌, ◌^◌, ℕ, List, [], refl, take, slice_get, Option, Some}
use Rattle.std.specs.Coded.{Coded, code_by, coded×, coded_ℕ, coded_list, coded_option}
use Rattle.cl_c32.specs.declared.principal.Principal.{Principal}
use Rattle.cl_costs.specs.Schedules.{ScheduleSeen}
use Rattle.cl_events.specs.State.{State, genesis}
use Rattle.cl_tables.specs.Codes.{state_code}
use Rattle.cl_file.specs.declared.entry.Entry.{Entry}
use Rattle.cl_file.specs.Entries.{height_after}
use Rattle.cl_file.specs.Files.{FileSeen}
use Rattle.cl_tables.specs.declared.spot.Spot.{Spot}
use Rattle.cl_tables.specs.contracts.spot.Spot as spot
use Rattle.cl_tx.specs.declared.outcome.TxResult.{TxResult}
use Rattle.cl_tx.specs.contracts.outcome.TxResult as result
use Rattle.cl_tx.specs.Nodes.{NodeSeen}
use Rattle.cl_tx.specs.Step.{AllStep, Runs, first_node}
use Rattle.cl_nodes.specs.Codes.{seen_code}
use Rattle.cl_nodes.specs.Known.{IsNodeOf}
use Rattle.cl_nodes.specs.Seen.{Seen}
use Rattle.cl_lanes.specs.declared.moves.Move.{Move}
use Rattle.cl_lanes.specs.Lanes.{HeldSeen, ProgressOf, ProgressSeen, first_progress, committed_in, Moves, AllMove}

-- ---- how a ghost variable stores it

abbrev held_code : Coded HeldSeen
held_code =
    code_by (ℕ × (ℕ × (TxResult × (State × (List Spot × List Spot)))))
    (coded× coded_ℕ (coded× coded_ℕ (coded× result.the_row.coded (coded× state_code (coded× (coded_list spot.the_row.coded) (coded_list spot.the_row.coded))))))
    (λ h. (h.entry, (h.start, (h.result, (h.state, (h.touched, h.written))))))
    (λ p. record { entry = p.0; start = p.1.0; result = p.1.1.0; state = p.1.1.1.0; touched = p.1.1.1.1.0; written = p.1.1.1.1.1 })
    (λ _. refl)

abbrev pub progress_code : Coded (ProgressOf Seen)
progress_code =
    code_by (Seen × (List TxResult × (List (Option (List Spot)) × (List (Option HeldSeen) × (ℕ × ℕ)))))
    (coded× seen_code (coded× (coded_list result.the_row.coded) (coded× (coded_list (coded_option (coded_list spot.the_row.coded))) (coded× (coded_list (coded_option held_code)) (coded× coded_ℕ coded_ℕ)))))
    (λ p. (p.node, (p.results, (p.wrote, (p.held, (p.redone, p.skipped))))))
    (λ p. record { node = p.0; results = p.1.0; wrote = p.1.1.0; held = p.1.1.1.0; redone = p.1.1.1.1.0; skipped = p.1.1.1.1.1 })
    (λ _. refl)

-- ---- moves

-- the node before all entries, as contracts see it
abbrev pub first_seen : List (Principal × ℕ) → Seen
first_seen holders = record { state = genesis holders; contracts = []; height = 0 }

abbrev pub with_node : {N M : Type 0} → M → ProgressOf N → ProgressOf M
with_node node p =
    record { node = node; results = p.results; wrote = p.wrote; held = p.held; redone = p.redone; skipped = p.skipped }

-- a progress as the moves speak of it, whose node has besides what callers know of its contracts
pub record IsProgressOf (p : ProgressOf Seen) (P : ProgressSeen) : Type 0 where
  pub node : IsNodeOf p.node P.node
  pub is : P ≡ with_node P.node p

-- the move that the rules define
abbrev pub MakesMove : ScheduleSeen → List Entry → ProgressOf Seen → Move → ProgressOf Seen → Type 0
MakesMove schedule entries before move after =
    (P : ProgressSeen) → IsProgressOf before P →
    (Q : ProgressSeen) × IsProgressOf after Q × Moves schedule entries P move Q

-- one more move can be counted
pub record HasCounts (p : ProgressOf Seen) : Type 0 where
  pub redone : p.redone < 2 ^ 32 - 1
  pub skipped : p.skipped < 2 ^ 32 - 1

-- where the next entry is a block, its height is at least the node's
abbrev pub Rises : List Entry → ProgressOf Seen → Type 0
Rises entries p =
    (e : Entry) → slice_get entries (committed_in p) ≡ Some e →
    p.node.height ≤ height_after p.node.height e

-- ---- all moves

-- the moves that the rules define, from the first node of a file on
pub record MakesMoves (schedule : ScheduleSeen) (file : FileSeen) (lanes : ℕ) (moves : List Move) (after : ProgressOf Seen) : Type 0 where
  pub to : ProgressSeen
  pub is_to : IsProgressOf after to
  pub moved : AllMove schedule file.entries (first_progress (first_node file.genesis) lanes) moves to

-- the results are those of the first entries one after another, and the node is the one after them
pub record RanFirstOf (schedule : ScheduleSeen) (file : FileSeen) (p : ProgressOf Seen) : Type 0 where
  pub node : NodeSeen
  pub is_node : IsNodeOf p.node node
  pub steps : AllStep schedule (first_node file.genesis) (take (committed_in p) file.entries) p.results node

-- so they are the first results of the file
abbrev pub HasPrefix : ScheduleSeen → FileSeen → ProgressOf Seen → Type 0
HasPrefix schedule file p =
    (results : List TxResult) (after : NodeSeen) → Runs schedule file results after →
    p.results ≡ take (committed_in p) results

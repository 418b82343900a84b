-- Moves that are drawn by a seed, as the calls of a workload are.
use Rattle.std.specs.Prelude.{ℕ, zero, suc, ◌/◌, ◌%◌, ◌==◌, List, [], ◌∷◌, ◌++◌, if◌then◌else◌}
use Rattle.cl_workload.specs.Workload.{drawn, number_after}
use Rattle.cl_lanes.specs.declared.moves.Move.{Move}
use Rattle.cl_lanes.specs.declared.moves.Move.TheVariants.{Run, Commit, Barrier}

-- the move for a drawn number: of four, two run a call, one commits, and one is a barrier
abbrev pub move_for : ℕ → ℕ → Move
move_for lanes d =
    if d % 4 == 2 then Commit ((d / 4) % lanes)
    else (if d % 4 == 3 then Barrier else Run ((d / 4) % lanes) ((d / 64) % lanes))

-- so many moves
unfoldable pub drawn_moves : ℕ → ℕ → ℕ → List Move
drawn_moves lanes seed zero = []
drawn_moves lanes seed (suc n) =
    drawn_moves lanes seed n ++ move_for lanes (drawn (number_after seed (suc n))) ∷ []

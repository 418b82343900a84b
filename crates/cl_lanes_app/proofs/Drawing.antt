-- Moves that are drawn one after another.
use Rattle.std.proofs.Common.{◌≡◌, ℕ, zero, suc, ◌+◌, List, [], ◌∷◌, ◌++◌, length, refl, ap, ◌∙◌, add-one, arith}
use Rattle.std.proofs.lemmas.List.{length_push}
use Rattle.cl_workload.specs.Workload.{drawn, next_number, number_after}
use Rattle.cl_lanes.specs.declared.moves.Move.{Move}
use Rattle.cl_lanes_app.specs.Draws.{drawn_moves, move_for}

-- the number after so many draws, and the moves by then
pub record IsDrawn (lanes seed count number : ℕ) (moves : List Move) : Type 0 where
  pub number_is : number ≡ number_after seed count
  pub moves_are : moves ≡ drawn_moves lanes seed count

pub drawn_first : (lanes seed number : ℕ) (moves : List Move) → number ≡ seed → moves ≡ [] → IsDrawn lanes seed 0 number moves
unfolding number_after drawn_moves
drawn_first lanes seed number moves is_seed are_none = record { number_is = is_seed; moves_are = are_none }

module _ (lanes seed count number next draw : ℕ) (moves more : List Move) (move : Move) (so_far : IsDrawn lanes seed count number moves) where
  next_so : next ≡ next_number number → draw ≡ drawn next → move ≡ move_for lanes draw → more ≡ moves ++ move ∷ [] → IsDrawn lanes seed (suc count) next more
  unfolding number_after drawn_moves
  next_so is_next is_draw is_move are_more =
      let number_is : next ≡ next_number (number_after seed count) = is_next ∙ ap next_number so_far.number_is in
      let of_next : move ≡ move_for lanes (drawn (next_number (number_after seed count))) = is_move ∙ ap (move_for lanes) (is_draw ∙ ap drawn number_is) in
      record { number_is = number_is; moves_are = are_more ∙ (λ i. so_far.moves_are i ++ of_next i ∷ []) }

  pub drawn_next : next ≡ next_number number → draw ≡ drawn next → move ≡ move_for lanes draw → more ≡ moves ++ move ∷ [] → IsDrawn lanes seed (count + 1) next more
  drawn_next is_next is_draw is_move are_more = rw add-one (next_so is_next is_draw is_move are_more)

-- there are as many as are asked for
pub drawn_length : (lanes seed count : ℕ) → length (drawn_moves lanes seed count) ≡ count
unfolding drawn_moves
drawn_length lanes seed zero = refl
drawn_length lanes seed (suc n) =
    let more = length_push (drawn_moves lanes seed n) (move_for lanes (drawn (number_after seed (suc n)))) in
    let so_far = drawn_length lanes seed n in
    omega (arith, more, so_far)

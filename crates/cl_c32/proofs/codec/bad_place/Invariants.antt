use Rattle.std.proofs.Common.{◌≡◌, ◌+◌, drop}
use Rattle.std.specs.Prelude.{is_none}
use Rattle.std.specs.List.{position_from}
use Rattle.cl_c32.specs.Alphabet.{digit_of}
use Rattle.cl_c32.proofs.codec.bad_place.Given as goal

abbrev pub invariant-loop-character : goal.invariant-loop-character
invariant-loop-character l =
    (position_from (λ c. is_none (digit_of c)) l.at (drop l.character-index l.characters)
    ≡ position_from (λ c. is_none (digit_of c)) 1 l.characters) × (l.at ≡ 1 + l.character-index)

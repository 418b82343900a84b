-- How a list that may not be told grows, and how a count rises that stays at the last value of a `u64`.
use Rattle.std.specs.Prelude.{◌≡◌, ℕ, ◌+◌, ◌-◌, ◌^◌, ◌≤◌, min, List, ◌++◌, Option, Some}

-- where the list was told, it is told now, with this at its end
pub record Grows {X : Type 0} (before now : Option (List X)) (more : List X) : Type 0 where
  pub told : (xs : List X) → before ≡ Some xs → now ≡ Some (xs ++ more)

-- where the list was told, it is told now, with a first part of this at its end
pub record GrowsPart {X : Type 0} (before now : Option (List X)) (whole : List X) : Type 0 where
  pub part : List X
  pub rest : List X
  pub parts : part ++ rest ≡ whole
  pub grown : Grows before now part

-- the next number of a count
abbrev pub next_count : ℕ → ℕ
next_count n = min (n + 1) (2 ^ 64 - 1)

-- the count rose, or stands at its last value
abbrev pub Rose : ℕ → ℕ → Type 0
Rose before now = next_count before ≤ now

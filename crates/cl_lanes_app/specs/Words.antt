-- What the words of `clarity_lanes` ask for.
use Rattle.std.specs.Prelude.{◌≤◌, ◌-◌, ◌^◌, ℕ, false, List, [], ◌∷◌, Option, Some, None, option_map, if◌then◌else◌, ◌==◌}
use Rattle.cl_words.specs.Numbers.{number_within}
use Rattle.cl_words.specs.Words.{Command, Run}
use Rattle.cl_lanes_app.specs.declared.words.Request.{Request as RequestOfCode}

-- the entries of a file are to be run under a file of costs, in so many lanes, whose moves are drawn by a seed
pub record Request : Type 0 where
  pub lanes : ℕ
  pub seed : ℕ
  pub costs : List ℕ
  pub file : List ℕ

-- ---- the words

abbrev pub but_zero : Option ℕ → Option ℕ
but_zero None = None
but_zero (Some n) = if n == 0 then None else Some n

-- the number of lanes that a word spells, 1 to 16
abbrev pub lanes_of : List ℕ → Option ℕ
lanes_of word = but_zero (number_within word 16)

abbrev pub request_by : Option ℕ → Option ℕ → List ℕ → List ℕ → Option Request
request_by None seed costs file = None
request_by (Some lanes) None costs file = None
request_by (Some lanes) (Some seed) costs file =
    Some (record { lanes = lanes; seed = seed; costs = costs; file = file })

-- LANES SEED COSTS TXFILE
abbrev pub request_of : List (List ℕ) → Option Request
request_of [] = None
request_of (lanes ∷ []) = None
request_of (lanes ∷ seed ∷ []) = None
request_of (lanes ∷ seed ∷ costs ∷ []) = None
request_of (lanes ∷ seed ∷ costs ∷ file ∷ []) =
    request_by (lanes_of lanes) (number_within seed (2 ^ 64 - 1)) costs file
request_of (lanes ∷ seed ∷ costs ∷ file ∷ word ∷ words) = None

abbrev pub run_by : Request → Command
run_by r = Run r.costs r.file false

-- the command that reads the same files; none for words that aren't of this shape
abbrev pub run_of : Option Request → Option Command
run_of request = option_map run_by request

-- ---- in the code

abbrev pub request_seen : RequestOfCode → Request
request_seen r = record { lanes = r.lanes; seed = r.seed; costs = r.costs.now; file = r.file.now }

-- 1 to 16 lanes
pub record IsLanes (n : ℕ) : Type 0 where
  pub some : 1 ≤ n
  pub few : n ≤ 16

-- a request has 1 to 16 lanes
abbrev pub AllowsLanes : Option RequestOfCode → Type 0
AllowsLanes None = Unit {0}
AllowsLanes (Some request) = IsLanes request.lanes

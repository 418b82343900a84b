-- Chains of functions, each of which applies the one before: bounds and heights above the limit, by computing.
use Rattle.std.specs.Prelude.{◌≡◌, ℕ, zero, suc, ◌+◌, ◌/◌, ◌%◌, nat_lt, List, [], ◌∷◌, ◌++◌, codes, length, if◌then◌else◌, Some, None}
use Rattle.cl_shapes.specs.declared.cost.Dimension.TheVariants.{Runtime}
use Rattle.cl_sexpr.specs.declared.rule.Rule.TheVariants.{TooDeepCalls}
use Rattle.cl_rules.specs.Judging.{Holds}
use Rattle.cl_rules.specs.Samples.{checked, refused, rule_of, span, bound_break}

-- a number below 1,000 in decimal digits
abbrev pub decimal : ℕ → List ℕ
decimal n =
    if nat_lt n 10 then (48 + n) ∷ []
    else (if nat_lt n 100 then (48 + n / 10) ∷ (48 + n % 10) ∷ []
    else (48 + n / 100) ∷ (48 + n / 10 % 10) ∷ (48 + n % 10) ∷ [])

-- ---- bounds

-- (define-private (f2 (x uint)) (len (map f1 (var-get xs)))) with its own number and the one before
abbrev pub mapping : ℕ → List ℕ
mapping n = codes "(define-private (f" ++ decimal (n + 1) ++ codes " (x uint)) (len (map f" ++ decimal n ++ codes " (var-get xs))))"

abbrev pub mappings : ℕ → List ℕ
mappings zero = codes "(define-data-var xs (list 60000 uint) (list))(define-private (f1 (x uint)) x)"
mappings (suc n) = mappings n ++ mapping (suc n)

pub record BoundsOfChains : Type 0 where
  pub eight_within : bound_break (mappings 7) ≡ Holds None
  pub nine_above : bound_break (mappings 8) ≡ Holds (Some (Runtime, span 483 541))

-- ---- heights

-- (define-private (f2 (x int)) (f1 x)) with its own number and the one before
abbrev pub calling : ℕ → List ℕ
calling n = codes "(define-private (f" ++ decimal (n + 1) ++ codes " (x int)) (f" ++ decimal n ++ codes " x))"

abbrev pub callings : ℕ → List ℕ
callings zero = codes "(define-private (f1 (x int)) x)"
callings (suc n) = callings n ++ calling (suc n)

-- the height of each function is twice its number
pub record HeightsOfChains : Type 0 where
  pub height_256 : rule_of (checked (callings 127)) ≡ None
  pub height_258 : checked (callings 128) ≡ refused TooDeepCalls (length (callings 127)) (length (callings 128))

-- Post-conditions (SIP-005): what a transaction may move.
use Rattle.std.specs.Prelude.{ℕ, ◌+◌, ◌^◌, nat_eq, nat_le, nat_lt, Bool, true, false, not, ◌&&◌, List, [], ◌∷◌, length, Option, Some, None, if◌then◌else◌}
use Rattle.std.specs.List.{list_any, list_all, sum_by}
use Rattle.std.specs.Option.{option_or}
use Rattle.std.specs.Str.{bytes_eq}
use Rattle.std.specs.Ordering.{eq_by_cmp}
use Rattle.cl_c32.specs.declared.principal.Principal.{Principal}
use Rattle.cl_c32.specs.Principals.{same_principal}
use Rattle.cl_maps.specs.Maps.{key_cmp}
use Rattle.cl_values.specs.Tree.{Tree}
use Rattle.cl_values.specs.Wire.{wire}
use Rattle.cl_events.specs.declared.event.Move.{Move}
use Rattle.cl_events.specs.declared.event.Asset.{Asset}
use Rattle.cl_events.specs.declared.event.Asset.TheVariants.{Stx, Ft, Nft}
use Rattle.cl_post.specs.declared.condition.Mode.{Mode}
use Rattle.cl_post.specs.declared.condition.Mode.TheVariants.{Allow, Deny}
use Rattle.cl_post.specs.declared.condition.Code5.{Code5}
use Rattle.cl_post.specs.declared.condition.Code5.TheVariants.{Eq, Gt, Ge, Lt, Le}
use Rattle.cl_post.specs.declared.condition.Test.{Test}
use Rattle.cl_post.specs.declared.condition.Test.TheVariants.{Amount, Sent, NotSent}
use Rattle.cl_post.specs.declared.condition.Condition.{Condition}

-- ---- sameness

abbrev pub is_value : Tree → Tree → Bool
is_value v w = eq_by_cmp key_cmp (wire v) (wire w)

abbrev pub is_asset : Asset → Asset → Bool
is_asset Stx Stx = true
is_asset (Ft p name) (Ft q other) = same_principal p q && bytes_eq name other
is_asset (Nft p name id) (Nft q other other_id) = same_principal p q && bytes_eq name other && is_value id other_id
is_asset a b = false

-- a move of this asset by this principal
unfoldable pub is_of : Principal → Asset → Move → Bool
is_of p asset m = same_principal p m.from && is_asset asset m.asset

-- ---- sums

abbrev pub weight : Principal → Asset → Move → ℕ
weight p asset m = if is_of p asset m then m.amount else 0

-- the sum of the amounts of an asset that left a principal: a whole number without an end
unfoldable pub sent : List Move → Principal → Asset → ℕ
sent moves p asset = sum_by (weight p asset) moves

abbrev pub has_sent : List Move → Principal → Asset → Bool
has_sent moves p asset = list_any (is_of p asset) moves

-- how a sum stands to an amount
abbrev pub meets : Code5 → ℕ → ℕ → Bool
meets Eq sum amount = nat_eq sum amount
meets Gt sum amount = nat_lt amount sum
meets Ge sum amount = nat_le amount sum
meets Lt sum amount = nat_lt sum amount
meets Le sum amount = nat_le sum amount

-- a sum as the code has it: none where it is above all amounts
abbrev pub fitting : ℕ → Option ℕ
fitting n = if nat_lt n (2 ^ 128) then Some n else None

-- ---- conditions

abbrev pub passes : Test → List Move → Principal → Asset → Bool
passes (Amount code amount) moves p asset = meets code (sent moves p asset) amount
passes Sent moves p asset = has_sent moves p asset
passes NotSent moves p asset = not (has_sent moves p asset)

unfoldable pub holds_one : List Move → Condition → Bool
holds_one moves c = passes c.test moves c.principal c.asset

-- the place of the first condition that fails, from this place on
abbrev pub failing_from : ℕ → List Move → List Condition → Option ℕ
failing_from i moves [] = None
failing_from i moves (c ∷ cs) = if holds_one moves c then failing_from (i + 1) moves cs else Some i

abbrev pub first_failing : List Move → List Condition → Option ℕ
first_failing moves conditions = failing_from 0 moves conditions

-- a condition is on this asset by this principal
abbrev pub is_named : List Condition → Move → Bool
is_named conditions m = list_any (λ c. is_of c.principal c.asset m) conditions

abbrev pub all_named : List Condition → List Move → Bool
all_named conditions moves = list_all (is_named conditions) moves

abbrev pub unless_named : Mode → List Condition → List Move → Option ℕ
unless_named Allow conditions moves = None
unless_named Deny conditions moves = if all_named conditions moves then None else Some (length conditions)

-- The first condition that fails. In deny mode, where each holds and some move is of an asset that no condition names for its
-- principal, their number.
unfoldable pub holds : List Move → Mode → List Condition → Option ℕ
holds moves mode conditions = option_or (first_failing moves conditions) (unless_named mode conditions moves)

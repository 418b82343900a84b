-- Assets of principals as lists, by which they are put in order, and what is known of the moves of each.
use Rattle.std.specs.Prelude.{ℕ, ◌≡◌, List, [], ◌∷◌, Option, Some, None, is_some}
use Rattle.std.specs.declared.cmp.Ordering.{Ordering}
use Rattle.std.specs.Ordering.{ordering_then, nat_cmp}
use Rattle.std.specs.Cmp.{IsTotalOrder}
use Rattle.std.specs.Cmp.Lexicographic.{slice_cmp, lists_total, nat_list_cmp_total}
use Rattle.std.specs.BTreeMap.{BTreeMap, get}
use Rattle.std.specs.BTreeSet.{BTreeSet, contains}
use Rattle.cl_c32.specs.declared.principal.Principal.{Principal}
use Rattle.cl_maps.specs.Maps.{key_cmp}
use Rattle.cl_values.specs.Wire.{wire}
use Rattle.cl_events.specs.declared.event.Move.{Move}
use Rattle.cl_events.specs.declared.event.Asset.{Asset}
use Rattle.cl_events.specs.declared.event.Asset.TheVariants.{Stx, Ft, Nft}
use Rattle.cl_post.specs.declared.condition.Condition.{Condition}
use Rattle.cl_post.specs.Post.{sent, has_sent, is_named, fitting}

-- ---- the order

abbrev pub contract_part : Option (List ℕ) → List ℕ
contract_part None = []
contract_part (Some name) = 1 ∷ name

-- a principal in front of other parts
abbrev pub behind : Principal → List (List ℕ) → List (List ℕ)
behind p parts = (p.address.version ∷ []) ∷ p.address.hash ∷ contract_part p.contract ∷ parts

abbrev pub asset_parts : Asset → List (List ℕ)
asset_parts Stx = []
asset_parts (Ft p name) = behind p (name ∷ [])
asset_parts (Nft p name id) = behind p (name ∷ wire id ∷ [])

-- an asset of a principal: who it is, and what the asset is
abbrev pub parts_of : Principal → Asset → List (List ℕ)
parts_of p asset = behind p (asset_parts asset)

-- part by part, each bytewise
abbrev pub parts_cmp : List (List ℕ) → List (List ℕ) → Ordering
parts_cmp = slice_cmp key_cmp

pub parts_total : IsTotalOrder parts_cmp
parts_total = lists_total nat_list_cmp_total

-- the order of two principals: by version, then hash, then the contract's name
abbrev pub principal_cmp : Principal → Principal → Ordering
principal_cmp p q = ordering_then (ordering_then (nat_cmp p.address.version q.address.version) (key_cmp p.address.hash q.address.hash)) (key_cmp (contract_part p.contract) (contract_part q.contract))

-- ---- what is kept of moves and conditions

abbrev pub Sums : Type 0
Sums = BTreeMap (List (List ℕ)) (Option ℕ)

-- the sum that was found of an asset, or 0
abbrev pub sum_found : Option (Option ℕ) → Option ℕ
sum_found None = Some 0
sum_found (Some sum) = sum

-- there is a sum of each asset of a principal that moves, and of no other
pub record AreSums (moves : List Move) (sums : Sums) : Type 0 where
  pub summed : (p : Principal) (asset : Asset) → sum_found (get parts_cmp sums (parts_of p asset)) ≡ fitting (sent moves p asset)
  pub moved : (p : Principal) (asset : Asset) → is_some (get parts_cmp sums (parts_of p asset)) ≡ has_sent moves p asset

-- with one more move in front
abbrev pub AddsMove : Move → Sums → Sums → Type 0
AddsMove m old new = (later : List Move) → AreSums later old → AreSums (m ∷ later) new

-- the assets of principals that conditions name
abbrev pub AreNamed : List Condition → BTreeSet (List (List ℕ)) → Type 0
AreNamed conditions named = (m : Move) → contains parts_cmp named (parts_of m.from m.asset) ≡ is_named conditions m

-- with one more condition in front
abbrev pub AddsCondition : Condition → BTreeSet (List (List ℕ)) → BTreeSet (List (List ℕ)) → Type 0
AddsCondition c old new = (later : List Condition) → AreNamed later old → AreNamed (c ∷ later) new

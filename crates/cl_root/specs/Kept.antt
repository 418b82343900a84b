-- Leaves as the code keeps them, and what it has found of them so far.
use Rattle.std.specs.Prelude.{◌≡◌, ℕ, ◌<◌, ◌^◌, Bool, true, false, List, ◌++◌, length, map, reverse, Option, None, Some, Vec}
use Rattle.std.specs.List.{All}
use Rattle.std.specs.Option.{option_map}
use Rattle.std.specs.Ordering.{ordering_then}
use Rattle.std.specs.declared.cmp.Ordering.{Ordering}
use Rattle.std.specs.declared.alloc.Global.{Global}
use Rattle.cl_maps.specs.Maps.{Map, key_cmp}
use Rattle.cl_events.specs.State.{State}
use Rattle.cl_root.specs.declared.side.Side.{Side}
use Rattle.cl_tables.specs.declared.row.StateRow.{StateRow}
use Rattle.cl_root.specs.Leaves.{Leaf, leaf_of, AreLeaves}
use Rattle.cl_root.specs.HashTree.{tree_of}
use Rattle.cl_root.specs.Paths.{sides_to}

abbrev pub KeptLeaf : Type 0
KeptLeaf = Vec ℕ Global × Vec ℕ Global

abbrev pub leaf_in : KeptLeaf → Leaf
leaf_in leaf = (leaf.0.items, leaf.1.items)

abbrev pub leaves_in : List KeptLeaf → List Leaf
leaves_in leaves = map (λ leaf. leaf_in leaf) leaves

-- the leaves of these rows, in their order
abbrev pub leaves_of : List StateRow → List Leaf
leaves_of rows = map (λ row. leaf_of row) rows

abbrev pub sides_in : Option (Vec Side Global) → Option (List Side)
sides_in path = option_map (λ sides. sides.items) path

-- the order of keys, and then of values
abbrev pub in_order : KeptLeaf → KeptLeaf → Ordering
in_order a b = ordering_then (key_cmp a.0.items b.0.items) (key_cmp a.1.items b.1.items)

-- a list of just the leaves of a state, whose keys rise
abbrev pub MakeLeaves : List Leaf → State → Type 0
MakeLeaves list s = (leaves : Map (List ℕ)) × (list ≡ leaves.list) × AreLeaves leaves s

-- four bytes hold the length of each key
abbrev pub AreShort : List Leaf → Type 0
AreShort leaves = All (λ leaf. length leaf.0 < 2 ^ 32) leaves

-- the sides from the root down to the leaf with this key, if there is one
abbrev pub sides_among : List KeptLeaf → List ℕ → Option (List Side)
sides_among leaves key = sides_to key (tree_of (leaves_in leaves))

-- a path is appended to others, if there is one; its sides are given from the root down
abbrev pub AddsPath : Option (List Side) → Bool → List Side → List Side → Type 0
AddsPath None found old new = (found ≡ false) × (new ≡ old)
AddsPath (Some sides) found old new = (found ≡ true) × (new ≡ old ++ reverse sides)

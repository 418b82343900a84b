-- Paths from a leaf to the root, and the digests that they lead to.
use Rattle.std.specs.Prelude.{◌≡◌, ℕ, Bool, true, false, List, [], ◌∷◌, ◌++◌, reverse, if◌then◌else◌, Option, None, Some}
use Rattle.std.specs.Option.{option_map, option_or}
use Rattle.sha2.specs.Sha256.{sha256}
use Rattle.cl_maps.specs.Maps.{Map}
use Rattle.cl_tokens.specs.Table.{is_key}
use Rattle.cl_events.specs.State.{State}
use Rattle.cl_root.specs.declared.side.Side.{Side}
use Rattle.cl_tables.specs.declared.row.StateRow.{StateRow}
use Rattle.cl_tables.specs.StateRows.{IsRow}
use Rattle.cl_root.specs.RowBytes.{key_bytes}
use Rattle.cl_root.specs.Leaves.{Leaf, leaf_input, leaf_of, AreLeaves}
use Rattle.cl_root.specs.HashTree.{HashTree, Empty, Single, Parts, digest_of, tree_of, IsRoot}

-- what is digested at a step: 1, the digest so far, and the one beside it, each on its side
unfoldable pub step_input : Side → List ℕ → List ℕ
step_input side digest = 1 ∷ (if side.left then side.digest ++ digest else digest ++ side.digest)

-- the digest to which a leaf leads by these sides, from the root down
unfoldable pub led : Leaf → List Side → List ℕ
led leaf [] = sha256 (leaf_input leaf)
led leaf (side ∷ below) = sha256 (step_input side (led leaf below))

-- the same of a path, whose sides go from the leaf up
abbrev pub end_of : Leaf → List Side → List ℕ
end_of leaf path = led leaf (reverse path)

-- the digest of a part of a tree, on the left or on the right
abbrev pub part_beside : Bool → HashTree → Side
part_beside left tree = record { left = left; digest = digest_of tree }

-- the other parts at the turns to the leaf with this key, from the root down
unfoldable pub sides_to : List ℕ → HashTree → Option (List Side)
sides_to key Empty = None
sides_to key (Single leaf) = if is_key key leaf.0 then Some [] else None
sides_to key (Parts left right) =
    option_or (option_map (λ below. part_beside false right ∷ below) (sides_to key left)) (option_map (λ below. part_beside true left ∷ below) (sides_to key right))

-- the path of the row of a state with this key, from the leaf up, if there is one
pub record IsPath (path : Option (List Side)) (key : List ℕ) (s : State) : Type 0 where
  pub leaves : Map (List ℕ)
  pub are : AreLeaves leaves s
  pub is : path ≡ option_map (λ sides. reverse sides) (sides_to key (tree_of leaves.list))

-- the path leads from each row with this key to the root of the state
abbrev pub LeadsToRoot : List Side → List ℕ → State → Type 0
LeadsToRoot path key s =
    (row : StateRow) (root : List ℕ) → IsRow s row → key_bytes row ≡ key → IsRoot root s → end_of (leaf_of row) path ≡ root

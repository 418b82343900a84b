-- The tree of leaves, and its root.
use Rattle.std.specs.Prelude.{◌≡◌, ℕ, zero, suc, ◌+◌, ◌<◌, ◌≤◌, ◌^◌, nat_lt, List, [], ◌∷◌, ◌++◌, length, take, drop, if◌then◌else◌}
use Rattle.sha2.specs.Sha256.{sha256}
use Rattle.cl_maps.specs.Maps.{Map}
use Rattle.cl_events.specs.State.{State}
use Rattle.cl_root.specs.Leaves.{Leaf, leaf_input, AreLeaves}

pub data HashTree : Type 0 where
  Empty : HashTree
  Single : Leaf → HashTree
  Parts : HashTree → HashTree → HashTree

-- what is digested of a tree: nothing, the input of the leaf, or 1 and the digests of both parts
unfoldable pub input_of : HashTree → List ℕ
input_of Empty = []
input_of (Single leaf) = leaf_input leaf
input_of (Parts left right) = 1 ∷ (sha256 (input_of left) ++ sha256 (input_of right))

abbrev pub digest_of : HashTree → List ℕ
digest_of tree = sha256 (input_of tree)

-- of at most 2 ^ levels leaves: the left part has the greatest power of two of leaves below their number
unfoldable pub tree_within : ℕ → List Leaf → HashTree
tree_within zero [] = Empty
tree_within zero (leaf ∷ leaves) = Single leaf
tree_within (suc levels) leaves =
    if nat_lt (2 ^ levels) (length leaves) then Parts (tree_within levels (take (2 ^ levels) leaves)) (tree_within levels (drop (2 ^ levels) leaves))
    else tree_within levels leaves

abbrev pub tree_of : List Leaf → HashTree
tree_of leaves = tree_within (length leaves) leaves

unfoldable pub root_of : List Leaf → List ℕ
root_of leaves = digest_of (tree_of leaves)

-- the root of a state
pub record IsRoot (digest : List ℕ) (s : State) : Type 0 where
  pub leaves : Map (List ℕ)
  pub are : AreLeaves leaves s
  pub is : digest ≡ root_of leaves.list

-- the root of leaves in two parts
abbrev pub root_of_parts : List Leaf → List Leaf → List ℕ
root_of_parts left right = sha256 (1 ∷ (root_of left ++ root_of right))

-- the greatest power of two below a count
pub record IsCut (cut count : ℕ) : Type 0 where
  pub levels : ℕ
  pub is : cut ≡ 2 ^ levels
  pub below : cut < count
  pub half : count ≤ cut + cut

-- a list in two parts, the left one as long as the greatest power of two below their length
abbrev pub AreParts : List Leaf → List Leaf → Type 0
AreParts left right = IsCut (length left) (length (left ++ right))

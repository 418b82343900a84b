-- Two inputs with one digest, where a path leads to the root of a state that doesn't have its leaf.
use Rattle.std.specs.Prelude.{◌≡◌, ◌⊎◌, ℕ, List, [], ◌∷◌, reverse, if◌then◌else◌, Option, None, Some}
use Rattle.sha2.specs.Sha256.{sha256}
use Rattle.cl_tokens.specs.Table.{is_key}
use Rattle.cl_root.specs.declared.side.Side.{Side}
use Rattle.cl_events.specs.State.{State}
use Rattle.cl_root.specs.Leaves.{Leaf, leaf_input, HasRow}
use Rattle.cl_root.specs.HashTree.{HashTree, Parts, input_of, tree_of, IsRoot}
use Rattle.cl_root.specs.Paths.{step_input, led}

-- what is digested of a leaf and at the steps above it, from the root down
unfoldable pub inputs : Leaf → List Side → List (List ℕ)
inputs leaf [] = leaf_input leaf ∷ []
inputs leaf (side ∷ below) = step_input side (led leaf below) ∷ inputs leaf below

-- what is digested of a tree and of its parts at the same turns, from the root down
unfoldable pub inputs_along : List Side → HashTree → List (List ℕ)
inputs_along (side ∷ below) (Parts left right) = input_of (Parts left right) ∷ inputs_along below (if side.left then right else left)
inputs_along sides tree = input_of tree ∷ []

-- the first pair that differs
unfoldable pub first_apart : List (List ℕ) → List (List ℕ) → Option (List ℕ × List ℕ)
first_apart (x ∷ xs) (y ∷ ys) = if is_key x y then first_apart xs ys else Some (x, y)
first_apart xs ys = None

-- of a leaf and its path, and of the tree of a state's leaves
abbrev pub clash : List Leaf → Leaf → List Side → Option (List ℕ × List ℕ)
clash leaves leaf path = first_apart (inputs leaf (reverse path)) (inputs_along (reverse path) (tree_of leaves))

-- two inputs that differ and have one digest
pub record AreCollision (pair : List ℕ × List ℕ) : Type 0 where
  pub differ : pair.0 ≡ pair.1 → ⊥
  pub same : sha256 pair.0 ≡ sha256 pair.1

-- the clash is there, and its inputs have one digest
abbrev pub Clashes : List Leaf → Leaf → List Side → Type 0
Clashes leaves leaf path = (pair : List ℕ × List ℕ) × (clash leaves leaf path ≡ Some pair) × AreCollision pair

-- each state with this root has the row, or the clash has one digest
abbrev pub HasRowOrClash : List ℕ → Leaf → List Side → Type 0
HasRowOrClash root leaf path =
    (s : State) (known : IsRoot root s) → HasRow s leaf ⊎ Clashes known.leaves.list leaf path

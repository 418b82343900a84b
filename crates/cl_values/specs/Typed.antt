-- Values of types.
use Rattle.std.specs.Prelude.{◌≡◌, ◌≤◌, true, List, [], ◌∷◌, length, Some}
use Rattle.cl_types.specs.Types.{PlainType}
use Rattle.cl_types.specs.TypeKinds.{entry_of}
use Rattle.cl_types.specs.Sized.{length_of}
use Rattle.cl_values.specs.Tree.{Tree}
use Rattle.cl_values.specs.Valid.{IsVal}
use Rattle.cl_values.specs.Inhabits.{inhabits}
use Rattle.cl_values.specs.Sequences.{entries_of}

-- a value within the limits, of a type
pub record IsOf (v : Tree) (t : PlainType) : Type 0 where
  pub valid : IsVal v
  pub typed : inhabits v t ≡ true

-- values one by one of types
abbrev pub AreOf : List Tree → List PlainType → Type 0
AreOf [] [] = Unit {0}
AreOf (v ∷ vs) (t ∷ ts) = IsOf v t × AreOf vs ts
AreOf vs ts = ⊥

-- each value is one of a type
abbrev pub AllOf : List Tree → PlainType → Type 0
AllOf [] t = Unit {0}
AllOf (v ∷ vs) t = IsOf v t × AllOf vs t

-- values within the limits
abbrev pub AllVals : List Tree → Type 0
AllVals [] = Unit {0}
AllVals (v ∷ vs) = IsVal v × AllVals vs

-- some of the values, in their order
pub data AreSome : List Tree → List Tree → Type 0 where
  none : AreSome [] []
  with : {v : Tree} {vs ws : List Tree} → AreSome vs ws → AreSome (v ∷ vs) (v ∷ ws)
  without : {v : Tree} {vs ws : List Tree} → AreSome vs ws → AreSome vs (v ∷ ws)

-- the entries of a value of a sequence type: of the entry type, no more than the type's length
pub record HasEntriesOf (v : Tree) (t : PlainType) : Type 0 where
  pub entries : List Tree
  pub there : entries_of v ≡ Some entries
  pub typed : AllOf entries (entry_of t)
  pub few : length entries ≤ length_of t

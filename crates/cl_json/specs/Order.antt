-- The order of an object's names, which is that of their bytes.
use Rattle.std.specs.Prelude.{◌≡◌, ◌≢◌, ℕ, List, All, Contains}
use Rattle.std.specs.Ordering.{nat_cmp}
use Rattle.std.specs.declared.cmp.Ordering.TheVariants.{Less, Greater}
use Rattle.std.specs.Cmp.Lexicographic.{slice_cmp}
use Rattle.serde_json.specs.Data.{Data, null, boolean, number, string, array, object, Items, no_items, item, Members, no_members, member}

-- each name of the members comes after this one
abbrev pub AllAfter : List ℕ → Members → Type 0
AllAfter first no_members = Unit {0}
AllAfter first (member name d members) = (slice_cmp nat_cmp first name ≡ Less) × AllAfter first members

abbrev pub Rising : Members → Type 0
Rising no_members = Unit {0}
Rising (member name d members) = AllAfter name members × Rising members

-- in each object, however deep, the names rise, so that each stands once
abbrev mutual
  pub InOrder : Data → Type 0
  InOrder null = Unit {0}
  InOrder (boolean b) = Unit {0}
  InOrder (number n) = Unit {0}
  InOrder (string s) = Unit {0}
  InOrder (array ds) = ItemsInOrder ds
  InOrder (object members) = Rising members × MembersInOrder members

  pub ItemsInOrder : Items → Type 0
  ItemsInOrder no_items = Unit {0}
  ItemsInOrder (item d ds) = InOrder d × ItemsInOrder ds

  pub MembersInOrder : Members → Type 0
  MembersInOrder no_members = Unit {0}
  MembersInOrder (member name d members) = InOrder d × MembersInOrder members

-- one of the names, with no name before it
pub record IsLeast (name : List ℕ) (names : List (List ℕ)) : Type 0 where
  pub there : Contains names name
  pub least : All (λ other. slice_cmp nat_cmp name other ≢ Greater) names

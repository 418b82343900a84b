-- Names that can't be read as keys.
use Rattle.std.specs.Prelude.{ℕ, ◌==◌, ◌&&◌, ◌||◌, Bool, false, List, [], ◌∷◌}
use Rattle.cl_sexpr.specs.Leaf.{are_digits}
use Rattle.cl_values.specs.Tree.{Tree, ListV, TupleV, SomeV, ResponseV, Items, NoItem, Item, Entries, NoEntry, Entry}

-- `u` followed by digits alone, which a text spells as a uint
abbrev pub is_number_name : List ℕ → Bool
is_number_name [] = false
is_number_name (c ∷ cs) = c == 117 && are_digits cs

-- a tuple in a value has such a key
abbrev mutual
  pub has_number_key : Tree → Bool
  has_number_key (ListV vs) = items_have_number_key vs
  has_number_key (TupleV es) = entries_have_number_key es
  has_number_key (SomeV v) = has_number_key v
  has_number_key (ResponseV good v) = has_number_key v
  has_number_key v = false

  pub items_have_number_key : Items → Bool
  items_have_number_key NoItem = false
  items_have_number_key (Item v vs) = has_number_key v || items_have_number_key vs

  pub entries_have_number_key : Entries → Bool
  entries_have_number_key NoEntry = false
  entries_have_number_key (Entry k v es) = is_number_name k || has_number_key v || entries_have_number_key es

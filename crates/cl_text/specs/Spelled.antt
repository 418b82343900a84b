-- What holds of each item that a text spells: its ASCII strings hold bytes that such a string may hold.
use Rattle.std.specs.Prelude.{◌&&◌, Bool, true}
use Rattle.std.specs.List.{list_all}
use Rattle.cl_sexpr.specs.Tree.{Leaf, Named, Signed, Unsigned, Bytes, Ascii, Unicode, Standing, Local, Tree as Item, LeafAt, ListAt, TupleAt, Forest, Empty, Then, Pairs, NoPair, Pair}
use Rattle.cl_values.specs.Valid.{is_text_byte}

abbrev pub is_spelled_leaf : Leaf → Bool
is_spelled_leaf (Named name) = true
is_spelled_leaf (Signed z) = true
is_spelled_leaf (Unsigned n) = true
is_spelled_leaf (Bytes bytes) = true
is_spelled_leaf (Ascii bytes) = list_all is_text_byte bytes
is_spelled_leaf (Unicode characters) = true
is_spelled_leaf (Standing p) = true
is_spelled_leaf (Local name) = true

abbrev mutual
  pub is_spelled : Item → Bool
  is_spelled (LeafAt leaf span) = is_spelled_leaf leaf
  is_spelled (ListAt items span) = are_spelled items
  is_spelled (TupleAt pairs span) = have_spelled pairs

  pub are_spelled : Forest → Bool
  are_spelled Empty = true
  are_spelled (Then item others) = is_spelled item && are_spelled others

  pub have_spelled : Pairs → Bool
  have_spelled NoPair = true
  have_spelled (Pair key item others) = is_spelled item && have_spelled others

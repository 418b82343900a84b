-- Where the parts of an item stand.
use Rattle.std.specs.Prelude.{ℕ, ◌≤◌, ◌<◌}
use Rattle.cl_sexpr.specs.Tree.{Tree, span_of, LeafAt, ListAt, TupleAt, Forest, Empty, Then, Pairs, NoPair, Pair}

-- no span is empty, and the parts of a list or tuple stand in it one after another, in front of its last byte
abbrev mutual
  pub IsPlaced : Tree → Type 0
  IsPlaced (LeafAt leaf s) = s.start < s.end
  IsPlaced (ListAt items s) = ArePlaced s.start s.end items
  IsPlaced (TupleAt parts s) = ArePairsPlaced s.start s.end parts

  pub ArePlaced : ℕ → ℕ → Forest → Type 0
  ArePlaced low high Empty = low < high
  ArePlaced low high (Then e es) = (low ≤ (span_of e).start) × IsPlaced e × ArePlaced (span_of e).end high es

  pub ArePairsPlaced : ℕ → ℕ → Pairs → Type 0
  ArePairsPlaced low high NoPair = low < high
  ArePairsPlaced low high (Pair k e parts) = (low ≤ (span_of e).start) × IsPlaced e × ArePairsPlaced (span_of e).end high parts

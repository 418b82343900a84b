-- The items of a text are few: each has a byte of its own.
use Rattle.std.proofs.Common.{ℕ, ◌+◌, ◌*◌, ◌≤◌, List, [], ◌∷◌, length, drop, arith, ap, length-append, length-drop}
use Rattle.cl_sexpr.specs.Tree.{Tree, Forest, Pairs, LeafAt, ListAt, TupleAt, Empty, Then, NoPair, Pair, tree_size, forest_size, pairs_size}
use Rattle.cl_sexpr.specs.Token.{Token, Separator, Comment, Colon, Comma, Opens, Closes, OpensTuple, ClosesTuple, Key, Is, Faulty, bare, tree_tokens, forest_tokens, pairs_tokens}
use Rattle.cl_sexpr.specs.Text.{Cuts, Reads}
use Rattle.cl_sexpr.proofs.Follows.{carried}

-- each token has a byte
length-cut : (at : ℕ) (bytes : List ℕ) (ts : List Token) (at' : ℕ) (rest : List ℕ) → Cuts at bytes ts at' rest → length ts ≤ length bytes
length-cut at bytes [] at' rest h = omega arith
length-cut at bytes (t ∷ ts) at' rest h =
    omega (arith, length-cut (at + h.0) (drop h.0 bytes) ts at' rest h.4, length-drop h.0 bytes, h.1, h.2)

length-bare : (ts : List Token) → length (bare ts) ≤ length ts
length-bare [] = omega arith
length-bare (Separator ∷ ts) = omega (arith, length-bare ts)
length-bare (Comment ∷ ts) = omega (arith, length-bare ts)
length-bare (Colon ∷ ts) = omega (arith, length-bare ts)
length-bare (Comma ∷ ts) = omega (arith, length-bare ts)
length-bare (Opens at ∷ ts) = omega (arith, length-bare ts)
length-bare (Closes end ∷ ts) = omega (arith, length-bare ts)
length-bare (OpensTuple at ∷ ts) = omega (arith, length-bare ts)
length-bare (ClosesTuple end ∷ ts) = omega (arith, length-bare ts)
length-bare (Key name ∷ ts) = omega (arith, length-bare ts)
length-bare (Is leaf span ∷ ts) = omega (arith, length-bare ts)
length-bare (Faulty r ∷ ts) = omega (arith, length-bare ts)

mutual
  tree_small : (t : Tree) → tree_size t + 1 ≤ 2 * length (tree_tokens t)
  tree_small (LeafAt l s) = omega arith
  tree_small (ListAt f s) = omega (arith, forest_small f, length-append (forest_tokens f) (Closes s.end ∷ []))
  tree_small (TupleAt ps s) = omega (arith, pairs_small ps, length-append (pairs_tokens ps) (ClosesTuple s.end ∷ []))

  forest_small : (f : Forest) → forest_size f ≤ 2 * length (forest_tokens f)
  forest_small Empty = omega arith
  forest_small (Then t f) = omega (arith, tree_small t, forest_small f, length-append (tree_tokens t) (forest_tokens f))

  pairs_small : (ps : Pairs) → pairs_size ps ≤ 2 * length (pairs_tokens ps)
  pairs_small NoPair = omega arith
  pairs_small (Pair k t ps) = omega (arith, tree_small t, pairs_small ps, length-append (tree_tokens t) (pairs_tokens ps))

pub items_few : (bytes : List ℕ) (f : Forest) → Reads bytes f → forest_size f ≤ 2 * length bytes
items_few bytes f r =
    omega (arith, forest_small f, ap length (carried f r.tokens r.row), length-bare r.tokens, length-cut 0 bytes r.tokens (length bytes) [] r.cut)

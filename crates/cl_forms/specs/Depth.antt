-- How deep the expressions of forms nest.
use Rattle.std.specs.Prelude.{ℕ, ◌≤◌, Option, Some, None}
use Rattle.cl_sexpr.specs.Tree.{Tree, tree_depth}

-- the expression, if there is one, nests no deeper than this
abbrev pub NestsAtMost : ℕ → Option Tree → Type 0
NestsAtMost n None = Unit {0}
NestsAtMost n (Some e) = tree_depth e ≤ n

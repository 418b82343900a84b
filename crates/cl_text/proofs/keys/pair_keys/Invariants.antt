use Rattle.std.proofs.Common.{◌≡◌, drop}
use Rattle.cl_sexpr.specs.Tree.{forest}
use Rattle.cl_text.specs.Literal.{pair_keys}
use Rattle.cl_text.proofs.Rows.{behind_keys}
use Rattle.cl_text.proofs.keys.pair_keys.Given as goal

abbrev pub invariant-loop-item : goal.invariant-loop-item
invariant-loop-item l = pair_keys (forest l.items) ≡ behind_keys l.keys.items (pair_keys (forest (drop l.item-index l.items)))

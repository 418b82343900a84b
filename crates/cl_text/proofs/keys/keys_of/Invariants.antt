use Rattle.std.proofs.Common.{◌≡◌, ◌++◌, drop}
use Rattle.cl_sexpr.specs.Tree.{pairs}
use Rattle.cl_text.specs.Literal.{keys_of}
use Rattle.cl_text.proofs.keys.keys_of.Given as goal

abbrev pub invariant-loop-part : goal.invariant-loop-part
invariant-loop-part l = keys_of (pairs l.parts) ≡ l.keys.items ++ keys_of (pairs (drop l.part-index l.parts))

use Rattle.std.proofs.Common.{◌≡◌, drop}
use Rattle.cl_readonly.proofs.Wrong.{wrong_of}
use Rattle.cl_readonly.proofs.along.first_wrong.Given as goal

abbrev pub invariant-loop-place : goal.invariant-loop-place
invariant-loop-place l = wrong_of l.writing.keys l.parts l.parts.order.items ≡ wrong_of l.writing.keys l.parts (drop l.place-index l.parts.order.items)

use Rattle.std.proofs.Common.{◌≡◌, None, drop}
use Rattle.cl_rules.specs.Verdicts.{thrown_after}
use Rattle.cl_typing.specs.Verdicts.{throws_of}
use Rattle.cl_typing.proofs.concluding.thrown_by.Given as goal

abbrev pub invariant-loop-part : goal.invariant-loop-part
invariant-loop-part l = thrown_after l.thrown (throws_of (drop l.part-index l.parts) l.own) ≡ thrown_after None (throws_of l.parts l.own)

use Rattle.std.proofs.Common.{List}
use Rattle.cl_rules.specs.Acceptance.{calls_public}
use Rattle.cl_rules.specs.Context.{Known}
use Rattle.cl_contracts.specs.Standings.{Knows}
use Rattle.cl_readonly.proofs.InOrder.{Walked}
use Rattle.cl_readonly.proofs.along.functions_that_write.Given as goal

abbrev pub invariant-loop-place : goal.invariant-loop-place
invariant-loop-place l = (known : List Known) → Knows l.deployed known → Walked l.parts (calls_public known l.parts.principal) known l.place-index l.writing.keys

use Rattle.std.proofs.Common.{◌≡◌, ◌++◌, drop}
use Rattle.std.specs.List.{flat_map}
use Rattle.cl_traces.specs.Lines.{line_of}
use Rattle.cl_traces.proofs.lines.write_claims.Given as goal

abbrev pub invariant-loop-claim : goal.invariant-loop-claim
invariant-loop-claim l = l.out.items ++ flat_map (line_of l.number) (drop l.claim-index l.claims) ≡ l.initial.out.items ++ flat_map (line_of l.number) l.claims

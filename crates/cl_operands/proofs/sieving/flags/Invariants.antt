use Rattle.std.proofs.Common.{◌≡◌, ◌++◌, drop, option_map}
use Rattle.cl_operands.specs.Sieved.{flags_of}
use Rattle.cl_operands.proofs.sieving.flags.Given as goal

abbrev pub invariant-loop-value : goal.invariant-loop-value
invariant-loop-value l = option_map (λ bs. l.flags.items ++ bs) (flags_of (drop l.value-index l.results)) ≡ flags_of l.results

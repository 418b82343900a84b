use Rattle.std.proofs.Common.{◌≡◌, ◌-◌}
use Rattle.cl_tables.specs.Numbered.{owners_of}
use Rattle.cl_tables.proofs.tokens.tidy_owners.Given as goal

abbrev pub invariant-loop-number : goal.invariant-loop-number
invariant-loop-number l = owners_of l.tokens.entries ≡ owners_of l.initial.tokens.entries

abbrev pub decreases-loop-number : goal.decreases-loop-number
decreases-loop-number l = l.touched.end - l.number

use Rattle.std.proofs.Common.{◌≡◌}
use Rattle.cl_values.specs.Sequences.{place_of}
use Rattle.cl_seq.proofs.FirstPlaces.{found_from}
use Rattle.cl_seq.proofs.finding.list_place.Given as goal

abbrev pub invariant-loop-i : goal.invariant-loop-i
invariant-loop-i l = place_of l.item l.values ≡ found_from l.i l.item l.values

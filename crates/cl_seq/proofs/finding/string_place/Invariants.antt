use Rattle.std.proofs.Common.{◌≡◌}
use Rattle.cl_values.specs.Tree.{Utf8V}
use Rattle.cl_values.specs.Sequences.{place_of, singles}
use Rattle.cl_seq.proofs.FirstPlaces.{found_from}
use Rattle.cl_seq.proofs.finding.string_place.Given as goal

abbrev pub invariant-loop-i : goal.invariant-loop-i
invariant-loop-i l = place_of l.item (singles Utf8V l.characters) ≡ found_from l.i l.item (singles Utf8V l.characters)

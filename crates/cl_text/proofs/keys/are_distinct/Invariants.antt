use Rattle.std.proofs.Common.{◌≡◌, ℕ, List, true, drop}
use Rattle.std.specs.List.{list_any}
use Rattle.std.specs.Str.{bytes_eq}
use Rattle.std.specs.Ordering.{nat_cmp}
use Rattle.std.specs.Cmp.Lexicographic.{slice_cmp}
use Rattle.std.specs.BTreeSet.{contains}
use Rattle.cl_text.specs.Literal.{are_distinct}
use Rattle.cl_text.proofs.keys.are_distinct.Given as goal

abbrev pub invariant-loop-i : goal.invariant-loop-i
invariant-loop-i l = record {
  distinct : are_distinct (drop l.i l.keys) ≡ true;
  kept : (q : List ℕ) → contains (slice_cmp nat_cmp) l.behind q ≡ list_any (bytes_eq q) (drop l.i l.keys);
}

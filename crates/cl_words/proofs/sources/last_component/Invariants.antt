use Rattle.std.proofs.Common.{◌≡◌, drop, false}
use Rattle.std.specs.List.{list_any}
use Rattle.cl_words.specs.Sources.{is_slash}
use Rattle.cl_words.proofs.sources.last_component.Given as goal

abbrev pub invariant-loop-i : goal.invariant-loop-i
invariant-loop-i l = list_any is_slash (drop l.i l.path) ≡ false

use Rattle.std.proofs.Common.{◌↔◌, drop}
use Rattle.cl_file.specs.Entries.{NeverFall}
use Rattle.cl_session.proofs.heights.never_fall.Given as goal

abbrev pub invariant-loop-entry : goal.invariant-loop-entry
invariant-loop-entry l = NeverFall l.from l.entries ↔ NeverFall l.height (drop l.entry-index l.entries)

use Rattle.std.proofs.Common.{◌≡◌, drop}
use Rattle.cl_words.specs.Sources.{names_differ}
use Rattle.cl_words.specs.Words.{texts}
use Rattle.cl_words.proofs.sources.names_differ.Given as goal

abbrev pub invariant-loop-i : goal.invariant-loop-i
invariant-loop-i l = names_differ (texts (drop l.i l.paths)) ≡ names_differ (texts l.paths)

use Rattle.std.proofs.Common.{◌≡◌, drop}
use Rattle.std.specs.List.{list_all}
use Rattle.cl_words.specs.Sources.{has_name}
use Rattle.cl_words.specs.Words.{texts}
use Rattle.cl_words.proofs.sources.have_names.Given as goal

abbrev pub invariant-loop-path : goal.invariant-loop-path
invariant-loop-path l = list_all has_name (texts (drop l.path-index l.paths)) ≡ list_all has_name (texts l.paths)

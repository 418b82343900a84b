use Rattle.std.proofs.Common.{◌≡◌, drop}
use Rattle.std.specs.List.{list_any}
use Rattle.cl_words.specs.Sources.{have_one_name}
use Rattle.cl_words.specs.Words.{texts}
use Rattle.cl_words.proofs.sources.name_is_among.Given as goal

abbrev pub invariant-loop-other : goal.invariant-loop-other
invariant-loop-other l = list_any (have_one_name l.path) (texts (drop l.other-index l.paths)) ≡ list_any (have_one_name l.path) (texts l.paths)

use Rattle.std.proofs.Common.{◌≡◌, drop}
use Rattle.cl_words.specs.Words.{texts, flag_before, flags_in, only_flag}
use Rattle.cl_words.proofs.line.only_flag.Given as goal

abbrev pub invariant-loop-word : goal.invariant-loop-word
invariant-loop-word l = only_flag (flag_before l.seen (flags_in (texts (drop l.word-index l.words)))) ≡ only_flag (flags_in (texts l.words))

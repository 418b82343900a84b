use Rattle.std.proofs.Common.{◌≡◌, drop}
use Rattle.cl_words.specs.Words.{texts, keeps_rule}
use Rattle.cl_words.proofs.line.keeps_rule.Given as goal

abbrev pub invariant-loop-word : goal.invariant-loop-word
invariant-loop-word l = keeps_rule (texts (drop l.word-index l.words)) ≡ keeps_rule (texts l.words)

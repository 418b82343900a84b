use Rattle.std.proofs.Common.{◌≡◌, drop}
use Rattle.cl_words.specs.Words.{texts, positional, same_texts}
use Rattle.cl_words.proofs.line.are_positional.Given as goal

abbrev pub invariant-loop-i : goal.invariant-loop-i
invariant-loop-i l = same_texts (positional (texts (drop l.i l.words))) (texts (drop l.at l.expected)) ≡ same_texts (positional (texts l.words)) (texts l.expected)

use Rattle.std.proofs.Common.{◌≡◌, ◌-◌, length, drop}
use Rattle.cl_words.specs.Words.{texts, same_texts}
use Rattle.cl_words.proofs.line.same_texts.Given as goal

abbrev pub invariant-loop-i : goal.invariant-loop-i
invariant-loop-i l = same_texts (texts (drop l.i l.words)) (texts (drop l.at l.expected)) ≡ same_texts (texts (drop l.fn.from l.words)) (texts (drop l.fn.at l.expected))

abbrev pub decreases-loop-i : goal.decreases-loop-i
decreases-loop-i l = length l.words - l.i

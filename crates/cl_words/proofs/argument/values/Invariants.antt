use Rattle.std.proofs.Common.{drop}
use Rattle.cl_words.specs.Argument.{Arguments, Spell}
use Rattle.cl_words.specs.Words.{texts}
use Rattle.cl_words.proofs.Arguments.{behind}
use Rattle.cl_words.proofs.argument.values.Given as goal

abbrev pub invariant-loop-word : goal.invariant-loop-word
invariant-loop-word l = (args : Arguments) → Spell (texts (drop l.word-index l.words)) args → Spell (texts l.words) (behind l.values.items args)

use Rattle.std.proofs.Common.{rules}
use Rattle.cl_forms.proofs.word.word_of.Goals as goal

pub returns-then-is-7 : goal.returns-then-is-7
returns-then-is-7 c = search rules

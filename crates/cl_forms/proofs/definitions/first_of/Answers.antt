use Rattle.std.proofs.Common.{rules}
use Rattle.cl_forms.proofs.definitions.first_of.Goals as goal

pub returns-then-comes_last : goal.returns-then-comes_last
returns-then-comes_last c = search rules

use Rattle.std.proofs.Common.{rules}
use Rattle.cl_forms.proofs.item.three.Goals as goal

pub returns : goal.returns
returns c = search rules

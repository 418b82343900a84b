use Rattle.std.proofs.Common.{◌∙◌}
use Rattle.cl_operands.proofs.PrincipalLaws.{same_so}
use Rattle.cl_operands.proofs.principals.is_same.Goals as goal

pub returns : goal.returns
returns c = c.eq.ensures ∙ same_so c.one_spelling.ensures.own c.args.one.now c.args.other.now c.is_valid.ensures c.is_valid-2.ensures

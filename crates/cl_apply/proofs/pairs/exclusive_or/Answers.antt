use Rattle.std.proofs.Common.{ap, sym, ◌∙◌}
use Rattle.cl_values.specs.Arithmetic.{number_or_abort, xor_value}
use Rattle.cl_values.specs.Computed.{kept}
use Rattle.cl_values.proofs.Applies.{answered_so}
use Rattle.cl_apply.proofs.pairs.exclusive_or.Goals as goal

pub returns-in-Some : goal.returns-in-Some
returns-in-Some c = answered_so _ _ c.answer.result (c.in-Some.ensures.1 xor_value ∙ ap number_or_abort (sym c.xor.ensures)) c.answer.ensures

pub returns-in-None : goal.returns-in-None
returns-in-None c = ap kept (c.in-None.ensures xor_value)

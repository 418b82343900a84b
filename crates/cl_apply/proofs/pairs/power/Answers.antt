use Rattle.std.proofs.Common.{ap, sym, ◌∙◌}
use Rattle.cl_arith.specs.Operations.{power}
use Rattle.cl_values.specs.Arithmetic.{number_or_abort, pair_value}
use Rattle.cl_values.specs.Computed.{kept}
use Rattle.cl_values.proofs.Applies.{answered_so}
use Rattle.cl_apply.proofs.pairs.power.Goals as goal

pub returns-in-Some : goal.returns-in-Some
returns-in-Some c = answered_so _ _ c.answer.result (c.in-Some.ensures.1 (pair_value power) ∙ ap number_or_abort (sym c.pow.ensures)) c.answer.ensures

pub returns-in-None : goal.returns-in-None
returns-in-None c = ap kept (c.in-None.ensures (pair_value power))

use Rattle.std.proofs.Common.{ap, sym, ◌∙◌}
use Rattle.std.specs.Prelude.{int_lt}
use Rattle.cl_values.specs.Tree.{BoolV}
use Rattle.cl_values.specs.Computed.{Gives}
use Rattle.cl_values.specs.Arithmetic.{comparison}
use Rattle.cl_values.specs.Computed.{kept}
use Rattle.cl_apply.proofs.pairs.less.Goals as goal

pub returns-in-Some : goal.returns-in-Some
returns-in-Some c = ap kept (c.in-Some.ensures.1 (comparison int_lt)) ∙ ap Gives (ap BoolV (sym c.is_below.ensures) ∙ sym c.bool_value.ensures)

pub returns-in-None : goal.returns-in-None
returns-in-None c = ap kept (c.in-None.ensures (comparison int_lt))

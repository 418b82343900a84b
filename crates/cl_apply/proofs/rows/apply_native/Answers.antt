use Rattle.std.proofs.Common.{ap, sym}
use Rattle.cl_values.specs.Computed.{kept}
use Rattle.cl_values.specs.Natives.{native_value, value_row_of}
use Rattle.cl_apply.proofs.RowLaws.{not_one, not_two, not_three}
use Rattle.cl_apply.proofs.rows.apply_native.Goals as goal

pub returns-in-None : goal.returns-in-None
unfolding native_value
returns-in-None c = ap kept (not_one (value_row_of c.args.native) c.args.arguments.items (sym c.in-One.ensures) c.in-None.ensures)

pub returns-in-None-both : goal.returns-in-None-both
unfolding native_value
returns-in-None-both c = ap kept (not_two (value_row_of c.args.native) c.args.arguments.items (sym c.in-Two.ensures) c.in-None-both.ensures)

pub returns-in-None-three : goal.returns-in-None-three
unfolding native_value
returns-in-None-three c = ap kept (not_three (value_row_of c.args.native) c.args.arguments.items (sym c.in-Three.ensures) c.in-None-three.ensures)

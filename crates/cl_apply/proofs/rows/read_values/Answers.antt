use Rattle.cl_values.specs.Natives.{native_value}
use Rattle.cl_apply.proofs.rows.read_values.Goals as goal

pub returns : goal.returns
returns c = c.answer.ensures (native_value c.args.native c.args.values.now) c.read_each.ensures

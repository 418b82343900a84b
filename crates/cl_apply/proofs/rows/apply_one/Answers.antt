use Rattle.std.proofs.Common.{◌∷◌, []}
use Rattle.cl_values.specs.Natives.{native_value}
use Rattle.cl_apply.proofs.rows.apply_one.Goals as goal

pub returns-in_default : goal.returns-in_default
returns-in_default c = c.answer.ensures (native_value c.args.native (c.args.value ∷ [])) c.read_one.ensures

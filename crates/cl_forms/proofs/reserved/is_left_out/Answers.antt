use Rattle.std.proofs.Common.{◌∙◌, refl}
use Rattle.cl_forms.specs.Heads.{left_out}
use Rattle.cl_forms.proofs.Rows.{by_length}
use Rattle.cl_forms.proofs.reserved.is_left_out.Goals as goal

pub returns : goal.returns
returns c = c.is_one_by_length.ensures ∙ by_length _ _ left_out 19 c.args.name.now refl refl

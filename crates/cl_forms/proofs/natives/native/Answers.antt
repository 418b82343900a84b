use Rattle.std.proofs.Common.{◌∙◌, refl}
use Rattle.cl_forms.proofs.Rows.{native_by_length}
use Rattle.cl_forms.proofs.natives.native.Goals as goal

pub returns : goal.returns
returns c = c.row_by_length.ensures ∙ native_by_length _ _ 19 c.args.version c.args.name.now refl refl

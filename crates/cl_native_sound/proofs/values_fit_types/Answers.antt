use Rattle.cl_native_sound.proofs.ValuesFit.{values_fit}
use Rattle.cl_native_sound.proofs.values_fit_types.Goals as goal

pub returns : goal.returns
returns c = values_fit

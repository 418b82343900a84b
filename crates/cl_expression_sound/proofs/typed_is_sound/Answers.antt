use Rattle.cl_expression_sound.proofs.Depth.{each_depth}
use Rattle.cl_expression_sound.proofs.Fitting.{is_fitted}
use Rattle.cl_expression_sound.proofs.typed_is_sound.Goals as goal

pub returns-clause-sound : goal.returns-clause-sound
returns-clause-sound c = λ K W depth. each_depth K W depth

pub returns-clause-fits : goal.returns-clause-fits
returns-clause-fits c = λ G B e f t fit. is_fitted G t fit

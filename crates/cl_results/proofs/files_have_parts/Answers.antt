use Rattle.cl_results.proofs.FileParts.{files_have}
use Rattle.cl_results.proofs.files_have_parts.Goals as goal

pub returns : goal.returns
returns c = files_have c.texts_have_values.ensures c.one_outcome.ensures c.each_text_has_an_outcome.ensures

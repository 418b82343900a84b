use Rattle.cl_root.proofs.StatePaths.{path_to_root}
use Rattle.cl_root.proofs.laws.paths_lead_to_roots.Goals as goal

pub returns : goal.returns
returns c = path_to_root

use Rattle.cl_meaning.proofs.Depth.{means_deeper, applied_deeper}
use Rattle.cl_meaning.proofs.laws.more_depth_changes_nothing.Goals as goal

pub returns-clause-expression : goal.returns-clause-expression
returns-clause-expression c = means_deeper

pub returns-clause-application : goal.returns-clause-application
returns-clause-application c = applied_deeper

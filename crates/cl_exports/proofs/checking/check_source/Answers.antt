use Rattle.cl_exports.proofs.Judging.{checks_from}
use Rattle.cl_exports.proofs.checking.check_source.Goals as goal

pub returns-in-Ok-check_as : goal.returns-in-Ok-check_as
returns-in-Ok-check_as c =
    checks_from _ _ _ _ _ _ _ c.in-Ok.principal c.in-Some.version c.in-Ok.ensures.found c.in-Some.ensures c.clear.ensures c.in-Ok-check_as.ensures.checks

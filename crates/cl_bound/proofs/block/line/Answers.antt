use Rattle.cl_rules.specs.Context.{signature_in}
use Rattle.cl_bound.proofs.Reaching.{line_some, no_line}
use Rattle.cl_bound.proofs.block.line.Goals as goal

pub returns-in_ok-copy-in-Some : goal.returns-in_ok-copy-in-Some
returns-in_ok-copy-in-Some c table fs shows returns =
    line_some table c.args.contract.now c.args.function.now.name (signature_in c.args.function.now.name fs) c.in-Some.reach c.in_ok-copy-in-Some.field-0 c.args.function.now.returns (c.in-Some.ensures table fs shows) returns c.in_ok-copy-in-Some.ensures

pub returns-in-None : goal.returns-in-None
returns-in-None c table fs shows returns = no_line table c.args.contract.now c.args.function.now.name (signature_in c.args.function.now.name fs) (c.in-None.ensures table fs shows)

use Rattle.std.proofs.Common.{◌∙◌}
use Rattle.cl_c32.specs.contracts.principal.PrincipalPartialEq.TheImpl.{eq-value}
use Rattle.indexmap.proofs.CallerLemmas.{insert_entry-new}
use Rattle.cl_contracts.proofs.Principals.{under_principal}
use Rattle.cl_contracts.proofs.deployed.put.Goals as goal

pub returns : goal.returns
returns c = c.in-Ok.ensures.entries ∙ insert_entry-new eq-value.it c.args.contracts.now c.args.principal c.args.contract (under_principal c.args.principal c.args.contracts.now.entries ∙ c.requires.new)

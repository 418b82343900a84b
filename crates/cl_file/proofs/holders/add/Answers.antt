use Rattle.std.proofs.Common.{◌∙◌}
use Rattle.cl_c32.specs.contracts.principal.PrincipalPartialEq.TheImpl.{eq-value}
use Rattle.indexmap.proofs.CallerLemmas.{insert_entry-new}
use Rattle.cl_file.proofs.Holdings.{not_found}
use Rattle.cl_file.proofs.holders.add.Goals as goal

pub returns : goal.returns
returns c = c.in-Ok.ensures.entries ∙ insert_entry-new eq-value.it c.args.holders.now (record { address = c.args.address; contract = c.args.contract }) c.args.amount (not_found (record { address = c.args.address; contract = c.args.contract }) c.args.holders.now.entries c.requires.new)

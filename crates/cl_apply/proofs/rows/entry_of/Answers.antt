use Rattle.cl_values.proofs.Applies.{applied_so}
use Rattle.cl_apply.proofs.EntryLaws.{element_is}
use Rattle.cl_apply.proofs.rows.entry_of.Goals as goal

pub returns : goal.returns
returns c = applied_so _ _ c.found_value.result (element_is c.args.sequence c.args.at c.in_ok-found.found c.in_ok-found.ensures) c.found_value.ensures

use Rattle.cl_operands.proofs.SieveLaws.{applied_so, sieved_values, list_keys, list_texts, list_depth}
use Rattle.cl_operands.proofs.sieving.sieved_list.Goals as goal

pub within-requires-clause-keys : goal.within-requires-clause-keys
within-requires-clause-keys c = list_keys c.args.values.items c.args.flags.now _ c.in_ok-kept.ensures c.requires

pub within-requires-clause-texts : goal.within-requires-clause-texts
within-requires-clause-texts c = list_texts c.args.values.items c.args.flags.now _ c.in_ok-kept.ensures c.requires

pub within-requires-clause-flat : goal.within-requires-clause-flat
within-requires-clause-flat c = list_depth c.args.values.items c.args.flags.now _ c.in_ok-kept.ensures c.requires

pub returns : goal.returns
returns c = applied_so _ _ _ (sieved_values c.args.values.items c.args.flags.now _ c.in_ok-kept.ensures) c.within.ensures

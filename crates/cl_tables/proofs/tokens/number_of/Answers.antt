use Rattle.cl_tables.proofs.Numbered.{numbered}
use Rattle.cl_tables.proofs.tokens.number_of.Goals as goal

pub returns : goal.returns
returns g c = numbered c.args.at.now c.args.tokens.now.entries c.get_index_of.result c.is_valid.ensures c.requires c.get_index_of.ensures.index

use Rattle.std.proofs.Common.{◌∙◌}
use Rattle.cl_tables.proofs.Numbered.{inserted}
use Rattle.cl_tables.proofs.tokens.define.Goals as goal

pub returns-clause-done : goal.returns-clause-done
returns-clause-done g c = c.in_ok-insert.ensures.entries ∙ inserted c.args.at.now c.args.token c.args.tokens.now.entries c.is_valid.ensures c.requires.placed c.requires.new

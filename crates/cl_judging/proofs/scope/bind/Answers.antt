use Rattle.std.proofs.Common.{◌∙◌}
use Rattle.std.specs.Prelude.{nat_eq}
use Rattle.std.specs.Cmp.Lexicographic.{pointwise}
use Rattle.indexmap.proofs.CallerLemmas.{insert_entry-new}
use Rattle.cl_judging.proofs.scope.bind.Goals as goal
use Rattle.cl_contracts.proofs.Places.{under_name}

pub returns : goal.returns
returns c = c.in_ok-insert.ensures.entries ∙ insert_entry-new (pointwise nat_eq) c.args.scope.now c.args.name c.args.ty (under_name c.args.name c.args.scope.now.entries ∙ c.requires)

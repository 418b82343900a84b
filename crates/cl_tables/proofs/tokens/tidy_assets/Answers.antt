use Rattle.cl_tokens.specs.Owners.{Owned}
use Rattle.cl_tables.specs.Numbered.{no_owners}
use Rattle.cl_tables.proofs.Numbered.{same_parts}
use Rattle.cl_tables.proofs.tokens.tidy_assets.Goals as goal

pub returns-in-Some : goal.returns-in-Some
returns-in-Some c = same_parts (λ (h : Owned). h.owners) no_owners c.in-Some.owners.now c.tidy.new.self c.args.tokens.now.entries c.args.number c.in-Some.ensures.value c.tidy.ensures

use Rattle.std.proofs.Common.{◌∙◌}
use Rattle.std.proofs.lemmas.Map.Made.{is_some-lookup}
use Rattle.cl_c32.specs.Principals.{same_principal}
use Rattle.cl_file.proofs.holders.holds.Goals as goal

pub returns : goal.returns
returns c = c.contains_key.ensures ∙ is_some-lookup (same_principal c.args.principal.now) c.args.holders.now.entries

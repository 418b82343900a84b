use Rattle.std.proofs.lemmas.List.Elements.{recursion_from_All}
use Rattle.cl_values.specs.Valid.{IsPrincipal}
use Rattle.cl_meaning.proofs.Genesis.{genesis_kept}
use Rattle.cl_meaning.proofs.laws.genesis_is_kept.Goals as goal

pub returns : goal.returns
returns c holders valid = genesis_kept holders (recursion_from_All (λ h. IsPrincipal h.0) holders valid)

use Rattle.std.proofs.Common.{◌∷◌, [], Err, subst}
use Rattle.cl_values.specs.Applied.{Applied}
use Rattle.cl_values.specs.Sequences.{concat}
use Rattle.cl_seq.proofs.Known.{concat_refused, gave}
use Rattle.cl_seq.proofs.calls.concat.Goals as goal

pub unreachable-requires : goal.unreachable-requires
unreachable-requires c =
    concat_refused c.args.first c.args.second c.in-Err-Refused.field-0-0
    (subst (λ f. Applied (concat (c.args.first ∷ c.args.second ∷ [])) (Err f)) c.in-Err-Refused.field-0-is c.in-Err-Refused.ensures) c.requires

pub returns-in-Ok : goal.returns-in-Ok
returns-in-Ok c = gave (concat (c.args.first ∷ c.args.second ∷ [])) c.in-Ok.value c.in-Ok.ensures

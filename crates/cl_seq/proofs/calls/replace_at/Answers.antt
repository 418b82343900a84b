use Rattle.std.proofs.Common.{◌∷◌, [], Err, subst}
use Rattle.cl_values.specs.Tree.{UintV}
use Rattle.cl_values.specs.Applied.{Applied}
use Rattle.cl_values.specs.Contents.{replace_at}
use Rattle.cl_seq.proofs.Known.{replacing_refused, gave}
use Rattle.cl_seq.proofs.calls.replace_at.Goals as goal

pub unreachable-requires : goal.unreachable-requires
unreachable-requires c =
    replacing_refused c.args.sequence c.args.item c.args.at c.in-Err-Refused.field-0-0
    (subst (λ f. Applied (replace_at (c.args.sequence ∷ UintV c.args.at ∷ c.args.item ∷ [])) (Err f)) c.in-Err-Refused.field-0-is c.in-Err-Refused.ensures) c.requires

pub returns-in-Ok : goal.returns-in-Ok
returns-in-Ok c = gave (replace_at (c.args.sequence ∷ UintV c.args.at ∷ c.args.item ∷ [])) c.in-Ok.value c.in-Ok.ensures

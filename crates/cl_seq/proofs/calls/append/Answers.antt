use Rattle.std.proofs.Common.{◌∷◌, [], Err, subst}
use Rattle.cl_values.specs.Applied.{Applied}
use Rattle.cl_values.specs.Sequences.{append}
use Rattle.cl_seq.proofs.Known.{append_refused, gave}
use Rattle.cl_seq.proofs.calls.append.Goals as goal

pub unreachable-requires : goal.unreachable-requires
unreachable-requires c =
    append_refused c.args.list c.args.item c.in-Err-Refused.field-0-0
    (subst (λ f. Applied (append (c.args.list ∷ c.args.item ∷ [])) (Err f)) c.in-Err-Refused.field-0-is c.in-Err-Refused.ensures) c.requires

pub returns-in-Ok : goal.returns-in-Ok
returns-in-Ok c = gave (append (c.args.list ∷ c.args.item ∷ [])) c.in-Ok.value c.in-Ok.ensures

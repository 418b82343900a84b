use Rattle.std.proofs.Common.{◌≡◌, ◌∙◌, sym, subst, IfOk}
use Rattle.cl_forms.specs.WrittenTypes.{type_of, written_type}
use Rattle.cl_forms.proofs.Limits.{is_made}
use Rattle.cl_forms.proofs.types.written_type.Goals as goal

pub returns-in-Some : goal.returns-in-Some
unfolding written_type
returns-in-Some c =
    subst (λ z. IfOk c.made.result (λ o. o ≡ z)) (is_made (type_of c.args.item.now) c.in-Some.ty (sym c.in-Some.is ∙ c.in_ok-ty.ensures)) c.made.ensures

use Rattle.std.proofs.Common.{◌≡◌, ◌++◌, ◌∷◌, [], length, ap, ◌∙◌, arith}
use Rattle.cl_audit_steps.proofs.PlaceLaws.{one_value_more}
use Rattle.cl_audit_steps.proofs.named_values.NamedValues.push.Goals as goal

pub invariant_of-self-2 : goal.invariant_of-self-2
invariant_of-self-2 c =
    let es = c.self.inside.values.items in
    let count : c.len-place.result ≡ length es = omega (arith, c.len-place.ensures, c.reserve.new.self.ok.0, ap length c.reserve.ensures.items) in
    one_value_more es _ c.args.name c.args.value c.self.inside.places.entries _ _ (c.push_reserved.ensures.items ∙ ap (λ vs. vs ++ (c.args.name, c.args.value) ∷ []) c.reserve.ensures.items) count
    c.in_ok-put_place.ensures.put c.self.invariant

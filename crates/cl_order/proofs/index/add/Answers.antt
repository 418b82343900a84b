use Rattle.std.proofs.Common.{◌∙◌, ap, refl, subst, ◌++◌, ◌∷◌, [], List, ℕ, IsSome, Vec, Global, Option, Some}
use Rattle.indexmap.specs.IndexMap.{Updates}
use Rattle.cl_forms.specs.Names.{same}
use Rattle.cl_order.specs.Index.{Rows, listed}
use Rattle.cl_order.proofs.Indexed.{added}
use Rattle.cl_order.proofs.index.add.Goals as goal

pub returns-in-Some : goal.returns-in-Some
returns-in-Some c =
    added c.args.index.now (c.get_mut.follows.lender c.push.new.self) c.args.name.now c.push.new.self c.args.place
    ((c.get_mut.follows.holds c.push.new.self).3 (subst (λ (o : Option (Vec ℕ Global)). IsSome o) c.in-Some.ensures.value refl))
    (c.in_ok-push.ensures.items ∙ ap (λ (o : Option (Vec ℕ Global)). listed o ++ c.args.place ∷ []) c.in-Some.ensures.value)

pub returns : goal.returns
returns c =
    added c.args.index.now c.insert.new.self c.args.name.now c.push-2.new.self c.args.place
    (subst (λ (m : Rows). Updates same m c.insert.new.self c.args.name.now (Some c.push-2.new.self)) c.get_mut.follows.holds-at-none c.in_ok-insert.ensures.updates)
    (c.in_ok-push-2.ensures.items ∙ ap (λ (l : List ℕ). l ++ c.args.place ∷ []) (c.new-places.ensures.items ∙ ap listed c.in_default.ensures.value))

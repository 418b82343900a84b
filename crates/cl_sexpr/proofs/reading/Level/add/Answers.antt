use Rattle.std.proofs.Common.{◌∷◌, List, refl, ap}
use Rattle.cl_sexpr.specs.Token.{Token, Opens, OpensTuple}
use Rattle.cl_sexpr.proofs.Levels.{forest_tokens_push, pair_made}
use Rattle.cl_sexpr.proofs.reading.Level.add.Goals as goal

pub returns-in_ok-push-in-List : goal.returns-in_ok-push-in-List
returns-in_ok-push-in-List c =
    rw (c.in-List.is, c.in_ok-push-in-List.ensures.items) (ap (λ (x : List Token). Opens c.in-List.field-0.place ∷ x) (forest_tokens_push c.in-List.items.items c.args.item), λ os. refl)

pub returns-in_ok-push-in-AfterColon : goal.returns-in_ok-push-in-AfterColon
returns-in_ok-push-in-AfterColon c =
    rw (c.in-Tuple.is, c.in-AfterColon.is, c.in_ok-push-in-AfterColon.ensures.items) (ap (λ (x : List Token). OpensTuple c.in-Tuple.field-0.place ∷ x) (pair_made c.in-Tuple.pairs.items c.in-AfterColon.key c.args.item), λ os. refl)

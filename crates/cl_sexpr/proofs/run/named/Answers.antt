use Rattle.std.proofs.Common.{◌≡◌, ℕ, Bool, true, false, List, length, if◌then◌else◌, Result, Ok, Err, refl}
use Rattle.std.specs.Prelude.{◌&&◌, nat_le}
use Rattle.std.proofs.lemmas.Bool.{leb-true}
use Rattle.cl_types.specs.Name.{fits_pattern}
use Rattle.cl_sexpr.specs.declared.rule.Rule.{Rule}
use Rattle.cl_sexpr.specs.declared.rule.Rule.TheVariants.{BadToken}
use Rattle.cl_sexpr.specs.Tree.{Leaf, Named}
use Rattle.cl_sexpr.proofs.run.named.Goals as goal

no_name : (a b : Bool) (xs : List ℕ) → (a ≡ true → b ≡ true → ⊥) → ◌≡◌ {A = Result Leaf Rule} (Err BadToken) (if a && b then Ok (Named xs) else Err BadToken)
no_name true true xs none = absurd (none refl refl)
no_name true false xs none = refl
no_name false b xs none = refl

pub returns-in-None : goal.returns-in-None
returns-in-None c =
    no_name (fits_pattern c.args.run.now) (nat_le (length c.args.run.now) 128) c.args.run.now
    (λ p q. c.in-None.ensures (record { pattern = p; within = leb-true (length c.args.run.now) 128 q }))

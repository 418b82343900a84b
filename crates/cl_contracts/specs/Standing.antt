-- A typed tree stands for an expression of which this is found: its type is the one that is found, its node can stand in a text of
-- the version, and so it is with each part.
use Rattle.std.specs.Prelude.{◌≡◌, true, List, [], ◌∷◌}
use Rattle.cl_rules.specs.Context.{Context, Names}
use Rattle.cl_rules.specs.Verdicts.{Found}
use Rattle.cl_rules.specs.Shapes.{Plan, Ends, Part, Gives}
use Rattle.cl_rules.specs.Table.{shape}
use Rattle.cl_rules.specs.Typing.{broken_shape, broken_types, found_by}
use Rattle.cl_code.specs.Typed.{Typed, Typeds, TypedAs, NoTyped, MoreTyped, expression_of, has_version}

abbrev mutual
  pub Stands : Context → Names → Typed → Found → Type 0
  Stands G B (TypedAs e t vs ps) f =
      (fs : List Found) × (broken_shape G B e ≡ []) × StandAll G (shape G B e).plan ps fs × (broken_types G B e fs ≡ []) × (found_by G B e fs ≡ f) × (t ≡ f.type) × (has_version vs G.version ≡ true)

  -- the parts of a plan
  pub StandAll : Context → Plan → Typeds → List Found → Type 0
  StandAll G Ends NoTyped [] = Unit {0}
  StandAll G (Part B e p) (MoreTyped q qs) (f ∷ fs) = (expression_of q ≡ e) × Stands G B q f × StandAll G p qs fs
  StandAll G (Gives B e k) (MoreTyped q qs) (f ∷ fs) = (expression_of q ≡ e) × Stands G B q f × StandAll G (k f) qs fs
  StandAll G p qs fs = ⊥

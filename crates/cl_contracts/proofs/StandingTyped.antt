-- What a tree stands for is typed.
use Rattle.std.proofs.Common.{List, [], ◌∷◌, map, refl, subst}
use Rattle.cl_sexpr.specs.Tree.{Tree}
use Rattle.cl_rules.specs.Context.{Context, Names}
use Rattle.cl_rules.specs.Verdicts.{Found}
use Rattle.cl_rules.specs.Shapes.{Plan, Ends, Part, Gives}
use Rattle.cl_rules.specs.Table.{shape}
use Rattle.cl_rules.specs.Typing.{Typed as IsTyped, typed, Follows, ends, part, gives}
use Rattle.cl_rules.specs.FormRules.{Defined, form_plan, defined_after}
use Rattle.cl_rules.specs.FormTyping.{FormsTyped, form_typed, no_more, one_more}
use Rattle.cl_code.specs.declared.definition.Definition.{Definition}
use Rattle.cl_code.specs.Definitions.{form_defined}
use Rattle.cl_code.specs.Typed.{Typed, Typeds, TypedAs, NoTyped, MoreTyped, expression_of, typeds}
use Rattle.cl_contracts.specs.Seen.{kind_at, trees_of}
use Rattle.cl_contracts.specs.Standing.{Stands, StandAll}
use Rattle.cl_contracts.specs.Standings.{AllStand}

mutual
  pub stands_typed : (G : Context) (B : Names) (q : Typed) (f : Found) → Stands G B q f → IsTyped G B (expression_of q) f
  stands_typed G B (TypedAs e t vs ps) f s = typed s.0 s.1 (stand_follows G (shape G B e).plan ps s.0 s.2) s.3 s.4

  pub stand_follows : (G : Context) (p : Plan) (ps : Typeds) (fs : List Found) → StandAll G p ps fs → Follows G p fs
  stand_follows G Ends NoTyped [] s = ends
  stand_follows G Ends NoTyped (f ∷ fs) s = absurd s
  stand_follows G Ends (MoreTyped q qs) fs s = absurd s
  stand_follows G (Part B e p) NoTyped fs s = absurd s
  stand_follows G (Part B e p) (MoreTyped q qs) [] s = absurd s
  stand_follows G (Part B e p) (MoreTyped q qs) (f ∷ fs) s = part (subst (λ (d : Tree). IsTyped G B d f) s.0 (stands_typed G B q f s.1)) (stand_follows G p qs fs s.2)
  stand_follows G (Gives B e k) NoTyped fs s = absurd s
  stand_follows G (Gives B e k) (MoreTyped q qs) [] s = absurd s
  stand_follows G (Gives B e k) (MoreTyped q qs) (f ∷ fs) s = gives (subst (λ (d : Tree). IsTyped G B d f) s.0 (stands_typed G B q f s.1)) (stand_follows G (k f) qs fs s.2)

pub standing_is_typed : (D E : Defined) (ds : List Definition) → AllStand D ds E → FormsTyped D (map form_defined ds) E
standing_is_typed D E [] s = no_more s
standing_is_typed D E (d ∷ ds) s =
    one_more (form_typed s.0 (stand_follows D.context (form_plan (kind_at d)) (typeds (trees_of d)) s.0 s.1.trees) s.1.sound refl) (standing_is_typed (defined_after D (form_defined d) s.0) E ds s.2)

-- Where a walk stops that looks at each expression's shape, then at its parts from the left, then at what is found of them.
use Rattle.std.specs.Prelude.{◌≡◌, List, [], ◌∷◌}
use Rattle.cl_sexpr.specs.declared.sexpr.Span.{Span}
use Rattle.cl_sexpr.specs.declared.rule.Rule.{Rule}
use Rattle.cl_sexpr.specs.Tree.{Tree, span_of}
use Rattle.cl_forms.specs.Forms.{Form}
use Rattle.cl_rules.specs.Faults.{form_rules}
use Rattle.cl_rules.specs.Context.{Context, Names}
use Rattle.cl_rules.specs.Verdicts.{Found}
use Rattle.cl_rules.specs.Shapes.{Plan, Part, Gives}
use Rattle.cl_rules.specs.Table.{shape}
use Rattle.cl_rules.specs.Typing.{broken_shape, broken_types, Typed, Follows}
use Rattle.cl_rules.specs.FormRules.{Defined, form_plan, form_faults}
use Rattle.cl_rules.specs.FormTyping.{FormTyped}

mutual
  pub data Stops (G : Context) : Names → Tree → Rule → Span → Type 0 where
    at_shape : {B : Names} {e : Tree} {r : Rule} (rs : List Rule) → broken_shape G B e ≡ r ∷ rs → Stops G B e r (span_of e)
    in_part : {B : Names} {e : Tree} {r : Rule} {s : Span} → broken_shape G B e ≡ [] → StopsIn G (shape G B e).plan r s → Stops G B e r s
    at_types : {B : Names} {e : Tree} {r : Rule} (fs : List Found) (rs : List Rule) → broken_shape G B e ≡ [] → Follows G (shape G B e).plan fs → broken_types G B e fs ≡ r ∷ rs → Stops G B e r (span_of e)

  -- in a part of a plan, with those before it typed
  pub data StopsIn (G : Context) : Plan → Rule → Span → Type 0 where
    stops_part : {B : Names} {e : Tree} {p : Plan} {r : Rule} {s : Span} → Stops G B e r s → StopsIn G (Part B e p) r s
    later_part : {B : Names} {e : Tree} {p : Plan} {f : Found} {r : Rule} {s : Span} → Typed G B e f → StopsIn G p r s → StopsIn G (Part B e p) r s
    stops_gives : {B : Names} {e : Tree} {k : Found → Plan} {r : Rule} {s : Span} → Stops G B e r s → StopsIn G (Gives B e k) r s
    later_gives : {B : Names} {e : Tree} {k : Found → Plan} {f : Found} {r : Rule} {s : Span} → Typed G B e f → StopsIn G (k f) r s → StopsIn G (Gives B e k) r s

-- in a form: in its expression, or at the form itself
pub data FormStops (D : Defined) (form : Form) (r : Rule) (s : Span) : Type 0 where
  in_plan : StopsIn D.context (form_plan form.kind) r s → FormStops D form r s
  at_form : (fs : List Found) (rs : List Rule) → Follows D.context (form_plan form.kind) fs → form_rules (form_faults form.kind fs) ≡ r ∷ rs → form.span ≡ s → FormStops D form r s

-- in the first form that isn't typed
pub data FormsStop : Defined → List Form → Rule → Span → Type 0 where
  at_first : {D : Defined} {form : Form} {forms : List Form} {r : Rule} {s : Span} → FormStops D form r s → FormsStop D (form ∷ forms) r s
  later : {D E : Defined} {form : Form} {forms : List Form} {r : Rule} {s : Span} → FormTyped D form E → FormsStop E forms r s → FormsStop D (form ∷ forms) r s

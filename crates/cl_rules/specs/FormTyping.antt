-- Typing of forms in the order of evaluation, and the first break among them.
use Rattle.std.specs.Prelude.{◌≡◌, ◌⊎◌, ℕ, suc, ◌<◌, List, [], ◌∷◌}
use Rattle.cl_sexpr.specs.declared.sexpr.Span.{Span}
use Rattle.cl_sexpr.specs.declared.rule.Rule.{Rule}
use Rattle.cl_sexpr.specs.Tree.{Tree, span_of}
use Rattle.cl_forms.specs.Forms.{Form}
use Rattle.cl_rules.specs.Faults.{form_rules}
use Rattle.cl_rules.specs.Context.{Names}
use Rattle.cl_rules.specs.Verdicts.{Found}
use Rattle.cl_rules.specs.Typing.{Follows, LookedIn, Breaks, Among, Before}
use Rattle.cl_rules.specs.FormRules.{Defined, form_plan, form_faults, defined_after}

-- a form is typed after those before it: its expression is, and it breaks no rule by itself; with it this is defined
pub data FormTyped (D : Defined) (form : Form) (E : Defined) : Type 0 where
  form_typed : (fs : List Found) → Follows D.context (form_plan form.kind) fs → form_rules (form_faults form.kind fs) ≡ [] → defined_after D form fs ≡ E → FormTyped D form E

-- one form after another is typed
pub data FormsTyped : Defined → List Form → Defined → Type 0 where
  no_more : {D E : Defined} → D ≡ E → FormsTyped D [] E
  one_more : {D E F : Defined} {form : Form} {forms : List Form} → FormTyped D form E → FormsTyped E forms F → FormsTyped D (form ∷ forms) F

-- the form at a place is looked at: those before it are typed, and this is defined by them
pub data Reached : Defined → List Form → ℕ → Defined → Form → Type 0 where
  here : {D : Defined} {form : Form} {forms : List Form} {place : ℕ} → place ≡ 0 → Reached D (form ∷ forms) place D form
  behind : {D E C : Defined} {form other : Form} {forms : List Form} {place before : ℕ} → place ≡ suc before → FormTyped D form E → Reached E forms before C other → Reached D (form ∷ forms) place C other

-- A form that is looked at breaks this rule: an expression that is looked at in it does, or where its expression is typed the
-- form itself, with its own span.
pub data FormBreaks (D : Defined) (form : Form) (r : Rule) (s : Span) : Type 0 where
  in_expression : (B : Names) (e : Tree) → LookedIn D.context (form_plan form.kind) B e → Breaks D.context B e r → span_of e ≡ s → FormBreaks D form r s
  by_itself : (fs : List Found) → Follows D.context (form_plan form.kind) fs → Among r (form_rules (form_faults form.kind fs)) → form.span ≡ s → FormBreaks D form r s

-- a break in a form comes before another: its form does, or the form is the same and the break comes before
abbrev pub Earlier : ℕ → Rule → Span → ℕ → Rule → Span → Type 0
Earlier n r s m q u = (n < m) ⊎ ((n ≡ m) × Before r s q u)

-- the first break among forms in their order
pub record FirstFormBreak (D : Defined) (forms : List Form) (r : Rule) (s : Span) : Type 0 where
  pub place : ℕ
  pub before : Defined
  pub form : Form
  pub reached : Reached D forms place before form
  pub breaks : FormBreaks before form r s
  pub least : (m : ℕ) (C : Defined) (other : Form) (q : Rule) (u : Span) → Reached D forms m C other → FormBreaks C other q u → Earlier place r s m q u

-- The laws of typing and of the first break.
use Rattle.std.specs.Prelude.{◌≡◌, ◌⊎◌, ℕ, List, length, Some, None}
use Rattle.cl_c32.specs.declared.principal.Principal.{Principal}
use Rattle.cl_shapes.specs.declared.cost.Dimension.{Dimension}
use Rattle.cl_sexpr.specs.declared.sexpr.Span.{Span}
use Rattle.cl_sexpr.specs.declared.rule.Rule.{Rule}
use Rattle.cl_sexpr.specs.Tree.{Tree}
use Rattle.cl_forms.specs.declared.version.Version.{Version}
use Rattle.cl_forms.specs.Texts.{Text}
use Rattle.cl_forms.specs.Forms.{Form}
use Rattle.cl_rules.specs.Context.{CostTable, Known, Context, Names}
use Rattle.cl_rules.specs.Verdicts.{Found}
use Rattle.cl_rules.specs.Typing.{Typed, Looked, Breaks, FirstBreak}
use Rattle.cl_sexpr.specs.Placed.{IsPlaced}
use Rattle.cl_forms.specs.Placed.{AreFormsPlaced}
use Rattle.cl_rules.specs.Walks.{Stops, FormsStop}
use Rattle.cl_rules.specs.FormRules.{Defined, nothing_defined}
use Rattle.cl_rules.specs.FormTyping.{FormsTyped, Reached, FormBreaks, FirstFormBreak}
use Rattle.cl_rules.specs.Acceptance.{Ordered, forms_at, Accepted, FirstUnordered, FirstBreakOf, Bounded, FirstBound, DeploymentAbove, nowhere}
use Rattle.cl_rules.specs.PlainProgram.{bound_stop}
use Rattle.cl_rules.specs.Judging.{Holds, Fails, judged, forms_judged}

-- ---- expressions

-- one thing is found of an expression: one type, one thrown type, one height, one bound
abbrev pub OneType : Type 0
OneType = (G : Context) (B : Names) (e : Tree) (f g : Found) → Typed G B e f → Typed G B e g → f ≡ g

-- nothing that is looked at in a typed expression breaks a rule
abbrev pub TypedIsClean : Type 0
TypedIsClean = (G : Context) (B C : Names) (e d : Tree) (f : Found) (r : Rule) → Typed G B e f → Looked G B e C d → Breaks G C d r → ⊥

-- no typed expression has a first break
abbrev pub NeverBoth : Type 0
NeverBoth = (G : Context) (B : Names) (e : Tree) (f : Found) (r : Rule) (s : Span) → Typed G B e f → FirstBreak G B e r s → ⊥

-- a first break is one
abbrev pub OneFirst : Type 0
OneFirst = (G : Context) (B : Names) (e : Tree) (r q : Rule) (s u : Span) → FirstBreak G B e r s → FirstBreak G B e q u → (r ≡ q) × (s ≡ u)

-- where a walk stops is the first break
abbrev pub WalkIsFirst : Type 0
WalkIsFirst = (G : Context) (B : Names) (e : Tree) (r : Rule) (s : Span) → IsPlaced e → Stops G B e r s → FirstBreak G B e r s

-- each expression is typed or has a first break
abbrev pub Decided : Type 0
Decided = (G : Context) (B : Names) (e : Tree) → IsPlaced e → ((f : Found) × Typed G B e f) ⊎ ((r : Rule) × (s : Span) × FirstBreak G B e r s)

-- ---- forms in the order of evaluation

abbrev pub OneEnd : Type 0
OneEnd = (D E F : Defined) (forms : List Form) → FormsTyped D forms E → FormsTyped D forms F → E ≡ F

abbrev pub TypedFormsAreClean : Type 0
TypedFormsAreClean = (D E C : Defined) (forms : List Form) (form : Form) (n : ℕ) (r : Rule) (s : Span) → FormsTyped D forms E → Reached D forms n C form → FormBreaks C form r s → ⊥

abbrev pub FormsNeverBoth : Type 0
FormsNeverBoth = (D E : Defined) (forms : List Form) (r : Rule) (s : Span) → FormsTyped D forms E → FirstFormBreak D forms r s → ⊥

abbrev pub OneFirstForm : Type 0
OneFirstForm = (D : Defined) (forms : List Form) (r q : Rule) (s u : Span) → FirstFormBreak D forms r s → FirstFormBreak D forms q u → (r ≡ q) × (s ≡ u)

abbrev pub FormsWalkIsFirst : Type 0
FormsWalkIsFirst = (D : Defined) (forms : List Form) (r : Rule) (s : Span) → AreFormsPlaced forms → FormsStop D forms r s → FirstFormBreak D forms r s

abbrev pub FormsDecided : Type 0
FormsDecided = (D : Defined) (forms : List Form) → AreFormsPlaced forms → ((E : Defined) × FormsTyped D forms E) ⊎ ((r : Rule) × (s : Span) × FirstFormBreak D forms r s)

-- ---- the plain program

-- what it finds of an expression is so, and where it stops a walk does
abbrev pub JudgedIsTyped : Type 0
JudgedIsTyped = (d : ℕ) (G : Context) (B : Names) (e : Tree) (f : Found) → judged d G B e ≡ Holds f → Typed G B e f

abbrev pub JudgedIsStop : Type 0
JudgedIsStop = (d : ℕ) (G : Context) (B : Names) (e : Tree) (r : Rule) (s : Span) → judged d G B e ≡ Fails r s → Stops G B e r s

abbrev pub FormsJudgedAreTyped : Type 0
FormsJudgedAreTyped = (D E : Defined) (forms : List Form) → forms_judged D forms ≡ Holds E → FormsTyped D forms E

abbrev pub FormsJudgedStop : Type 0
FormsJudgedStop = (D : Defined) (forms : List Form) (r : Rule) (s : Span) → forms_judged D forms ≡ Fails r s → FormsStop D forms r s

-- ---- whole texts

-- a text has one row of forms, in one order
abbrev pub OneOrder : Type 0
OneOrder = (text : Text) (f g : List Form) (o p : List ℕ) → Ordered text f o → Ordered text g p → (f ≡ g) × (o ≡ p)

-- a text whose forms have an order has no first break before that
abbrev pub OrderedIsClean : Type 0
OrderedIsClean = (text : Text) (forms : List Form) (order : List ℕ) (rule : Rule) (span : Span) (names : List (List ℕ)) → Ordered text forms order → FirstUnordered text rule span names → ⊥

-- the first break before that is one
abbrev pub OneFirstUnordered : Type 0
OneFirstUnordered = (text : Text) (r q : Rule) (s u : Span) (n m : List (List ℕ)) → FirstUnordered text r s n → FirstUnordered text q u m → (r ≡ q) × (s ≡ u) × (n ≡ m)

-- no accepted text has a first break
abbrev pub AcceptedIsClean : Type 0
AcceptedIsClean = (deployed : List Known) (principal : Principal) (table : CostTable) (text : Text) (rule : Rule) (span : Span) (names : List (List ℕ)) → Accepted deployed principal table text → FirstBreakOf deployed principal table text rule span names → ⊥

-- what a text defines is one
abbrev pub OneDefined : Type 0
OneDefined = (deployed : List Known) (principal : Principal) (table : CostTable) (text : Text) (a b : Accepted deployed principal table text) → a.defined ≡ b.defined

-- the first break of a text is one: its rule, its span and its names
abbrev pub OneFirstOf : Type 0
OneFirstOf = (deployed : List Known) (principal : Principal) (table : CostTable) (text : Text) (r q : Rule) (s u : Span) (n m : List (List ℕ)) → FirstBreakOf deployed principal table text r s n → FirstBreakOf deployed principal table text q u m → (r ≡ q) × (s ≡ u) × (n ≡ m)

-- the forms of a text in their order are typed, or have a first break
abbrev pub TextDecided : Type 0
TextDecided = (deployed : List Known) (principal : Principal) (text : Text) (forms : List Form) (order : List ℕ) → Ordered text forms order →
    ((E : Defined) × FormsTyped (nothing_defined deployed principal text.version (length text.bytes)) (forms_at forms order) E)
    ⊎ ((r : Rule) × (s : Span) × FirstFormBreak (nothing_defined deployed principal text.version (length text.bytes)) (forms_at forms order) r s)

-- where a walk over them stops is the first break
abbrev pub TextWalkIsFirst : Type 0
TextWalkIsFirst = (D : Defined) (text : Text) (forms : List Form) (order : List ℕ) (r : Rule) (s : Span) → Ordered text forms order → FormsStop D (forms_at forms order) r s → FirstFormBreak D (forms_at forms order) r s

-- ---- bounds

-- the first bound above the limit: that of a function, or else that of the deployment, which is nowhere
abbrev pub IsFirstAboveLimit : Defined → List Form → List ℕ → CostTable → Dimension → Span → Type 0
IsFirstAboveLimit defined forms order table dimension span =
    FirstBound defined forms order table dimension span ⊎ (DeploymentAbove defined forms table dimension × (span ≡ nowhere))

-- where the plain program stops at a bound, it is the first above the limit
abbrev pub BoundStopIsFirst : Type 0
BoundStopIsFirst = (deployed : List Known) (principal : Principal) (version : Version) (size : ℕ) (forms : List Form) (order : List ℕ) (defined : Defined) (table : CostTable) (dimension : Dimension) (span : Span) →
    FormsTyped (nothing_defined deployed principal version size) (forms_at forms order) defined → bound_stop table defined (forms_at forms order) ≡ Some (dimension, span) → IsFirstAboveLimit defined forms order table dimension span

-- where it doesn't stop, no bound is above the limit
abbrev pub NoStopIsBounded : Type 0
NoStopIsBounded = (deployed : List Known) (principal : Principal) (version : Version) (size : ℕ) (forms : List Form) (order : List ℕ) (defined : Defined) (table : CostTable) →
    FormsTyped (nothing_defined deployed principal version size) (forms_at forms order) defined → bound_stop table defined (forms_at forms order) ≡ None → Bounded defined forms table

-- Typing, what is looked at, what breaks a rule, and the first break.
use Rattle.std.specs.Prelude.{◌≡◌, ◌⊎◌, ◌≤◌, ◌<◌, List, [], ◌∷◌}
use Rattle.cl_sexpr.specs.declared.sexpr.Span.{Span}
use Rattle.cl_sexpr.specs.declared.rule.Rule.{Rule}
use Rattle.cl_sexpr.specs.Rules.{number_of}
use Rattle.cl_sexpr.specs.Tree.{Tree, span_of}
pub use Rattle.cl_forms.specs.FormBreaks.{IsAmong as Among}
use Rattle.cl_rules.specs.Faults.{shape_rules, type_rules}
use Rattle.cl_rules.specs.Context.{Context, Names}
use Rattle.cl_rules.specs.Verdicts.{Found}
use Rattle.cl_rules.specs.Shapes.{Plan, Ends, Part, Gives}
use Rattle.cl_rules.specs.Table.{shape}

-- the rules that an expression breaks by its shape, and those at what is found of its parts, in rising order
abbrev pub broken_shape : Context → Names → Tree → List Rule
broken_shape G B e = shape_rules (shape G B e).faults

abbrev pub broken_types : Context → Names → Tree → List Found → List Rule
broken_types G B e fs = type_rules ((shape G B e).verdict fs).faults

abbrev pub found_by : Context → Names → Tree → List Found → Found
found_by G B e fs = ((shape G B e).verdict fs).found

-- An expression is typed: its parts are, and neither its shape nor what is found of its parts breaks a rule. Its type and
-- thrown type, height and bound are then those of the verdict.
mutual
  pub data Typed (G : Context) : Names → Tree → Found → Type 0 where
    typed : {B : Names} {e : Tree} {f : Found} (fs : List Found) → broken_shape G B e ≡ [] → Follows G (shape G B e).plan fs → broken_types G B e fs ≡ [] → found_by G B e fs ≡ f → Typed G B e f

  -- this is found of the parts of a plan
  pub data Follows (G : Context) : Plan → List Found → Type 0 where
    ends : Follows G Ends []
    part : {B : Names} {e : Tree} {p : Plan} {f : Found} {fs : List Found} → Typed G B e f → Follows G p fs → Follows G (Part B e p) (f ∷ fs)
    gives : {B : Names} {e : Tree} {k : Found → Plan} {f : Found} {fs : List Found} → Typed G B e f → Follows G (k f) fs → Follows G (Gives B e k) (f ∷ fs)

-- An expression that is looked at, with its names: the whole, or one in a part of what breaks no rule by its shape. Where
-- the names need what is found of a part, that part is typed.
mutual
  pub data Looked (G : Context) : Names → Tree → Names → Tree → Type 0 where
    itself : {B : Names} {e : Tree} → Looked G B e B e
    inside : {B C : Names} {e d : Tree} → broken_shape G B e ≡ [] → LookedIn G (shape G B e).plan C d → Looked G B e C d

  pub data LookedIn (G : Context) : Plan → Names → Tree → Type 0 where
    at_part : {B C : Names} {e d : Tree} {p : Plan} → Looked G B e C d → LookedIn G (Part B e p) C d
    past_part : {B C : Names} {e d : Tree} {p : Plan} → LookedIn G p C d → LookedIn G (Part B e p) C d
    at_gives : {B C : Names} {e d : Tree} {k : Found → Plan} → Looked G B e C d → LookedIn G (Gives B e k) C d
    past_gives : {B C : Names} {e d : Tree} {k : Found → Plan} {f : Found} → Typed G B e f → LookedIn G (k f) C d → LookedIn G (Gives B e k) C d

-- the expression itself breaks this rule: by its shape, or where its parts are typed
pub data Breaks (G : Context) (B : Names) (e : Tree) (r : Rule) : Type 0 where
  by_shape : Among r (broken_shape G B e) → Breaks G B e r
  by_types : (fs : List Found) → broken_shape G B e ≡ [] → Follows G (shape G B e).plan fs → Among r (broken_types G B e fs) → Breaks G B e r

-- A break comes before another: its span ends earlier, or it has the same span and no greater number.
abbrev pub Before : Rule → Span → Rule → Span → Type 0
Before r s q u = (s.end < u.end) ⊎ ((s ≡ u) × (number_of r ≤ number_of q))

-- The first break in an expression: one that is looked at breaks the rule, and none that is looked at has a break that comes
-- before it.
pub record FirstBreak (G : Context) (B : Names) (e : Tree) (r : Rule) (s : Span) : Type 0 where
  pub names : Names
  pub place : Tree
  pub looked : Looked G B e names place
  pub breaks : Breaks G names place r
  pub span : span_of place ≡ s
  pub least : (C : Names) (d : Tree) (q : Rule) → Looked G B e C d → Breaks G C d q → Before r s q (span_of d)

-- The plain program that judges expressions and forms: it looks at an expression's shape, then at its parts from the left,
-- then at what is found of them, and stops at the first broken rule. The examples are computed with it.
use Rattle.std.specs.Prelude.{ℕ, zero, suc, List, [], ◌∷◌}
use Rattle.cl_sexpr.specs.declared.sexpr.Span.{Span}
use Rattle.cl_sexpr.specs.declared.rule.Rule.{Rule}
use Rattle.cl_sexpr.specs.Tree.{Tree, span_of}
use Rattle.cl_forms.specs.Forms.{Form}
use Rattle.cl_rules.specs.Faults.{form_rules}
use Rattle.cl_rules.specs.Context.{Context, Names}
use Rattle.cl_rules.specs.Verdicts.{Found}
use Rattle.cl_rules.specs.Shapes.{Plan, Ends, Part, Gives}
use Rattle.cl_rules.specs.Table.{shape}
use Rattle.cl_rules.specs.Typing.{broken_shape, broken_types, found_by}
use Rattle.cl_rules.specs.FormRules.{Defined, form_plan, form_faults, defined_after}

-- an answer, a broken rule with its span, or a nesting that is deeper than what was allowed
pub data Judged (A : Type 0) : Type 0 where
  Holds : A → Judged A
  Fails : Rule → Span → Judged A
  Deeper : Judged A

abbrev pub and_judged : {A B : Type 0} → Judged A → (A → Judged B) → Judged B
and_judged (Holds a) next = next a
and_judged (Fails r s) next = Fails r s
and_judged Deeper next = Deeper

-- the answer, unless a rule is broken
abbrev pub unless_broken : {A : Type 0} → List Rule → Span → (Unit {0} → Judged A) → Judged A
unless_broken [] s next = next tt
unless_broken (r ∷ rs) s next = Fails r s

-- the parts of a plan from the left
abbrev pub walked : (Names → Tree → Judged Found) → Plan → Judged (List Found)
walked judge Ends = Holds []
walked judge (Part B e p) = and_judged (judge B e) (λ f. and_judged (walked judge p) (λ fs. Holds (f ∷ fs)))
walked judge (Gives B e k) = and_judged (judge B e) (λ f. and_judged (walked judge (k f)) (λ fs. Holds (f ∷ fs)))

-- an expression that nests less deep than a number
unfoldable pub judged : ℕ → Context → Names → Tree → Judged Found
judged zero G B e = Deeper
judged (suc d) G B e =
    unless_broken (broken_shape G B e) (span_of e) (λ _.
    and_judged (walked (judged d G) (shape G B e).plan) (λ fs.
    unless_broken (broken_types G B e fs) (span_of e) (λ _. Holds (found_by G B e fs))))

-- a text nests at most 64 deep
abbrev pub nesting : ℕ
nesting = 66

unfoldable pub form_judged : Defined → Form → Judged Defined
form_judged D form =
    and_judged (walked (judged nesting D.context) (form_plan form.kind)) (λ fs.
    unless_broken (form_rules (form_faults form.kind fs)) form.span (λ _. Holds (defined_after D form fs)))

unfoldable pub forms_judged : Defined → List Form → Judged Defined
forms_judged D [] = Holds D
forms_judged D (form ∷ forms) = and_judged (form_judged D form) (λ E. forms_judged E forms)

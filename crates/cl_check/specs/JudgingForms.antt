-- What the checker finds of forms: what the plain program does, with definitions whose typed trees stand for them.
use Rattle.std.specs.Prelude.{◌≡◌, ◌⊎◌, ℕ, ◌+◌, ◌^◌, ◌<◌, ◌≤◌, Bool, true, false, List, [], ◌∷◌, map, is_none, slice_get, Option, Some, None, Result, Ok, Err}
use Rattle.cl_types.specs.Types.{PlainType}
use Rattle.cl_types.specs.declared.fault.Fault.{Fault}
use Rattle.cl_types.specs.declared.fault.Fault.TheVariants.{Refused, NoMemory}
use Rattle.cl_types.specs.declared.sized.TyRefusal.{TyRefusal}
use Rattle.cl_sexpr.specs.declared.sexpr.Span.{Span}
use Rattle.cl_types.specs.declared.sized.TyRefusal.TheVariants.{Differ}
use Rattle.cl_sexpr.specs.declared.rule.Rule.{Rule}
use Rattle.cl_sexpr.specs.declared.rule.Rule.TheVariants.{ThrownDiffer, TooLarge}
use Rattle.cl_sexpr.specs.declared.rule.Break.{Break}
use Rattle.cl_sexpr.specs.Tree.{Tree, tree_size, tree_depth}
use Rattle.cl_forms.specs.Forms.{Form, FormKind, FunctionForm, ExpressionForm, expression_of}
use Rattle.cl_forms.specs.Fits.{KindFits}
use Rattle.cl_forms.specs.Names.{name_at}
use Rattle.cl_forms.specs.Names.{stands_twice}
use Rattle.cl_code.specs.declared.definition.Definition.{Definition}
use Rattle.cl_code.specs.Typed.{NoTyped, MoreTyped, type_of}
use Rattle.cl_code.specs.Definitions.{form_defined}
use Rattle.cl_rules.specs.Faults.{form_rules}
use Rattle.cl_rules.specs.Context.{Context, Names}
use Rattle.cl_rules.specs.Verdicts.{Found, so_far, thrown_after}
use Rattle.cl_rules.specs.FormRules.{Defined, form_plan, form_faults, defined_after, return_of}
use Rattle.cl_rules.specs.Judging.{Judged, Holds, Fails, and_judged, unless_broken, walked, judged, nesting, form_judged, forms_judged}
use Rattle.cl_contracts.specs.Standing.{StandAll}
use Rattle.cl_contracts.specs.Standings.{StandsAs, AllStand}
use Rattle.cl_typing.specs.declared.concluding.Checked.{Checked}
use Rattle.cl_typing.specs.Verdicts.{facts, facts_of, refused_throws}
use Rattle.cl_judging.specs.declared.context.Context.{Context as CodeContext}
use Rattle.cl_judging.specs.Seen.{Shows, top_level_in}
use Rattle.cl_judging.specs.Judgement.{Judges}
use Rattle.cl_check.specs.declared.kinds.Body.{Body}

-- ---- the expression of a form

-- an expression, with these names bound, is judged so at any nesting that is deep enough
abbrev pub Checks : CodeContext → Names → Tree → Result Checked (Fault Break) → Type 0
Checks c B e result = (G : Context) (d : ℕ) → Shows c G → tree_depth e < d → Judges G B (judged d G B e) result

-- the judgement of a form of this kind at this place, whatever its name: what is found of its expression
abbrev pub kind_judged : Defined → FormKind → Span → Judged (List Found)
kind_judged D kind at = and_judged (walked (judged nesting D.context) (form_plan kind)) (λ fs. unless_broken (form_rules (form_faults kind fs)) at (λ _. Holds fs))

-- a form of this kind breaks no rule; this is found of its expression, for which the tree stands
pub record HoldsKind (D : Defined) (kind : FormKind) (at : Span) (x : Checked) : Type 0 where
  pub found : Found
  pub judged : kind_judged D kind at ≡ Holds (found ∷ [])
  pub stands : StandAll D.context (form_plan kind) (MoreTyped x.code NoTyped) (found ∷ [])
  pub sound : form_rules (form_faults kind (found ∷ [])) ≡ []
  pub facts : facts found ≡ facts_of x

abbrev pub FindsKind : CodeContext → FormKind → Span → Result Checked (Fault Break) → Type 0
FindsKind c kind at (Ok x) = (D : Defined) → Shows c D.context → HoldsKind D kind at x
FindsKind c kind at (Err (Refused b)) = (D : Defined) → Shows c D.context → kind_judged D kind at ≡ Fails b.rule b.span
FindsKind c kind at (Err NoMemory) = Unit {0}

-- the least supertype of what an expression gives and what it throws, or why there is none
abbrev pub Returns : Checked → Result PlainType (Fault TyRefusal) → Type 0
Returns x (Ok t) = thrown_after (Some (type_of x.code)) (x.thrown ∷ []) ≡ so_far (Some t)
Returns x (Err (Refused r)) = thrown_after (Some (type_of x.code)) (x.thrown ∷ []) ≡ refused_throws r
Returns x (Err NoMemory) = Unit {0}

-- the rule that is broken where there is none
abbrev pub return_rule : TyRefusal → Rule
return_rule Differ = ThrownDiffer
return_rule refusal = TooLarge

abbrev pub return_fault : Fault TyRefusal → Span → Fault Break
return_fault (Refused r) at = Refused (record { rule = return_rule r; span = at })
return_fault NoMemory at = NoMemory

-- the same of a function, which returns what the code says
pub record HoldsBody (D : Defined) (kind : FormKind) (at : Span) (x : Body) : Type 0 where
  pub holds : HoldsKind D kind at x.checked
  pub returns : (return_of holds.found).type ≡ Some x.returns
  pub height : x.height ≡ holds.found.height + 1

abbrev pub FindsBody : CodeContext → FormKind → Span → Result Body (Fault Break) → Type 0
FindsBody c kind at (Ok x) = (D : Defined) → Shows c D.context → HoldsBody D kind at x
FindsBody c kind at (Err (Refused b)) = (D : Defined) → Shows c D.context → kind_judged D kind at ≡ Fails b.rule b.span
FindsBody c kind at (Err NoMemory) = Unit {0}

-- ---- forms

-- the names of forms are those before, and this one
abbrev pub AddsName : CodeContext → Option (List ℕ) → CodeContext → Type 0
AddsName c name d = (y : List ℕ) → top_level_in d y ≡ true → (name ≡ Some y) ⊎ (top_level_in c y ≡ true)

-- a form breaks no rule; the definition stands for it, and it is shown by the names that are there now
pub record HoldsForm (D : Defined) (form : Form) (d : Definition) (after : CodeContext) : Type 0 where
  pub found : List Found
  pub judged : form_judged D form ≡ Holds (defined_after D form found)
  pub stands : StandsAs D d found
  pub shows : Shows after (defined_after D form found).context

-- a form is defined so, whatever the bounds of functions
pub record IsDefined (before : CodeContext) (form : Form) (d : Definition) (after : CodeContext) : Type 0 where
  pub defined : form_defined d ≡ form
  pub names : AddsName before form.name after
  pub holds : (D : Defined) → Shows before D.context → HoldsForm D form d after

abbrev pub FindsForm : CodeContext → Form → Result Definition (Fault Break) → CodeContext → Type 0
FindsForm before form (Ok d) after = IsDefined before form d after
FindsForm before form (Err (Refused b)) after = (D : Defined) → Shows before D.context → form_judged D form ≡ Fails b.rule b.span
FindsForm before form (Err NoMemory) after = Unit {0}

-- ---- what is known of a form that follows others

abbrev pub IsLow : Option Tree → Type 0
IsLow None = Unit {0}
IsLow (Some e) = (tree_size e ≤ 2 ^ 21) × (tree_depth e < nesting)

-- the names of a form's parameters
abbrev pub params_in : FormKind → List (List ℕ)
params_in (FunctionForm access params body) = map (λ p. p.0) params
params_in kind = []

abbrev pub is_expression : FormKind → Bool
is_expression (ExpressionForm e) = true
is_expression kind = false

-- The expression nests no deeper than texts do, and is no longer; the name is new, and only an expression has none; no two
-- parameters have one name.
pub record MayFollow (c : CodeContext) (form : Form) : Type 0 where
  pub low : IsLow (expression_of form.kind)
  pub fits : KindFits form.kind
  pub named : is_none form.name ≡ is_expression form.kind
  pub new : (x : List ℕ) → form.name ≡ Some x → top_level_in c x ≡ false
  pub once : stands_twice (params_in form.kind) ≡ false

-- ---- forms in their order

-- What is known of the forms of a text: their expressions nest no deeper than texts do, and are no longer; only expressions
-- have no name; no two forms have one name; no two parameters of a form have one name.
pub record AreKnown (forms : List Form) : Type 0 where
  pub low : (n : ℕ) (form : Form) → slice_get forms n ≡ Some form → IsLow (expression_of form.kind)
  pub fits : (n : ℕ) (form : Form) → slice_get forms n ≡ Some form → KindFits form.kind
  pub named : (n : ℕ) (form : Form) → slice_get forms n ≡ Some form → is_none form.name ≡ is_expression form.kind
  pub new : (n m : ℕ) (x : List ℕ) → name_at forms n ≡ Some x → name_at forms m ≡ Some x → n ≡ m
  pub once : (n : ℕ) (form : Form) → slice_get forms n ≡ Some form → stands_twice (params_in form.kind) ≡ false

-- forms are judged, and these definitions stand for them
pub record StandingAs (D : Defined) (forms : List Form) (ds : List Definition) : Type 0 where
  pub defined : Defined
  pub judged : forms_judged D forms ≡ Holds defined
  pub standing : AllStand D ds defined

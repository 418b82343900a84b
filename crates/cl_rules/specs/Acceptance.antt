-- Which texts are accepted, and the first break of a text that isn't.
use Rattle.std.specs.Prelude.{◌≡◌, ℕ, ◌-◌, ◌≤◌, ◌^◌, Bool, true, false, List, [], ◌∷◌, ◌++◌, length, Contains, slice_get, unwrap_or, Option, Some, None, Ok}
use Rattle.cl_types.specs.Types.{PlainType}
use Rattle.cl_types.specs.declared.sized.Access.{Access}
use Rattle.cl_types.specs.declared.sized.Access.TheVariants.{Public, ReadOnly}
use Rattle.cl_c32.specs.declared.principal.Principal.{Principal}
use Rattle.cl_shapes.specs.declared.cost.Cost5.{Cost5}
use Rattle.cl_shapes.specs.declared.cost.Dimension.{Dimension}
use Rattle.cl_shapes.specs.Costs.{in_each, first_above}
use Rattle.cl_sexpr.specs.declared.sexpr.Span.{Span}
use Rattle.cl_sexpr.specs.declared.rule.Rule.{Rule}
use Rattle.cl_sexpr.specs.declared.rule.Rule.TheVariants.{WritesInReadOnly, BoundTooLarge}
use Rattle.cl_sexpr.specs.declared.rule.Break.{Break}
use Rattle.cl_sexpr.specs.Tree.{Tree, Leaf, Forest}
use Rattle.cl_sexpr.specs.Text.{Reads, Breaks as BreaksText}
use Rattle.cl_forms.specs.Texts.{Text}
use Rattle.cl_forms.specs.Forms.{Form, FormKind, FunctionForm}
use Rattle.cl_forms.specs.FormBreaks.{AreForms, IsFirstBreak as IsFirstFormRule}
pub use Rattle.cl_forms.specs.Order.{forms_at}
use Rattle.cl_forms.specs.Order.{ordered}
use Rattle.cl_forms.specs.Cycle.{IsOfTheCycle}
use Rattle.cl_forms.specs.Shapes.{trees_of}
use Rattle.cl_forms.specs.Writes.{Writes}
use Rattle.cl_rules.specs.Bills.{Bill, cost_under}
use Rattle.cl_rules.specs.Context.{CostTable, Signature, Known, known_at, signature_in, another_at}
use Rattle.cl_rules.specs.CallShapes.{contract_literal}
use Rattle.cl_rules.specs.FormRules.{Defined, nothing_defined}
use Rattle.cl_rules.specs.FormTyping.{FormsTyped, FirstFormBreak}

-- ---- the forms of a text, in the order of evaluation

-- a text reads as items that break no rule of forms, and their forms have this order, by places
pub record Ordered (text : Text) (forms : List Form) (order : List ℕ) : Type 0 where
  pub items : Forest
  pub reads : Reads text.bytes items
  pub are_forms : AreForms text.version (trees_of items) forms
  pub order_is : ordered forms ≡ Ok order

-- the forms of a text are typed in their order, in the contract of this principal among deployed ones; this is defined
pub record TypedAs (deployed : List Known) (principal : Principal) (text : Text) (forms : List Form) (order : List ℕ) (defined : Defined) : Type 0 where
  pub is_ordered : Ordered text forms order
  pub are_typed : FormsTyped (nothing_defined deployed principal text.version (length text.bytes)) (forms_at forms order) defined

-- ---- functions that write

abbrev pub is_public : Access → Bool
is_public Public = true
is_public access = false

abbrev pub is_public_there : Option Signature → Bool
is_public_there None = false
is_public_there (Some f) = is_public f.access

abbrev pub is_public_in : Option Known → List ℕ → Bool
is_public_in None x = false
is_public_in (Some k) x = is_public_there (signature_in x k.functions)

abbrev pub is_public_at : List Known → Principal → Option Principal → List ℕ → Bool
is_public_at deployed own None x = false
is_public_at deployed own (Some p) x = is_public_in (another_at own deployed p) x

-- whether a contract literal and a name stand for a public function of another contract
abbrev pub calls_public : List Known → Principal → Leaf → List ℕ → Bool
calls_public deployed own contract x = is_public_at deployed own (contract_literal own contract) x

-- a read-only function that writes
pub record WritesWrongly (deployed : List Known) (own : Principal) (forms : List Form) (form : Form) : Type 0 where
  pub name : List ℕ
  pub params : List (List ℕ × PlainType)
  pub body : Tree
  pub named : form.name ≡ Some name
  pub read_only : form.kind ≡ FunctionForm ReadOnly params body
  pub writes : Writes forms (calls_public deployed own) name

-- the first read-only function that writes, in the order of evaluation, has this span
pub record FirstWriting (deployed : List Known) (own : Principal) (forms : List Form) (order : List ℕ) (span : Span) : Type 0 where
  pub place : ℕ
  pub form : Form
  pub there : slice_get (forms_at forms order) place ≡ Some form
  pub writes : WritesWrongly deployed own forms form
  pub span_is : form.span ≡ span
  pub least : (m : ℕ) (other : Form) → slice_get (forms_at forms order) m ≡ Some other → WritesWrongly deployed own forms other → place ≤ m

abbrev pub NoneWrites : List Known → Principal → List Form → Type 0
NoneWrites deployed own forms = (form : Form) → Contains forms form → WritesWrongly deployed own forms form → ⊥

-- ---- bounds

-- the greatest bound, in each dimension
abbrev pub most_cost : Cost5
most_cost = in_each (2 ^ 128 - 1)

abbrev pub bound_at : Option Signature → Option Bill
bound_at None = None
bound_at (Some f) = Some f.bound

abbrev pub bound_by : Defined → FormKind → List ℕ → Option Bill
bound_by defined (FunctionForm access params body) name = bound_at (signature_in name defined.context.functions)
bound_by defined kind name = None

-- the bound of a form that is a function
abbrev pub bound_of : Defined → Form → Option Bill
bound_of defined form = bound_by defined form.kind (unwrap_or form.name [])

-- each function's bound, and that of the deployment, is within the limit
pub record Bounded (defined : Defined) (forms : List Form) (table : CostTable) : Type 0 where
  pub functions : (form : Form) (bound : Bill) → Contains forms form → bound_of defined form ≡ Some bound → first_above most_cost (cost_under table bound) ≡ None
  pub deployment : first_above most_cost (cost_under table defined.deploy) ≡ None

-- the first function, in the order of evaluation, whose bound is above the limit, with its span and the first such dimension
pub record FirstBound (defined : Defined) (forms : List Form) (order : List ℕ) (table : CostTable) (dimension : Dimension) (span : Span) : Type 0 where
  pub place : ℕ
  pub form : Form
  pub bound : Bill
  pub there : slice_get (forms_at forms order) place ≡ Some form
  pub bound_is : bound_of defined form ≡ Some bound
  pub above : first_above most_cost (cost_under table bound) ≡ Some dimension
  pub span_is : form.span ≡ span
  pub least : (m : ℕ) (other : Form) (b : Bill) (d : Dimension) → slice_get (forms_at forms order) m ≡ Some other → bound_of defined other ≡ Some b → first_above most_cost (cost_under table b) ≡ Some d → place ≤ m

-- no function's bound is above the limit, and that of the deployment is
pub record DeploymentAbove (defined : Defined) (forms : List Form) (table : CostTable) (dimension : Dimension) : Type 0 where
  pub functions : (form : Form) (bound : Bill) → Contains forms form → bound_of defined form ≡ Some bound → first_above most_cost (cost_under table bound) ≡ None
  pub above : first_above most_cost (cost_under table defined.deploy) ≡ Some dimension

-- ---- acceptance

-- A text is accepted as a contract of this principal, after these deployed contracts and under this table: its forms are typed
-- in their order, no read-only function writes, and no bound is above the limit.
pub record Accepted (deployed : List Known) (principal : Principal) (table : CostTable) (text : Text) : Type 0 where
  pub forms : List Form
  pub order : List ℕ
  pub defined : Defined
  pub typed : TypedAs deployed principal text forms order defined
  pub none_writes : NoneWrites deployed principal forms
  pub bounded : Bounded defined forms table

-- a contract of this principal, with a text of this length, that defines this, as its callers see it
abbrev pub known_of : Principal → ℕ → Defined → Known
known_of principal size defined = record { principal = principal; length = size; functions = defined.context.functions }

-- Contracts that are deployed one after another, as their callers see them: each has a principal of its own, and its text was
-- accepted after those before it, under some table: each under its own.
pub data AreDeployed : List Known → Type 0 where
  none_yet : {deployed : List Known} → deployed ≡ [] → AreDeployed deployed
  and_one : {before after : List Known} (principal : Principal) (table : CostTable) (text : Text) (accepted : Accepted before principal table text) → AreDeployed before → known_at principal before ≡ None → after ≡ before ++ known_of principal (length text.bytes) accepted.defined ∷ [] → AreDeployed after

abbrev pub nowhere : Span
nowhere = record { start = 0; end = 0 }

-- The first break of a text before its forms are looked at one by one, with the names of the forms in a cycle: it isn't a row
-- of items; an item is no form; or the forms name each other in a ring.
pub data FirstUnordered (text : Text) (rule : Rule) (span : Span) (names : List (List ℕ)) : Type 0 where
  in_text : (b : Break) → BreaksText text.bytes b → rule ≡ b.rule → span ≡ b.span → names ≡ [] → FirstUnordered text rule span names
  in_forms : (items : Forest) (b : Break) → Reads text.bytes items → IsFirstFormRule text.version (trees_of items) b → rule ≡ b.rule → span ≡ b.span → names ≡ [] → FirstUnordered text rule span names
  in_order : (items : Forest) (forms : List Form) → Reads text.bytes items → AreForms text.version (trees_of items) forms → IsOfTheCycle forms rule span names → FirstUnordered text rule span names

-- The first break of a text before its bounds are looked at, by phases: its rule and span, and for a cycle the names of the
-- forms in it. In the first phase in which a rule is broken, it is the first there. No table of costs has a part in it.
pub data FirstBreakBeforeBounds (deployed : List Known) (principal : Principal) (text : Text) (rule : Rule) (span : Span) (names : List (List ℕ)) : Type 0 where
  -- the text has no forms in an order
  unordered : FirstUnordered text rule span names → FirstBreakBeforeBounds deployed principal text rule span names
  -- a form isn't typed
  in_typing : (forms : List Form) (order : List ℕ) → Ordered text forms order → FirstFormBreak (nothing_defined deployed principal text.version (length text.bytes)) (forms_at forms order) rule span → names ≡ [] → FirstBreakBeforeBounds deployed principal text rule span names
  -- a read-only function writes
  in_writing : (forms : List Form) (order : List ℕ) (defined : Defined) → TypedAs deployed principal text forms order defined → FirstWriting deployed principal forms order span → rule ≡ WritesInReadOnly → names ≡ [] → FirstBreakBeforeBounds deployed principal text rule span names

-- the first break of a text: one before its bounds are looked at, or else of them
pub data FirstBreakOf (deployed : List Known) (principal : Principal) (table : CostTable) (text : Text) (rule : Rule) (span : Span) (names : List (List ℕ)) : Type 0 where
  before_bounds : FirstBreakBeforeBounds deployed principal text rule span names → FirstBreakOf deployed principal table text rule span names
  -- the bound of a function is above the limit
  in_bounds : (forms : List Form) (order : List ℕ) (defined : Defined) (dimension : Dimension) → TypedAs deployed principal text forms order defined → NoneWrites deployed principal forms → FirstBound defined forms order table dimension span → rule ≡ BoundTooLarge dimension → names ≡ [] → FirstBreakOf deployed principal table text rule span names
  -- the bound of the deployment is
  in_deployment : (forms : List Form) (order : List ℕ) (defined : Defined) (dimension : Dimension) → TypedAs deployed principal text forms order defined → NoneWrites deployed principal forms → DeploymentAbove defined forms table dimension → rule ≡ BoundTooLarge dimension → span ≡ nowhere → names ≡ [] → FirstBreakOf deployed principal table text rule span names

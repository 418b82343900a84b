-- The plain program over whole texts, with which the examples are computed: it reads the items of a text, their forms and
-- their order, and judges the forms in that order.
use Rattle.std.specs.Prelude.{ℕ, zero, suc, ◌+◌, Bool, true, false, List, [], ◌∷◌, ◌++◌, map, drop, length, Option, Some, None, option_and_then, option_map, Result, Ok, Err}
use Rattle.cl_types.specs.Types.{PlainType}
use Rattle.cl_c32.specs.declared.principal.Principal.{Principal}
use Rattle.cl_shapes.specs.declared.cost.Cost5.{Cost5}
use Rattle.cl_shapes.specs.declared.cost.Dimension.{Dimension}
use Rattle.cl_shapes.specs.Costs.{first_above}
use Rattle.cl_sexpr.specs.declared.sexpr.Span.{Span}
use Rattle.cl_sexpr.specs.declared.rule.Break.{Break}
use Rattle.cl_sexpr.specs.Tree.{Tree, LeafAt, ListAt, TupleAt, Leaf, Named, forest, pairs}
use Rattle.cl_sexpr.specs.Token.{Token, Opens, Closes, OpensTuple, ClosesTuple, Is}
use Rattle.cl_sexpr.specs.Text.{token_at}
use Rattle.cl_forms.specs.declared.version.Version.{Version}
use Rattle.cl_forms.specs.Texts.{Text}
use Rattle.cl_forms.specs.Forms.{Form}
use Rattle.cl_forms.specs.Items.{form_of}
use Rattle.cl_forms.specs.Order.{ordered}
use Rattle.cl_rules.specs.Bills.{Bill, cost_under}
use Rattle.cl_rules.specs.Context.{CostTable, Signature, Known, signature_in}
use Rattle.cl_rules.specs.FormRules.{Defined, nothing_defined}
use Rattle.cl_rules.specs.Acceptance.{forms_at, most_cost, bound_of, nowhere}
use Rattle.cl_rules.specs.Judging.{Judged, Holds, Fails, Deeper, forms_judged}

-- ---- reading

-- an open bracket: its place, whether it is that of a tuple, the key that waits for its item, and the items so far, each
-- with its key
pub record Level : Type 0 where
  pub place : ℕ
  pub tuple : Bool
  pub key : Option (List ℕ)
  pub items : List (List ℕ × Tree)

abbrev pub opened : ℕ → Bool → Level
opened place tuple = record { place = place; tuple = tuple; key = None; items = [] }

abbrev pub or_empty : Option (List ℕ) → List ℕ
or_empty None = []
or_empty (Some key) = key

abbrev pub with_item : Tree → List Level → List Level
with_item e [] = []
with_item e (l ∷ ls) = record l { key = None; items = l.items ++ (or_empty l.key, e) ∷ [] } ∷ ls

abbrev pub closed : Level → ℕ → Tree
closed l end =
    elim l.tuple [
      | true ↦ TupleAt (pairs l.items) (record { start = l.place; end = end })
      | false ↦ ListAt (forest (map (λ (p : List ℕ × Tree). p.1) l.items)) (record { start = l.place; end = end })
    ]

abbrev pub close : ℕ → List Level → List Level
close end [] = []
close end (l ∷ ls) = with_item (closed l end) ls

-- a leaf is a key, where a tuple has no key that waits
abbrev pub leaf_into : Bool → Option (List ℕ) → Leaf → Span → List Level → List Level
leaf_into true None (Named x) span [] = []
leaf_into true None (Named x) span (l ∷ ls) = record l { key = Some x } ∷ ls
leaf_into tuple key leaf span ls = with_item (LeafAt leaf span) ls

abbrev pub with_leaf : Leaf → Span → List Level → List Level
with_leaf leaf span [] = []
with_leaf leaf span (l ∷ ls) = leaf_into l.tuple l.key leaf span (l ∷ ls)

abbrev pub with_token : Token → List Level → List Level
with_token (Opens place) ls = opened place false ∷ ls
with_token (Closes end) ls = close end ls
with_token (OpensTuple place) ls = opened place true ∷ ls
with_token (ClosesTuple end) ls = close end ls
with_token (Is leaf span) ls = with_leaf leaf span ls
with_token token ls = ls

abbrev pub items_in : List Level → List Tree
items_in [] = []
items_in (l ∷ ls) = map (λ (p : List ℕ × Tree). p.1) l.items

abbrev pub next_token : ℕ → List ℕ → Result (Token × ℕ) Break → (ℕ → List ℕ → List Level → List Tree) → List Level → List Tree
next_token at bytes (Ok t) go_on ls = go_on (at + t.1) (drop t.1 bytes) (with_token t.0 ls)
next_token at bytes (Err b) go_on ls = []

-- the items of a text that breaks no rule; a token has one byte or more
unfoldable pub read_on : ℕ → ℕ → List ℕ → List Level → List Tree
read_on zero at bytes ls = items_in ls
read_on (suc steps) at [] ls = items_in ls
read_on (suc steps) at (c ∷ cs) ls = next_token at (c ∷ cs) (token_at at (c ∷ cs)) (read_on steps) ls

abbrev pub read : List ℕ → List Tree
read text = read_on (length text) 0 text (opened 0 false ∷ [])

-- ---- forms

abbrev pub and_form : Option Form → Option (List Form) → Option (List Form)
and_form (Some f) (Some fs) = Some (f ∷ fs)
and_form f fs = None

abbrev pub forms_of : List Tree → Option (List Form)
forms_of [] = Some []
forms_of (e ∷ es) = and_form (form_of e) (forms_of es)

-- the forms of a text and their order; none, where an item is no form or there is a cycle
pub record Program : Type 0 where
  pub forms : List Form
  pub order : List ℕ

abbrev pub program_by : List Form → Result (List ℕ) (List ℕ) → Option Program
program_by forms (Ok order) = Some (record { forms = forms; order = order })
program_by forms (Err cycle) = None

abbrev pub program_of : List ℕ → Option Program
program_of text = option_and_then (λ forms. program_by forms (ordered forms)) (forms_of (read text))

-- ---- judging

abbrev pub program_judged : List Known → Principal → Version → ℕ → Option Program → Judged Defined
program_judged deployed principal version size None = Deeper
program_judged deployed principal version size (Some p) = forms_judged (nothing_defined deployed principal version size) (forms_at p.forms p.order)

-- what the forms of a text define, or where the judgement stops
abbrev pub text_judged : List Known → Principal → Text → Judged Defined
text_judged deployed principal text = program_judged deployed principal text.version (length text.bytes) (program_of text.bytes)

-- ---- bounds

abbrev pub or_later : {A : Type 0} → Option A → Option A → Option A
or_later (Some a) later = Some a
or_later None later = later

abbrev pub above_at : Span → CostTable → Option Bill → Option (Dimension × Span)
above_at span table None = None
above_at span table (Some bound) = option_map (λ d. (d, span)) (first_above most_cost (cost_under table bound))

-- the first form whose bound is above the limit, with the first such dimension, and the deployment last
abbrev pub bound_stop : CostTable → Defined → List Form → Option (Dimension × Span)
bound_stop table defined [] = above_at nowhere table (Some defined.deploy)
bound_stop table defined (form ∷ forms) = or_later (above_at form.span table (bound_of defined form)) (bound_stop table defined forms)

-- the first bound that is above the limit, if one is, or where the judgement stops
abbrev pub bound_stop_of : CostTable → Option Program → Judged Defined → Judged (Option (Dimension × Span))
bound_stop_of table None judged = Deeper
bound_stop_of table (Some p) (Holds defined) = Holds (bound_stop table defined (forms_at p.forms p.order))
bound_stop_of table (Some p) (Fails r s) = Fails r s
bound_stop_of table (Some p) Deeper = Deeper

-- ---- lines of the report

-- a line of the report: a function's bound and return type
abbrev pub line_in : CostTable → Option Signature → Option (Cost5 × PlainType)
line_in table None = None
line_in table (Some f) = Some (cost_under table f.bound, f.returns)

abbrev pub line_by : CostTable → List ℕ → Judged Defined → Option (Cost5 × PlainType)
line_by table name (Holds defined) = line_in table (signature_in name defined.context.functions)
line_by table name (Fails r s) = None
line_by table name Deeper = None

abbrev pub deployment_by : CostTable → Judged Defined → Option Cost5
deployment_by table (Holds defined) = Some (cost_under table defined.deploy)
deployment_by table (Fails r s) = None
deployment_by table Deeper = None

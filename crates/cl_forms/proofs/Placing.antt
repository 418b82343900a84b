-- The expressions of a text's forms are placed.
use Rattle.std.proofs.Common.{ℕ, List, [], ◌∷◌, map, Option, Some, None, option_map, subst}
use Rattle.cl_types.specs.Types.{PlainType}
use Rattle.cl_types.specs.declared.sized.Access.{Access}
use Rattle.cl_sexpr.specs.declared.sexpr.Span.{Span}
use Rattle.cl_sexpr.specs.Tree.{Tree, LeafAt, ListAt, TupleAt, Forest, Empty, Then, span_of}
use Rattle.cl_sexpr.specs.Placed.{IsPlaced, ArePlaced}
use Rattle.cl_forms.specs.Heads.{Version}
use Rattle.cl_forms.specs.Forms.{Form, FormKind, VariableForm, NonFungibleForm, FunctionForm, expression_of}
use Rattle.cl_forms.specs.Items.{Draft, ConstantDraft, VariableDraft, MapDraft, FungibleDraft, NonFungibleDraft, FunctionDraft, Item, Expression, Misshapen, Definition, word_at, parts_behind, atom_of, Defined, header_of, function_by, defined_by, definition, item_by, item_of, typed, map_form, kind_of, form_by, form_of}
use Rattle.cl_forms.specs.FormBreaks.{AreForms}
use Rattle.cl_forms.specs.WrittenTypes.{written_type}
use Rattle.cl_forms.specs.Shapes.{trees_of, bindings_of}
use Rattle.cl_forms.specs.Placed.{IsPlacedIf, AllPlaced, AreFormsPlaced}
use Rattle.cl_forms.specs.declared.word.Word.{Word}
use Rattle.cl_forms.specs.declared.word.Word.TheVariants.{Constant, Variable, MapOf, Fungible, NonFungible, Function}

all_placed : (low high : ℕ) (f : Forest) → ArePlaced low high f → AllPlaced (trees_of f)
all_placed low high Empty p = tt
all_placed low high (Then e es) p = (p.1, all_placed (span_of e).end high es p.2)

behind_placed : (e : Tree) → IsPlaced e → AllPlaced (parts_behind e)
behind_placed (ListAt (Then e es) at) p = all_placed (span_of e).end at.end es p.2
behind_placed (ListAt Empty at) p = tt
behind_placed (LeafAt leaf at) p = tt
behind_placed (TupleAt parts at) p = tt

-- ---- definitions

abbrev DraftPlaced : Draft → Type 0
DraftPlaced (ConstantDraft e) = IsPlaced e
DraftPlaced (VariableDraft t e) = IsPlaced e
DraftPlaced (MapDraft k v) = Unit {0}
DraftPlaced (FungibleDraft supply) = IsPlacedIf supply
DraftPlaced (NonFungibleDraft t) = Unit {0}
DraftPlaced (FunctionDraft access params body) = IsPlaced body

abbrev DefinedPlaced : Option Defined → Type 0
DefinedPlaced None = Unit {0}
DefinedPlaced (Some d) = DraftPlaced d.1

named_placed : (o : Option (List ℕ)) (draft : Draft) → DraftPlaced draft → DefinedPlaced (option_map (λ name. (name, draft)) o)
named_placed None draft p = tt
named_placed (Some name) draft p = p

params_placed : (name : List ℕ) (access : Access) (body : Tree) (o : Option (List (List ℕ × Tree))) → IsPlaced body → DefinedPlaced (option_map (λ params. (name, FunctionDraft access params body)) o)
params_placed name access body None p = tt
params_placed name access body (Some params) p = p

function_placed : (access : Access) (body : Tree) (o : Option (List ℕ × List Tree)) → IsPlaced body → DefinedPlaced (function_by access body o)
function_placed access body None p = tt
function_placed access body (Some h) p = params_placed h.0 access body (bindings_of h.1) p

defined_placed : (word : Word) (parts : List Tree) → AllPlaced parts → DefinedPlaced (defined_by word parts)
defined_placed Constant (a ∷ b ∷ []) p = named_placed (atom_of a) (ConstantDraft b) p.1.0
defined_placed Constant [] p = tt
defined_placed Constant (a ∷ []) p = tt
defined_placed Constant (a ∷ b ∷ c ∷ es) p = tt
defined_placed Variable (a ∷ b ∷ c ∷ []) p = named_placed (atom_of a) (VariableDraft b c) p.1.1.0
defined_placed Variable [] p = tt
defined_placed Variable (a ∷ []) p = tt
defined_placed Variable (a ∷ b ∷ []) p = tt
defined_placed Variable (a ∷ b ∷ c ∷ d ∷ es) p = tt
defined_placed MapOf (a ∷ b ∷ c ∷ []) p = named_placed (atom_of a) (MapDraft b c) tt
defined_placed MapOf [] p = tt
defined_placed MapOf (a ∷ []) p = tt
defined_placed MapOf (a ∷ b ∷ []) p = tt
defined_placed MapOf (a ∷ b ∷ c ∷ d ∷ es) p = tt
defined_placed Fungible [] p = tt
defined_placed Fungible (a ∷ []) p = named_placed (atom_of a) (FungibleDraft None) tt
defined_placed Fungible (a ∷ b ∷ []) p = named_placed (atom_of a) (FungibleDraft (Some b)) p.1.0
defined_placed Fungible (a ∷ b ∷ c ∷ es) p = tt
defined_placed NonFungible (a ∷ b ∷ []) p = named_placed (atom_of a) (NonFungibleDraft b) tt
defined_placed NonFungible [] p = tt
defined_placed NonFungible (a ∷ []) p = tt
defined_placed NonFungible (a ∷ b ∷ c ∷ es) p = tt
defined_placed (Function access) (a ∷ b ∷ []) p = function_placed access b (header_of a) p.1.0
defined_placed (Function access) [] p = tt
defined_placed (Function access) (a ∷ []) p = tt
defined_placed (Function access) (a ∷ b ∷ c ∷ es) p = tt

-- ---- items

abbrev ItemPlaced : Item → Type 0
ItemPlaced (Expression e) = IsPlaced e
ItemPlaced Misshapen = Unit {0}
ItemPlaced (Definition name draft) = DraftPlaced draft

definition_placed : (o : Option Defined) → DefinedPlaced o → ItemPlaced (definition o)
definition_placed None p = tt
definition_placed (Some d) p = p

by_word_placed : (o : Option Word) (parts : List Tree) (e : Tree) → AllPlaced parts → IsPlaced e → ItemPlaced (item_by o parts e)
by_word_placed None parts e p q = q
by_word_placed (Some word) parts e p q = definition_placed (defined_by word parts) (defined_placed word parts p)

item_placed : (e : Tree) → IsPlaced e → ItemPlaced (item_of e)
unfolding item_of
item_placed e p = by_word_placed (word_at e) (parts_behind e) e (behind_placed e p) p

-- ---- forms

abbrev KindPlaced : Option FormKind → Type 0
KindPlaced None = Unit {0}
KindPlaced (Some kind) = IsPlacedIf (expression_of kind)

variable_placed : (o : Option PlainType) (e : Tree) → IsPlaced e → KindPlaced (option_map (λ t. VariableForm t e) o)
variable_placed None e p = tt
variable_placed (Some t) e p = p

map_placed : (k v : Option PlainType) → KindPlaced (map_form k v)
map_placed (Some k) (Some v) = tt
map_placed None v = tt
map_placed (Some k) None = tt

token_placed : (o : Option PlainType) → KindPlaced (option_map NonFungibleForm o)
token_placed None = tt
token_placed (Some t) = tt

body_placed : (access : Access) (o : Option (List (List ℕ × PlainType))) (body : Tree) → IsPlaced body → KindPlaced (option_map (λ params. FunctionForm access params body) o)
body_placed access None body p = tt
body_placed access (Some params) body p = p

kind_placed : (draft : Draft) → DraftPlaced draft → KindPlaced (kind_of draft)
kind_placed (ConstantDraft e) p = p
kind_placed (VariableDraft t e) p = variable_placed (written_type t) e p
kind_placed (MapDraft k v) p = map_placed (written_type k) (written_type v)
kind_placed (FungibleDraft supply) p = p
kind_placed (NonFungibleDraft t) p = token_placed (written_type t)
kind_placed (FunctionDraft access params body) p = body_placed access (typed params) body p

abbrev FormPlaced : Option Form → Type 0
FormPlaced None = Unit {0}
FormPlaced (Some form) = IsPlacedIf (expression_of form.kind)

of_kind_placed : (name : List ℕ) (span : Span) (o : Option FormKind) → KindPlaced o → FormPlaced (option_map (λ kind. record { name = Some name; kind = kind; span = span }) o)
of_kind_placed name span None p = tt
of_kind_placed name span (Some kind) p = p

of_item_placed : (item : Item) (span : Span) → ItemPlaced item → FormPlaced (form_by item span)
of_item_placed (Expression e) span p = p
of_item_placed Misshapen span p = tt
of_item_placed (Definition name draft) span p = of_kind_placed name span (kind_of draft) (kind_placed draft p)

form_placed : (e : Tree) → IsPlaced e → FormPlaced (form_of e)
form_placed e p = of_item_placed (item_of e) (span_of e) (item_placed e p)

abbrev EachPlaced : List (Option Form) → Type 0
EachPlaced [] = Unit {0}
EachPlaced (o ∷ os) = FormPlaced o × EachPlaced os

each_placed : (es : List Tree) → AllPlaced es → EachPlaced (map form_of es)
each_placed [] p = tt
each_placed (e ∷ es) p = (form_placed e p.0, each_placed es p.1)

forms_placed : (forms : List Form) → EachPlaced (map Some forms) → AreFormsPlaced forms
forms_placed [] p = tt
forms_placed (form ∷ forms) p = (p.0, forms_placed forms p.1)

pub items_placed : (low high : ℕ) (items : Forest) → ArePlaced low high items → AllPlaced (trees_of items)
items_placed = all_placed

-- the expressions of the forms of placed items
pub expressions_placed : {version : Version} (items : List Tree) (forms : List Form) → AllPlaced items → AreForms version items forms → AreFormsPlaced forms
expressions_placed items forms p h = forms_placed forms (subst EachPlaced h.forms_are (each_placed items p))

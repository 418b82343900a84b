-- The expressions of forms nest no deeper than their items.
use Rattle.std.proofs.Common.{◌≡◌, ℕ, zero, suc, ◌≤◌, List, [], ◌∷◌, map, slice_get, Option, Some, None, option_map, ◌∙◌, subst, arith}
use Rattle.cl_types.specs.Types.{PlainType}
use Rattle.cl_types.specs.declared.sized.Access.{Access}
use Rattle.cl_sexpr.specs.declared.sexpr.Span.{Span}
use Rattle.cl_sexpr.specs.Tree.{Tree, LeafAt, ListAt, TupleAt, Forest, Empty, Then, forest, tree_depth, forest_depth, span_of}
use Rattle.cl_forms.specs.Heads.{Version}
use Rattle.cl_forms.specs.Forms.{Form, FormKind, VariableForm, NonFungibleForm, FunctionForm, expression_of}
use Rattle.cl_forms.specs.Items.{Draft, ConstantDraft, VariableDraft, MapDraft, FungibleDraft, NonFungibleDraft, FunctionDraft, Item, Expression, Misshapen, Definition, word_at, parts_behind, atom_of, Defined, header_of, function_by, defined_by, definition, item_by, item_of, typed, map_form, kind_of, form_by, form_of}
use Rattle.cl_forms.specs.WrittenTypes.{written_type}
use Rattle.cl_forms.specs.Shapes.{trees_of, bindings_of}
use Rattle.cl_forms.specs.FormBreaks.{AreForms}
use Rattle.cl_forms.specs.Depth.{NestsAtMost}
use Rattle.cl_forms.specs.declared.word.Word.{Word}
use Rattle.cl_forms.specs.declared.word.Word.TheVariants.{Constant, Variable, MapOf, Fungible, NonFungible, Function}

abbrev AllLow : ℕ → List Tree → Type 0
AllLow n [] = Unit {0}
AllLow n (e ∷ es) = (tree_depth e ≤ n) × AllLow n es

trees_low : (f : Forest) (n : ℕ) → forest_depth f ≤ n → AllLow n (trees_of f)
trees_low Empty n h = tt
trees_low (Then e es) n h = (omega arith, trees_low es n (omega arith))

parts_low : (e : Tree) → AllLow (tree_depth e) (parts_behind e)
parts_low (ListAt (Then e es) at) = trees_low es (tree_depth (ListAt (Then e es) at)) (omega arith)
parts_low (ListAt Empty at) = tt
parts_low (LeafAt leaf at) = tt
parts_low (TupleAt parts at) = tt

abbrev DraftLow : ℕ → Draft → Type 0
DraftLow n (ConstantDraft e) = tree_depth e ≤ n
DraftLow n (VariableDraft t e) = tree_depth e ≤ n
DraftLow n (MapDraft k v) = Unit {0}
DraftLow n (FungibleDraft supply) = NestsAtMost n supply
DraftLow n (NonFungibleDraft t) = Unit {0}
DraftLow n (FunctionDraft access params body) = tree_depth body ≤ n

abbrev DefinedLow : ℕ → Option Defined → Type 0
DefinedLow n None = Unit {0}
DefinedLow n (Some d) = DraftLow n d.1

named_low : (n : ℕ) (o : Option (List ℕ)) (draft : Draft) → DraftLow n draft → DefinedLow n (option_map (λ name. (name, draft)) o)
named_low n None draft h = tt
named_low n (Some name) draft h = h

params_low : (n : ℕ) (name : List ℕ) (access : Access) (body : Tree) (o : Option (List (List ℕ × Tree))) → tree_depth body ≤ n → DefinedLow n (option_map (λ params. (name, FunctionDraft access params body)) o)
params_low n name access body None h = tt
params_low n name access body (Some params) h = h

function_low : (n : ℕ) (access : Access) (body : Tree) (o : Option (List ℕ × List Tree)) → tree_depth body ≤ n → DefinedLow n (function_by access body o)
function_low n access body None h = tt
function_low n access body (Some header) h = params_low n header.0 access body (bindings_of header.1) h

defined_low : (n : ℕ) (word : Word) (parts : List Tree) → AllLow n parts → DefinedLow n (defined_by word parts)
defined_low n Constant (a ∷ b ∷ []) h = named_low n (atom_of a) (ConstantDraft b) h.1.0
defined_low n Constant [] h = tt
defined_low n Constant (a ∷ []) h = tt
defined_low n Constant (a ∷ b ∷ c ∷ es) h = tt
defined_low n Variable (a ∷ b ∷ c ∷ []) h = named_low n (atom_of a) (VariableDraft b c) h.1.1.0
defined_low n Variable [] h = tt
defined_low n Variable (a ∷ []) h = tt
defined_low n Variable (a ∷ b ∷ []) h = tt
defined_low n Variable (a ∷ b ∷ c ∷ d ∷ es) h = tt
defined_low n MapOf (a ∷ b ∷ c ∷ []) h = named_low n (atom_of a) (MapDraft b c) tt
defined_low n MapOf [] h = tt
defined_low n MapOf (a ∷ []) h = tt
defined_low n MapOf (a ∷ b ∷ []) h = tt
defined_low n MapOf (a ∷ b ∷ c ∷ d ∷ es) h = tt
defined_low n Fungible [] h = tt
defined_low n Fungible (a ∷ []) h = named_low n (atom_of a) (FungibleDraft None) tt
defined_low n Fungible (a ∷ b ∷ []) h = named_low n (atom_of a) (FungibleDraft (Some b)) h.1.0
defined_low n Fungible (a ∷ b ∷ c ∷ es) h = tt
defined_low n NonFungible (a ∷ b ∷ []) h = named_low n (atom_of a) (NonFungibleDraft b) tt
defined_low n NonFungible [] h = tt
defined_low n NonFungible (a ∷ []) h = tt
defined_low n NonFungible (a ∷ b ∷ c ∷ es) h = tt
defined_low n (Function access) (a ∷ b ∷ []) h = function_low n access b (header_of a) h.1.0
defined_low n (Function access) [] h = tt
defined_low n (Function access) (a ∷ []) h = tt
defined_low n (Function access) (a ∷ b ∷ c ∷ es) h = tt

abbrev ItemLow : ℕ → Item → Type 0
ItemLow n (Expression e) = tree_depth e ≤ n
ItemLow n Misshapen = Unit {0}
ItemLow n (Definition name draft) = DraftLow n draft

definition_low : (n : ℕ) (o : Option Defined) → DefinedLow n o → ItemLow n (definition o)
definition_low n None h = tt
definition_low n (Some d) h = h

by_word_low : (o : Option Word) (parts : List Tree) (e : Tree) → AllLow (tree_depth e) parts → ItemLow (tree_depth e) (item_by o parts e)
by_word_low None parts e h = omega arith
by_word_low (Some word) parts e h = definition_low (tree_depth e) (defined_by word parts) (defined_low (tree_depth e) word parts h)

item_low : (e : Tree) → ItemLow (tree_depth e) (item_of e)
unfolding item_of
item_low e = by_word_low (word_at e) (parts_behind e) e (parts_low e)

abbrev KindLow : ℕ → Option FormKind → Type 0
KindLow n None = Unit {0}
KindLow n (Some kind) = NestsAtMost n (expression_of kind)

variable_low : (n : ℕ) (o : Option PlainType) (e : Tree) → tree_depth e ≤ n → KindLow n (option_map (λ t. VariableForm t e) o)
variable_low n None e h = tt
variable_low n (Some t) e h = h

map_low : (n : ℕ) (k v : Option PlainType) → KindLow n (map_form k v)
map_low n (Some k) (Some v) = tt
map_low n None v = tt
map_low n (Some k) None = tt

token_low : (n : ℕ) (o : Option PlainType) → KindLow n (option_map NonFungibleForm o)
token_low n None = tt
token_low n (Some t) = tt

body_low : (n : ℕ) (access : Access) (o : Option (List (List ℕ × PlainType))) (body : Tree) → tree_depth body ≤ n → KindLow n (option_map (λ params. FunctionForm access params body) o)
body_low n access None body h = tt
body_low n access (Some params) body h = h

kind_low : (n : ℕ) (draft : Draft) → DraftLow n draft → KindLow n (kind_of draft)
kind_low n (ConstantDraft e) h = h
kind_low n (VariableDraft t e) h = variable_low n (written_type t) e h
kind_low n (MapDraft k v) h = map_low n (written_type k) (written_type v)
kind_low n (FungibleDraft supply) h = h
kind_low n (NonFungibleDraft t) h = token_low n (written_type t)
kind_low n (FunctionDraft access params body) h = body_low n access (typed params) body h

abbrev FormLow : ℕ → Option Form → Type 0
FormLow n None = Unit {0}
FormLow n (Some form) = NestsAtMost n (expression_of form.kind)

of_kind_low : (n : ℕ) (name : List ℕ) (span : Span) (o : Option FormKind) → KindLow n o → FormLow n (option_map (λ kind. record { name = Some name; kind = kind; span = span }) o)
of_kind_low n name span None h = tt
of_kind_low n name span (Some kind) h = h

of_item_low : (n : ℕ) (item : Item) (span : Span) → ItemLow n item → FormLow n (form_by item span)
of_item_low n (Expression e) span h = h
of_item_low n Misshapen span h = tt
of_item_low n (Definition name draft) span h = of_kind_low n name span (kind_of draft) (kind_low n draft h)

-- the expression of a form nests no deeper than its item
form_low : (e : Tree) (form : Form) → form_of e ≡ Some form → NestsAtMost (tree_depth e) (expression_of form.kind)
form_low e form h = subst (FormLow (tree_depth e)) h (of_item_low (tree_depth e) (item_of e) (span_of e) (item_low e))

-- ---- rows of items

deeper : (m n : ℕ) (o : Option Tree) → m ≤ n → NestsAtMost m o → NestsAtMost n o
deeper m n None h k = tt
deeper m n (Some e) h k = omega (arith, h, k)

forms_low : (items : List Tree) (forms : List Form) → map form_of items ≡ map Some forms → (n : ℕ) (form : Form) → slice_get forms n ≡ Some form → NestsAtMost (forest_depth (forest items)) (expression_of form.kind)
forms_low items [] e n form h = absurd cc
forms_low [] (f ∷ forms) e n form h = absurd cc
forms_low (i ∷ items) (f ∷ forms) e zero form h =
    let heads : form_of i ≡ Some f = cc in
    deeper (tree_depth i) (forest_depth (forest (i ∷ items))) (expression_of form.kind) (omega arith) (form_low i form (heads ∙ h))
forms_low (i ∷ items) (f ∷ forms) e (suc n) form h =
    let tails : map form_of items ≡ map Some forms = cc in
    deeper (forest_depth (forest items)) (forest_depth (forest (i ∷ items))) (expression_of form.kind) (omega arith) (forms_low items forms tails n form h)

pub nest_as_items : {version : Version} (items : List Tree) (forms : List Form) (n : ℕ) (form : Form) → AreForms version items forms → slice_get forms n ≡ Some form → NestsAtMost (forest_depth (forest items)) (expression_of form.kind)
nest_as_items items forms n form are h = forms_low items forms are.forms_are n form h

-- Forms have no more parts than their items.
use Rattle.std.proofs.Common.{◌≡◌, ℕ, ◌+◌, ◌≤◌, List, [], ◌∷◌, map, length, Option, Some, None, option_map, suc, refl, sym, ap, ◌∙◌, subst, arith}
use Rattle.cl_types.specs.Types.{PlainType}
use Rattle.cl_types.specs.declared.sized.Access.{Access}
use Rattle.cl_sexpr.specs.declared.sexpr.Span.{Span}
use Rattle.cl_sexpr.specs.Tree.{Tree, LeafAt, ListAt, TupleAt, Forest, Empty, Then, forest, tree_size, forest_size, span_of}
use Rattle.cl_forms.specs.Heads.{Version}
use Rattle.cl_forms.specs.Forms.{Form, FormKind, VariableForm, NonFungibleForm, FunctionForm}
use Rattle.cl_forms.specs.Items.{Draft, ConstantDraft, VariableDraft, MapDraft, FungibleDraft, NonFungibleDraft, FunctionDraft, Item, Expression, Misshapen, Definition, word_at, parts_behind, atom_of, Defined, header_of, function_by, defined_by, definition, item_by, item_of, and_type, typed, map_form, kind_of, form_by, form_of}
use Rattle.cl_forms.specs.FormBreaks.{AreForms}
use Rattle.cl_forms.specs.WrittenTypes.{written_type}
use Rattle.cl_forms.specs.Shapes.{trees_of, binding_of, and_binding, bindings_of}
use Rattle.cl_forms.specs.Weights.{weight_if, weight_of_kind, weight_of_forms}
use Rattle.cl_forms.specs.declared.word.Word.{Word}
use Rattle.cl_forms.specs.declared.word.Word.TheVariants.{Constant, Variable, MapOf, Fungible, NonFungible, Function}

-- ---- rows of items

forest_same : (f : Forest) → forest (trees_of f) ≡ f
forest_same Empty = refl
forest_same (Then e es) = ap (λ fs. Then e fs) (forest_same es)

length-trees : (f : Forest) → length (trees_of f) ≤ forest_size f
length-trees Empty = omega arith
length-trees (Then e es) = omega (arith, length-trees es)

behind_within : (e : Tree) → forest_size (forest (parts_behind e)) ≤ tree_size e
behind_within (ListAt (Then e es) at) = omega (arith, ap forest_size (forest_same es))
behind_within (ListAt Empty at) = omega arith
behind_within (LeafAt leaf at) = omega arith
behind_within (TupleAt parts at) = omega arith

-- ---- parameters

abbrev RowWithin : {A : Type 0} → ℕ → Option (List A) → Type 0
RowWithin n None = Unit {0}
RowWithin n (Some xs) = length xs ≤ n

one_more : (o : Option (List ℕ × Tree)) (n : ℕ) (os : Option (List (List ℕ × Tree))) → RowWithin n os → RowWithin (suc n) (and_binding o os)
one_more (Some p) n (Some ps) h = omega (arith, h)
one_more None n (Some ps) h = tt
one_more None n None h = tt
one_more (Some p) n None h = tt

bindings_within : (es : List Tree) → RowWithin (length es) (bindings_of es)
bindings_within [] = omega arith
bindings_within (e ∷ es) = one_more (binding_of e) (length es) (bindings_of es) (bindings_within es)

one_type_more : (k : List ℕ) (o : Option PlainType) (n : ℕ) (os : Option (List (List ℕ × PlainType))) → RowWithin n os → RowWithin (suc n) (and_type k o os)
one_type_more k (Some t) n (Some ts) h = omega (arith, h)
one_type_more k None n (Some ts) h = tt
one_type_more k None n None h = tt
one_type_more k (Some t) n None h = tt

typed_within : (ps : List (List ℕ × Tree)) → RowWithin (length ps) (typed ps)
typed_within [] = omega arith
typed_within (p ∷ ps) = one_type_more p.0 (written_type p.1) (length ps) (typed ps) (typed_within ps)

abbrev HeaderWithin : ℕ → Option (List ℕ × List Tree) → Type 0
HeaderWithin n None = Unit {0}
HeaderWithin n (Some h) = length h.1 ≤ n

named_header : (n : ℕ) (o : Option (List ℕ)) (es : List Tree) → length es ≤ n → HeaderWithin n (option_map (λ name. (name, es)) o)
named_header n None es h = tt
named_header n (Some name) es h = h

header_within : (e : Tree) → HeaderWithin (tree_size e) (header_of e)
header_within (ListAt (Then e es) at) = named_header (tree_size (ListAt (Then e es) at)) (atom_of e) (trees_of es) (omega (arith, length-trees es))
header_within (ListAt Empty at) = tt
header_within (LeafAt leaf at) = tt
header_within (TupleAt parts at) = tt

-- ---- definitions

abbrev DraftWithin : ℕ → Draft → Type 0
DraftWithin n (ConstantDraft e) = tree_size e ≤ n
DraftWithin n (VariableDraft t e) = tree_size e ≤ n
DraftWithin n (MapDraft k v) = Unit {0}
DraftWithin n (FungibleDraft supply) = weight_if supply ≤ n
DraftWithin n (NonFungibleDraft t) = Unit {0}
DraftWithin n (FunctionDraft access params body) = length params + tree_size body ≤ n

abbrev DefinedWithin : ℕ → Option Defined → Type 0
DefinedWithin n None = Unit {0}
DefinedWithin n (Some d) = DraftWithin n d.1

named_within : (n : ℕ) (o : Option (List ℕ)) (draft : Draft) → DraftWithin n draft → DefinedWithin n (option_map (λ name. (name, draft)) o)
named_within n None draft h = tt
named_within n (Some name) draft h = h

params_within : (n m : ℕ) (name : List ℕ) (access : Access) (body : Tree) (o : Option (List (List ℕ × Tree))) → RowWithin m o → m + tree_size body ≤ n → DefinedWithin n (option_map (λ params. (name, FunctionDraft access params body)) o)
params_within n m name access body None h k = tt
params_within n m name access body (Some params) h k = omega (arith, h, k)

function_within : (n m : ℕ) (access : Access) (body : Tree) (o : Option (List ℕ × List Tree)) → HeaderWithin m o → m + tree_size body ≤ n → DefinedWithin n (function_by access body o)
function_within n m access body None h k = tt
function_within n m access body (Some header) h k = params_within n (length header.1) header.0 access body (bindings_of header.1) (bindings_within header.1) (omega (arith, h, k))

defined_within : (word : Word) (parts : List Tree) → DefinedWithin (forest_size (forest parts)) (defined_by word parts)
defined_within Constant (a ∷ b ∷ []) = named_within (forest_size (forest (a ∷ b ∷ []))) (atom_of a) (ConstantDraft b) (omega arith)
defined_within Constant [] = tt
defined_within Constant (a ∷ []) = tt
defined_within Constant (a ∷ b ∷ c ∷ es) = tt
defined_within Variable (a ∷ b ∷ c ∷ []) = named_within (forest_size (forest (a ∷ b ∷ c ∷ []))) (atom_of a) (VariableDraft b c) (omega arith)
defined_within Variable [] = tt
defined_within Variable (a ∷ []) = tt
defined_within Variable (a ∷ b ∷ []) = tt
defined_within Variable (a ∷ b ∷ c ∷ d ∷ es) = tt
defined_within MapOf (a ∷ b ∷ c ∷ []) = named_within (forest_size (forest (a ∷ b ∷ c ∷ []))) (atom_of a) (MapDraft b c) tt
defined_within MapOf [] = tt
defined_within MapOf (a ∷ []) = tt
defined_within MapOf (a ∷ b ∷ []) = tt
defined_within MapOf (a ∷ b ∷ c ∷ d ∷ es) = tt
defined_within Fungible [] = tt
defined_within Fungible (a ∷ []) = named_within (forest_size (forest (a ∷ []))) (atom_of a) (FungibleDraft None) (omega arith)
defined_within Fungible (a ∷ b ∷ []) = named_within (forest_size (forest (a ∷ b ∷ []))) (atom_of a) (FungibleDraft (Some b)) (omega arith)
defined_within Fungible (a ∷ b ∷ c ∷ es) = tt
defined_within NonFungible (a ∷ b ∷ []) = named_within (forest_size (forest (a ∷ b ∷ []))) (atom_of a) (NonFungibleDraft b) tt
defined_within NonFungible [] = tt
defined_within NonFungible (a ∷ []) = tt
defined_within NonFungible (a ∷ b ∷ c ∷ es) = tt
defined_within (Function access) (a ∷ b ∷ []) = function_within (forest_size (forest (a ∷ b ∷ []))) (tree_size a) access b (header_of a) (header_within a) (omega arith)
defined_within (Function access) [] = tt
defined_within (Function access) (a ∷ []) = tt
defined_within (Function access) (a ∷ b ∷ c ∷ es) = tt

-- ---- items

abbrev ItemWithin : ℕ → Item → Type 0
ItemWithin n (Expression e) = tree_size e ≤ n
ItemWithin n Misshapen = Unit {0}
ItemWithin n (Definition name draft) = DraftWithin n draft

draft_above : (n m : ℕ) (draft : Draft) → n ≤ m → DraftWithin n draft → DraftWithin m draft
draft_above n m (ConstantDraft e) h k = omega (arith, h, k)
draft_above n m (VariableDraft t e) h k = omega (arith, h, k)
draft_above n m (MapDraft key value) h k = tt
draft_above n m (FungibleDraft supply) h k = omega (arith, h, k)
draft_above n m (NonFungibleDraft t) h k = tt
draft_above n m (FunctionDraft access params body) h k = omega (arith, h, k)

definition_within : (n m : ℕ) (o : Option Defined) → n ≤ m → DefinedWithin n o → ItemWithin m (definition o)
definition_within n m None h k = tt
definition_within n m (Some d) h k = draft_above n m d.1 h k

by_word_within : (o : Option Word) (parts : List Tree) (e : Tree) → forest_size (forest parts) ≤ tree_size e → ItemWithin (tree_size e) (item_by o parts e)
by_word_within None parts e h = omega arith
by_word_within (Some word) parts e h = definition_within (forest_size (forest parts)) (tree_size e) (defined_by word parts) h (defined_within word parts)

item_within : (e : Tree) → ItemWithin (tree_size e) (item_of e)
unfolding item_of
item_within e = by_word_within (word_at e) (parts_behind e) e (behind_within e)

-- ---- forms

abbrev KindWithin : ℕ → Option FormKind → Type 0
KindWithin n None = Unit {0}
KindWithin n (Some kind) = weight_of_kind kind ≤ n

variable_within : (n : ℕ) (o : Option PlainType) (e : Tree) → tree_size e ≤ n → KindWithin n (option_map (λ t. VariableForm t e) o)
variable_within n None e h = tt
variable_within n (Some t) e h = h

map_within : (n : ℕ) (k v : Option PlainType) → KindWithin n (map_form k v)
map_within n (Some k) (Some v) = omega arith
map_within n None v = tt
map_within n (Some k) None = tt

token_within : (n : ℕ) (o : Option PlainType) → KindWithin n (option_map NonFungibleForm o)
token_within n None = tt
token_within n (Some t) = omega arith

body_within : (n m : ℕ) (access : Access) (o : Option (List (List ℕ × PlainType))) (body : Tree) → RowWithin m o → m + tree_size body ≤ n → KindWithin n (option_map (λ params. FunctionForm access params body) o)
body_within n m access None body h k = tt
body_within n m access (Some params) body h k = omega (arith, h, k)

kind_within : (n : ℕ) (draft : Draft) → DraftWithin n draft → KindWithin n (kind_of draft)
kind_within n (ConstantDraft e) h = h
kind_within n (VariableDraft t e) h = variable_within n (written_type t) e h
kind_within n (MapDraft k v) h = map_within n (written_type k) (written_type v)
kind_within n (FungibleDraft supply) h = h
kind_within n (NonFungibleDraft t) h = token_within n (written_type t)
kind_within n (FunctionDraft access params body) h = body_within n (length params) access (typed params) body (typed_within params) h

abbrev FormWithin : ℕ → Option Form → Type 0
FormWithin n None = Unit {0}
FormWithin n (Some form) = weight_of_kind form.kind ≤ n

of_kind_within : (n : ℕ) (name : List ℕ) (span : Span) (o : Option FormKind) → KindWithin n o → FormWithin n (option_map (λ kind. record { name = Some name; kind = kind; span = span }) o)
of_kind_within n name span None h = tt
of_kind_within n name span (Some kind) h = h

of_item_within : (n : ℕ) (item : Item) (span : Span) → ItemWithin n item → FormWithin n (form_by item span)
of_item_within n (Expression e) span h = h
of_item_within n Misshapen span h = tt
of_item_within n (Definition name draft) span h = of_kind_within n name span (kind_of draft) (kind_within n draft h)

form_within : (e : Tree) → FormWithin (tree_size e) (form_of e)
form_within e = of_item_within (tree_size e) (item_of e) (span_of e) (item_within e)

abbrev EachWithin : List Tree → List (Option Form) → Type 0
EachWithin [] os = Unit {0}
EachWithin (e ∷ es) [] = Unit {0}
EachWithin (e ∷ es) (o ∷ os) = FormWithin (tree_size e) o × EachWithin es os

each_within : (es : List Tree) → EachWithin es (map form_of es)
each_within [] = tt
each_within (e ∷ es) = (form_within e, each_within es)

sums_within : (es : List Tree) (forms : List Form) → length es ≡ length forms → EachWithin es (map Some forms) → weight_of_forms forms ≤ forest_size (forest es)
sums_within [] [] l h = omega arith
sums_within [] (form ∷ forms) l h = absurd (omega (arith, l))
sums_within (e ∷ es) [] l h = omega arith
sums_within (e ∷ es) (form ∷ forms) l h = omega (arith, h.0, sums_within es forms (omega (arith, l)) h.1)

-- as many forms as items
as_many : {A B C : Type 0} (f : A → C) (g : B → C) (xs : List A) (ys : List B) → map f xs ≡ map g ys → length xs ≡ length ys
as_many f g xs ys e = length_map f xs ∙ ap length e ∙ sym (length_map g ys)
  where
    length_map : {D E : Type 0} (h : D → E) (zs : List D) → length zs ≡ length (map h zs)
    length_map h [] = refl
    length_map h (z ∷ zs) = ap (λ n. suc n) (length_map h zs)

pub forms_within : {version : Version} (items : List Tree) (forms : List Form) → AreForms version items forms → weight_of_forms forms ≤ forest_size (forest items)
forms_within items forms h = sums_within items forms (as_many form_of Some items forms h.forms_are) (subst (EachWithin items) h.forms_are (each_within items))

pub forms_counted : (forms : List Form) → length forms ≤ weight_of_forms forms
forms_counted [] = omega arith
forms_counted (form ∷ forms) = omega (arith, forms_counted forms)

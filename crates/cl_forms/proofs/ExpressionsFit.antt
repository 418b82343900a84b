-- The names and literals of forms are within the limits, where those of their items are.
use Rattle.std.proofs.Common.{◌≡◌, ℕ, Bool, true, false, List, [], ◌∷◌, map, Option, Some, None, subst}
use Rattle.std.specs.Prelude.{if◌then◌else◌, option_map, option_and_then, codes}
use Rattle.cl_types.specs.Types.{PlainType}
use Rattle.cl_types.specs.declared.sized.Access.{Access}
use Rattle.cl_types.specs.declared.sized.Access.TheVariants.{Public, ReadOnly, Private}
use Rattle.cl_sexpr.specs.declared.sexpr.Span.{Span}
use Rattle.cl_sexpr.specs.Tree.{Tree, LeafAt, ListAt, Named, Forest, Empty, Then, span_of}
use Rattle.cl_forms.specs.Heads.{Version}
use Rattle.cl_forms.specs.Forms.{Form, FormKind, VariableForm, NonFungibleForm, FunctionForm}
use Rattle.cl_forms.specs.Names.{same}
use Rattle.cl_forms.specs.Shapes.{trees_of, bindings_of}
use Rattle.cl_forms.specs.Items.{Draft, ConstantDraft, VariableDraft, MapDraft, FungibleDraft, NonFungibleDraft, FunctionDraft, Item, Expression, Misshapen, Definition, word_of, atom_of, two_of, three_of, one_or_two_of, Defined, with_name, header_of, function_by, definition, item_by, item_of, map_form, typed, kind_of, form_by, form_of}
use Rattle.cl_forms.specs.WrittenTypes.{written_type}
use Rattle.cl_forms.specs.FormBreaks.{AreForms}
use Rattle.cl_sexpr.specs.Fits.{Fits, AllFit, AreFit}
use Rattle.cl_forms.specs.Fits.{KindFits, FormsFit}

pub are_fit : (es : Forest) → AllFit es → AreFit (trees_of es)
are_fit Empty h = tt
are_fit (Then e es) h = (h.0, are_fit es h.1)

abbrev DraftFits : Draft → Type 0
DraftFits (ConstantDraft e) = Fits e
DraftFits (VariableDraft t e) = Fits e
DraftFits (FungibleDraft (Some e)) = Fits e
DraftFits (FunctionDraft access ps body) = Fits body
DraftFits draft = Unit {0}

abbrev DefinedFits : Option Defined → Type 0
DefinedFits None = Unit {0}
DefinedFits (Some d) = DraftFits d.1

abbrev ItemFits : Item → Type 0
ItemFits (Expression e) = Fits e
ItemFits Misshapen = Unit {0}
ItemFits (Definition name draft) = DraftFits draft

name_fits : (o : Option (List ℕ)) (draft : Draft) → DraftFits draft → DefinedFits (option_map (λ name. (name, draft)) o)
name_fits None draft h = tt
name_fits (Some x) draft h = h

body_fits : (access : Access) (body : Tree) (o : Option (List ℕ × List Tree)) → Fits body → DefinedFits (function_by access body o)
body_fits access body None h = tt
body_fits access body (Some p) h = by (bindings_of p.1)
  where
    by : (o : Option (List (List ℕ × Tree))) → DefinedFits (option_map (λ params. (p.0, FunctionDraft access params body)) o)
    by None = tt
    by (Some params) = h

constant_fits : (parts : List Tree) → AreFit parts → DefinedFits (option_and_then (λ p. with_name p.0 (ConstantDraft p.1)) (two_of parts))
constant_fits (a ∷ b ∷ []) h = name_fits (atom_of a) (ConstantDraft b) h.1.0
constant_fits parts h = tt

variable_fits : (parts : List Tree) → AreFit parts → DefinedFits (option_and_then (λ p. with_name p.0 (VariableDraft p.1 p.2)) (three_of parts))
variable_fits (a ∷ b ∷ c ∷ []) h = name_fits (atom_of a) (VariableDraft b c) h.1.1.0
variable_fits parts h = tt

map_fits : (parts : List Tree) → DefinedFits (option_and_then (λ p. with_name p.0 (MapDraft p.1 p.2)) (three_of parts))
map_fits (a ∷ b ∷ c ∷ []) = name_fits (atom_of a) (MapDraft b c) tt
map_fits parts = tt

fungible_fits : (parts : List Tree) → AreFit parts → DefinedFits (option_and_then (λ p. with_name p.0 (FungibleDraft p.1)) (one_or_two_of parts))
fungible_fits (a ∷ []) h = name_fits (atom_of a) (FungibleDraft None) tt
fungible_fits (a ∷ b ∷ []) h = name_fits (atom_of a) (FungibleDraft (Some b)) h.1.0
fungible_fits parts h = tt

token_of_fits : (parts : List Tree) → DefinedFits (option_and_then (λ p. with_name p.0 (NonFungibleDraft p.1)) (two_of parts))
token_of_fits (a ∷ b ∷ []) = name_fits (atom_of a) (NonFungibleDraft b) tt
token_of_fits parts = tt

function_fits : (access : Access) (parts : List Tree) → AreFit parts → DefinedFits (option_and_then (λ p. function_by access p.1 (header_of p.0)) (two_of parts))
function_fits access (a ∷ b ∷ []) h = body_fits access b (header_of a) h.1.0
function_fits access parts h = tt

definition_fits : (o : Option Defined) → DefinedFits o → ItemFits (definition o)
definition_fits None h = tt
definition_fits (Some d) h = h

either_word : {A : Type 0} (P : A → Type 0) (b : Bool) (x y : A) → P x → P y → P (if b then x else y)
either_word P true x y h k = h
either_word P false x y h k = k

by_name : (x : List ℕ) (parts : List Tree) (e : Tree) → AreFit parts → Fits e → ItemFits (item_by (word_of x) parts e)
by_name x parts e h whole =
    either_word (λ o. ItemFits (item_by o parts e)) (same x (codes "define-constant")) _ _ (definition_fits _ (constant_fits parts h))
    (either_word (λ o. ItemFits (item_by o parts e)) (same x (codes "define-data-var")) _ _ (definition_fits _ (variable_fits parts h))
    (either_word (λ o. ItemFits (item_by o parts e)) (same x (codes "define-map")) _ _ (definition_fits _ (map_fits parts))
    (either_word (λ o. ItemFits (item_by o parts e)) (same x (codes "define-fungible-token")) _ _ (definition_fits _ (fungible_fits parts h))
    (either_word (λ o. ItemFits (item_by o parts e)) (same x (codes "define-non-fungible-token")) _ _ (definition_fits _ (token_of_fits parts))
    (either_word (λ o. ItemFits (item_by o parts e)) (same x (codes "define-public")) _ _ (definition_fits _ (function_fits Public parts h))
    (either_word (λ o. ItemFits (item_by o parts e)) (same x (codes "define-read-only")) _ _ (definition_fits _ (function_fits ReadOnly parts h))
    (either_word (λ o. ItemFits (item_by o parts e)) (same x (codes "define-private")) _ _ (definition_fits _ (function_fits Private parts h)) whole)))))))

an_item_fits : (e : Tree) → Fits e → ItemFits (item_of e)
unfolding item_of
an_item_fits (ListAt (Then (LeafAt (Named x) at) es) at') h = by_name x (trees_of es) (ListAt (Then (LeafAt (Named x) at) es) at') (are_fit es h.1) h
an_item_fits e h = h

abbrev MaybeKind : Option FormKind → Type 0
MaybeKind None = Unit {0}
MaybeKind (Some kind) = KindFits kind

kind_fits : (draft : Draft) → DraftFits draft → MaybeKind (kind_of draft)
kind_fits (ConstantDraft e) h = h
kind_fits (VariableDraft t e) h = by (written_type t)
  where
    by : (o : Option PlainType) → MaybeKind (option_map (λ u. VariableForm u e) o)
    by None = tt
    by (Some u) = h
kind_fits (MapDraft k v) h = by (written_type k) (written_type v)
  where
    by : (a b : Option PlainType) → MaybeKind (map_form a b)
    by (Some a) (Some b) = tt
    by None b = tt
    by (Some a) None = tt
kind_fits (FungibleDraft None) h = tt
kind_fits (FungibleDraft (Some e)) h = h
kind_fits (NonFungibleDraft t) h = by (written_type t)
  where
    by : (o : Option PlainType) → MaybeKind (option_map NonFungibleForm o)
    by None = tt
    by (Some u) = tt
kind_fits (FunctionDraft access ps body) h = by (typed ps)
  where
    by : (o : Option (List (List ℕ × PlainType))) → MaybeKind (option_map (λ params. FunctionForm access params body) o)
    by None = tt
    by (Some params) = h

abbrev MaybeForm : Option Form → Type 0
MaybeForm None = Unit {0}
MaybeForm (Some form) = KindFits form.kind

kind_form : (name : List ℕ) (span : Span) (o : Option FormKind) → MaybeKind o → MaybeForm (option_map (λ (kind : FormKind). record { name = Some name; kind = kind; span = span }) o)
kind_form name span None h = tt
kind_form name span (Some kind) h = h

item_form : (item : Item) (span : Span) → ItemFits item → MaybeForm (form_by item span)
item_form (Expression e) span h = h
item_form Misshapen span h = tt
item_form (Definition name draft) span h = kind_form name span (kind_of draft) (kind_fits draft h)

pub forms_fit : (items : List Tree) (forms : List Form) → AreFit items → map form_of items ≡ map Some forms → FormsFit forms
forms_fit [] [] h e = tt
forms_fit [] (form ∷ forms) h e = absurd cc
forms_fit (i ∷ items) [] h e = absurd cc
forms_fit (i ∷ items) (form ∷ forms) h e =
    let heads : form_of i ≡ Some form = cc in
    let tails : map form_of items ≡ map Some forms = cc in
    (subst MaybeForm heads (item_form (item_of i) (span_of i) (an_item_fits i h.0)), forms_fit items forms h.1 tails)

-- the forms of items that fit
pub forms_of_items_fit : {version : Version} (items : Forest) (forms : List Form) → AllFit items → AreForms version (trees_of items) forms → FormsFit forms
forms_of_items_fit items forms fit are = forms_fit (trees_of items) forms (are_fit items fit) are.forms_are

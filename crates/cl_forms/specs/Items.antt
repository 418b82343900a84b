-- What the items of a text define.
use Rattle.std.specs.Prelude.{ℕ, List, [], ◌∷◌, codes, if◌then◌else◌, Option, Some, None, option_map, option_and_then}
use Rattle.cl_types.specs.Types.{PlainType}
use Rattle.cl_types.specs.declared.sized.Access.{Access}
use Rattle.cl_types.specs.declared.sized.Access.TheVariants.{Public, ReadOnly, Private}
use Rattle.cl_sexpr.specs.declared.sexpr.Span.{Span}
use Rattle.cl_sexpr.specs.Tree.{Tree, LeafAt, ListAt, Named, Then, span_of}
use Rattle.cl_forms.specs.Forms.{Form, FormKind, ConstantForm, VariableForm, MapForm, FungibleForm, NonFungibleForm, FunctionForm, ExpressionForm}
use Rattle.cl_forms.specs.Names.{same}
use Rattle.cl_forms.specs.Shapes.{trees_of, bindings_of}
use Rattle.cl_forms.specs.WrittenTypes.{written_type}
use Rattle.cl_forms.specs.declared.word.Word.{Word}
use Rattle.cl_forms.specs.declared.word.Word.TheVariants.{Constant, Variable, MapOf, Fungible, NonFungible, Function}

-- a definition, its types as the text writes them
pub data Draft : Type 0 where
  ConstantDraft : Tree → Draft
  VariableDraft : Tree → Tree → Draft
  MapDraft : Tree → Tree → Draft
  FungibleDraft : Option Tree → Draft
  NonFungibleDraft : Tree → Draft
  FunctionDraft : Access → List (List ℕ × Tree) → Tree → Draft

-- an item: an expression; what begins with a define word and hasn't its shape; a definition of a name
pub data Item : Type 0 where
  Expression : Tree → Item
  Misshapen : Item
  Definition : List ℕ → Draft → Item

-- the define word of a name
abbrev pub word_of : List ℕ → Option Word
word_of x =
    if same x (codes "define-constant") then Some Constant
    else (if same x (codes "define-data-var") then Some Variable
    else (if same x (codes "define-map") then Some MapOf
    else (if same x (codes "define-fungible-token") then Some Fungible
    else (if same x (codes "define-non-fungible-token") then Some NonFungible
    else (if same x (codes "define-public") then Some (Function Public)
    else (if same x (codes "define-read-only") then Some (Function ReadOnly)
    else (if same x (codes "define-private") then Some (Function Private) else None)))))))

-- the define word that an item begins with
abbrev pub word_at : Tree → Option Word
word_at (ListAt (Then (LeafAt (Named x) at) es) at') = word_of x
word_at e = None

-- the items of a list behind its first
abbrev pub parts_behind : Tree → List Tree
parts_behind (ListAt (Then e es) at) = trees_of es
parts_behind e = []

-- the name that an item is
abbrev pub atom_of : Tree → Option (List ℕ)
atom_of (LeafAt (Named x) at) = Some x
atom_of e = None

-- two items; three; one with another that may be absent
abbrev pub two_of : List Tree → Option (Tree × Tree)
two_of (a ∷ b ∷ []) = Some (a, b)
two_of es = None

abbrev pub three_of : List Tree → Option (Tree × Tree × Tree)
three_of (a ∷ b ∷ c ∷ []) = Some (a, b, c)
three_of es = None

abbrev pub one_or_two_of : List Tree → Option (Tree × Option Tree)
one_or_two_of (a ∷ []) = Some (a, None)
one_or_two_of (a ∷ b ∷ []) = Some (a, Some b)
one_or_two_of es = None

-- a name, and a definition
abbrev pub Defined : Type 0
Defined = List ℕ × Draft

abbrev pub with_name : Tree → Draft → Option Defined
with_name x draft = option_map (λ name. (name, draft)) (atom_of x)

-- the items of a list
abbrev pub items_of : Tree → Option (List Tree)
items_of (ListAt es at) = Some (trees_of es)
items_of e = None

-- a function's name and the items of its parameters
abbrev pub header_in : List Tree → Option (List ℕ × List Tree)
header_in [] = None
header_in (x ∷ params) = option_map (λ name. (name, params)) (atom_of x)

abbrev pub header_of : Tree → Option (List ℕ × List Tree)
header_of e = option_and_then header_in (items_of e)

abbrev pub function_by : Access → Tree → Option (List ℕ × List Tree) → Option Defined
function_by access body None = None
function_by access body (Some h) = option_map (λ params. (h.0, FunctionDraft access params body)) (bindings_of h.1)

-- what a define word defines with these parts behind it, if they have its shape
abbrev pub defined_by : Word → List Tree → Option Defined
defined_by Constant parts = option_and_then (λ p. with_name p.0 (ConstantDraft p.1)) (two_of parts)
defined_by Variable parts = option_and_then (λ p. with_name p.0 (VariableDraft p.1 p.2)) (three_of parts)
defined_by MapOf parts = option_and_then (λ p. with_name p.0 (MapDraft p.1 p.2)) (three_of parts)
defined_by Fungible parts = option_and_then (λ p. with_name p.0 (FungibleDraft p.1)) (one_or_two_of parts)
defined_by NonFungible parts = option_and_then (λ p. with_name p.0 (NonFungibleDraft p.1)) (two_of parts)
defined_by (Function access) parts = option_and_then (λ p. function_by access p.1 (header_of p.0)) (two_of parts)

abbrev pub definition : Option Defined → Item
definition (Some d) = Definition d.0 d.1
definition None = Misshapen

abbrev pub item_by : Option Word → List Tree → Tree → Item
item_by None parts e = Expression e
item_by (Some word) parts e = definition (defined_by word parts)

unfoldable pub item_of : Tree → Item
item_of e = item_by (word_at e) (parts_behind e) e

-- ---- with types

abbrev pub and_type : List ℕ → Option PlainType → Option (List (List ℕ × PlainType)) → Option (List (List ℕ × PlainType))
and_type k (Some t) (Some ts) = Some ((k, t) ∷ ts)
and_type k t ts = None

-- parameters with their types, if each has one
abbrev pub typed : List (List ℕ × Tree) → Option (List (List ℕ × PlainType))
typed [] = Some []
typed (p ∷ ps) = and_type p.0 (written_type p.1) (typed ps)

abbrev pub map_form : Option PlainType → Option PlainType → Option FormKind
map_form (Some k) (Some v) = Some (MapForm k v)
map_form k v = None

-- what a definition is, if each of its types is one
abbrev pub kind_of : Draft → Option FormKind
kind_of (ConstantDraft e) = Some (ConstantForm e)
kind_of (VariableDraft t e) = option_map (λ u. VariableForm u e) (written_type t)
kind_of (MapDraft k v) = map_form (written_type k) (written_type v)
kind_of (FungibleDraft supply) = Some (FungibleForm supply)
kind_of (NonFungibleDraft t) = option_map NonFungibleForm (written_type t)
kind_of (FunctionDraft access params body) = option_map (λ typed. FunctionForm access typed body) (typed params)

abbrev pub form_by : Item → Span → Option Form
form_by (Expression e) span = Some (record { name = None; kind = ExpressionForm e; span = span })
form_by Misshapen span = None
form_by (Definition name draft) span = option_map (λ kind. record { name = Some name; kind = kind; span = span }) (kind_of draft)

-- the form of an item, if it has its shape and its types are types
abbrev pub form_of : Tree → Option Form
form_of e = form_by (item_of e) (span_of e)

-- What a form names.
use Rattle.std.specs.Prelude.{◌≡◌, ℕ, ◌+◌, ◌||◌, Bool, true, false, List, [], ◌∷◌, ◌++◌, codes, if◌then◌else◌, nat_eq, slice_get, Option, Some, None, option_and_then}
use Rattle.std.specs.List.{list_any}
use Rattle.std.specs.Cmp.Lexicographic.{pointwise}
use Rattle.cl_sexpr.specs.Tree.{Tree, LeafAt, ListAt, TupleAt, Leaf, Named, Signed, Unsigned, Bytes, Ascii, Unicode, Standing, Local, Forest, Empty, Then, Pairs, NoPair, Pair}
use Rattle.cl_forms.specs.Forms.{Form, expression_of}

-- two names are one
abbrev pub same : List ℕ → List ℕ → Bool
same = pointwise nat_eq

-- a name is one of these
abbrev pub is_one_of : List (List ℕ) → List ℕ → Bool
is_one_of names x = list_any (same x) names

-- a name stands twice among these
abbrev pub stands_twice : List (List ℕ) → Bool
stands_twice [] = false
stands_twice (x ∷ xs) = is_one_of xs x || stands_twice xs

-- what stands first under a name
abbrev pub named_in : {A : Type 0} → List ℕ → List (List ℕ × A) → Option A
named_in x [] = None
named_in x (e ∷ es) = if same e.0 x then Some e.1 else named_in x es

-- What may stand behind the first atom of a list, so far as names go: nothing special; a key; a contract, which a function
-- follows; pairs that begin with keys.
pub data Place : Type 0 where
  Plain AtKey AtContract AtPairs : Place

abbrev pub place_behind : List ℕ → Place
place_behind x =
    if same x (codes "get") then AtKey
    else (if same x (codes "contract-call?") then AtContract
    else (if same x (codes "tuple") then AtPairs else Plain))

-- the place behind an item
abbrev pub next_place : Place → Place
next_place Plain = Plain
next_place AtKey = Plain
next_place AtContract = AtKey
next_place AtPairs = AtPairs

-- a row of one item
abbrev pub is_one : Forest → Bool
is_one Empty = false
is_one (Then e Empty) = true
is_one (Then e (Then d es)) = false

-- the atom of a leaf
abbrev pub leaf_atoms : Leaf → List (List ℕ)
leaf_atoms (Named x) = x ∷ []
leaf_atoms (Signed z) = []
leaf_atoms (Unsigned n) = []
leaf_atoms (Bytes bs) = []
leaf_atoms (Ascii cs) = []
leaf_atoms (Unicode cs) = []
leaf_atoms (Standing p) = []
leaf_atoms (Local n) = []

abbrev pub unless : Bool → List (List ℕ) → List (List ℕ)
unless true xs = []
unless false xs = xs

-- an atom at a place: the key behind get, and the contract and the function behind contract-call?, name nothing
abbrev pub atom_at : Place → Leaf → List (List ℕ)
atom_at Plain l = leaf_atoms l
atom_at AtKey l = []
atom_at AtContract l = []
atom_at AtPairs l = leaf_atoms l

-- the first atom of a list at a place: that of a pair behind tuple is a key
abbrev pub first_at : Place → Bool → List ℕ → List (List ℕ)
first_at Plain pair x = x ∷ []
first_at AtKey pair x = x ∷ []
first_at AtContract pair x = x ∷ []
first_at AtPairs pair x = unless pair (x ∷ [])

-- The atoms of an expression by which it names. Not among them are: a key of a tuple, the first part of a pair behind
-- `tuple`, the second item of a list that begins with `get`, and the second and third of one that begins with
-- `contract-call?`.
abbrev mutual
  pub atoms_in : Place → Tree → List (List ℕ)
  atoms_in place (LeafAt l at) = atom_at place l
  atoms_in place (ListAt items at) = atoms_of_list place items
  atoms_in place (TupleAt parts at) = atoms_of_pairs parts

  pub atoms_of_list : Place → Forest → List (List ℕ)
  atoms_of_list place Empty = []
  atoms_of_list place (Then (LeafAt (Named x) at) es) = first_at place (is_one es) x ++ atoms_of (place_behind x) es
  atoms_of_list place (Then e es) = atoms_in Plain e ++ atoms_of Plain es

  pub atoms_of : Place → Forest → List (List ℕ)
  atoms_of place Empty = []
  atoms_of place (Then e es) = atoms_in place e ++ atoms_of (next_place place) es

  pub atoms_of_pairs : Pairs → List (List ℕ)
  atoms_of_pairs NoPair = []
  atoms_of_pairs (Pair k e parts) = atoms_in Plain e ++ atoms_of_pairs parts

abbrev pub atoms_of_expression : Option Tree → List (List ℕ)
atoms_of_expression None = []
atoms_of_expression (Some e) = atoms_in Plain e

-- the names that a form's expression has
abbrev pub atoms_of_form : Form → List (List ℕ)
atoms_of_form f = atoms_of_expression (expression_of f.kind)

-- whether a name is among names
abbrev pub is_among : List (List ℕ) → Option (List ℕ) → Bool
is_among xs None = false
is_among xs (Some x) = is_one_of xs x

-- whether a form names another: an atom of its expression equals the other's name
abbrev pub names : Form → Form → Bool
names f g = is_among (atoms_of_form f) g.name

-- the form at a place names the form at another
pub record Names (forms : List Form) (n m : ℕ) : Type 0 where
  pub form : Form
  pub other : Form
  pub here : slice_get forms n ≡ Some form
  pub there : slice_get forms m ≡ Some other
  pub names : names form other ≡ true

-- the name of the form at a place
abbrev pub name_at : List Form → ℕ → Option (List ℕ)
name_at forms n = option_and_then (λ f. f.name) (slice_get forms n)

-- from a place on, the places of the forms with a name that is among these, in the order of the text
abbrev pub places_from : ℕ → List (List ℕ) → List Form → List ℕ
places_from n xs [] = []
places_from n xs (f ∷ fs) = if is_among xs f.name then n ∷ places_from (n + 1) xs fs else places_from (n + 1) xs fs

-- the places of the forms that a form names, in the order of the text
abbrev pub named_by : List Form → Option Form → List ℕ
named_by forms None = []
named_by forms (Some f) = places_from 0 (atoms_of_form f) forms

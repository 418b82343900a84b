-- The rules of forms, and the first that is broken.
use Rattle.std.specs.Prelude.{◌≡◌, ◌⊎◌, ℕ, ◌<◌, ◌≤◌, ◌||◌, Bool, false, List, [], ◌∷◌, ◌++◌, if◌then◌else◌, map, take, is_none, slice_get, Some}
use Rattle.std.specs.List.{list_any}
use Rattle.cl_sexpr.specs.declared.sexpr.Span.{Span}
use Rattle.cl_sexpr.specs.declared.rule.Rule.{Rule}
use Rattle.cl_sexpr.specs.declared.rule.Rule.TheVariants.{BadDefinition, BadType, BadName, NotInProfile, NameUsed}
use Rattle.cl_sexpr.specs.declared.rule.Break.{Break}
use Rattle.cl_sexpr.specs.Rules.{number_of}
use Rattle.cl_sexpr.specs.Tree.{Tree, LeafAt, ListAt, TupleAt, Leaf, Named, Signed, Unsigned, Bytes, Ascii, Unicode, Standing, Local, Forest, Empty, Then, Pairs, NoPair, Pair, span_of}
use Rattle.cl_forms.specs.Forms.{Form}
use Rattle.cl_forms.specs.Names.{same, is_one_of, stands_twice}
use Rattle.cl_forms.specs.Heads.{Version, is_reserved, left_out}
use Rattle.cl_forms.specs.Items.{Draft, ConstantDraft, VariableDraft, MapDraft, FungibleDraft, NonFungibleDraft, FunctionDraft, Item, Expression, Misshapen, Definition, item_of, kind_of, form_of}

-- ---- names that are left out

abbrev pub left_out_leaf : Leaf → Span → List Span
left_out_leaf (Named x) at = if is_one_of left_out x then at ∷ [] else []
left_out_leaf (Signed z) at = []
left_out_leaf (Unsigned n) at = []
left_out_leaf (Bytes bs) at = []
left_out_leaf (Ascii cs) at = []
left_out_leaf (Unicode cs) at = []
left_out_leaf (Standing p) at = []
left_out_leaf (Local n) at = []

-- the spans of the atoms in an item that are left out; a key in curly brackets is no atom
abbrev mutual
  pub left_out_in : Tree → List Span
  left_out_in (LeafAt l at) = left_out_leaf l at
  left_out_in (ListAt items at) = left_out_of items
  left_out_in (TupleAt parts at) = left_out_of_pairs parts

  pub left_out_of : Forest → List Span
  left_out_of Empty = []
  left_out_of (Then e es) = left_out_in e ++ left_out_of es

  pub left_out_of_pairs : Pairs → List Span
  left_out_of_pairs NoPair = []
  left_out_of_pairs (Pair k e parts) = left_out_in e ++ left_out_of_pairs parts

-- ---- names that are used

abbrev pub params_of : Draft → List (List ℕ)
params_of (ConstantDraft e) = []
params_of (VariableDraft t e) = []
params_of (MapDraft k v) = []
params_of (FungibleDraft supply) = []
params_of (NonFungibleDraft t) = []
params_of (FunctionDraft access params body) = map (λ p. p.0) params

abbrev pub defines : List ℕ → Item → Bool
defines x (Expression e) = false
defines x Misshapen = false
defines x (Definition name draft) = same x name

-- whether one of these items is a definition of the name, of the right shape
abbrev pub is_defined : List Item → List ℕ → Bool
is_defined items x = list_any (defines x) items

-- the name of an earlier item; or a parameter with the name of an earlier one, or of an item wherever it stands
abbrev pub uses_name : List Item → ℕ → List ℕ → List (List ℕ) → Bool
uses_name items n name params = is_defined (take n items) name || stands_twice params || list_any (is_defined items) params

-- ---- breaks

-- a rule in front of others, where it is broken
abbrev pub when : Bool → Rule → List Rule → List Rule
when broken rule rules = if broken then rule ∷ rules else rules

-- the rules that an item at a place of a text of this version breaks, with its own span
abbrev pub rules_of : Version → List Item → ℕ → Item → List Rule
rules_of version items n (Expression e) = []
rules_of version items n Misshapen = BadDefinition ∷ []
rules_of version items n (Definition name draft) =
    when (is_none (kind_of draft)) BadType
    (when (is_reserved version name || list_any (is_reserved version) (params_of draft)) BadName
    (when (uses_name items n name (params_of draft)) NameUsed []))

abbrev pub broken_at : Span → Rule → Break
broken_at span rule = record { rule = rule; span = span }

-- what an item at a place breaks
abbrev pub breaks_of : Version → List Tree → ℕ → Tree → List Break
breaks_of version items n e =
    map (λ at. broken_at at NotInProfile) (left_out_in e) ++ map (broken_at (span_of e)) (rules_of version (map item_of items) n (item_of e))

-- one of these
abbrev pub IsAmong : {A : Type 0} → A → List A → Type 0
IsAmong r [] = ⊥
IsAmong r (q ∷ qs) = (r ≡ q) ⊎ IsAmong r qs

-- the item at a place of a text of this version breaks a rule
pub record Breaks (version : Version) (items : List Tree) (n : ℕ) (r : Break) : Type 0 where
  pub item : Tree
  pub there : slice_get items n ≡ Some item
  pub broken : IsAmong r (breaks_of version items n item)

-- A break goes before another: one of an earlier item; within one item, one with a span that ends earlier; where the spans end
-- alike, one of a rule with a number that isn't above the other's.
abbrev pub GoesBefore : ℕ → Break → ℕ → Break → Type 0
GoesBefore n r m q = (n < m) ⊎ ((n ≡ m) × ((r.span.end < q.span.end) ⊎ ((r.span.end ≡ q.span.end) × (number_of r.rule ≤ number_of q.rule))))

-- a break that goes before all breaks of the items
pub record IsFirstBreak (version : Version) (items : List Tree) (r : Break) : Type 0 where
  pub place : ℕ
  pub breaks : Breaks version items place r
  pub first : (m : ℕ) (q : Break) → Breaks version items m q → GoesBefore place r m q

-- the forms of the items of a text of this version, which break no rule
pub record AreForms (version : Version) (items : List Tree) (forms : List Form) : Type 0 where
  pub unbroken : (n : ℕ) (r : Break) → Breaks version items n r → ⊥
  pub forms_are : map form_of items ≡ map Some forms

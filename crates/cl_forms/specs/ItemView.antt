-- What the code's items stand for.
use Rattle.std.specs.Prelude.{ℕ, List, [], ◌∷◌, Option, Some, None, option_map}
use Rattle.cl_sexpr.specs.Tree.{Tree}
use Rattle.cl_forms.specs.declared.kind.Draft.{Draft as DraftRead}
use Rattle.cl_forms.specs.declared.kind.Draft.TheVariants.{Constant, Variable, MapOf, Fungible, NonFungible, Function}
use Rattle.cl_forms.specs.declared.item.Item.{Item as ItemRead}
use Rattle.cl_forms.specs.declared.item.Item.TheVariants.{Expression as AnExpression, Misshapen as Shapeless, Definition as ADefinition}
use Rattle.cl_forms.specs.Items.{Draft, ConstantDraft, VariableDraft, MapDraft, FungibleDraft, NonFungibleDraft, FunctionDraft, Item, Expression, Misshapen, Definition, atom_of}

abbrev pub plain_draft : DraftRead → Draft
plain_draft (Constant e) = ConstantDraft e
plain_draft (Variable t e) = VariableDraft t e
plain_draft (MapOf k v) = MapDraft k v
plain_draft (Fungible supply) = FungibleDraft supply
plain_draft (NonFungible t) = NonFungibleDraft t
plain_draft (Function access params body) = FunctionDraft access params.items body

abbrev pub plain_item : ItemRead → Item
plain_item (AnExpression e) = Expression e
plain_item Shapeless = Misshapen
plain_item (ADefinition name draft) = Definition name (plain_draft draft)

-- what stands behind the first of a list
abbrev pub behind : {A : Type 0} → List A → List A
behind [] = []
behind (x ∷ xs) = xs

-- a name and a part
abbrev pub binding_in : Option (Tree × Tree) → Option (List ℕ × Tree)
binding_in None = None
binding_in (Some p) = option_map (λ x. (x, p.1)) (atom_of p.0)

-- the name that is the first of a list
abbrev pub first_atom : List Tree → Option (List ℕ)
first_atom [] = None
first_atom (e ∷ es) = atom_of e

-- the only item
abbrev pub one_of : List Tree → Option Tree
one_of [] = None
one_of (e ∷ []) = Some e
one_of (e ∷ d ∷ es) = None

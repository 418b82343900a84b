-- What both the meaning and the rules read: a binding, a pair of a tuple, the parts of match, a principal that a literal names,
-- what may be called.
use Rattle.std.specs.Prelude.{ℕ, List, [], ◌∷◌, Option, Some, None}
use Rattle.cl_types.specs.declared.sized.Access.{Access}
use Rattle.cl_types.specs.declared.sized.Access.TheVariants.{Public, ReadOnly, Private}
use Rattle.cl_c32.specs.declared.principal.Principal.{Principal}
use Rattle.cl_sexpr.specs.Tree.{Tree, LeafAt, ListAt, Leaf, Named, Standing, Local, Forest, Empty, Then, Pairs, NoPair, Pair}

-- the items of a list
abbrev pub trees_of : Forest → List Tree
trees_of Empty = []
trees_of (Then tree forest) = tree ∷ trees_of forest

-- the keys and expressions of a tuple, in the order of the text
abbrev pub pairs_of : Pairs → List (List ℕ × Tree)
pairs_of NoPair = []
pairs_of (Pair key e ps) = (key, e) ∷ pairs_of ps

-- a name and an expression in round brackets: a binding of let, or a pair of tuple
abbrev pub binding_of : Tree → Option (List ℕ × Tree)
binding_of (ListAt (Then (LeafAt (Named name) at) (Then e Empty)) at') = Some (name, e)
binding_of e = None

abbrev pub and_binding : Option (List ℕ × Tree) → Option (List (List ℕ × Tree)) → Option (List (List ℕ × Tree))
and_binding (Some p) (Some ps) = Some (p ∷ ps)
and_binding p ps = None

-- these items as bindings, where each is one
abbrev pub bindings_of : List Tree → Option (List (List ℕ × Tree))
bindings_of [] = Some []
bindings_of (e ∷ es) = and_binding (binding_of e) (bindings_of es)

-- the parts of match: the input, the name and the branch of some or ok, and the branch of none or that of err with its name
pub data MatchParts : Type 0 where
  OptionalMatch : Tree → List ℕ → Tree → Tree → MatchParts
  ResponseMatch : Tree → List ℕ → Tree → List ℕ → Tree → MatchParts

-- these items as the parts of match, where they are: four, or five with a second name
abbrev pub match_of : List Tree → Option MatchParts
match_of (i ∷ LeafAt (Named x) at ∷ a ∷ b ∷ []) = Some (OptionalMatch i x a b)
match_of (i ∷ LeafAt (Named x) at ∷ a ∷ LeafAt (Named y) at' ∷ b ∷ []) = Some (ResponseMatch i x a y b)
match_of es = None

-- what stands where match has names, also where the items aren't its parts: the second, and of five the fourth
abbrev pub name_places : List Tree → List Tree
name_places (i ∷ x ∷ a ∷ y ∷ b ∷ []) = x ∷ y ∷ []
name_places (i ∷ x ∷ es) = x ∷ []
name_places es = []

-- the contract of this name at the address of a contract
abbrev pub beside : Principal → List ℕ → Principal
beside p name = record p { contract = Some name }

-- the principal that a literal names; a contract's name alone is that of the contract beside this one
abbrev pub principal_named : Principal → Leaf → Option Principal
principal_named own (Standing p) = Some p
principal_named own (Local name) = Some (beside own name)
principal_named own leaf = None

-- what other contracts may call: a function of this access, unless it is private
abbrev pub open_to_others : {A : Type 0} → Access → A → Option A
open_to_others access f = elim access [ Public ↦ Some f | ReadOnly ↦ Some f | Private ↦ None ]

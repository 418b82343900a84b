-- Which spots of the state an expression of a contract reads and writes by itself, and which functions it applies.
use Rattle.std.specs.Prelude.{ℕ, List, [], ◌∷◌, ◌++◌, Option, Some, None}
use Rattle.cl_c32.specs.declared.principal.Principal.{Principal}
use Rattle.cl_sexpr.specs.Tree.{Tree, LeafAt, ListAt, TupleAt, Named, Forest, Empty, Then, Pairs, NoPair, Pair}
use Rattle.cl_forms.specs.declared.head.TokenNative.{TokenNative}
use Rattle.cl_forms.specs.declared.head.TokenNative.TheVariants.{SendStx, BurnStx}
use Rattle.cl_forms.specs.declared.head.Head.{Head}
use Rattle.cl_forms.specs.declared.head.Head.TheVariants.{OnToken, TupleOf, VarGet, VarSet, MapGet, MapSet, MapInsert, MapDelete, FtBalance, FtSupply, StxBalance, NftOwner, Let, Map, Filter, Fold, ContractCall}
use Rattle.cl_forms.specs.Heads.{Row}
use Rattle.cl_forms.specs.Shapes.{principal_named}
use Rattle.cl_tables.specs.declared.place.Place.{Place}
use Rattle.cl_tables.specs.declared.spot.Spot.{Spot}
use Rattle.cl_tables.specs.declared.spot.Spot.TheVariants.{Variable, MapOf, Token, Stx}

-- a spot is read, or read and written; a function of the contract is applied, or one of another contract
pub data Use : Type 0 where
  Reads : Spot → Use
  Writes : Spot → Use
  Applies : List ℕ → Use
  Crosses : Principal → List ℕ → Use

-- which natives names stand for in a text, by its version
abbrev pub Natives : Type 0
Natives = List ℕ → Option Row

-- what a contract has under a name
abbrev pub of_own : Principal → List ℕ → Place
of_own p x = record { contract = p; name = x }

-- ---- one native

-- where the first item is a name
abbrev pub named_use : (List ℕ → Use) → Forest → List Use
named_use make (Then (LeafAt (Named x) at) es) = make x ∷ []
named_use make es = []

abbrev pub uses_of_token : Principal → TokenNative → Forest → List Use
uses_of_token p SendStx es = Writes Stx ∷ []
uses_of_token p BurnStx es = Writes Stx ∷ []
uses_of_token p native es = named_use (λ x. Writes (Token (of_own p x))) es

abbrev pub crossing : Option Principal → List ℕ → List Use
crossing None f = []
crossing (Some q) f = Crosses q f ∷ []

-- where the first item names a principal, and the second a function
abbrev pub uses_across : Principal → Forest → List Use
uses_across p (Then (LeafAt leaf at) (Then (LeafAt (Named f) at') es)) = crossing (principal_named p leaf) f
uses_across p es = []

-- what a name given to map, filter or fold is: a native, which uses no spot, or a function
abbrev pub given_use : Option Row → List ℕ → List Use
given_use None f = Applies f ∷ []
given_use (Some row) f = []

abbrev pub uses_of_given : Natives → Forest → List Use
uses_of_given natives (Then (LeafAt (Named f) at) es) = given_use (natives f) f
uses_of_given natives es = []

-- a native with the items after it
abbrev pub uses_of_head : Natives → Principal → Head → Forest → List Use
uses_of_head natives p (OnToken native) es = uses_of_token p native es
uses_of_head natives p VarGet es = named_use (λ x. Reads (Variable (of_own p x))) es
uses_of_head natives p VarSet es = named_use (λ x. Writes (Variable (of_own p x))) es
uses_of_head natives p MapGet es = named_use (λ x. Reads (MapOf (of_own p x))) es
uses_of_head natives p MapSet es = named_use (λ x. Writes (MapOf (of_own p x))) es
uses_of_head natives p MapInsert es = named_use (λ x. Writes (MapOf (of_own p x))) es
uses_of_head natives p MapDelete es = named_use (λ x. Writes (MapOf (of_own p x))) es
uses_of_head natives p FtBalance es = named_use (λ x. Reads (Token (of_own p x))) es
uses_of_head natives p FtSupply es = named_use (λ x. Reads (Token (of_own p x))) es
uses_of_head natives p NftOwner es = named_use (λ x. Reads (Token (of_own p x))) es
uses_of_head natives p StxBalance es = Reads Stx ∷ []
uses_of_head natives p Map es = uses_of_given natives es
uses_of_head natives p Filter es = uses_of_given natives es
uses_of_head natives p Fold es = uses_of_given natives es
uses_of_head natives p ContractCall es = uses_across p es
uses_of_head natives p head es = []

-- the operator of a list that begins with a name: a native, or else a function of the contract
abbrev pub uses_of_call : Natives → Principal → Option Row → List ℕ → Forest → List Use
uses_of_call natives p (Some row) x es = uses_of_head natives p row.head es
uses_of_call natives p None x es = Applies x ∷ []

-- ---- expressions

-- how the items after an operator are evaluated: each as an expression; the first as a list of bindings; all as pairs
pub data Way : Type 0 where
  Plain AtBindings AtPairs : Way

abbrev pub way_of_head : Head → Way
way_of_head Let = AtBindings
way_of_head TupleOf = AtPairs
way_of_head head = Plain

abbrev pub way_of : Option Row → Way
way_of None = Plain
way_of (Some row) = way_of_head row.head

-- what an expression uses, its parts in the order of the text
abbrev mutual
  pub uses_in : Natives → Principal → Tree → List Use
  uses_in natives p (LeafAt leaf at) = []
  uses_in natives p (ListAt items at) = uses_of_list natives p items
  uses_in natives p (TupleAt ps at) = uses_of_pairs natives p ps

  pub uses_of_list : Natives → Principal → Forest → List Use
  uses_of_list natives p (Then (LeafAt (Named x) at) es) =
      uses_of_call natives p (natives x) x es ++ uses_behind natives p (way_of (natives x)) es
  uses_of_list natives p es = []

  pub uses_behind : Natives → Principal → Way → Forest → List Use
  uses_behind natives p way Empty = []
  uses_behind natives p Plain (Then e es) = uses_in natives p e ++ uses_behind natives p Plain es
  uses_behind natives p AtBindings (Then e es) =
      uses_of_bindings natives p e ++ uses_behind natives p Plain es
  uses_behind natives p AtPairs (Then e es) = uses_of_pair natives p e ++ uses_behind natives p AtPairs es

  pub uses_of_pair : Natives → Principal → Tree → List Use
  uses_of_pair natives p (ListAt (Then (LeafAt (Named k) at) (Then e Empty)) at') = uses_in natives p e
  uses_of_pair natives p e = []

  pub uses_of_bindings : Natives → Principal → Tree → List Use
  uses_of_bindings natives p (ListAt bs at) = uses_behind natives p AtPairs bs
  uses_of_bindings natives p e = []

  pub uses_of_pairs : Natives → Principal → Pairs → List Use
  uses_of_pairs natives p NoPair = []
  uses_of_pairs natives p (Pair k e ps) = uses_in natives p e ++ uses_of_pairs natives p ps

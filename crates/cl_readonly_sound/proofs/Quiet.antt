-- Expressions that are quiet: what they call doesn't write. Which functions are quiet is told by a predicate.
use Rattle.std.proofs.Common.{◌≡◌, ℕ, List, [], ◌∷◌, Option, Some, None}
use Rattle.std.specs.Prelude.{option_and_then}
use Rattle.cl_c32.specs.declared.principal.Principal.{Principal}
use Rattle.cl_sexpr.specs.Tree.{Tree, LeafAt, ListAt, TupleAt, Named, Forest, Empty, Then, Pairs, NoPair, Pair}
use Rattle.cl_forms.specs.declared.head.Head.{Head}
use Rattle.cl_forms.specs.declared.head.Head.TheVariants.{OnToken, TupleOf, VarSet, MapSet, MapInsert, MapDelete, Let, Map, Filter, Fold, ContractCall}
use Rattle.cl_forms.specs.Heads.{Row}
use Rattle.cl_meaning.specs.Deployed.{Contract, Deployed, Function, contract_at, function_in, native_of, function_of}
use Rattle.cl_meaning.specs.Scope.{Frame, BoundValues, Scope}
use Rattle.cl_meaning.specs.Calls.{callable, target_of, other_contract}

abbrev pub scope : Deployed → Frame → BoundValues → Scope
scope W F E = record { deployed = W; frame = F; bound = E }

-- how the items behind an operator are taken: as they stand; the first as a list of bindings; all as pairs
pub data Way : Type 0 where
  Plain AtBindings AtPairs : Way

abbrev pub way_of_head : Head → Way
way_of_head Let = AtBindings
way_of_head TupleOf = AtPairs
way_of_head head = Plain

abbrev pub way_of : Option Row → Way
way_of None = Plain
way_of (Some row) = way_of_head row.head

module _ (W : Deployed) (Q : Principal → Function → Type 0) (p : Principal) where
  abbrev pub IsQuietOne : Option Function → Type 0
  IsQuietOne None = Unit {0}
  IsQuietOne (Some f) = Q p f

  -- the function that is given by name
  abbrev pub IsQuietUse : Forest → Type 0
  IsQuietUse (Then (LeafAt (Named f) at) es) = IsQuietOne (function_of f (contract_at p W))
  IsQuietUse es = Unit {0}

  -- the function of another contract
  abbrev pub IsQuietAcross : Forest → Type 0
  IsQuietAcross (Then e (Then (LeafAt (Named x) at) es)) =
      (F : Frame) (E : BoundValues) → F.contract ≡ p → (c : Contract) → option_and_then (other_contract (scope W F E)) (target_of (scope W F E) e) ≡ Some c → (f : Function) → option_and_then callable (function_in x c.forms) ≡ Some f → Q c.principal f
  IsQuietAcross es = Unit {0}

  abbrev pub IsQuietHead : Head → Forest → Type 0
  IsQuietHead (OnToken act) es = ⊥
  IsQuietHead VarSet es = ⊥
  IsQuietHead MapSet es = ⊥
  IsQuietHead MapInsert es = ⊥
  IsQuietHead MapDelete es = ⊥
  IsQuietHead Map es = IsQuietUse es
  IsQuietHead Filter es = IsQuietUse es
  IsQuietHead Fold es = IsQuietUse es
  IsQuietHead ContractCall es = IsQuietAcross es
  IsQuietHead head es = Unit {0}

  abbrev pub IsQuietCall : Option Row → List ℕ → Forest → Type 0
  IsQuietCall (Some row) x es = IsQuietHead row.head es
  IsQuietCall None x es = IsQuietOne (function_of x (contract_at p W))

  abbrev mutual
    pub IsQuiet : Tree → Type 0
    IsQuiet (LeafAt leaf at) = Unit {0}
    IsQuiet (ListAt items at) = IsQuietList items
    IsQuiet (TupleAt ps at) = AreQuietPairs ps

    pub IsQuietList : Forest → Type 0
    IsQuietList (Then (LeafAt (Named x) at) es) = IsQuietCall (native_of x (contract_at p W)) x es × AreQuietBehind (way_of (native_of x (contract_at p W))) es
    IsQuietList es = Unit {0}

    pub AreQuietBehind : Way → Forest → Type 0
    AreQuietBehind way Empty = Unit {0}
    AreQuietBehind Plain (Then e es) = IsQuiet e × AreQuietBehind Plain es
    AreQuietBehind AtBindings (Then e es) = AreQuietBindings e × AreQuietBehind Plain es
    AreQuietBehind AtPairs (Then e es) = IsQuietPair e × AreQuietBehind AtPairs es

    pub IsQuietPair : Tree → Type 0
    IsQuietPair (ListAt (Then (LeafAt (Named k) at) (Then e Empty)) at') = IsQuiet e
    IsQuietPair e = Unit {0}

    pub AreQuietBindings : Tree → Type 0
    AreQuietBindings (ListAt bs at) = AreQuietBehind AtPairs bs
    AreQuietBindings e = Unit {0}

    pub AreQuietPairs : Pairs → Type 0
    AreQuietPairs NoPair = Unit {0}
    AreQuietPairs (Pair k e ps) = IsQuiet e × AreQuietPairs ps

  abbrev pub AllQuiet : List Tree → Type 0
  AllQuiet [] = Unit {0}
  AllQuiet (e ∷ es) = IsQuiet e × AllQuiet es

  abbrev pub AllQuietPairs : List Tree → Type 0
  AllQuietPairs [] = Unit {0}
  AllQuietPairs (e ∷ es) = IsQuietPair e × AllQuietPairs es

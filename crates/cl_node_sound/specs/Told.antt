-- The lines that were printed last of functions, entry by entry: what is charged within their bounds, and given of their types.
use Rattle.std.specs.Prelude.{◌≡◌, ℕ, ◌≤◌, ◌&&◌, List, [], ◌∷◌, if◌then◌else◌, Option, Some, None}
use Rattle.std.specs.Option.{option_or}
use Rattle.cl_types.specs.Types.{PlainType, size_of as type_size}
use Rattle.cl_c32.specs.declared.principal.Principal.{Principal}
use Rattle.cl_shapes.specs.declared.cost.Cost5.{Cost5}
use Rattle.cl_shapes.specs.Costs.{IsAtMost}
use Rattle.cl_shapes.specs.Limits.{limit_of}
use Rattle.cl_values.specs.Tree.{Tree}
use Rattle.cl_values.specs.Typed.{IsOf}
use Rattle.cl_values.specs.Wire.{size_of}
use Rattle.cl_meaning.specs.Limits.{Costs}
use Rattle.cl_rules.specs.Context.{Signature, same, same_principal}
use Rattle.cl_file.specs.declared.entry.Entry.{Entry}
use Rattle.cl_file.specs.declared.entry.Entry.TheVariants.{Deploy, Call, Block}
use Rattle.cl_tx.specs.declared.outcome.Bounds.{Bounds}
use Rattle.cl_tx.specs.declared.outcome.Reach.{Reach}
use Rattle.cl_tx.specs.declared.outcome.Reach.TheVariants.{Bound}
use Rattle.cl_tx.specs.declared.outcome.Rebound.{Rebound}
use Rattle.cl_tx.specs.declared.outcome.Outcome.{Outcome}
use Rattle.cl_tx.specs.declared.outcome.Outcome.TheVariants.{Aborted}
use Rattle.cl_tx.specs.declared.outcome.Stop.TheVariants.{CostLimit}
use Rattle.cl_tx.specs.declared.outcome.TxResult.{TxResult}
use Rattle.cl_tx.specs.Nodes.{contract_of}
use Rattle.cl_tx.specs.Rebounds.{reach_under}
use Rattle.cl_node_sound.specs.Sound.{given_by}

-- a line of a function: its bound, or the dimension in which that is above the limit, and the type that it returns
pub record FunctionLine : Type 0 where
  pub reach : Reach
  pub returns : PlainType

-- the line of a function that callers see, under a table
abbrev pub line_under : Costs → Signature → FunctionLine
line_under costs f = record { reach = reach_under costs f.bound; returns = f.returns }

-- the line that was printed last of each function, by its contract and its name
abbrev pub ToldLast : Type 0
ToldLast = Principal → List ℕ → Option FunctionLine

-- before all entries
abbrev pub none_told : ToldLast
none_told p x = None

-- the line of a name, among bounds with names and the types in the same order
abbrev pub line_named : List ℕ → List (List ℕ × Cost5) → List PlainType → Option FunctionLine
line_named x [] types = None
line_named x (b ∷ bs) [] = None
line_named x (b ∷ bs) (t ∷ ts) = if same b.0 x then Some (record { reach = Bound b.1; returns = t }) else line_named x bs ts

-- a function's line behind a deployment with these bounds and types
abbrev pub line_in : Option Bounds → List PlainType → List ℕ → Option FunctionLine
line_in None types x = None
line_in (Some bounds) types x = line_named x bounds.functions types

-- its line behind a block
abbrev pub rebound_in : List Rebound → Principal → List ℕ → Option FunctionLine
rebound_in [] p x = None
rebound_in (b ∷ bs) p x = if same_principal b.contract p && same b.name x then Some (record { reach = b.reach; returns = b.returns }) else rebound_in bs p x

-- After an entry with this result: behind a deployment there may be the lines of its contract, and behind a block those of all
-- deployed functions.
abbrev pub told_after : ToldLast → Entry → TxResult → ToldLast
told_after told (Deploy common name source version) r p x = if same_principal (contract_of common.sender name) p then option_or (line_in r.bounds r.types x) (told p x) else told p x
told_after told (Call common contract function args) r p x = told p x
told_after told (Block height) r p x = option_or (rebound_in r.rebounds p x) (told p x)

-- after entries with these results
abbrev pub told_by : ToldLast → List Entry → List TxResult → ToldLast
told_by told [] rs = told
told_by told (e ∷ es) [] = told
told_by told (e ∷ es) (r ∷ rs) = told_by (told_after told e r) es rs

-- something holds of each entry with its result and the lines that were printed before it
abbrev pub EachAfter : (ToldLast → Entry → TxResult → Type 0) → ToldLast → List Entry → List TxResult → Type 0
EachAfter Holds told [] [] = Unit {0}
EachAfter Holds told (e ∷ es) (r ∷ rs) = Holds told e r × EachAfter Holds (told_after told e r) es rs
EachAfter Holds told es rs = ⊥

-- ---- charges

-- a function's line has a bound, and this cost is at most that
pub record IsWithinTold (told : Option FunctionLine) (cost : Cost5) : Type 0 where
  pub bound : Cost5
  pub returns : PlainType
  pub is_told : told ≡ Some (record { reach = Bound bound; returns = returns })
  pub low : IsAtMost cost bound

-- a deployment is charged at most the bound that is told with it
pub record IsWithinOwn (r : TxResult) (cost : Cost5) : Type 0 where
  pub bounds : Bounds
  pub are_told : r.bounds ≡ Some bounds
  pub low : IsAtMost cost bounds.deploy

-- what an entry is charged, aborted or not; a call at most the bound that was printed last for its function, a block nothing
abbrev pub IsChargedWithin : ToldLast → Entry → TxResult → Type 0
IsChargedWithin told (Deploy common name source version) r = (cost : Cost5) → r.cost ≡ Some cost → IsWithinOwn r cost
IsChargedWithin told (Call common contract function args) r = (cost : Cost5) → r.cost ≡ Some cost → IsWithinTold (told contract function) cost
IsChargedWithin told (Block height) r = r.cost ≡ None

abbrev pub AreChargedWithin : ToldLast → List Entry → List TxResult → Type 0
AreChargedWithin = EachAfter IsChargedWithin

-- ---- limits

-- an entry is stopped by its limit
abbrev pub IsStopped : Outcome → Type 0
IsStopped (Aborted (CostLimit over)) = Unit {0}
IsStopped outcome = ⊥

-- an entry isn't stopped by a limit that in each dimension is no less than its bound: of a call that which was printed last for its
-- function, of a deployment that which is printed with it
abbrev pub IsNotStopped : ToldLast → Entry → TxResult → Type 0
IsNotStopped told (Deploy common name source version) r = (bounds : Bounds) → r.bounds ≡ Some bounds → IsAtMost bounds.deploy (limit_of common.limit) → IsStopped r.outcome → ⊥
IsNotStopped told (Call common contract function args) r = (bound : Cost5) (returns : PlainType) → told contract function ≡ Some (record { reach = Bound bound; returns = returns }) → IsAtMost bound (limit_of common.limit) → IsStopped r.outcome → ⊥
IsNotStopped told (Block height) r = IsStopped r.outcome → ⊥

abbrev pub AreNotStopped : ToldLast → List Entry → List TxResult → Type 0
AreNotStopped = EachAfter IsNotStopped

-- ---- answers

-- a value is of the type of a function's line, and its wire form is no longer than that type allows
pub record IsOfTypeTold (told : Option FunctionLine) (v : Tree) : Type 0 where
  pub line : FunctionLine
  pub is_told : told ≡ Some line
  pub typed : IsOf v line.returns
  pub small : size_of v ≤ type_size line.returns

-- what a call gives, an ok and an err as responses, is of the type that was printed last for its function
abbrev pub IsTyped : ToldLast → Entry → TxResult → Type 0
IsTyped told (Deploy common name source version) r = Unit {0}
IsTyped told (Call common contract function args) r = (v : Tree) → given_by r.outcome ≡ Some v → IsOfTypeTold (told contract function) v
IsTyped told (Block height) r = Unit {0}

abbrev pub AreTyped : ToldLast → List Entry → List TxResult → Type 0
AreTyped = EachAfter IsTyped

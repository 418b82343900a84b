-- Tables of costs that change at stated heights.
use Rattle.std.specs.Prelude.{◌≡◌, ℕ, suc, ◌<◌, ◌≤◌, nat_le, List, [], ◌∷◌, ◌++◌, length, if◌then◌else◌}
use Rattle.cl_shapes.specs.declared.function.CostFn.{CostFn}
use Rattle.cl_shapes.specs.Names.{CostTable}
use Rattle.cl_costs.specs.Tables.{function_of}

-- a height, and the table of the epoch that begins there
abbrev pub Epoch : Type 0
Epoch = ℕ × List CostFn

-- the table before all epochs, and the epochs
pub record ScheduleSeen : Type 0 where
  pub first : List CostFn
  pub epochs : List Epoch

-- from a height on the heights rise strictly
abbrev pub RiseFrom : ℕ → List Epoch → Type 0
RiseFrom height [] = Unit {0}
RiseFrom height (e ∷ es) = (height ≤ e.0) × RiseFrom (suc e.0) es

-- at most 64 epochs, whose heights are at least 1 and rise strictly
pub record AreEpochs (epochs : List Epoch) : Type 0 where
  pub few : length epochs ≤ 64
  pub rising : RiseFrom 1 epochs

-- how many epochs begin at a height or below it
abbrev pub begun : ℕ → List Epoch → ℕ
begun height [] = 0
begun height (e ∷ es) = if nat_le e.0 height then suc (begun height es) else begun height es

-- the table of the last epoch that begins at a height or below it, and else another
abbrev pub last_begun : ℕ → List CostFn → List Epoch → List CostFn
last_begun height table [] = table
last_begun height table (e ∷ es) = last_begun height (if nat_le e.0 height then e.1 else table) es

-- the number of epochs that have begun at a height
unfoldable pub epoch_at : ScheduleSeen → ℕ → ℕ
epoch_at schedule height = begun height schedule.epochs

-- the table at a height
unfoldable pub table_at : ScheduleSeen → ℕ → List CostFn
table_at schedule height = last_begun height schedule.first schedule.epochs

-- the cost functions at a height
abbrev pub costs_at : ScheduleSeen → ℕ → CostTable
costs_at schedule height = function_of (table_at schedule height)

-- one table for all heights
abbrev pub always : List CostFn → ScheduleSeen
always table = record { first = table; epochs = [] }

-- the table changes with the number of the epoch alone
abbrev pub OneTableAnEpoch : Type 0
OneTableAnEpoch = (schedule : ScheduleSeen) (a b : ℕ) → epoch_at schedule a ≡ epoch_at schedule b → table_at schedule a ≡ table_at schedule b

-- the number of the epoch doesn't fall as the height rises
abbrev pub EpochsNeverFall : Type 0
EpochsNeverFall = (schedule : ScheduleSeen) (a b : ℕ) → a ≤ b → epoch_at schedule a ≤ epoch_at schedule b

-- ---- where epochs begin

-- a height is below that of the first of these epochs
abbrev pub IsBefore : ℕ → List Epoch → Type 0
IsBefore height [] = Unit {0}
IsBefore height (e ∷ es) = height < e.0

-- below the first epoch the table is the first, and no epoch has begun
abbrev pub FirstRules : Type 0
FirstRules = (schedule : ScheduleSeen) (height : ℕ) → RiseFrom 1 schedule.epochs → IsBefore height schedule.epochs → (table_at schedule height ≡ schedule.first) × (epoch_at schedule height ≡ 0)

-- from the height of an epoch on, and below that of the next, the table is the epoch's, and the number is its place, counted from 1
abbrev pub EachRules : Type 0
EachRules =
    (schedule : ScheduleSeen) (before after : List Epoch) (e : Epoch) (height : ℕ) → RiseFrom 1 schedule.epochs → schedule.epochs ≡ before ++ e ∷ after → e.0 ≤ height → IsBefore height after →
    (table_at schedule height ≡ e.1) × (epoch_at schedule height ≡ suc (length before))

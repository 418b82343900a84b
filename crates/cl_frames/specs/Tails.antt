-- What follows where a native that isn't on values alone has the values of its parts.
use Rattle.std.specs.Prelude.{ℕ, List, zip}
use Rattle.cl_shapes.specs.declared.name.CostName.TheVariants.{Take as TakeCost, Make, ReadVar, WriteVar, WriteMap, ReadToken, WriteToken, Event as EventCost}
use Rattle.cl_c32.specs.declared.principal.Principal.{Principal}
use Rattle.cl_values.specs.Tree.{Tree as Val, UintV, TupleV}
use Rattle.cl_values.specs.Wire.{wire, size_of}
use Rattle.cl_values.specs.Sequences.{optional, within_length}
use Rattle.cl_values.specs.Tuples.{part_at, sorted_entries}
use Rattle.cl_values.specs.Computed.{Gives}
use Rattle.cl_maps.specs.Maps.{get}
use Rattle.cl_events.specs.declared.event.EventKind.TheVariants.{Print}
use Rattle.cl_events.specs.State.{State, with_event}
use Rattle.cl_forms.specs.declared.head.TokenNative.{TokenNative}
use Rattle.cl_forms.specs.declared.head.TokenNative.TheVariants as tokens
use Rattle.cl_meaning.specs.Answers.{Answer, stop, give, wrong, charged, with_known, outcome_of}
use Rattle.cl_meaning.specs.Scope.{Scope, Frame, sizes}
use Rattle.cl_meaning.specs.Data.{here, variable_set, with_map, found_at, entry_at, set_entry, insert_entry, delete_entry, key_and_value}
use Rattle.cl_meaning.specs.Tokens.{balance_in, owner_value, act_of, acts}
use Rattle.cl_frames.specs.ActParts.{principal_of}
use Rattle.cl_code.specs.declared.op.NameNative.{NameNative}
use Rattle.cl_code.specs.declared.op.NameNative.TheVariants.{Get, VarGet, VarSet, MapGet, MapSet, MapInsert, MapDelete, FtBalance, FtSupply, NftOwner, MintFt, BurnFt, SendFt, MintNft, BurnNft, SendNft}
use Rattle.cl_frames.specs.declared.taking.Taking.{Taking}
use Rattle.cl_frames.specs.declared.taking.Taking.TheVariants.{Nothing, One, All}

-- which parts a native with a name takes
abbrev pub taking_of : NameNative → Taking
taking_of VarGet = Nothing
taking_of FtSupply = Nothing
taking_of Get = One
taking_of VarSet = One
taking_of MapGet = One
taking_of MapDelete = One
taking_of FtBalance = One
taking_of NftOwner = One
taking_of native = All

-- a variable is read
abbrev pub variable_read : Scope → List ℕ → State → Answer Val
variable_read S x s = with_known (get (here S x) s.variables) (λ v t. charged ReadVar (size_of v) (give v t)) s

-- a token's supply is read
abbrev pub supply_read : Scope → List ℕ → State → Answer Val
supply_read S x s = charged ReadToken 0 (with_known (get (here S x) s.fungibles) (λ l. give (UintV l.supply)) s)

-- a native that takes no part
abbrev pub with_nothing : NameNative → Scope → List ℕ → State → Answer Val
with_nothing VarGet S x s = variable_read S x s
with_nothing FtSupply S x s = supply_read S x s
with_nothing native S x s = wrong s

-- the part at a key
abbrev pub part_taken : List ℕ → Val → State → Answer Val
part_taken key v s = charged TakeCost (size_of v) (stop (outcome_of (part_at key v)) s)

-- a variable is given a value
abbrev pub variable_written : Scope → List ℕ → Val → State → Answer Val
variable_written S x v s = charged WriteVar (size_of v) (with_known (get (here S x) s.variables) (variable_set (here S x) v) s)

-- an entry of a map is read
abbrev pub entry_read : Scope → List ℕ → Val → State → Answer Val
entry_read S m key s = with_map S m (λ t. found_at key (optional (entry_at S m key t)) t) s

-- an entry of a map is deleted
abbrev pub entry_deleted : Scope → List ℕ → Val → State → Answer Val
entry_deleted S m key s = charged WriteMap (size_of key) (with_map S m (delete_entry S m key) s)

-- what a principal holds of a token is read
abbrev pub balance_read : Scope → List ℕ → Val → State → Answer Val
balance_read S x v s = charged ReadToken (size_of v) (with_known (get (here S x) s.fungibles) (balance_in v) s)

-- the owner of an asset is read
abbrev pub owner_read : Scope → List ℕ → Val → State → Answer Val
owner_read S x id s = charged ReadToken (size_of id) (with_known (get (here S x) s.nonfungibles) (λ owners. with_known (owner_value (get (wire id) owners)) give) s)

-- a native that takes one part
abbrev pub with_one : NameNative → Scope → List ℕ → Val → State → Answer Val
with_one Get S x v s = part_taken x v s
with_one VarSet S x v s = variable_written S x v s
with_one MapGet S x v s = entry_read S x v s
with_one MapDelete S x v s = entry_deleted S x v s
with_one FtBalance S x v s = balance_read S x v s
with_one NftOwner S x v s = owner_read S x v s
with_one native S x v s = wrong s

-- an entry of a map is written
abbrev pub entry_written : Scope → List ℕ → List Val → State → Answer Val
entry_written S m vs s = charged WriteMap (sizes vs) (with_map S m (key_and_value (set_entry S m) vs) s)

-- an entry of a map is written where none is there
abbrev pub entry_inserted : Scope → List ℕ → List Val → State → Answer Val
entry_inserted S m vs s = charged WriteMap (sizes vs) (with_map S m (key_and_value (λ key v t. insert_entry S m key v (entry_at S m key t) t) vs) s)

-- an act on a token
abbrev pub token_acted : TokenNative → Scope → List ℕ → List Val → State → Answer Val
token_acted native S x vs s = charged WriteToken (sizes vs) (with_known (act_of native x vs) (acts S) s)

-- a native that takes all parts
abbrev pub with_all : NameNative → Scope → List ℕ → List Val → State → Answer Val
with_all MapSet S x vs s = entry_written S x vs s
with_all MapInsert S x vs s = entry_inserted S x vs s
with_all MintFt S x vs s = token_acted tokens.MintFt S x vs s
with_all BurnFt S x vs s = token_acted tokens.BurnFt S x vs s
with_all SendFt S x vs s = token_acted tokens.SendFt S x vs s
with_all MintNft S x vs s = token_acted tokens.MintNft S x vs s
with_all BurnNft S x vs s = token_acted tokens.BurnNft S x vs s
with_all SendNft S x vs s = token_acted tokens.SendNft S x vs s
with_all native S x vs s = wrong s

-- a value is printed
abbrev pub printed : Frame → Val → State → Answer Val
printed F v s = charged EventCost (size_of v) (give v (with_event F.contract (Print v) s))

-- what a principal holds of STX is read
abbrev pub stx_read : Val → State → Answer Val
stx_read v s = charged ReadToken (size_of v) (balance_in v s.stx s)

-- a sequence within a length
abbrev pub shortened : ℕ → Val → State → Answer Val
shortened most v s = charged Make (size_of v) (stop (outcome_of (within_length most v)) s)

-- what a principal has of something, by a function that says it
abbrev pub amount_read : (Principal → ℕ) → Val → State → Answer Val
amount_read amount v s = with_known (principal_of v) (λ who. give (UintV (amount who))) s

-- a tuple of values under keys
abbrev pub tuple_made : List (List ℕ) → List Val → State → Answer Val
tuple_made keys vs s = charged Make (sizes vs) (stop (outcome_of (Gives (TupleV (sorted_entries (zip keys vs))))) s)

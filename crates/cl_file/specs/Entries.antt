-- Entries.
use Rattle.std.specs.Prelude.{ℕ, ◌≤◌, ◌-◌, ◌^◌, nat_lt, List, [], ◌∷◌, codes, Option, Some, None, unwrap_or, Ok, Err, if◌then◌else◌}
use Rattle.std.specs.Str.{chars}
use Rattle.serde_json.specs.Data.{Data}
use Rattle.serde_json.specs.Find.{as_str}
use Rattle.cl_c32.specs.Address.{AddressParts}
use Rattle.cl_values.specs.Tree.{Tree}
use Rattle.cl_forms.specs.declared.version.Version.{Version}
use Rattle.cl_forms.specs.declared.version.Version.TheVariants.{One}
use Rattle.cl_post.specs.declared.condition.Mode.{Mode}
use Rattle.cl_post.specs.declared.condition.Mode.TheVariants.{Allow}
use Rattle.cl_post.specs.declared.condition.Condition.{Condition}
use Rattle.cl_file.specs.Paths.{Read, below, and_then, said}
use Rattle.cl_file.specs.Objects.{Values, Kind, Table, plain, needed, optional, and_more, no_more, object_by, sole}
use Rattle.cl_file.specs.Kinds.{whole, mode, clarity, five, address, contract, deployed_name, some_literals}
use Rattle.cl_file.specs.Names.{names_of, entry_kind}
use Rattle.cl_file.specs.Conditions.{post}
use Rattle.cl_file.specs.declared.entry.Common.{Common}
use Rattle.cl_file.specs.declared.entry.Entry.{Entry}
use Rattle.cl_file.specs.declared.entry.Entry.TheVariants as entry_
use Rattle.cl_file.specs.declared.kind.Contract.{Contract}
use Rattle.cl_file.specs.declared.names.Object.TheVariants.{Block, Deploy, Call}
use Rattle.cl_file.specs.declared.names.EntryKind.{EntryKind}
use Rattle.cl_file.specs.declared.names.EntryKind.TheVariants as kind
use Rattle.cl_file.specs.declared.refusal.TxRefusal.TheVariants.{Field, HeightFalls}

-- limit, mode and conditions, and what is behind them
abbrev pub Terms : Type 0 → Type 0
Terms A = Option (List ℕ) × (Option Mode × (Option (List Condition) × A))

abbrev pub terms_and : {A : Type 0} → Table A → Table (Terms A)
terms_and rest = and_more (optional (plain five)) (and_more (optional (plain mode)) (and_more (optional post) rest))

abbrev pub block_table : Table (ℕ × Unit {0})
block_table = and_more (needed (plain whole)) no_more

abbrev pub deploy_table : Table (AddressParts × (List ℕ × (List ℕ × Terms (Option Version × Unit {0}))))
deploy_table = and_more (needed (plain address)) (and_more (needed (plain deployed_name)) (and_more (needed (plain as_str)) (terms_and (and_more (optional (plain clarity)) no_more))))

abbrev pub call_table : Table (AddressParts × (Contract × (List ℕ × (List Tree × Terms (Unit {0})))))
call_table = and_more (needed (plain address)) (and_more (needed (plain contract)) (and_more (needed (plain as_str)) (and_more (needed some_literals) (terms_and no_more))))

abbrev pub no_limit : List ℕ
no_limit = let most = 2 ^ 64 - 1 in most ∷ most ∷ most ∷ most ∷ most ∷ []

abbrev pub common : AddressParts → Option (List ℕ) → Option Mode → Option (List Condition) → Common
common sender limit means conditions = record { sender = sender; limit = unwrap_or limit no_limit; mode = unwrap_or means Allow; conditions = unwrap_or conditions [] }

abbrev pub common_in : {A : Type 0} → AddressParts → Terms A → Common
common_in sender t = common sender t.0 t.1.0 t.1.1.0

unfoldable pub block : Kind Entry
block values path d = and_then (object_by (names_of Block) block_table values path d) (λ r. Ok (entry_.Block r.0))

-- a text that says nothing of its version is of version 1
abbrev pub deployment : AddressParts → List ℕ → List ℕ → Terms (Option Version × Unit {0}) → Entry
deployment sender name source t = entry_.Deploy (common_in sender t) name source (unwrap_or t.1.1.1.0 One)

unfoldable pub deploy : Kind Entry
deploy values path d = and_then (object_by (names_of Deploy) deploy_table values path d) (λ r. Ok (deployment r.0 r.1.0 r.1.1.0 r.1.1.1))

unfoldable pub call : Kind Entry
call values path d = and_then (object_by (names_of Call) call_table values path d) (λ r. Ok (entry_.Call (common_in r.0 r.1.1.1.1) r.1.0.principal r.1.1.0 r.1.1.1.0))

abbrev pub entry_by : Option EntryKind → Kind Entry
entry_by (Some kind.Block) = block
entry_by (Some kind.Deploy) = deploy
entry_by (Some kind.Call) = call
entry_by None = λ values path d. Err (Field (chars path))

-- an entry, by the name of its one member
unfoldable pub entry : Kind Entry
entry values path d = and_then (said path (sole d)) (λ p. entry_by (entry_kind p.0) values (below path p.0) p.1)

-- ---- heights

abbrev pub height_after : ℕ → Entry → ℕ
height_after height (entry_.Block h) = h
height_after height (entry_.Deploy c name source version) = height
height_after height (entry_.Call c p function args) = height

-- the height after entries
abbrev pub height_of : ℕ → List Entry → ℕ
height_of height [] = height
height_of height (e ∷ es) = height_of (height_after height e) es

-- from a height on the heights of blocks never fall
abbrev pub NeverFall : ℕ → List Entry → Type 0
NeverFall height [] = Unit {0}
NeverFall height (e ∷ es) = (height ≤ height_after height e) × NeverFall (height_after height e) es

-- an entry after a height
abbrev pub rising : ℕ → List ℕ → Entry → Read Entry
rising height path (entry_.Block h) = if nat_lt h height then Err (HeightFalls (chars (below path (codes "block/height")))) else Ok (entry_.Block h)
rising height path (entry_.Deploy c name source version) = Ok (entry_.Deploy c name source version)
rising height path (entry_.Call c p function args) = Ok (entry_.Call c p function args)

unfoldable pub entry_after : Values → ℕ → List ℕ → Data → Read Entry
entry_after values height path d = and_then (entry values path d) (rising height path)

-- an entry behind those that were read
abbrev pub entry_at : Values → List Entry → List ℕ → Data → Read Entry
entry_at values done path d = entry_after values (height_of 0 done) path d

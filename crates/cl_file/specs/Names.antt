-- The names of the members of objects, in order.
use Rattle.std.specs.Prelude.{ℕ, List, [], ◌∷◌, codes, Option, Some, None, if◌then◌else◌}
use Rattle.std.specs.Str.{bytes_eq}
use Rattle.cl_file.specs.declared.names.Object.{Object}
use Rattle.cl_file.specs.declared.names.Object.TheVariants.{Stx, Ft, Nft, Holder, Block, Deploy, Call, Epoch, File, SecondFile}
use Rattle.cl_file.specs.declared.names.ConditionKind.{ConditionKind}
use Rattle.cl_file.specs.declared.names.ConditionKind.TheVariants as on
use Rattle.cl_file.specs.declared.names.EntryKind.{EntryKind}
use Rattle.cl_file.specs.declared.names.EntryKind.TheVariants as kind

abbrev pub names_of : Object → List (List ℕ)
names_of Stx = codes "principal" ∷ codes "code" ∷ codes "amount" ∷ []
names_of Ft = codes "principal" ∷ codes "contract" ∷ codes "token" ∷ codes "code" ∷ codes "amount" ∷ []
names_of Nft = codes "principal" ∷ codes "contract" ∷ codes "token" ∷ codes "id" ∷ codes "sent" ∷ []
names_of Holder = codes "principal" ∷ codes "stx" ∷ []
names_of Block = codes "height" ∷ []
names_of Deploy = codes "sender" ∷ codes "name" ∷ codes "source" ∷ codes "limit" ∷ codes "mode" ∷ codes "post" ∷ codes "clarity" ∷ []
names_of Call = codes "sender" ∷ codes "contract" ∷ codes "function" ∷ codes "args" ∷ codes "limit" ∷ codes "mode" ∷ codes "post" ∷ []
names_of Epoch = codes "height" ∷ codes "costs" ∷ []
names_of File = codes "version" ∷ codes "genesis" ∷ codes "entries" ∷ []
names_of SecondFile = codes "version" ∷ codes "genesis" ∷ codes "epochs" ∷ codes "entries" ∷ []

-- what a condition is on whose one member has this name
abbrev pub condition_kind : List ℕ → Option ConditionKind
condition_kind name =
    if bytes_eq name (codes "stx") then Some on.Stx
    else (if bytes_eq name (codes "ft") then Some on.Ft
    else (if bytes_eq name (codes "nft") then Some on.Nft else None))

-- what an entry is whose one member has this name
abbrev pub entry_kind : List ℕ → Option EntryKind
entry_kind name =
    if bytes_eq name (codes "deploy") then Some kind.Deploy
    else (if bytes_eq name (codes "call") then Some kind.Call
    else (if bytes_eq name (codes "block") then Some kind.Block else None))

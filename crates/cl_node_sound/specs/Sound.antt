-- Sound nodes: each contract stands for one text, accepted under some table of its own, the state is kept, and nothing was told or
-- moved.
use Rattle.std.specs.Prelude.{◌≡◌, ℕ, ◌<◌, ◌^◌, true, false, List, [], Option, Some, None}
use Rattle.std.specs.List.{All}
use Rattle.cl_types.specs.Types.{PlainType}
use Rattle.cl_c32.specs.Address.{IsAddress}
use Rattle.cl_c32.specs.ContractName.{IsContractName}
use Rattle.cl_c32.specs.declared.principal.Principal.{Principal}
use Rattle.cl_shapes.specs.declared.cost.Cost5.{Cost5}
use Rattle.cl_shapes.specs.Costs.{first_above, IsAtMost}
use Rattle.cl_values.specs.Tree.{Tree, ResponseV}
use Rattle.cl_values.specs.Typed.{IsOf}
use Rattle.cl_values.specs.Valid.{IsVal, IsPrincipal}
use Rattle.cl_meaning.specs.Kept.{Whole, Kept}
use Rattle.cl_meaning.specs.Limits.{Costs}
use Rattle.cl_rules.specs.Bills.{cost_under}
use Rattle.cl_rules.specs.Context.{Known, Names, Signature, known_at, named_in, signature_in}
use Rattle.cl_rules.specs.Acceptance.{most_cost}
use Rattle.cl_contract_sound.specs.Nodes.{AreContracts}
use Rattle.cl_file.specs.declared.entry.Entry.{Entry}
use Rattle.cl_file.specs.declared.entry.Entry.TheVariants.{Deploy, Call, Block}
use Rattle.cl_file.specs.Files.{FileSeen}
use Rattle.cl_tx.specs.declared.outcome.Outcome.{Outcome}
use Rattle.cl_tx.specs.declared.outcome.Outcome.TheVariants.{Good, Bad, Plain}
use Rattle.cl_tx.specs.Nodes.{NodeSeen}

pub record IsSoundNode (node : NodeSeen) : Type 0 where
  pub contracts : AreContracts node.contracts node.known
  pub kept : Kept node.contracts Whole node.state
  pub height : node.height < 2 ^ 128
  pub no_events : node.state.events ≡ []
  pub no_moves : node.state.moves ≡ []

-- under this table the function that callers see under this name has a bound within the limit, and a cost is at most that
pub record IsWithinBound (costs : Costs) (ks : List Known) (p : Principal) (x : List ℕ) (cost : Cost5) : Type 0 where
  pub known : Known
  pub signature : Signature
  pub there : known_at p ks ≡ Some known
  pub told : signature_in x known.functions ≡ Some signature
  pub bounded : first_above most_cost (cost_under costs signature.bound) ≡ None
  pub low : IsAtMost cost (cost_under costs signature.bound)

-- the value that a call gives: an ok and an err are responses
abbrev pub given_by : Outcome → Option Tree
given_by (Good v) = Some (ResponseV true v)
given_by (Bad v) = Some (ResponseV false v)
given_by (Plain v) = Some v
given_by outcome = None

-- a value is of the type that the function returns which callers see under this name
pub record IsTypedAnswer (ks : List Known) (p : Principal) (x : List ℕ) (v : Tree) : Type 0 where
  pub known : Known
  pub signature : Signature
  pub there : known_at p ks ≡ Some known
  pub told : signature_in x known.functions ≡ Some signature
  pub typed : IsOf v signature.returns

-- a value of the type that stands under a name
pub record IsTypedUnder (types : Names) (x : List ℕ) (v : Tree) : Type 0 where
  pub type : PlainType
  pub there : named_in x types ≡ Some type
  pub typed : IsOf v type

-- principals and values of an entry are within the limits, and its height has 64 bits, as the types of the code keep them
abbrev pub HasParts : Entry → Type 0
HasParts (Deploy common name source version) = IsAddress common.sender × IsContractName name
HasParts (Call common contract function args) = IsAddress common.sender × IsPrincipal contract × All IsVal args
HasParts (Block height) = height < 2 ^ 64

-- and so are the holders and entries of a file
pub record FileHasParts (file : FileSeen) : Type 0 where
  pub holders : All (λ (h : Principal × ℕ). IsPrincipal h.0) file.genesis
  pub entries : All HasParts file.entries

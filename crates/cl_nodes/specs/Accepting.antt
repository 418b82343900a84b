-- What comes of a source before it is evaluated: a contract that is accepted, with its bounds, or a refusal.
use Rattle.std.specs.Prelude.{◌≡◌, List, [], ◌∷◌, ◌++◌, length, filter_map, Option, Some, None}
use Rattle.cl_types.specs.Types.{PlainType}
use Rattle.cl_types.specs.declared.fault.Fault.{Fault}
use Rattle.cl_types.specs.declared.fault.Fault.TheVariants.{Refused, NoMemory as OutOfMemory}
use Rattle.cl_c32.specs.declared.principal.Principal.{Principal}
use Rattle.cl_sexpr.specs.declared.rule.Refusal.{Refusal}
use Rattle.cl_forms.specs.Texts.{Text}
use Rattle.cl_meaning.specs.Deployed.{contract_at}
use Rattle.cl_code.specs.declared.definition.Definition.{Definition}
use Rattle.cl_code.specs.declared.definition.Definition.TheVariants.{Function}
use Rattle.cl_rules.specs.Context.{Known, known_at}
use Rattle.cl_rules.specs.FormRules.{Defined}
use Rattle.cl_rules.specs.Acceptance.{NoneWrites, TypedAs}
use Rattle.cl_contracts.specs.declared.checked.Checked.{Checked}
use Rattle.cl_contracts.specs.Seen.{IsIndexed, contract_under, forms_of}
use Rattle.cl_contracts.specs.Standings.{AreStanding, StandsAfter}
use Rattle.cl_tx.specs.declared.outcome.Bounds.{Bounds}
use Rattle.cl_tx.specs.declared.outcome.EntryRefusal.{EntryRefusal}
use Rattle.cl_tx.specs.declared.outcome.EntryRefusal.TheVariants.{ContractRefused}
use Rattle.cl_tx.specs.Nodes.{NodeSeen, Told, refused}
use Rattle.cl_tx.specs.Step.{DeploySteps}
use Rattle.cl_bound.specs.Known.{AreBoundsOf}
use Rattle.cl_nodes.specs.declared.admitting.Accepted.{Accepted as AcceptedOfCode}
use Rattle.cl_nodes.specs.declared.asked.Deployment.{Deployment}
use Rattle.cl_nodes.specs.declared.contracts.Contracts.{Contracts as ContractsOfCode}
use Rattle.cl_nodes.specs.declared.told.Told.{Told as ToldOfCode}
use Rattle.cl_nodes.specs.Asked.{principal_of, text_in}
use Rattle.cl_nodes.specs.Bounded.{IsBounded, costs_of, entries_of}
use Rattle.cl_nodes.specs.Sound.{Contracts, contracts_seen}

-- ---- accepted sources

-- no contract of this principal is deployed
pub record IsNew (contracts : Contracts) (principal : Principal) : Type 0 where
  pub none : contract_under principal contracts ≡ None
  pub none_seen : contract_at principal (contracts_seen contracts) ≡ None
  pub none_known : (known : List Known) → AreStanding [] contracts known → known_at principal known ≡ None

-- a contract of this principal stands for a text that breaks no rule before the bounds
pub record IsChecked (contracts : Contracts) (principal : Principal) (text : Text) (c : Checked) : Type 0 where
  pub principal_is : c.principal ≡ principal
  pub version : c.version ≡ text.version
  pub size : c.source_length ≡ length text.bytes
  pub indexed : IsIndexed c
  pub found : (known : List Known) → AreStanding [] contracts known → (defined : Defined) × TypedAs known principal text (forms_of c) c.order.items defined × NoneWrites known principal (forms_of c) × StandsAfter known c defined

-- ---- what is told

abbrev pub told_seen : ToldOfCode → Told
told_seen told = record { bounds = Some told.bounds; types = told.types }

-- the return type of a definition that is a function
abbrev pub type_returned : Definition → Option PlainType
type_returned (Function f) = Some f.returns
type_returned d = None

-- types, and behind them one more if there is one
abbrev pub with_type : List PlainType → Option PlainType → List PlainType
with_type types None = types
with_type types (Some t) = types ++ t ∷ []

-- what is told of a contract with these bounds
abbrev pub told_with : Bounds → List Definition → Told
told_with bounds definitions = record { bounds = Some bounds; types = filter_map type_returned definitions }

-- ---- what comes of a deployment before it is evaluated

-- a contract that is accepted, with its bounds
pub record IsAccepted (d : Deployment) (cs : ContractsOfCode) (a : AcceptedOfCode) : Type 0 where
  pub new : IsNew (entries_of cs) (principal_of d)
  pub checked : IsChecked (entries_of cs) (principal_of d) (text_in d) a.checked
  pub bounded : IsBounded (costs_of cs) (entries_of cs) a.checked a.told.bounds
  pub types : a.told.types ≡ filter_map type_returned a.checked.definitions.items
  pub bounds : AreBoundsOf (costs_of cs) (entries_of cs) a.checked a.bounds

-- this is why it isn't accepted
abbrev pub IsDeployRefusal : Deployment → ContractsOfCode → EntryRefusal → Type 0
IsDeployRefusal d cs refusal =
    (node : NodeSeen) → AreStanding [] (entries_of cs) node.known → DeploySteps (costs_of cs) node d.common.now (principal_of d) (text_in d) (refused node refusal)

-- the refusal of an entry for a rule that its source breaks
abbrev pub IsRefusalOf : Fault Refusal → Fault EntryRefusal → Type 0
IsRefusalOf (Refused r) (Refused q) = q ≡ ContractRefused (record { rule = r.rule; span = r.span; names = r.names.items })
IsRefusalOf (Refused r) OutOfMemory = ⊥
IsRefusalOf OutOfMemory (Refused q) = ⊥
IsRefusalOf OutOfMemory OutOfMemory = Unit {0}

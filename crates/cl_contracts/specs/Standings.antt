-- Definitions with typed trees stand for typed forms; and what callers know of deployed contracts is what these define.
use Rattle.std.specs.Prelude.{◌≡◌, ◌≤◌, suc, List, [], ◌∷◌, ◌++◌, map, filter_map, slice_get, Option, Some, None}
use Rattle.cl_c32.specs.declared.principal.Principal.{Principal}
use Rattle.cl_code.specs.declared.definition.Definition.{Definition}
use Rattle.cl_code.specs.declared.definition.Definition.TheVariants.{Constant, Variable, MapOf, Fungible, NonFungible, Function, TopLevel}
use Rattle.cl_code.specs.Typed.{typeds}
use Rattle.cl_code.specs.Definitions.{form_defined}
use Rattle.cl_rules.specs.Faults.{form_rules}
use Rattle.cl_rules.specs.Context.{Known}
use Rattle.cl_rules.specs.Verdicts.{Found}
use Rattle.cl_rules.specs.FormRules.{Defined, nothing_defined, form_plan, form_faults, defined_after, return_of}
use Rattle.cl_rules.specs.FormTyping.{FormsTyped}
use Rattle.cl_rules.specs.Acceptance.{NoneWrites, known_of}
use Rattle.cl_contracts.specs.declared.parts.Parts.{Parts as Checked}
use Rattle.cl_contracts.specs.Contents.{ContractParts as Contract, DeployedParts as Deployed}
use Rattle.cl_contracts.specs.Seen.{forms_of, kind_at, trees_of}
use Rattle.cl_contracts.specs.Standing.{StandAll}

-- ---- one definition

-- a function's return type and height are those of what is found of its body
abbrev pub FactsOf : Definition → List Found → Type 0
FactsOf (Function f) (found ∷ fs) = ((return_of found).type ≡ Some f.returns) × (f.height ≡ suc found.height)
FactsOf d fs = Unit {0}

-- a definition stands for a typed form, of whose expression this is found
pub record StandsAs (D : Defined) (d : Definition) (fs : List Found) : Type 0 where
  pub trees : StandAll D.context (form_plan (kind_at d)) (typeds (trees_of d)) fs
  pub sound : form_rules (form_faults (kind_at d) fs) ≡ []
  pub facts : FactsOf d fs

-- ---- definitions in the order of evaluation

-- one definition after another stands for a typed form; the last defines this
abbrev pub AllStand : Defined → List Definition → Defined → Type 0
AllStand D [] E = D ≡ E
AllStand D (d ∷ ds) E = (fs : List Found) × StandsAs D d fs × AllStand (defined_after D (form_defined d) fs) ds E

-- a contract's definitions in the order of evaluation
abbrev pub definitions_in_order : Checked → List Definition
definitions_in_order c = filter_map (slice_get c.definitions.items) c.order.items

-- the definitions of a contract stand for typed forms after these deployed contracts, and define this
abbrev pub StandsAfter : List Known → Checked → Defined → Type 0
StandsAfter before c defined = AllStand (nothing_defined before c.principal c.version c.source_length) (definitions_in_order c) defined

-- the definitions of a contract stand for typed forms after some deployed contracts, none of its read-only functions writes, and
-- its text is within the limit
pub record IsWellFormed (c : Checked) : Type 0 where
  pub before : List Known
  pub defined : Defined
  pub stands : StandsAfter before c defined
  pub none_writes : NoneWrites before c.principal (forms_of c)
  pub small : c.source_length ≤ 1048576

-- ---- deployed contracts

-- one deployed contract after another stands for typed forms, after those before it; to callers they are these
abbrev pub AreStanding : List Known → List (Principal × Contract) → List Known → Type 0
AreStanding before [] after = before ≡ after
AreStanding before (e ∷ es) after =
    (defined : Defined) × AllStand (nothing_defined before e.0 e.1.checked.version e.1.checked.source_length) (definitions_in_order e.1.checked) defined
    × AreStanding (before ++ known_of e.0 e.1.checked.source_length defined ∷ []) es after

-- what callers know of the deployed contracts
abbrev pub Knows : Deployed → List Known → Type 0
Knows d known = AreStanding [] d.contracts known

-- callers know something of the deployed contracts: each of them stands for typed forms, after those before it
pub record IsKnown (deployed : Deployed) : Type 0 where
  pub known : List Known
  pub knows : Knows deployed known

-- a contract fits these deployed ones: after them, its definitions stand for typed forms
abbrev pub FitsAfter : Deployed → Checked → Type 0
FitsAfter d c = (known : List Known) → Knows d known → (defined : Defined) × StandsAfter known c defined

-- ---- what stands is typed

-- definitions in a row stand for forms that are typed
abbrev pub StandingIsTyped : Type 0
StandingIsTyped = (D E : Defined) (ds : List Definition) → AllStand D ds E → FormsTyped D (map form_defined ds) E

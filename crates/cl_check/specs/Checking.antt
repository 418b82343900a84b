-- What whole texts are checked as.
use Rattle.std.specs.Prelude.{◌≡◌, ℕ, List, [], length}
use Rattle.cl_types.specs.declared.fault.Fault.{Fault}
use Rattle.cl_types.specs.declared.fault.Fault.TheVariants.{Refused, NoMemory}
use Rattle.cl_c32.specs.declared.principal.Principal.{Principal}
use Rattle.cl_sexpr.specs.declared.rule.Break.{Break}
use Rattle.cl_sexpr.specs.declared.rule.Refusal.{Refusal}
use Rattle.cl_forms.specs.declared.version.Version.{Version}
use Rattle.cl_forms.specs.Texts.{Text}
use Rattle.cl_forms.specs.Forms.{Form}
use Rattle.cl_code.specs.declared.definition.Definition.{Definition}
use Rattle.cl_rules.specs.Acceptance.{FirstBreakBeforeBounds, NoneWrites, TypedAs, forms_at}
use Rattle.cl_rules.specs.Context.{Known}
use Rattle.cl_rules.specs.FormRules.{Defined, nothing_defined}
use Rattle.cl_rules.specs.Judging.{Fails, forms_judged}
use Rattle.cl_contracts.specs.declared.checked.Checked.{Checked}
use Rattle.cl_contracts.specs.declared.deployed.Deployed.{Deployed}
use Rattle.cl_contracts.specs.Seen.{forms_of}
use Rattle.cl_contracts.specs.Standings.{AllStand, Knows, definitions_in_order}
use Rattle.cl_check.specs.declared.reading.Program.{Program}
use Rattle.cl_check.specs.JudgingForms.{StandingAs}

-- the refusal that a break is, without names; want of memory stays so
abbrev pub IsRefusalOf : Fault Break → Fault Refusal → Type 0
IsRefusalOf (Refused b) (Refused r) = (r.rule ≡ b.rule) × (r.span ≡ b.span) × (r.names.items ≡ [])
IsRefusalOf (Refused b) NoMemory = ⊥
IsRefusalOf NoMemory (Refused r) = ⊥
IsRefusalOf NoMemory NoMemory = Unit {0}

-- ---- forms in their order

-- the forms of a program, in the order of evaluation
abbrev pub forms_in_order : Program → List Form
forms_in_order p = forms_at p.forms.items p.order.items

-- forms of a text of this version are judged, however long it is, and these definitions stand for them
abbrev pub StandForForms : Deployed → Principal → Version → List Form → List Definition → Type 0
StandForForms deployed principal version forms ds =
    (known : List Known) (size : ℕ) → Knows deployed known → StandingAs (nothing_defined known principal version size) forms ds

-- forms of a text of this version break a rule first, however long it is
abbrev pub BreaksForms : Deployed → Principal → Version → List Form → Break → Type 0
BreaksForms deployed principal version forms b =
    (known : List Known) (size : ℕ) → Knows deployed known → forms_judged (nothing_defined known principal version size) forms ≡ Fails b.rule b.span

-- ---- texts

-- the definitions of a contract, in the order of evaluation, stand for the typed forms of this text, and define this
abbrev pub StandsFor : List Known → Principal → Text → Checked → Defined → Type 0
StandsFor known principal text c defined =
    AllStand (nothing_defined known principal text.version (length text.bytes)) (definitions_in_order c) defined

-- the forms of a contract are those of this text, typed after the deployed contracts, and its trees stand for them
abbrev pub StandsForTyped : Deployed → Principal → Text → Checked → Type 0
StandsForTyped deployed principal text c =
    (known : List Known) → Knows deployed known → (defined : Defined) × TypedAs known principal text (forms_of c) c.order.items defined
    × StandsFor known principal text c defined

-- and no read-only function of it writes
abbrev pub IsContractOf : Deployed → Principal → Text → Checked → Type 0
IsContractOf deployed principal text c =
    (known : List Known) → Knows deployed known → (defined : Defined) × TypedAs known principal text (forms_of c) c.order.items defined
    × NoneWrites known principal (forms_of c) × StandsFor known principal text c defined

-- a refusal is the first break of this text before its bounds are looked at
abbrev pub IsFirstBreak : Deployed → Principal → Text → Refusal → Type 0
IsFirstBreak deployed principal text r =
    (known : List Known) → Knows deployed known → FirstBreakBeforeBounds known principal text r.rule r.span r.names.items

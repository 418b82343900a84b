-- A source on a node, before it is deployed.
use Rattle.std.specs.Prelude.{◌≡◌, ◌⊎◌, ℕ, nat_eq, List, [], Option, Some, None, if◌then◌else◌}
use Rattle.cl_c32.specs.declared.principal.Principal.{Principal}
use Rattle.cl_shapes.specs.declared.cost.Dimension.{Dimension}
use Rattle.cl_sexpr.specs.declared.rule.Rule.TheVariants.{BoundTooLarge}
use Rattle.cl_forms.specs.declared.version.Version.{Version}
use Rattle.cl_forms.specs.declared.version.Version.TheVariants.{One, Two}
use Rattle.cl_forms.specs.Texts.{Text, text_of}
use Rattle.cl_rules.specs.Context.{CostTable, Known}
use Rattle.cl_rules.specs.Acceptance.{Accepted as AcceptedText, Bounded, FirstBreakOf}
use Rattle.cl_rules.specs.FormRules.{Defined}
use Rattle.cl_rules.specs.Laws.{IsFirstAboveLimit}
use Rattle.cl_contracts.specs.declared.checked.Checked.{Checked}
use Rattle.cl_contracts.specs.declared.deployed.Deployed.{Deployed}
use Rattle.cl_contracts.specs.Seen.{deployed_seen, forms_of}
use Rattle.cl_contracts.specs.Standings.{Knows, StandsAfter}
use Rattle.cl_costs.specs.Schedules.{costs_at}
use Rattle.cl_tx.specs.declared.outcome.Bounds.{Bounds}
use Rattle.cl_tx.specs.Seen.{SourceBreak}
use Rattle.cl_tx.specs.Step.{told_of}
use Rattle.cl_nodes.specs.Seen.{Seen}
use Rattle.cl_session.specs.declared.session.Session.{Session}
use Rattle.cl_session.specs.Sessions.{IsCleared, IsSame}
use Rattle.cl_exports.specs.declared.outcome.Outcome.{Outcome}
use Rattle.cl_exports.specs.declared.outcome.Outcome.TheVariants.{Done, NoMemory, NoRequest, Refused as RefusedOutcome}
use Rattle.cl_exports.specs.declared.verdict.Verdict.{Verdict}
use Rattle.cl_exports.specs.declared.verdict.Verdict.TheVariants.{Accepted, Refused}
use Rattle.cl_exports.specs.Verdicts.{verdict_numbers, verdict_text}

-- a text is accepted as a contract, and these are its bounds
pub record IsAccepted (known : List Known) (costs : CostTable) (principal : Principal) (text : Text) (bounds : Bounds) : Type 0 where
  pub accepted : AcceptedText known principal costs text
  pub told : (told_of costs accepted.defined accepted.forms).bounds ≡ Some bounds

-- what comes of a text as the contract of a principal, after contracts of which callers know this, under these costs
abbrev pub IsVerdict : List Known → CostTable → Principal → Text → Verdict → Type 0
IsVerdict known costs principal text (Accepted bounds) = IsAccepted known costs principal text bounds
IsVerdict known costs principal text (Refused broken) = FirstBreakOf known principal costs text broken.rule broken.span broken.names

-- the same after deployed contracts
pub record IsVerdictAfter (deployed : Deployed) (costs : CostTable) (principal : Principal) (text : Text) (verdict : Verdict) : Type 0 where
  pub known : List Known
  pub knows : Knows deployed known
  pub is : IsVerdict known costs principal text verdict

-- the same on a node
pub record IsVerdictOn (n : Seen) (costs : CostTable) (principal : Principal) (text : Text) (verdict : Verdict) : Type 0 where
  pub deployed : Deployed
  pub contracts : deployed_seen deployed ≡ n.contracts
  pub after : IsVerdictAfter deployed costs principal text verdict

-- ---- by its bounds

-- the bounds of a contract are within the limit, and these
pub record HasBounds (deployed : Deployed) (costs : CostTable) (c : Checked) (bounds : Bounds) : Type 0 where
  pub within : (known : List Known) (defined : Defined) → Knows deployed known → StandsAfter known c defined → Bounded defined (forms_of c) costs
  pub told : (known : List Known) (defined : Defined) → Knows deployed known → StandsAfter known c defined → (told_of costs defined (forms_of c)).bounds ≡ Some bounds

-- a bound is above it, and this is the first
pub record IsTooDear (deployed : Deployed) (costs : CostTable) (c : Checked) (broken : SourceBreak) : Type 0 where
  pub dimension : Dimension
  pub rule : broken.rule ≡ BoundTooLarge dimension
  pub names : broken.names ≡ []
  pub first : (known : List Known) (defined : Defined) → Knows deployed known → StandsAfter known c defined → IsFirstAboveLimit defined (forms_of c) c.order.items costs dimension broken.span

-- what comes of a contract that breaks no rule before the bounds
abbrev pub IsVerdictOf : Deployed → CostTable → Checked → Verdict → Type 0
IsVerdictOf deployed costs c (Accepted bounds) = HasBounds deployed costs c bounds
IsVerdictOf deployed costs c (Refused broken) = IsTooDear deployed costs c broken

-- ---- calls

abbrev pub outcome_of : Verdict → Outcome
outcome_of (Accepted bounds) = Done
outcome_of (Refused broken) = RefusedOutcome

-- the version of the language with this number
abbrev pub version_of : ℕ → Option Version
version_of n = if nat_eq n 1 then Some One else (if nat_eq n 2 then Some Two else None)

-- a text was judged on a node, and what came of it is the numbers and the text of the session
pub record Checks (principal : Principal) (text : Text) (outcome : Outcome) (before after : Session) : Type 0 where
  pub verdict : Verdict
  pub judged : IsVerdictOn before.node (costs_at before.costs before.node.height) principal text verdict
  pub outcome_is : outcome ≡ outcome_of verdict
  pub numbers : after.numbers.items ≡ verdict_numbers verdict
  pub text_is : after.text.items ≡ verdict_text verdict
  pub same : IsSame before after

-- how a check ends: with what comes of the text, with no contract or no version, or without memory
pub data CheckEnds (contract : Option Principal) (version : Option Version) (source : List ℕ) (outcome : Outcome) (before after : Session) : Type 0 where
  checks : (principal : Principal) (v : Version) → contract ≡ Some principal → version ≡ Some v → Checks principal (text_of source v) outcome before after → CheckEnds contract version source outcome before after
  no_request : (contract ≡ None) ⊎ (version ≡ None) → outcome ≡ NoRequest → IsCleared before after → CheckEnds contract version source outcome before after
  lacks_memory : outcome ≡ NoMemory → IsSame before after → CheckEnds contract version source outcome before after

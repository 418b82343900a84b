-- Whether claims are the trace of an entry.
use Rattle.std.specs.Prelude.{List}
use Rattle.cl_costs.specs.Schedules.{ScheduleSeen}
use Rattle.cl_meaning.specs.Limits.{Costs}
use Rattle.cl_meaning.specs.Trace.{Claim as Told}
use Rattle.cl_rules.specs.Context.{Known}
use Rattle.cl_file.specs.declared.entry.Entry.{Entry}
use Rattle.cl_tx.specs.declared.outcome.Outcome.{Outcome}
use Rattle.cl_tx.specs.Nodes.{NodeSeen}
use Rattle.cl_tx.specs.Step.{costs_for}
use Rattle.cl_nodes.specs.Known.{IsNodeOf}
use Rattle.cl_nodes.specs.Seen.{Seen, node_with}
use Rattle.cl_nodes.specs.Sound.{Contracts, IsSoundWith}
use Rattle.cl_nodes.specs.Traces.{IsTrace}
use Rattle.cl_audit_walk.specs.declared.cursor.Claim.{Claim}
use Rattle.cl_audit.specs.declared.agreeing.Agreement.{Agreement}
use Rattle.cl_audit.specs.Agrees.{IsAgreement}

-- they are the trace that an entry with this outcome has at a sound node, or not
abbrev pub AgreesUnder : Costs → Contracts → Seen → Entry → Outcome → List Claim → Agreement → Type 0
AgreesUnder costs contracts before entry outcome claims agreement =
    (known : List Known) → IsSoundWith contracts before known → (told : List Told) × IsTrace costs (node_with known before) entry outcome told × IsAgreement told claims agreement

-- the same under a schedule of costs
pub record AgreesWith (schedule : ScheduleSeen) (before : Seen) (entry : Entry) (outcome : Outcome) (claims : List Claim) (agreement : Agreement) : Type 0 where
  pub from : NodeSeen
  pub is_from : IsNodeOf before from
  pub told : List Told
  pub is_trace : IsTrace (costs_for schedule from) from entry outcome told
  pub agrees : IsAgreement told claims agreement

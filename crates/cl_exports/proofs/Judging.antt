-- What comes of sources before they are deployed.
use Rattle.std.proofs.Common.{◌≡◌, ◌⊎◌, inl, inr, ℕ, List, [], Option, Some, sym, subst, ◌∙◌}
use Rattle.cl_c32.specs.declared.principal.Principal.{Principal}
use Rattle.cl_shapes.specs.declared.cost.Dimension.{Dimension}
use Rattle.cl_sexpr.specs.declared.rule.Refusal.{Refusal}
use Rattle.cl_forms.specs.declared.version.Version.{Version}
use Rattle.cl_forms.specs.Texts.{Text, text_of}
use Rattle.cl_rules.specs.Context.{CostTable, Known}
use Rattle.cl_rules.specs.Acceptance.{FirstBreakOf, NoneWrites, TypedAs, before_bounds, in_bounds, in_deployment}
use Rattle.cl_rules.specs.FormRules.{Defined}
use Rattle.cl_rules.specs.Laws.{IsFirstAboveLimit}
use Rattle.cl_contracts.specs.declared.checked.Checked.{Checked}
use Rattle.cl_contracts.specs.declared.deployed.Deployed.{Deployed}
use Rattle.cl_contracts.specs.Seen.{forms_of}
use Rattle.cl_contracts.specs.Standings.{IsKnown, Knows}
use Rattle.cl_check.specs.Checking.{IsFirstBreak}
use Rattle.cl_tx.specs.Seen.{SourceBreak}
use Rattle.cl_costs.specs.Schedules.{ScheduleSeen, costs_at}
use Rattle.cl_nodes.specs.Seen.{Seen}
use Rattle.cl_nodes.specs.Accepting.{IsChecked}
use Rattle.cl_session.specs.declared.session.Session.{Session}
use Rattle.cl_session.specs.Sessions.{IsCleared}
use Rattle.cl_exports.specs.declared.outcome.Outcome.{Outcome}
use Rattle.cl_exports.specs.declared.verdict.Verdict.{Verdict}
use Rattle.cl_exports.specs.declared.verdict.Verdict.TheVariants.{Accepted, Refused}
use Rattle.cl_exports.specs.Checking.{CheckEnds, Checks, HasBounds, IsTooDear, IsVerdictAfter, IsVerdictOf, IsVerdictOn, checks}

module _ (deployed : Deployed) (costs : CostTable) (principal : Principal) (text : Text) where
  -- a rule before the bounds
  pub breaks : IsKnown deployed → (r : Refusal) → IsFirstBreak deployed principal text r → IsVerdictAfter deployed costs principal text (Refused (record { rule = r.rule; span = r.span; names = r.names.items }))
  breaks is_known r first = record { known = is_known.known; knows = is_known.knows; is = before_bounds (first is_known.known is_known.knows) }

  module _ (c : Checked) (checked : IsChecked deployed.contracts principal text c) where
    above : (broken : SourceBreak) → (dear : IsTooDear deployed costs c broken) → (known : List Known) → Knows deployed known → FirstBreakOf known principal costs text broken.rule broken.span broken.names
    above broken dear known knows = let f = checked.found known knows in by f.0 f.1 f.2 (dear.first known f.0 knows f.3)
      where
        by : (defined : Defined) → TypedAs known principal text (forms_of c) c.order.items defined → NoneWrites known principal (forms_of c) → IsFirstAboveLimit defined (forms_of c) c.order.items costs dear.dimension broken.span → FirstBreakOf known principal costs text broken.rule broken.span broken.names
        by defined typed none (inl first) = in_bounds (forms_of c) c.order.items defined dear.dimension typed none first dear.rule dear.names
        by defined typed none (inr whole) = in_deployment (forms_of c) c.order.items defined dear.dimension typed none whole.0 dear.rule whole.1 dear.names

    -- a contract that breaks none
    pub judged : IsKnown deployed → (verdict : Verdict) → IsVerdictOf deployed costs c verdict → IsVerdictAfter deployed costs principal text verdict
    judged is_known (Accepted bounds) has =
        let f = checked.found is_known.known is_known.knows in
        record {
          known = is_known.known;
          knows = is_known.knows;
          is = record {
            accepted = record { forms = forms_of c; order = c.order.items; defined = f.0; typed = f.1; none_writes = f.2; bounded = has.within is_known.known f.0 is_known.knows f.3 };
            told = has.told is_known.known f.0 is_known.knows f.3;
          };
        }
    judged is_known (Refused broken) dear = record { known = is_known.known; knows = is_known.knows; is = above broken dear is_known.known is_known.knows }

-- a check of a session that was cleared first
pub checks_from : (contract : Option Principal) (version : Option Version) (source : List ℕ) (outcome : Outcome) (before cleared after : Session) (p : Principal) (v : Version)
    → contract ≡ Some p → Some v ≡ version → IsCleared before cleared → Checks p (text_of source v) outcome cleared after → CheckEnds contract version source outcome before after
checks_from contract version source outcome before cleared after p v is_p is_v was found =
    checks p v is_p (sym is_v) (record {
      verdict = found.verdict;
      judged = subst (λ (costs : ScheduleSeen). IsVerdictOn before.node (costs_at costs before.node.height) p (text_of source v) found.verdict) was.same.costs
          (subst (λ (n : Seen). IsVerdictOn n (costs_at cleared.costs n.height) p (text_of source v) found.verdict) was.same.node found.judged);
      outcome_is = found.outcome_is;
      numbers = found.numbers;
      text_is = found.text_is;
      same = record { node = found.same.node ∙ was.same.node; costs = found.same.costs ∙ was.same.costs };
    })

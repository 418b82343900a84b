-- The traces of entries that are run.
use Rattle.std.proofs.Common.{◌≡◌, ℕ, true, false, List, Some, None, sym, ap, subst, ◌∙◌}
use Rattle.std.specs.Prelude.{Option}
use Rattle.cl_types.specs.declared.sized.Access.{Access}
use Rattle.cl_types.specs.declared.sized.Access.TheVariants.{Public, ReadOnly, Private}
use Rattle.cl_c32.specs.declared.principal.Principal.{Principal}
use Rattle.cl_shapes.specs.declared.cost.Cost5.{Cost5}
use Rattle.cl_values.specs.Tree.{Tree, IntV, UintV, BoolV, BuffV, AsciiV, Utf8V, PrincipalV, ListV, TupleV, NoneV, SomeV, ResponseV}
use Rattle.cl_forms.specs.Texts.{Text, text_of}
use Rattle.cl_forms.specs.Forms.{Form}
use Rattle.cl_events.specs.State.{State}
use Rattle.cl_meaning.specs.Deployed.{Contract}
use Rattle.cl_meaning.specs.Deploying.{deployment}
use Rattle.cl_meaning.specs.Limits.{Costs, Limited, Gave, Threw, AbortedBy, Passed, Lost}
use Rattle.cl_meaning.specs.Trace.{Claim, trace_of}
use Rattle.cl_rules.specs.Context.{Known}
use Rattle.cl_rules.specs.Laws.{OneOrder}
use Rattle.cl_post.specs.Post.{holds}
use Rattle.cl_file.specs.declared.entry.Common.{Common}
use Rattle.cl_file.specs.declared.entry.Entry.{Entry}
use Rattle.cl_file.specs.declared.entry.Entry.TheVariants.{Deploy, Call, Block}
use Rattle.cl_tx.specs.declared.outcome.Outcome.{Outcome}
use Rattle.cl_tx.specs.declared.outcome.Outcome.TheVariants.{Moved, Done, Good, Bad, Plain, Aborted, Refused}
use Rattle.cl_tx.specs.Nodes.{NodeSeen, Stepped, Told, answered, call_ended, contract_of, deployment_ended, frame_of, purse_of, settled_by, with_contract}
use Rattle.cl_tx.specs.Step.{contract_with, costs_for}
use Rattle.cl_nodes.specs.Laws.{OneTrace}
use Rattle.cl_nodes.specs.Traces.{IsRunTraceAs, IsTraceAs, claims}

-- ---- entries that are run

abbrev pub IsRun : Outcome → Type 0
IsRun Moved = ⊥
IsRun Done = Unit {0}
IsRun (Good v) = Unit {0}
IsRun (Bad v) = Unit {0}
IsRun (Plain v) = Unit {0}
IsRun (Aborted why) = Unit {0}
IsRun (Refused why) = ⊥

module _ {A : Type 0} (shown : List Claim → A) (costs : Costs) (node : NodeSeen) (entry : Entry) (found : A) where
  pub of_run : (outcome : Outcome) → IsRun outcome → IsTraceAs shown costs node entry outcome found → IsRunTraceAs shown costs node entry found
  of_run Moved h t = absurd h
  of_run Done h t = t
  of_run (Good v) h t = t
  of_run (Bad v) h t = t
  of_run (Plain v) h t = t
  of_run (Aborted why) h t = t
  of_run (Refused why) h t = absurd h

  pub as_run : (outcome : Outcome) → IsRun outcome → IsRunTraceAs shown costs node entry found → IsTraceAs shown costs node entry outcome found
  as_run Moved h t = absurd h
  as_run Done h t = t
  as_run (Good v) h t = t
  as_run (Bad v) h t = t
  as_run (Plain v) h t = t
  as_run (Aborted why) h t = t
  as_run (Refused why) h t = absurd h

abbrev pub HasRun : Stepped → Type 0
HasRun s = IsRun s.result.outcome

settled_runs : (failing : Option ℕ) (before after : NodeSeen) (told : Told) (outcome : Outcome) (cost : Cost5) (s : State) → IsRun outcome → HasRun (settled_by failing before after told outcome cost s)
settled_runs None before after told outcome cost s h = h
settled_runs (Some index) before after told outcome cost s h = tt

some_run : (s t : Stepped) → Some s ≡ Some t → HasRun s → HasRun t
some_run s t e h = subst HasRun (one e) h
  where
    one : Some s ≡ Some t → s ≡ t
    one k = cc

answered_runs : (common : Common) (access : Access) (v : Tree) (node : NodeSeen) (cost : Cost5) (s : State) (t : Stepped) → answered common access v node cost s ≡ Some t → HasRun t
answered_runs common Public (ResponseV true v) node cost s t e = some_run _ t e (settled_runs (holds s.moves common.mode common.conditions) node node _ (Good v) cost s tt)
answered_runs common Public (ResponseV false v) node cost s t e = some_run _ t e tt
answered_runs common Public (IntV z) node cost s t e = absurd cc
answered_runs common Public (UintV n) node cost s t e = absurd cc
answered_runs common Public (BoolV b) node cost s t e = absurd cc
answered_runs common Public (BuffV b) node cost s t e = absurd cc
answered_runs common Public (AsciiV a) node cost s t e = absurd cc
answered_runs common Public (Utf8V u) node cost s t e = absurd cc
answered_runs common Public (PrincipalV p) node cost s t e = absurd cc
answered_runs common Public (ListV vs) node cost s t e = absurd cc
answered_runs common Public (TupleV es) node cost s t e = absurd cc
answered_runs common Public NoneV node cost s t e = absurd cc
answered_runs common Public (SomeV v) node cost s t e = absurd cc
answered_runs common ReadOnly v node cost s t e = some_run _ t e (settled_runs (holds s.moves common.mode common.conditions) node node _ (Plain v) cost s tt)
answered_runs common Private v node cost s t e = some_run _ t e (settled_runs (holds s.moves common.mode common.conditions) node node _ (Plain v) cost s tt)

-- a call that ends was run
pub call_runs : (common : Common) (access : Access) (node : NodeSeen) (l : Limited Tree) (t : Stepped) → call_ended common access node l ≡ Some t → HasRun t
call_runs common access node (Gave v s purse) t e = answered_runs common access v node purse.spent s t e
call_runs common access node (Threw v s purse) t e = absurd cc
call_runs common access node (AbortedBy why purse) t e = some_run _ t e tt
call_runs common access node (Passed over purse) t e = some_run _ t e tt
call_runs common access node (Lost purse) t e = absurd cc

-- and so was a deployment
pub deployment_runs : (common : Common) (node : NodeSeen) (told : Told) (known : Known) (l : Limited Contract) (t : Stepped) → deployment_ended common node told known l ≡ Some t → HasRun t
deployment_runs common node told known (Gave c s purse) t e = some_run _ t e (settled_runs (holds s.moves common.mode common.conditions) node (with_contract node c known) told Done purse.spent s tt)
deployment_runs common node told known (Threw v s purse) t e = some_run _ t e tt
deployment_runs common node told known (AbortedBy why purse) t e = some_run _ t e tt
deployment_runs common node told known (Passed over purse) t e = some_run _ t e tt
deployment_runs common node told known (Lost purse) t e = absurd cc

-- ---- the trace of a deployment

module _ (costs : Costs) (node : NodeSeen) (common : Common) (principal : Principal) (source : Text) where
  abbrev pub trace_with : List Form → List Claim
  trace_with forms = trace_of costs (purse_of common) (deployment node.contracts (frame_of node common.sender principal) (contract_with principal source forms) node.state)

-- ---- an entry has one trace

module _ {A : Type 0} (shown : List Claim → A) (order : OneOrder) (costs : Costs) (node : NodeSeen) where
  run_once : (entry : Entry) (a b : A) → IsRunTraceAs shown costs node entry a → IsRunTraceAs shown costs node entry b → a ≡ b
  run_once (Deploy common name source version) a b p q =
      let text = text_of source version in
      p.is
      ∙ ap (λ (forms : List Form). shown (trace_with costs node common (contract_of common.sender name) text forms))
      (order text p.accepted.forms q.accepted.forms p.accepted.order q.accepted.order p.accepted.typed.is_ordered q.accepted.typed.is_ordered).0
      ∙ sym q.is
  run_once (Call common contract function args) a b p q = p ∙ sym q
  run_once (Block height) a b p q = p ∙ sym q

  pub one_trace : (entry : Entry) (outcome : Outcome) (a b : A) → IsTraceAs shown costs node entry outcome a → IsTraceAs shown costs node entry outcome b → a ≡ b
  one_trace entry Moved a b p q = p ∙ sym q
  one_trace entry Done a b p q = run_once entry a b p q
  one_trace entry (Good v) a b p q = run_once entry a b p q
  one_trace entry (Bad v) a b p q = run_once entry a b p q
  one_trace entry (Plain v) a b p q = run_once entry a b p q
  one_trace entry (Aborted why) a b p q = run_once entry a b p q
  one_trace entry (Refused why) a b p q = p ∙ sym q

pub one_for_each : OneOrder → OneTrace
one_for_each order schedule node entry s a b steps x y = one_trace claims order (costs_for schedule node) node entry s.result.outcome a b x y

-- What an entry makes of a node is one.
use Rattle.std.proofs.Common.{◌≡◌, List, [], ◌∷◌, sym, ap, ◌∙◌, subst}
use Rattle.cl_c32.specs.declared.principal.Principal.{Principal}
use Rattle.cl_events.specs.declared.event.Event.{Event}
use Rattle.cl_forms.specs.Texts.{Text, text_of}
use Rattle.cl_costs.specs.Schedules.{ScheduleSeen}
use Rattle.cl_meaning.specs.Limits.{Costs}
use Rattle.cl_rules.specs.Laws.{AcceptedIsClean, OneDefined, OneOrder, OneFirstOf}
use Rattle.cl_file.specs.declared.entry.Common.{Common}
use Rattle.cl_file.specs.declared.entry.Entry.{Entry}
use Rattle.cl_file.specs.declared.entry.Entry.TheVariants.{Deploy, Call, Block}
use Rattle.cl_tx.specs.declared.outcome.EntryRefusal.TheVariants.{ContractRefused}
use Rattle.cl_tx.specs.declared.outcome.TxResult.{TxResult}
use Rattle.cl_file.specs.Files.{FileSeen}
use Rattle.cl_tx.specs.Nodes.{NodeSeen, Stepped, contract_of, refused}
use Rattle.cl_tx.specs.Step.{run_deployment, DeploySteps, name_taken, source_refused, evaluated, Steps, AllStep, Runs, Commits, committed, costs_for, first_node}
use Rattle.cl_tx.proofs.StepCases.{some_same, none_some}

module _ (clean : AcceptedIsClean) (one : OneDefined) (order : OneOrder) (first : OneFirstOf) where
  deploy_one : (costs : Costs) (node : NodeSeen) (common : Common) (principal : Principal) (source : Text) (s t : Stepped) → DeploySteps costs node common principal source s → DeploySteps costs node common principal source t → s ≡ t
  deploy_one costs node common principal source s t (name_taken k e p) (name_taken l f q) = p ∙ sym q
  deploy_one costs node common principal source s t (name_taken k e p) (source_refused rule span names f b q) = absurd (none_some k _ f e)
  deploy_one costs node common principal source s t (name_taken k e p) (evaluated f a q) = absurd (none_some k _ f e)
  deploy_one costs node common principal source s t (source_refused rule span names e b p) (name_taken l f q) = absurd (none_some l _ e f)
  deploy_one costs node common principal source s t (source_refused rule span names e b p) (source_refused rule' span' names' f c q) =
      let same = first node.known principal costs source rule rule' span span' names names' b c in
      p ∙ (λ i. refused node (ContractRefused (record { rule = same.0 i; span = same.1 i; names = same.2 i }))) ∙ sym q
  deploy_one costs node common principal source s t (source_refused rule span names e b p) (evaluated f a q) = absurd (clean node.known principal costs source rule span names a b)
  deploy_one costs node common principal source s t (evaluated e a p) (name_taken l f q) = absurd (none_some l _ e f)
  deploy_one costs node common principal source s t (evaluated e a p) (source_refused rule span names f b q) = absurd (clean node.known principal costs source rule span names a b)
  deploy_one costs node common principal source s t (evaluated e a p) (evaluated f b q) =
      let forms = order source a.forms b.forms a.order b.order a.typed.is_ordered b.typed.is_ordered in
      let defined = one node.known principal costs source a b in
      some_same s t (sym p ∙ (λ i. run_deployment costs node common principal source (forms.0 i) (defined i)) ∙ q)

  pub step_one : (schedule : ScheduleSeen) (node : NodeSeen) (entry : Entry) (s t : Stepped) → Steps schedule node entry s → Steps schedule node entry t → s ≡ t
  step_one schedule node (Deploy common name source version) s t x y = deploy_one (costs_for schedule node) node common (contract_of common.sender name) (text_of source version) s t x y
  step_one schedule node (Call common contract function args) s t x y = some_same s t (sym x ∙ y)
  step_one schedule node (Block height) s t x y = x ∙ sym y

  all_one : (schedule : ScheduleSeen) (es : List Entry) (node : NodeSeen) (r q : List TxResult) (m n : NodeSeen) → AllStep schedule node es r m → AllStep schedule node es q n → (r ≡ q) × (m ≡ n)
  all_one schedule [] node r q m n x y = (x.0 ∙ sym y.0, x.1 ∙ sym y.1)
  all_one schedule (e ∷ es) node r q m n x y =
      let same : x.0 ≡ y.0 = step_one schedule node e x.0 y.0 x.2 y.2 in
      let rest = all_one schedule es y.0.node x.1 y.1 m n (subst (λ z. AllStep schedule z.node es x.1 m) same x.3) y.3 in
      (x.4 ∙ (λ i. (same i).result ∷ rest.0 i) ∙ sym y.4, rest.1)

  pub run_one : (schedule : ScheduleSeen) (file : FileSeen) (r q : List TxResult) (m n : NodeSeen) → Runs schedule file r m → Runs schedule file q n → (r ≡ q) × (m ≡ n)
  run_one schedule file r q m n x y = all_one schedule file.entries (first_node file.genesis) r q m n x.steps y.steps

  pub commit_one : (schedule : ScheduleSeen) (file : FileSeen) (a b : List Event) → Commits schedule file a → Commits schedule file b → a ≡ b
  commit_one schedule file a b x y = x.events_are ∙ ap committed (run_one schedule file x.results y.results x.after y.after x.runs y.runs).0 ∙ sym y.events_are

-- What a deployment makes of a sound node.
use Rattle.std.proofs.Common.{◌≡◌, ℕ, List, [], ◌∷◌, ◌++◌, length, Some, None, sym, ap, subst, ◌∙◌}
use Rattle.cl_c32.specs.declared.principal.Principal.{Principal}
use Rattle.cl_shapes.specs.declared.cost.Cost5.{Cost5}
use Rattle.cl_shapes.specs.declared.function.CostFn.{CostFn}
use Rattle.cl_costs.specs.Schedules.{always}
use Rattle.cl_costs.specs.Tables.{function_of}
use Rattle.cl_forms.specs.declared.version.Version.{Version}
use Rattle.cl_forms.specs.Texts.{Text, text_of}
use Rattle.cl_forms.specs.Forms.{Form}
use Rattle.cl_forms.specs.Order.{ordered}
use Rattle.cl_events.specs.State.{State}
use Rattle.cl_events.specs.declared.event.Event.{Event}
use Rattle.cl_meaning.specs.Deployed.{Contract, Deployed}
use Rattle.cl_meaning.specs.Deploying.{deployment, forms_by, forms_at}
use Rattle.cl_meaning.specs.Limits.{Costs, Limited, limited}
use Rattle.cl_meaning.specs.Scope.{Frame}
use Rattle.cl_rules.specs.Context.{Known, known_at}
use Rattle.cl_rules.specs.FormRules.{Defined, nothing_defined}
use Rattle.cl_rules.specs.FormTyping.{FormsTyped}
use Rattle.cl_rules.specs.Acceptance.{Accepted, Bounded, NoneWrites, TypedAs, known_of}
use Rattle.cl_contracts.specs.declared.checked.Checked.{Checked}
use Rattle.cl_contracts.specs.Contents.{ContractParts, with_constants}
use Rattle.cl_contracts.specs.Seen.{forms_of}
use Rattle.cl_contracts.specs.Standings.{AreStanding, StandsAfter}
use Rattle.cl_contracts.specs.Known.{DefinedAsKept}
use Rattle.cl_contracts.proofs.Fitting.{standing_push}
use Rattle.cl_file.specs.declared.entry.Common.{Common}
use Rattle.cl_file.specs.declared.entry.Entry.{Entry}
use Rattle.cl_file.specs.declared.entry.Entry.TheVariants.{Deploy}
use Rattle.cl_tx.specs.declared.outcome.Bounds.{Bounds}
use Rattle.cl_tx.specs.declared.outcome.Outcome.TheVariants.{Done, Aborted}
use Rattle.cl_tx.specs.declared.outcome.Stop.{Stop}
use Rattle.cl_tx.specs.declared.outcome.TxResult.{TxResult}
use Rattle.cl_tx.specs.Nodes.{NodeSeen, Stepped, Told, result_of, contract_of, person, frame_of, purse_of, settled_by, with_contract, deployment_ended}
use Rattle.cl_tx.specs.Step.{DeploySteps, run_deployment, contract_with as contract_deployed, told_of, evaluated, name_taken, source_refused}
use Rattle.cl_node_sound.specs.Laws.{DeploymentsStep}
use Rattle.cl_node_sound.specs.Sound.{HasParts}
use Rattle.cl_rules.specs.Laws.{AcceptedIsClean, OneOrder}
use Rattle.cl_nodes.specs.Seen.{Seen, node_with, seen}
use Rattle.cl_nodes.specs.Known.{AreKnown}
use Rattle.cl_nodes.specs.Sound.{Contracts, IsSoundWith}
use Rattle.cl_nodes.specs.Steps.{MakesWith}
use Rattle.cl_nodes.specs.Bounded.{IsBounded}
use Rattle.cl_nodes.specs.Accepting.{IsChecked, told_with}
use Rattle.cl_nodes.proofs.Deployments.{under_table}
use Rattle.cl_nodes.proofs.Knowing.{known_push, types_told}
use Rattle.cl_audit_entries.specs.Deploying.{DeploymentComes, IsDone, IsStopped, opened_of}
use Rattle.cl_audit_deploy.specs.Deploying.{without_values}

none_some : {A : Type 0} (x : A) → None ≡ Some x → ⊥
none_some x e = cc

module _ (table : List CostFn) (es : Contracts) (W : Deployed) (s : State) (height : ℕ) (common : Common) (name source : List ℕ) (version : Version) (known : List Known) (sound : IsSoundWith es (seen s W height) known) where
  abbrev costs : Costs
  costs = function_of table

  abbrev before : Seen
  before = seen s W height

  abbrev node : NodeSeen
  node = node_with known before

  abbrev p : Principal
  p = contract_of common.sender name

  abbrev text : Text
  text = text_of source version

  abbrev entry : Entry
  entry = Deploy common name source version

  module _ (c : Checked) (checked : IsChecked es p text c) where
    abbrev pub found : (defined : Defined) × TypedAs known p text (forms_of c) c.order.items defined × NoneWrites known p (forms_of c) × StandsAfter known c defined
    found = checked.found known sound.trees

    module _ (bounds : Bounds) (bounded : IsBounded costs es c bounds) where
      abbrev within : Bounded found.0 (forms_of c) costs × ((told_of costs found.0 (forms_of c)).bounds ≡ Some bounds)
      within = bounded.found known sound.trees found.0 found.3

      abbrev pub accepted : Accepted known p costs text
      accepted = record { forms = forms_of c; order = c.order.items; defined = found.0; typed = found.1; none_writes = found.2; bounded = within.0 }

      abbrev told : Told
      told = told_of costs found.0 (forms_of c)

      abbrev one : Known
      one = known_of p (length source) found.0

      abbrev frame : Principal → Frame
      frame q = record { contract = q; sender = person common.sender; caller = person common.sender; height = height }

      -- what the limit leaves of the deployment
      abbrev left : Limited Contract
      left = limited costs (purse_of common) (deployment W (frame_of node common.sender p) (contract_deployed p text (forms_of c)) s)

      -- what the evaluation means
      pub same_answer : (F : Frame) → F ≡ frame p → deployment W F (opened_of c) s ≡ deployment W (frame_of node common.sender p) (contract_deployed p text (forms_of c)) s
      same_answer F is = λ i. deployment W (is i) (record { principal = checked.principal_is i; version = checked.version i; forms = forms_of c; source_length = checked.size i; constants = [] }) s

      pub same_left : (F : Frame) → F ≡ frame p → limited costs (purse_of common) (deployment W F (opened_of c) s) ≡ left
      same_left F is = ap (limited costs (purse_of common)) (same_answer F is)

      -- something comes of it
      abbrev Steps : Costs → Type 0
      Steps table = Accepted known p table text → (z : Stepped) × DeploySteps table node common p text z

      some_step : DeploymentsStep → HasParts entry → known_at p known ≡ None → (z : Stepped) × DeploySteps costs node common p text z
      some_step law parts new = under_table Steps table height (law (always table) node common name source version parts sound.sound new) accepted

      comes_so : AcceptedIsClean → OneOrder → known_at p known ≡ None → (z : Stepped) → DeploySteps costs node common p text z → DeploymentComes common left
      unfolding run_deployment
      comes_so clean order new z (name_taken k there is) = absurd (none_some k (sym new ∙ there))
      comes_so clean order new z (source_refused rule span names none first is) = absurd (clean known p costs text rule span names accepted first)
      comes_so clean order new z (evaluated none a ended) = record {
        node = node;
        told = told_of costs a.defined a.forms;
        known = known_of p (length text.bytes) a.defined;
        stepped = z;
        ended = subst (λ (fs : List Form). deployment_ended common node (told_of costs a.defined a.forms) (known_of p (length text.bytes) a.defined) (limited costs (purse_of common) (deployment W (frame_of node common.sender p) (contract_deployed p text fs) s)) ≡ Some z)
            (order text a.forms (forms_of c) a.order c.order.items a.typed.is_ordered found.1.is_ordered).0 ended;
      }

      pub comes : DeploymentsStep → AcceptedIsClean → OneOrder → HasParts entry → known_at p known ≡ None → (F : Frame) → F ≡ frame p → DeploymentComes common (limited costs (purse_of common) (deployment W F (opened_of c) s))
      comes law clean order parts new F is =
          let z = some_step law parts new in
          subst (DeploymentComes common) (sym (same_left F is)) (comes_so clean order new z.0 z.1)

      -- what is told is what the bounds and the typed functions tell
      pub same_told : DefinedAsKept → told ≡ told_with bounds c.definitions.items
      same_told law = λ i. record {
        bounds = within.1 i;
        types = types_told law known c found.0 checked.indexed found.3 i;
      }

      steps_so : (z : Stepped) → known_at p known ≡ None → deployment_ended common node told one left ≡ Some z → DeploySteps costs node common p text z
      unfolding run_deployment
      steps_so z new ended = evaluated new accepted ended

      -- it stops
      pub makes_stopped : DefinedAsKept → known_at p known ≡ None → (why : Stop) (cost : Cost5) (after : State) (r : TxResult) → IsStopped common left why cost s after →
          r ≡ result_of (told_with bounds c.definitions.items) (Aborted why) (Some cost) [] → MakesWith costs known before entry r es (seen after W height)
      makes_stopped law new why cost after r stopped is = record {
        now = known;
        trees = sound.trees;
        forms = sound.forms;
        steps = steps_so (record { node = node_with known (seen after W height); result = r }) new
            (stopped.ended node told one
            ∙ (λ i. Some (record {
              node = node_with known (seen (sym stopped.undone i) W height);
              result = (ap (λ t. result_of t (Aborted why) (Some cost) []) (same_told law) ∙ sym is) i;
            })));
      }

      same_known : known_of c.principal c.source_length found.0 ≡ one
      same_known = λ i. known_of (checked.principal_is i) (checked.size i) found.0

      -- it is done, with this contract, of which the checker has no values of constants
      module _ (K : Contract) (bare : without_values K ≡ opened_of c) where
        abbrev put : Principal × ContractParts
        put = (c.principal, with_constants c [])

        knows : AreKnown [] (W ++ K ∷ []) (known ++ known_of c.principal c.source_length found.0 ∷ [])
        knows =
            subst (λ (k : Contract). AreKnown [] (W ++ K ∷ []) (known ++ known_of k.principal k.source_length found.0 ∷ [])) bare
            (known_push [] W known K (forms_at (forms_of c) c.order.items) found.0 sound.forms
            (subst (λ (k : Contract). forms_by k.forms (ordered k.forms) ≡ Some (forms_at (forms_of c) c.order.items)) (sym bare) (ap (forms_by (forms_of c)) found.1.is_ordered.order_is))
            (subst (λ (k : Contract). FormsTyped (nothing_defined known k.principal k.version k.source_length) (forms_at (forms_of c) c.order.items) found.0) (sym bare)
            (subst (λ (n : Principal × (Version × ℕ)). FormsTyped (nothing_defined known n.0 n.1.0 n.1.1) (forms_at (forms_of c) c.order.items) found.0) (λ i. (sym checked.principal_is i, (sym checked.version i, sym checked.size i))) found.1.are_typed)))

        pub makes_done : DefinedAsKept → known_at p known ≡ None → (cost : Cost5) (events : List Event) (after : State) (r : TxResult) → IsDone common left K cost events after →
            r ≡ result_of (told_with bounds c.definitions.items) Done (Some cost) events →
            MakesWith costs known before entry r (es ++ put ∷ []) (seen after (W ++ K ∷ []) height)
        makes_done law new cost events after r done is = record {
          now = known ++ one ∷ [];
          trees = subst (λ k. AreStanding [] (es ++ put ∷ []) (known ++ k ∷ [])) same_known
              (standing_push [] es known put found.0 sound.trees found.3);
          forms = subst (λ k. AreKnown [] (W ++ K ∷ []) (known ++ k ∷ [])) same_known knows;
          steps = steps_so (record { node = node_with (known ++ one ∷ []) (seen after (W ++ K ∷ []) height); result = r }) new
              (ap (deployment_ended common node told one) done.gave
              ∙ (λ i. Some (settled_by (done.passes i) node (with_contract node K one) told Done done.purse.spent done.state))
              ∙ (λ i. Some (record {
                node = record { state = sym done.rests i; contracts = W ++ K ∷ []; known = known ++ one ∷ []; height = height };
                result = ((λ j. result_of (same_told law j) Done (Some (done.spent j)) (sym done.told j)) ∙ sym is) i;
              })));
        }

-- What a deployment makes of a sound node.
use Rattle.std.proofs.Common.{◌≡◌, ℕ, List, [], ◌∷◌, ◌++◌, length, Some, None, refl, sym, ap, subst, ◌∙◌}
use Rattle.std.proofs.lemmas.List.{map_push}
use Rattle.cl_c32.specs.declared.principal.Principal.{Principal}
use Rattle.cl_shapes.specs.declared.cost.Cost5.{Cost5}
use Rattle.cl_shapes.specs.declared.function.CostFn.{CostFn}
use Rattle.cl_shapes.specs.Limits.{Purse}
use Rattle.cl_costs.specs.Schedules.{always}
use Rattle.cl_costs.specs.Tables.{function_of}
use Rattle.cl_values.specs.Tree.{Tree}
use Rattle.cl_forms.specs.declared.version.Version.{Version}
use Rattle.cl_forms.specs.Texts.{Text, text_of}
use Rattle.cl_events.specs.State.{State}
use Rattle.cl_events.specs.declared.event.Event.{Event}
use Rattle.cl_meaning.specs.Deployed.{Contract, value_of}
use Rattle.cl_meaning.specs.Deploying.{deployment, forms_by, forms_at}
use Rattle.cl_meaning.specs.Limits.{Costs, Limited, Gave, limited}
use Rattle.cl_meaning.specs.Scope.{Frame}
use Rattle.cl_rules.specs.Context.{Known, known_at}
use Rattle.cl_rules.specs.FormRules.{Defined, nothing_defined}
use Rattle.cl_rules.specs.FormTyping.{FormsTyped}
use Rattle.cl_rules.specs.Acceptance.{Accepted, Bounded, NoneWrites, TypedAs, known_of}
use Rattle.cl_contracts.specs.declared.checked.Checked.{Checked}
use Rattle.cl_contracts.specs.declared.contract.Contract.{Contract as ContractOfCode}
use Rattle.cl_contracts.specs.Seen.{AreConstants, contract_seen, forms_of}
use Rattle.cl_contracts.specs.Standings.{AreStanding, StandsAfter}
use Rattle.cl_contracts.specs.Known.{ConstantsAsKept, DefinedAsKept}
use Rattle.cl_contracts.proofs.Constants.{is_constant}
use Rattle.cl_contracts.proofs.Fitting.{standing_push}
use Rattle.cl_frames.specs.Deploys.{contract_with}
use Rattle.cl_frames.specs.Sound.{IsAcceptedAfter}
use Rattle.cl_node_sound.specs.Laws.{DeployedHaveConstants}
use Rattle.cl_node_sound.specs.Sound.{HasParts, IsTypedUnder}
use Rattle.cl_file.specs.declared.entry.Common.{Common}
use Rattle.cl_file.specs.declared.entry.Entry.{Entry}
use Rattle.cl_file.specs.declared.entry.Entry.TheVariants.{Deploy}
use Rattle.cl_tx.specs.declared.outcome.Bounds.{Bounds}
use Rattle.cl_tx.specs.declared.outcome.Outcome.TheVariants.{Done, Aborted}
use Rattle.cl_tx.specs.declared.outcome.Stop.{Stop}
use Rattle.cl_tx.specs.declared.outcome.TxResult.{TxResult}
use Rattle.cl_tx.specs.Nodes.{NodeSeen, Stepped, Told, result_of, contract_of, person, frame_of, purse_of, settled_by, with_contract, deployment_ended}
use Rattle.cl_tx.specs.Step.{DeploySteps, run_deployment, contract_with as contract_deployed, told_of, evaluated}
use Rattle.cl_nodes.specs.Seen.{Seen, node_with, seen}
use Rattle.cl_nodes.specs.Known.{AreKnown}
use Rattle.cl_nodes.specs.Sound.{Contracts, contracts_seen, IsSoundWith}
use Rattle.cl_nodes.specs.Steps.{MakesWith}
use Rattle.cl_nodes.specs.Bounded.{IsBounded}
use Rattle.cl_nodes.specs.Accepting.{IsChecked, told_with}
use Rattle.cl_engine.specs.Deploying.{Constants, IsDone, IsStopped}
use Rattle.cl_nodes.proofs.Deployments.{under_table}
use Rattle.cl_nodes.proofs.Knowing.{known_push, types_told}

module _ (table : List CostFn) (es : Contracts) (s : State) (height : ℕ) (common : Common) (name source : List ℕ) (version : Version) (known : List Known) (sound : IsSoundWith es (seen s (contracts_seen es) height) known) where
  abbrev costs : Costs
  costs = function_of table

  abbrev before : Seen
  before = seen s (contracts_seen es) height

  abbrev node : NodeSeen
  node = node_with known before

  abbrev p : Principal
  p = contract_of common.sender name

  abbrev text : Text
  text = text_of source version

  abbrev entry : Entry
  entry = Deploy common name source version

  module _ (c : Checked) (checked : IsChecked es p text c) where
    abbrev pub found : (defined : Defined) × TypedAs known p text (forms_of c) c.order.items defined × NoneWrites known p (forms_of c) × StandsAfter known c defined
    found = checked.found known sound.trees

    module _ (bounds : Bounds) (bounded : IsBounded costs es c bounds) where
      abbrev within : Bounded found.0 (forms_of c) costs × ((told_of costs found.0 (forms_of c)).bounds ≡ Some bounds)
      within = bounded.found known sound.trees found.0 found.3

      abbrev pub accepted : Accepted known p costs text
      accepted = record { forms = forms_of c; order = c.order.items; defined = found.0; typed = found.1; none_writes = found.2; bounded = within.0 }

      abbrev told : Told
      told = told_of costs found.0 (forms_of c)

      abbrev one : Known
      one = known_of p (length source) found.0

      -- what the limit leaves of the deployment
      abbrev left : Limited Contract
      left = limited costs (purse_of common) (deployment (contracts_seen es) (frame_of node common.sender p) (contract_deployed p text (forms_of c)) s)

      abbrev left_in : Frame → Limited Contract
      left_in F = limited costs (purse_of common) (deployment (contracts_seen es) F (contract_with c []) s)

      abbrev frame : Principal → Frame
      frame q = record { contract = q; sender = person common.sender; caller = person common.sender; height = height }

      -- what the evaluation means
      pub same_answer : (F : Frame) → F ≡ frame p → deployment (contracts_seen es) F (contract_with c []) s ≡ deployment (contracts_seen es) (frame_of node common.sender p) (contract_deployed p text (forms_of c)) s
      same_answer F is = λ i. deployment (contracts_seen es) (is i) (record { principal = checked.principal_is i; version = checked.version i; forms = forms_of c; source_length = checked.size i; constants = [] }) s

      pub same_left : (F : Frame) → F ≡ frame p → left_in F ≡ left
      same_left F is = ap (limited costs (purse_of common)) (same_answer F is)

      -- what is told is what the bounds and the typed functions tell
      pub same_told : DefinedAsKept → told ≡ told_with bounds c.definitions.items
      same_told law = λ i. record {
        bounds = within.1 i;
        types = types_told law known c found.0 checked.indexed found.3 i;
      }

      -- the contract is accepted after the deployed ones
      pub is_accepted : known_at p known ≡ None → IsAcceptedAfter (contracts_seen es) s c
      is_accepted new = record {
        costs = costs;
        known = known;
        node = record { contracts = sound.sound.contracts; kept = sound.sound.kept };
        new = subst (λ q. known_at q known ≡ None) (sym checked.principal_is) new;
        text = text;
        accepted = record {
          forms = forms_of c;
          order = c.order.items;
          defined = found.0;
          typed = subst (λ q. TypedAs known q text (forms_of c) c.order.items found.0) (sym checked.principal_is) found.1;
          none_writes = subst (λ q. NoneWrites known q (forms_of c)) (sym checked.principal_is) found.2;
          bounded = within.0;
        };
        forms = refl;
        order = refl;
        version = checked.version;
        size = checked.size;
      }

      steps_so : (z : Stepped) → known_at p known ≡ None → deployment_ended common node told one left ≡ Some z → DeploySteps costs node common p text z
      unfolding run_deployment
      steps_so z new ended = evaluated new accepted ended

      -- it stops
      pub makes_stopped : DefinedAsKept → known_at p known ≡ None → (why : Stop) (cost : Cost5) (after : State) (r : TxResult) → IsStopped common left why cost s after →
          r ≡ result_of (told_with bounds c.definitions.items) (Aborted why) (Some cost) [] → MakesWith costs known before entry r es (seen after (contracts_seen es) height)
      makes_stopped law new why cost after r stopped is = record {
        now = known;
        trees = sound.trees;
        forms = sound.forms;
        steps = steps_so (record { node = node_with known (seen after (contracts_seen es) height); result = r }) new
            (stopped.ended node told one
            ∙ (λ i. Some (record {
              node = node_with known (seen (sym stopped.undone i) (contracts_seen es) height);
              result = (ap (λ t. result_of t (Aborted why) (Some cost) []) (same_told law) ∙ sym is) i;
            })));
      }

      abbrev put : Constants → Principal × ContractOfCode
      put constants = (c.principal, record { checked = c; constants = constants.entries })

      grown : (constants : Constants) → contracts_seen (es ++ put constants ∷ []) ≡ contracts_seen es ++ contract_with c constants.entries ∷ []
      grown constants = map_push contract_seen es (put constants)

      same_known : known_of c.principal c.source_length found.0 ≡ one
      same_known = λ i. known_of (checked.principal_is i) (checked.size i) found.0

      -- what is given under a table
      abbrev IsGivenTyped : Costs → Type 0
      IsGivenTyped table = (a : Accepted known p table text) (k : Contract) (t : State) (purse : Purse) →
          limited table (purse_of common) (deployment (contracts_seen es) (frame_of node common.sender p) (contract_deployed p text a.forms) s) ≡ Gave k t purse →
          (x : List ℕ) (v : Tree) → value_of x k.constants ≡ Some v → IsTypedUnder a.defined.context.constants x v

      -- each value that is given is of the type of its constant
      pub constants_so : DeployedHaveConstants → ConstantsAsKept → HasParts entry → known_at p known ≡ None → (cost : Cost5) (constants : Constants) (events : List Event) (after : State) → IsDone common left c cost constants.entries events after → AreConstants (put constants).1
      constants_so law kept parts new cost constants events after done = record {
        each = λ x v h.
            let u = under_table IsGivenTyped table height (law (always table) node common name source version parts sound.sound new) accepted (contract_with c constants.entries) done.state done.purse done.gave x v h in
            is_constant x c u.type v (sym (kept known c found.0 checked.indexed found.3 x) ∙ u.there) u.typed.typed;
      }

      -- it is done
      pub makes_done : DefinedAsKept → known_at p known ≡ None → (cost : Cost5) (constants : Constants) (events : List Event) (after : State) (r : TxResult) → IsDone common left c cost constants.entries events after →
          r ≡ result_of (told_with bounds c.definitions.items) Done (Some cost) events →
          MakesWith costs known before entry r (es ++ put constants ∷ []) (seen after (contracts_seen (es ++ put constants ∷ [])) height)
      makes_done law new cost constants events after r done is = record {
        now = known ++ one ∷ [];
        trees = subst (λ k. AreStanding [] (es ++ put constants ∷ []) (known ++ k ∷ [])) same_known
            (standing_push [] es known (put constants) found.0 sound.trees found.3);
        forms = subst (λ cs. AreKnown [] cs (known ++ one ∷ [])) (sym (grown constants))
            (subst (λ k. AreKnown [] (contracts_seen es ++ contract_with c constants.entries ∷ []) (known ++ k ∷ [])) same_known
            (known_push [] (contracts_seen es) known (contract_with c constants.entries) (forms_at (forms_of c) c.order.items) found.0 sound.forms
            (ap (forms_by (forms_of c)) found.1.is_ordered.order_is)
            (subst (λ (n : Principal × (Version × ℕ)). FormsTyped (nothing_defined known n.0 n.1.0 n.1.1) (forms_at (forms_of c) c.order.items) found.0) (λ i. (sym checked.principal_is i, (sym checked.version i, sym checked.size i))) found.1.are_typed)));
        steps = steps_so (record { node = node_with (known ++ one ∷ []) (seen after (contracts_seen (es ++ put constants ∷ [])) height); result = r }) new
            (ap (deployment_ended common node told one) done.gave
            ∙ (λ i. Some (settled_by (done.passes i) node (with_contract node (contract_with c constants.entries) one) told Done done.purse.spent done.state))
            ∙ (λ i. Some (record {
              node = record { state = sym done.rests i; contracts = sym (grown constants) i; known = known ++ one ∷ []; height = height };
              result = ((λ j. result_of (same_told law j) Done (Some (done.spent j)) (sym done.told j)) ∙ sym is) i;
            })));
      }

-- The deployment of an accepted source at a sound node comes to something, and leaves a sound node.
use Rattle.std.proofs.Common.{◌≡◌, [], ◌∷◌, ◌++◌, length, None, refl, sym, ap, subst}
use Rattle.cl_forms.specs.Texts.{Text}
use Rattle.cl_c32.specs.declared.principal.Principal.{Principal}
use Rattle.cl_c32.specs.Address.{IsAddress}
use Rattle.cl_shapes.specs.declared.cost.Cost5.{Cost5}
use Rattle.cl_shapes.specs.Costs.{IsAtMost}
use Rattle.cl_shapes.specs.Limits.{Purse, limit_of}
use Rattle.cl_values.specs.Valid.{IsPrincipal}
use Rattle.cl_values.specs.Tree.{Tree}
use Rattle.cl_events.specs.State.{State}
use Rattle.cl_meaning.specs.Deployed.{Contract}
use Rattle.cl_meaning.specs.Deploying.{forms_at, deployment}
use Rattle.cl_meaning.specs.Kept.{Whole}
use Rattle.cl_meaning.specs.Limits.{Costs, cost, Limited, Gave, Threw, AbortedBy, Passed, Lost, limited}
use Rattle.cl_rules.specs.Bills.{cost_under}
use Rattle.cl_rules.specs.Context.{Known, known_at}
use Rattle.cl_rules.specs.Acceptance.{Accepted, known_of}
use Rattle.cl_expression_sound.specs.Sound.{AreBound}
use Rattle.cl_contract_sound.specs.Nodes.{IsNode}
use Rattle.cl_contract_sound.specs.Deployments.{IsDone, IsFineEndUnder, of_text}
use Rattle.cl_contract_sound.proofs.TextDeployments.{text_is_done, text_is_sound}
use Rattle.cl_contract_sound.proofs.UnderLimits.{end_under, charged, charged_low}
use Rattle.cl_expression_sound.proofs.Costs.{at_most}
use Rattle.cl_file.specs.declared.entry.Common.{Common}
use Rattle.cl_post.specs.Post.{holds}
use Rattle.cl_tx.specs.declared.outcome.Outcome.TheVariants.{Done, Aborted}
use Rattle.cl_tx.specs.declared.outcome.Stop.TheVariants.{EarlyTop}
use Rattle.cl_tx.specs.Nodes.{NodeSeen, Told, frame_of, purse_of, moves_on, with_contract, deployment_ended}
use Rattle.cl_tx.specs.Step.{told_of, run_deployment}
use Rattle.cl_node_sound.specs.Sound.{IsSoundNode}
use Rattle.cl_node_sound.proofs.SameContracts.{from_front, contracts_moved, kept_moved}
use Rattle.cl_node_sound.proofs.Enough.{IsPassed, passes_not}
use Rattle.cl_node_sound.proofs.Calling.{Comes, aborted_sound, failed_sound, stopped_sound, settled_sound}

module _ (costs : Costs) (node : NodeSeen) (N : IsSoundNode node) where
  -- one more contract
  done : (told : Told) (known : Known) (c : Contract) (cost : Cost5) (s : State) → IsNode (c ∷ node.contracts) (node.known ++ known ∷ []) s → IsSoundNode (moves_on (with_contract node c known) told Done cost s).node
  done told known c cost s n =
      let same = from_front c node.contracts n.contracts.distinct in
      record {
        contracts = contracts_moved (c ∷ node.contracts) (node.contracts ++ c ∷ []) same (node.known ++ known ∷ []) n.contracts;
        kept = kept_moved (c ∷ node.contracts) (node.contracts ++ c ∷ []) same Whole s n.kept;
        height = N.height;
        no_events = refl;
        no_moves = refl;
      }

  -- a deployment gives no value
  abbrev AnyTree : Tree → Type 0
  AnyTree v = Unit {0}

  ended : (Low : Cost5 → Type 0) (Reason : Type 0) (common : Common) (told : Told) (known : Known) (l : Limited Contract) → IsFineEndUnder (λ d t. IsNode (d ∷ node.contracts) (node.known ++ known ∷ []) t) l → Low (charged l) → (IsPassed l → Reason) → Comes told Low AnyTree Reason (deployment_ended common node told known l)
  ended Low Reason common told known (Gave c s purse) fine low reason = settled_sound node N told Low AnyTree Reason (holds s.moves common.mode common.conditions) (with_contract node c known) Done purse.spent s (done told known c purse.spent s fine) low (λ v e. tt) (λ h. h)
  ended Low Reason common told known (Threw v s purse) fine low reason = failed_sound node N told Low AnyTree Reason (Aborted EarlyTop) purse.spent low (λ v e. tt) (λ h. h)
  ended Low Reason common told known (AbortedBy why purse) fine low reason = aborted_sound node N told Low AnyTree Reason why purse.spent low
  ended Low Reason common told known (Passed over purse) fine low reason = stopped_sound node N told Low AnyTree Reason over over.attempted low (reason tt)
  ended Low Reason common told known (Lost purse) fine low reason = absurd fine

  pub deployment_comes : (common : Common) → IsAddress common.sender → (principal : Principal) → IsPrincipal principal → known_at principal node.known ≡ None → (source : Text) (accepted : Accepted node.known principal costs source) →
      Comes (told_of costs accepted.defined accepted.forms) (λ c. IsAtMost c (cost_under costs accepted.defined.deploy)) AnyTree (IsAtMost (cost_under costs accepted.defined.deploy) (limit_of common.limit) → ⊥) (run_deployment costs node common principal source accepted.forms accepted.defined)
  unfolding run_deployment
  deployment_comes common sender principal valid new source accepted =
      let frame = frame_of node common.sender principal in
      let purse = purse_of common in
      let bound = cost_under costs accepted.defined.deploy in
      let sound = text_is_sound node.contracts node.known node.state (record { contracts = N.contracts; kept = N.kept }) principal valid new costs source accepted costs frame refl (sender, tt) (sender, tt) N.height in
      ended (λ c. IsAtMost c bound) (IsAtMost bound (limit_of common.limit) → ⊥) common (told_of costs accepted.defined accepted.forms) (known_of principal (length source.bytes) accepted.defined) (limited costs purse (deployment node.contracts frame (of_text principal source accepted.forms) node.state))
      (end_under (λ d t. IsNode (d ∷ node.contracts) (node.known ++ known_of principal (length source.bytes) accepted.defined ∷ []) t) (deployment node.contracts frame (of_text principal source accepted.forms) node.state) sound.outcome costs purse)
      (at_most _ (cost costs (deployment node.contracts frame (of_text principal source accepted.forms) node.state)) bound (charged_low costs purse.limit (deployment node.contracts frame (of_text principal source accepted.forms) node.state)) sound.within)
      (λ passed enough. passes_not costs bound purse.limit (deployment node.contracts frame (of_text principal source accepted.forms) node.state) sound.within enough passed)

  -- what the deployment leaves
  abbrev IsLeft : (principal : Principal) (source : Text) → Accepted node.known principal costs source → Contract → State → Type 0
  IsLeft principal source accepted = IsDone node.contracts (of_text principal source accepted.forms) (forms_at accepted.forms accepted.order) accepted.defined

  -- the contract that it gives has a value of its type for each constant
  pub constants_bound : (common : Common) → IsAddress common.sender → (principal : Principal) → IsPrincipal principal → known_at principal node.known ≡ None → (source : Text) (accepted : Accepted node.known principal costs source) → (c : Contract) (s : State) (purse : Purse) →
      limited costs (purse_of common) (deployment node.contracts (frame_of node common.sender principal) (of_text principal source accepted.forms) node.state) ≡ Gave c s purse → AreBound accepted.defined.context.constants c.constants
  constants_bound common sender principal valid new source accepted c s purse is =
      let frame = frame_of node common.sender principal in
      let sound = text_is_done node.contracts node.known node.state (record { contracts = N.contracts; kept = N.kept }) principal valid new costs source accepted costs frame refl (sender, tt) (sender, tt) N.height in
      let under = end_under (IsLeft principal source accepted) (deployment node.contracts frame (of_text principal source accepted.forms) node.state) sound.outcome costs (purse_of common) in
      let done : IsLeft principal source accepted c s = subst (IsFineEndUnder (IsLeft principal source accepted)) is under in
      subst (AreBound accepted.defined.context.constants) (sym (ap (λ (c : Contract). c.constants) done.is)) done.constants

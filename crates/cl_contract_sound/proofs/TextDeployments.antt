-- Deployments of accepted texts are sound.
use Rattle.std.proofs.Common.{◌≡◌, ◌<◌, ◌^◌, List, [], ◌∷◌, ◌++◌, length, None, refl, ap}
use Rattle.cl_c32.specs.declared.principal.Principal.{Principal}
use Rattle.cl_values.specs.Valid.{IsPrincipal}
use Rattle.cl_forms.specs.Texts.{Text}
use Rattle.cl_forms.specs.Shapes.{trees_of}
use Rattle.cl_order.proofs.Good.{order_good}
use Rattle.cl_events.specs.State.{State}
use Rattle.cl_meaning.specs.Answers.{Outcome, Given, Thrown, Aborted, Wrong, Deeper}
use Rattle.cl_meaning.specs.Deployed.{Contract, Deployed}
use Rattle.cl_meaning.specs.Deploying.{forms_by, forms_at, deployment}
use Rattle.cl_meaning.specs.Scope.{Frame}
use Rattle.cl_rules.specs.Bills.{cost_under}
use Rattle.cl_rules.specs.Context.{CostTable, Known, known_at}
use Rattle.cl_rules.specs.Acceptance.{Accepted, known_of}
use Rattle.cl_contract_sound.specs.Nodes.{IsNode}
use Rattle.cl_contract_sound.specs.Deployments.{IsDone, IsFineEnd, IsSoundDeployment, of_text}
use Rattle.cl_contract_sound.proofs.Deploying.{deployment_is_sound}
use Rattle.cl_contract_sound.proofs.NextNode.{next_node}
use Rattle.cl_contract_sound.proofs.Naming.{all_at}
use Rattle.cl_contract_sound.proofs.OfTexts.{text_forms, are_known, not_there}

end_less : (P Q : Contract → State → Type 0) (o : Outcome Contract) (s : State) → ((c : Contract) → P c s → Q c s) → IsFineEnd P o s → IsFineEnd Q o s
end_less P Q (Given c) s h k = h c k
end_less P Q (Thrown v) s h k = tt
end_less P Q (Aborted why) s h k = tt
end_less P Q Wrong s h k = absurd k
end_less P Q Deeper s h k = absurd k

-- what the deployment of an accepted text leaves
pub text_is_done : (W : Deployed) (ks : List Known) (s : State) → IsNode W ks s → (principal : Principal) → IsPrincipal principal → known_at principal ks ≡ None → (costs : CostTable) (text : Text) (accepted : Accepted ks principal costs text) → (table : CostTable) →
    (F : Frame) → F.contract ≡ principal → IsPrincipal F.sender → IsPrincipal F.caller → F.height < 2 ^ 128 →
    IsSoundDeployment table (IsDone W (of_text principal text accepted.forms) (forms_at accepted.forms accepted.order) accepted.defined) (cost_under table accepted.defined.deploy) (deployment W F (of_text principal text accepted.forms) s)
text_is_done W ks s node principal valid unknown costs text accepted table F home sender caller height =
    let c : Contract = of_text principal text accepted.forms in
    let o = accepted.typed.is_ordered in
    let A = node.contracts.distinct in
    let its = text_forms ks costs text c accepted refl in
    let new = not_there W ks node.contracts principal valid unknown in
    deployment_is_sound table W A ks (are_known W ks node.contracts.texts) c refl valid new (forms_at accepted.forms accepted.order) (ap (forms_by accepted.forms) o.order_is) its accepted.defined accepted.typed.are_typed F home sender caller height s node.kept

pub text_is_sound : (W : Deployed) (ks : List Known) (s : State) → IsNode W ks s → (principal : Principal) → IsPrincipal principal → known_at principal ks ≡ None → (costs : CostTable) (text : Text) (accepted : Accepted ks principal costs text) → (table : CostTable) →
    (F : Frame) → F.contract ≡ principal → IsPrincipal F.sender → IsPrincipal F.caller → F.height < 2 ^ 128 →
    IsSoundDeployment table (λ d t. IsNode (d ∷ W) (ks ++ known_of principal (length text.bytes) accepted.defined ∷ []) t) (cost_under table accepted.defined.deploy) (deployment W F (of_text principal text accepted.forms) s)
text_is_sound W ks s node principal valid unknown costs text accepted table F home sender caller height =
    let c : Contract = of_text principal text accepted.forms in
    let order = forms_at accepted.forms accepted.order in
    let o = accepted.typed.is_ordered in
    let all = all_at (trees_of o.items) c o.are_forms accepted.order (order_good accepted.forms accepted.order o.order_is) in
    let done = text_is_done W ks s node principal valid unknown costs text accepted table F home sender caller height in
    record {
      outcome = end_less (IsDone W c order accepted.defined) (λ d t. IsNode (d ∷ W) (ks ++ known_of principal (length text.bytes) accepted.defined ∷ []) t) (deployment W F c s).outcome (deployment W F c s).state
          (λ d h. next_node W ks s (deployment W F c s).state node principal valid unknown costs text accepted all d h) done.outcome;
      within = done.within;
    }

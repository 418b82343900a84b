use Rattle.std.proofs.Common.{List, ◌∷◌, refl, sym, ap, subst, ◌∙◌}
use Rattle.cl_shapes.specs.Limits.{Purse}
use Rattle.cl_costs.specs.Tables.{function_of}
use Rattle.cl_events.specs.State.{State}
use Rattle.cl_meaning.specs.Limits.{limited}
use Rattle.cl_meaning.specs.Trace.{trace_of}
use Rattle.cl_newness.specs.Newness.{HasNoTokens}
use Rattle.cl_post.specs.Post.{holds}
use Rattle.cl_state.specs.Stack.{Stack}
use Rattle.cl_audit.specs.Agrees.{IsAgreement}
use Rattle.cl_audit_deploy.specs.Deploying.{deployment_of, opened}
use Rattle.cl_audit_entries.specs.Deploying.{deployment_left}
use Rattle.cl_audit_entries.specs.Ending.{Leaves}
use Rattle.cl_audit_entries.proofs.Ends.{leaves, may_stop}
use Rattle.cl_audit_entries.proofs.Ran.{ends_well, runs}
use Rattle.cl_audit_entries.proofs.deployment.run_deployment.Goals as goal

pub audit_deployment-end-requires-clause-tokens : goal.audit_deployment-end-requires-clause-tokens
audit_deployment-end-requires-clause-tokens c = subst (HasNoTokens c.args.contract.now.principal) (sym (ap (λ (k : Stack). k.top) c.in_ok-push_layer.ensures.done)) c.requires.tokens

pub finish-requires-clause-stops : goal.finish-requires-clause-stops
finish-requires-clause-stops c =
    let S = c.args.scope.now in
    let k = c.args.contract.now in
    let s = c.args.run.now.world.stack.top in
    let common = c.args.common.now in
    let end = c.audit_deployment-end.result.end in
    let done = c.audit_deployment-end.new.contract in
    let walked = c.audit_deployment-end.new.run in
    let left : Leaves (deployment_left S common k c.args.run.now) (opened end done) walked.meter walked.world.stack.top =
    subst (λ (n : Purse × Stack). Leaves (limited (function_of S.costs.now) n.0 (deployment_of S k n.1.top)) (opened end done) walked.meter walked.world.stack.top)
    (λ i. (c.meter_of-run.ensures i, c.in_ok-push_layer.ensures.done i)) (leaves _ _ (opened end done) _ _ c.audit_deployment-end.ensures.deployment.deployment) in
    may_stop common (deployment_left S common k c.args.run.now) done end walked.meter walked.world.stack.top c.requires.comes left

pub returns-clause-runs : goal.returns-clause-runs
returns-clause-runs c =
    let S = c.args.scope.now in
    let k = c.args.contract.now in
    let s = c.args.run.now.world.stack.top in
    let common = c.args.common.now in
    let end = c.audit_deployment-end.result.end in
    let done = c.audit_deployment-end.new.contract in
    let walked = c.audit_deployment-end.new.run in
    let left : Leaves (deployment_left S common k c.args.run.now) (opened end done) walked.meter walked.world.stack.top =
    subst (λ (n : Purse × Stack). Leaves (limited (function_of S.costs.now) n.0 (deployment_of S k n.1.top)) (opened end done) walked.meter walked.world.stack.top)
    (λ i. (c.meter_of-run.ensures i, c.in_ok-push_layer.ensures.done i)) (leaves _ _ (opened end done) _ _ c.audit_deployment-end.ensures.deployment.deployment) in
    runs common (deployment_left S common k c.args.run.now) done s walked.meter walked.world.stack end (holds walked.world.stack.top.moves common.mode common.conditions) c.in_ok-ran.ran c.finish.new.world.stack.top c.spent-spent.result
    (c.audit_deployment-end.ensures.deployment.below ∙ ap (λ (k : Stack). k.below) c.in_ok-push_layer.ensures.done ∙ ap (λ (b : List State). s ∷ b) c.requires.base) c.spent-spent.ensures.value refl left c.in_ok-ran.ensures.ended

pub returns-clause-agrees : goal.returns-clause-agrees
returns-clause-agrees c =
    let S = c.args.scope.now in
    let k = c.args.contract.now in
    subst (λ (n : Purse × Stack). IsAgreement (trace_of (function_of S.costs.now) n.0 (deployment_of S k n.1.top)) c.args.run.now.cursor.claims.now c.audit_deployment-end.result.agreement)
    (λ i. (c.meter_of-run.ensures i, c.in_ok-push_layer.ensures.done i)) (c.audit_deployment-end.ensures.agrees (ends_well _ _ _ _ _ _ c.in_ok-ran.ensures.ended))

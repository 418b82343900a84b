use Rattle.std.proofs.Common.{ℕ, List, sym, ap, subst, ◌∙◌}
use Rattle.cl_values.specs.Tree.{Tree as Val}
use Rattle.cl_walks.specs.Ends.{Ends}
use Rattle.cl_walks.specs.Walked.{walked}
use Rattle.cl_newness.specs.Newness.{AreNew}
use Rattle.cl_newness.proofs.Newness.{new_at_first}
use Rattle.cl_audit_walk.specs.Evaluates.{book, rules}
use Rattle.cl_audit.proofs.Follows.{walked_is}
use Rattle.cl_audit_deploy.specs.Deploying.{deployment_of, opened}
use Rattle.cl_audit_deploy.proofs.Turns.{deployed_at}
use Rattle.cl_audit_deploy.proofs.deploying.audited_deployment.Goals as goal

pub define_charged-requires-clause-new : goal.define_charged-requires-clause-new
define_charged-requires-clause-new c =
    let k = c.args.contract.now in
    subst (λ (cs : List (List ℕ × Val)). AreNew k.principal k.forms c.args.order.now 0 cs c.args.run.now.world.stack.top) (sym c.requires.constants) (new_at_first k.principal k.forms c.args.order.now c.args.run.now.world.stack.top c.requires.tokens)

pub returns-clause-audits : goal.returns-clause-audits
returns-clause-audits c =
    let S = c.args.scope.now in
    let s = c.args.run.now.world.stack.top in
    record {
      deployment =
          subst (λ w. Ends w (opened c.define_charged.result c.define_charged.new.contract) (book c.define_charged.new.run) c.define_charged.new.run.world.stack.top)
          (ap (walked (rules S) (book c.args.run.now)) (sym (deployed_at S c.args.order.now c.args.contract.now s c.requires.ordered)) ∙ walked_is (rules S) (book c.args.run.now) (deployment_of S c.args.contract.now s))
          c.define_charged.ensures.evaluates.ends;
      below = c.define_charged.ensures.evaluates.below;
    }

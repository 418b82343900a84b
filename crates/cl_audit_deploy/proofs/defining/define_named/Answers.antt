use Rattle.cl_audit_walk.proofs.Rules.{so}
use Rattle.cl_audit_deploy.proofs.Forms.{function_at, map_at}
use Rattle.cl_audit_deploy.proofs.Turns.{of_kind}
use Rattle.cl_audit_deploy.proofs.defining.define_named.Goals as goal

pub returns-in-Variable : goal.returns-in-Variable
returns-in-Variable c = of_kind c.args.scope.now _ _ _ c.args.contract.now _ _ _ c.in-Variable.is (c.define_variable.ensures c.in-Variable.field-0)

pub returns-in-MapOf : goal.returns-in-MapOf
returns-in-MapOf c = of_kind c.args.scope.now _ _ _ c.args.contract.now _ _ _ c.in-MapOf.is (so c.args.scope.now _ _ _ _ _ (λ s. map_at _ _ _ _ s c.in-MapOf.field-0 c.in-MapOf.field-1) c.declare.ensures)

pub returns-in-NonFungible : goal.returns-in-NonFungible
returns-in-NonFungible c = of_kind c.args.scope.now _ _ _ c.args.contract.now _ _ _ c.in-NonFungible.is (c.define_nonfungible.ensures c.in-NonFungible.field-0)

pub returns-in-Function : goal.returns-in-Function
returns-in-Function c = of_kind c.args.scope.now _ _ _ c.args.contract.now _ _ _ c.in-Function.is (so c.args.scope.now _ _ _ _ _ (λ s. function_at _ _ _ _ s c.in-Function.access c.in-Function.params.items c.in-Function.body) c.declare-in-Function.ensures)

pub returns-in-Expression : goal.returns-in-Expression
returns-in-Expression c = of_kind c.args.scope.now _ _ _ c.args.contract.now _ _ _ c.in-Expression.is (c.evaluate_alone.ensures c.args.name.now)

use Rattle.std.proofs.Common.{◌≡◌, sym, ◌∙◌}
use Rattle.cl_types.specs.declared.fault.Fault.TheVariants.{Refused}
use Rattle.cl_tokens.specs.declared.refusal.TokenRefusal.TheVariants.{Code, SupplyOverflow}
use Rattle.cl_events.specs.Acts.{acted}
use Rattle.cl_audit_steps.proofs.TokenLaws.{act_lost, act_done, act_refused, act_overflows, refused_act}
use Rattle.cl_audit_steps.proofs.tokens.act_there.Goals as goal

pub returns-then-not-is_there : goal.returns-then-not-is_there
returns-then-not-is_there c S = act_lost S c.args.scope.now.frame.now.contract c.args.kind _ c.args.world.now.stack c.is_there.ensures c.if-not-is_there.true

pub perform-requires : goal.perform-requires
perform-requires c = c.acts_have_answers.ensures _ _ _ (sym c.is_there.ensures ∙ c.if-not-is_there.false)

pub returns-in-Ok : goal.returns-in-Ok
returns-in-Ok c S = act_done S c.args.scope.now.frame.now.contract c.args.kind c.in-Ok.ensures.0 c.args.world.now.stack c.perform.new.world.stack _ c.in-Ok.ensures.1 c.in-Ok.ensures.2 c.success_answer.ensures

pub returns-in-Err-Refused-Code : goal.returns-in-Err-Refused-Code
returns-in-Err-Refused-Code c S =
    let is : c.in-Err-Refused-Code.field-0 ≡ Refused (Code c.in-Err-Refused-Code.number) = cc (c.in-Err-Refused-Code.field-0-is, c.in-Err-Refused-Code.field-0-0-is) in
    let did = refused_act (acted c.args.scope.now.frame.now.contract c.args.kind c.args.world.now.stack.top) c.args.world.now.stack c.perform.new.world.stack c.in-Err-Refused-Code.field-0 (Code c.in-Err-Refused-Code.number) is c.in-Err-Refused-Code.ensures in
    act_refused S c.args.scope.now.frame.now.contract c.args.kind c.in-Err-Refused-Code.number c.args.world.now.stack c.perform.new.world.stack _ did.0 did.1 c.refusal_answer.ensures

pub returns-in-Err-Refused-SupplyOverflow : goal.returns-in-Err-Refused-SupplyOverflow
returns-in-Err-Refused-SupplyOverflow c S =
    let is : c.in-Err-Refused-SupplyOverflow.field-0 ≡ Refused SupplyOverflow = cc (c.in-Err-Refused-SupplyOverflow.field-0-is, c.in-Err-Refused-SupplyOverflow.field-0-0-is) in
    let did = refused_act (acted c.args.scope.now.frame.now.contract c.args.kind c.args.world.now.stack.top) c.args.world.now.stack c.perform.new.world.stack c.in-Err-Refused-SupplyOverflow.field-0 SupplyOverflow is c.in-Err-Refused-SupplyOverflow.ensures in
    act_overflows S c.args.scope.now.frame.now.contract c.args.kind c.args.world.now.stack c.perform.new.world.stack did.0 did.1

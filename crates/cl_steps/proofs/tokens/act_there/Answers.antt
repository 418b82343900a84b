use Rattle.std.proofs.Common.{◌≡◌, sym, ap, ◌∙◌}
use Rattle.cl_state.specs.Stack.{Stack}
use Rattle.cl_frames.proofs.TokenLaws
use Rattle.cl_types.specs.declared.fault.Fault.TheVariants.{Refused}
use Rattle.cl_tokens.specs.declared.refusal.TokenRefusal.TheVariants.{Code, SupplyOverflow}
use Rattle.cl_events.specs.Acts.{acted}
use Rattle.cl_steps.proofs.tokens.act_there.Goals as goal

pub returns-then-not-is_there-clause-meant : goal.returns-then-not-is_there-clause-meant
returns-then-not-is_there-clause-meant c costs p =
    TokenLaws.act_lost _ _ _ _ _ (sym c.is_there.ensures ∙ c.if-not-is_there.true)

pub returns-in-Ok-clause-meant : goal.returns-in-Ok-clause-meant
returns-in-Ok-clause-meant c costs p =
    TokenLaws.act_done costs p _ _ c.in-Ok.ensures.0 c.args.world.now.stack c.perform.new.world.stack _ c.in-Ok.ensures.1 c.in-Ok.ensures.2 c.done.ensures

pub returns-in-Ok-clause-below : goal.returns-in-Ok-clause-below
returns-in-Ok-clause-below c =
    ap (λ (s : Stack). s.below) c.in-Ok.ensures.2

pub perform-requires : goal.perform-requires
perform-requires c =
    c.acts_have_answers.ensures _ _ _ (sym c.is_there.ensures ∙ c.if-not-is_there.false)

pub returns-in-Err-Refused-Code-clause-meant : goal.returns-in-Err-Refused-Code-clause-meant
returns-in-Err-Refused-Code-clause-meant c costs p =
    let is : c.in-Err-Refused-Code.field-0 ≡ Refused (Code c.in-Err-Refused-Code.number) = cc (c.in-Err-Refused-Code.field-0-is, c.in-Err-Refused-Code.field-0-0-is) in
    let did = TokenLaws.refused_act (acted c.args.context.now.frame.now.contract c.args.kind c.args.world.now.stack.top) c.args.world.now.stack c.perform.new.world.stack c.in-Err-Refused-Code.field-0 (Code c.in-Err-Refused-Code.number) is c.in-Err-Refused-Code.ensures in
    TokenLaws.act_refused costs p _ c.in-Err-Refused-Code.number c.args.world.now.stack.top c.perform.new.world.stack _ did.0 (ap (λ (s : Stack). s.top) did.1) c.refused.ensures

pub returns-in-Err-Refused-SupplyOverflow-clause-meant : goal.returns-in-Err-Refused-SupplyOverflow-clause-meant
returns-in-Err-Refused-SupplyOverflow-clause-meant c costs p =
    let is : c.in-Err-Refused-SupplyOverflow.field-0 ≡ Refused SupplyOverflow = cc (c.in-Err-Refused-SupplyOverflow.field-0-is, c.in-Err-Refused-SupplyOverflow.field-0-0-is) in
    let did = TokenLaws.refused_act (acted c.args.context.now.frame.now.contract c.args.kind c.args.world.now.stack.top) c.args.world.now.stack c.perform.new.world.stack c.in-Err-Refused-SupplyOverflow.field-0 SupplyOverflow is c.in-Err-Refused-SupplyOverflow.ensures in
    TokenLaws.act_overflows costs p _ c.args.world.now.stack.top did.0

use Rattle.std.proofs.Common.{refl, ◌∙◌}
use Rattle.std.specs.Borrow.{Bor}
use Rattle.cl_types.specs.declared.sized.SizedTy.{SizedTy}
use Rattle.cl_typing.proofs.InOrder.{one_taken, one_shown, all_taken}
use Rattle.cl_typing.proofs.iterations.each.Goals as goal

pub loop-ty-preserved : goal.loop-ty-preserved
loop-ty-preserved c =
    one_shown (λ (t : Bor SizedTy). t.now) c.loop-ty.each.items _ _ _ c.ty-item.result c.in_ok-push.ensures.items refl c.loop-ty.invariant
    ∙ one_taken c.args.types.now c.loop-ty.ty-index c.ty-item.result c.loop-ty-test.true c.ty-item.is

pub returns : goal.returns
returns c = c.loop-ty.invariant ∙ all_taken c.args.types.now c.loop-ty.ty-index c.loop-ty-test.false

use Rattle.std.proofs.Common.{map, ap, ◌∙◌}
use Rattle.std.specs.Borrow.{Bor}
use Rattle.cl_types.specs.declared.sized.SizedTy.{SizedTy}
use Rattle.cl_code.specs.Typed.{type_of}
use Rattle.cl_typing.specs.declared.concluding.Checked.{Checked}
use Rattle.cl_typing.proofs.InOrder.{one_read, one_shown, all_taken}
use Rattle.cl_typing.proofs.verdicts.types_of.Goals as goal

pub loop-part-preserved : goal.loop-part-preserved
loop-part-preserved c =
    one_shown (λ (t : Bor SizedTy). t.now) c.loop-part.types.items _ c.result.result _ _ c.in_ok-push.ensures.items c.result.ensures c.loop-part.invariant
    ∙ one_read (λ (p : Checked). type_of p.code) c.args.parts.now c.loop-part.part-index c.part-item.result c.loop-part-test.true c.part-item.is

pub returns : goal.returns
returns c = c.loop-part.invariant ∙ ap (map (λ (p : Checked). type_of p.code)) (all_taken c.args.parts.now c.loop-part.part-index c.loop-part-test.false)

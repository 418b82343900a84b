use Rattle.std.proofs.Common.{◌<◌, [], ◌∷◌, ◌++◌, length, ◌∙◌, ap, arith}
use Rattle.cl_file.proofs.Holdings.{taken_next}
use Rattle.cl_file.proofs.holders.listed.Goals as goal

pub loop-i-preserved : goal.loop-i-preserved
loop-i-preserved c =
    let below : c.loop-i.i < length c.args.holders.now.entries = omega (arith, c.loop-i-test.true, c.len-i-end.ensures.len) in
    c.in_ok-push.ensures.items ∙ ap (λ held. held ++ (c.in-Some.principal.now, c.in-Some.amount.now) ∷ []) c.loop-i.invariant ∙ taken_next c.args.holders.now.entries c.loop-i.i _ below c.in-Some.ensures.entry

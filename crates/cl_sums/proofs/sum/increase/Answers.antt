use Rattle.std.proofs.Common.{◌≡◌, ◌+◌, ap, ◌∙◌, arith}
use Rattle.cl_sums.specs.Sums.{fitting}
use Rattle.cl_sums.proofs.sum.increase.Goals as goal

pub returns-then-by-eq0 : goal.returns-then-by-eq0
returns-then-by-eq0 c m is =
    let same : m ≡ m + c.args.by = omega (arith, c.if-by-eq0.true) in
    is ∙ ap fitting same

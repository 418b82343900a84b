use Rattle.std.proofs.Common.{◌≢◌, length, arith}
use Rattle.cl_values.proofs.Applies.{answered_so}
use Rattle.cl_apply.proofs.NumberLaws.{not_alone}
use Rattle.cl_apply.proofs.numbers.difference.Goals as goal

pub returns-else-values-eq1 : goal.returns-else-values-eq1
returns-else-values-eq1 c =
    let other : length c.args.values.now ≢ 1 = omega arith in
    answered_so _ _ _ (not_alone _ other) c.from_left.ensures

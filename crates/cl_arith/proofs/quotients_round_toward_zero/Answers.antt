use Rattle.std.proofs.lemmas.Int.{quot-rem}
use Rattle.cl_arith.proofs.Laws.{unsigned_abs-int_rem, int_rem-nonnegative, int_rem-nonpositive}
use Rattle.cl_arith.proofs.quotients_round_toward_zero.Goals as goal

pub returns-clause-whole : goal.returns-clause-whole
returns-clause-whole c = quot-rem

pub returns-clause-nearer : goal.returns-clause-nearer
returns-clause-nearer c = unsigned_abs-int_rem

pub returns-clause-nonnegative : goal.returns-clause-nonnegative
returns-clause-nonnegative c = int_rem-nonnegative

pub returns-clause-nonpositive : goal.returns-clause-nonpositive
returns-clause-nonpositive c = int_rem-nonpositive

use Rattle.std.proofs.Common.{refl}
use Rattle.cl_meaning.specs.Opened.{opened}
use Rattle.cl_meaning.proofs.examples.across_row.Goals as goal

pub returns-clause-mine_errs : goal.returns-clause-mine_errs
unfolding opened
returns-clause-mine_errs c = refl

pub returns-clause-all_undone : goal.returns-clause-all_undone
unfolding opened
returns-clause-all_undone c = refl

pub returns-clause-other_errs : goal.returns-clause-other_errs
unfolding opened
returns-clause-other_errs c = refl

pub returns-clause-other_undone : goal.returns-clause-other_undone
unfolding opened
returns-clause-other_undone c = refl

pub returns-clause-none_errs : goal.returns-clause-none_errs
unfolding opened
returns-clause-none_errs c = refl

pub returns-clause-all_stands : goal.returns-clause-all_stands
unfolding opened
returns-clause-all_stands c = refl

pub returns-clause-cost : goal.returns-clause-cost
unfolding opened
returns-clause-cost c = refl

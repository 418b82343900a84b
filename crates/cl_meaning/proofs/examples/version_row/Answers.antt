use Rattle.std.proofs.Common.{refl}
use Rattle.cl_meaning.specs.Opened.{opened}
use Rattle.cl_meaning.proofs.examples.version_row.Goals as goal

pub returns-clause-new : goal.returns-clause-new
unfolding opened
returns-clause-new c = refl

pub returns-clause-old : goal.returns-clause-old
unfolding opened
returns-clause-old c = refl

pub returns-clause-old_asks : goal.returns-clause-old_asks
unfolding opened
returns-clause-old_asks c = refl

pub returns-clause-later_asks : goal.returns-clause-later_asks
unfolding opened
returns-clause-later_asks c = refl

pub returns-clause-part : goal.returns-clause-part
unfolding opened
returns-clause-part c = refl

pub returns-clause-part_cost : goal.returns-clause-part_cost
unfolding opened
returns-clause-part_cost c = refl

pub returns-clause-no_part : goal.returns-clause-no_part
unfolding opened
returns-clause-no_part c = refl

pub returns-clause-spelled : goal.returns-clause-spelled
unfolding opened
returns-clause-spelled c = refl

pub returns-clause-spelled_cost : goal.returns-clause-spelled_cost
unfolding opened
returns-clause-spelled_cost c = refl

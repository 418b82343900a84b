use Rattle.cl_tx.proofs.StepLaws.{others_rebound_none, same_rebounds_none, other_rebounds}
use Rattle.cl_tx.proofs.laws.rebounds_are_told_where_epochs_change.Goals as goal

pub returns-clause-others : goal.returns-clause-others
returns-clause-others c = others_rebound_none

pub returns-clause-same : goal.returns-clause-same
returns-clause-same c = same_rebounds_none c.one_table_an_epoch.ensures.table

pub returns-clause-changed : goal.returns-clause-changed
returns-clause-changed c = other_rebounds

use Rattle.std.proofs.Common.{refl}
use Rattle.cl_meaning.specs.Opened.{opened}
use Rattle.cl_meaning.proofs.examples.token_row.Goals as goal

pub returns-clause-deployed : goal.returns-clause-deployed
unfolding opened
returns-clause-deployed c = refl

pub returns-clause-deploy_state : goal.returns-clause-deploy_state
unfolding opened
returns-clause-deploy_state c = refl

pub returns-clause-deploy_cost : goal.returns-clause-deploy_cost
unfolding opened
returns-clause-deploy_cost c = refl

pub returns-clause-mint : goal.returns-clause-mint
unfolding opened
returns-clause-mint c = refl

pub returns-clause-mint_cost : goal.returns-clause-mint_cost
unfolding opened
returns-clause-mint_cost c = refl

pub returns-clause-mint_state : goal.returns-clause-mint_state
unfolding opened
returns-clause-mint_state c = refl

pub returns-clause-mint_events : goal.returns-clause-mint_events
unfolding opened
returns-clause-mint_events c = refl

pub returns-clause-mint_moves : goal.returns-clause-mint_moves
unfolding opened
returns-clause-mint_moves c = refl

pub returns-clause-transfer : goal.returns-clause-transfer
unfolding opened
returns-clause-transfer c = refl

pub returns-clause-transfer_cost : goal.returns-clause-transfer_cost
unfolding opened
returns-clause-transfer_cost c = refl

pub returns-clause-transfer_state : goal.returns-clause-transfer_state
unfolding opened
returns-clause-transfer_state c = refl

pub returns-clause-note : goal.returns-clause-note
unfolding opened
returns-clause-note c = refl

pub returns-clause-note_cost : goal.returns-clause-note_cost
unfolding opened
returns-clause-note_cost c = refl

pub returns-clause-note_events : goal.returns-clause-note_events
unfolding opened
returns-clause-note_events c = refl

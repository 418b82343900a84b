use Rattle.std.proofs.Common.{refl}
use Rattle.cl_meaning.specs.Opened.{opened}
use Rattle.cl_meaning.proofs.examples.insert_row.Goals as goal

pub returns-clause-inserts : goal.returns-clause-inserts
unfolding opened
returns-clause-inserts c = refl

pub returns-clause-inserted : goal.returns-clause-inserted
unfolding opened
returns-clause-inserted c = refl

pub returns-clause-insert_cost : goal.returns-clause-insert_cost
unfolding opened
returns-clause-insert_cost c = refl

pub returns-clause-keeps : goal.returns-clause-keeps
unfolding opened
returns-clause-keeps c = refl

pub returns-clause-kept : goal.returns-clause-kept
unfolding opened
returns-clause-kept c = refl

pub returns-clause-token : goal.returns-clause-token
unfolding opened
returns-clause-token c = refl

pub returns-clause-mints : goal.returns-clause-mints
unfolding opened
returns-clause-mints c = refl

pub returns-clause-minted : goal.returns-clause-minted
unfolding opened
returns-clause-minted c = refl

pub returns-clause-mint_cost : goal.returns-clause-mint_cost
unfolding opened
returns-clause-mint_cost c = refl

pub returns-clause-refuses : goal.returns-clause-refuses
unfolding opened
returns-clause-refuses c = refl

pub returns-clause-unchanged : goal.returns-clause-unchanged
unfolding opened
returns-clause-unchanged c = refl

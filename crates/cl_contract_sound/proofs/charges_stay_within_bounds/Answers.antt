use Rattle.cl_contract_sound.proofs.UnderLimits.{spent_low}
use Rattle.cl_contract_sound.proofs.charges_stay_within_bounds.Goals as goal

pub returns-clause-calls : goal.returns-clause-calls
returns-clause-calls c = λ costs W t bound a h p. spent_low costs bound a h.within p

pub returns-clause-deployments : goal.returns-clause-deployments
returns-clause-deployments c = λ table W ks bound a h p. spent_low table bound a h.within p

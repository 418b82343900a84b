use Rattle.std.proofs.Common.{◌∷◌}
use Rattle.cl_meaning.specs.Kept.{Whole}
use Rattle.cl_expression_sound.specs.Sound.{deployed_world}
use Rattle.cl_contract_sound.specs.Nodes.{IsNode}
use Rattle.cl_contract_sound.proofs.UnderLimits.{fine_under, end_under, enough}
use Rattle.cl_contract_sound.proofs.limits_leave_sound_answers.Goals as goal
use Rattle.cl_values.specs.Typed.{IsOf}

pub returns-clause-sound : goal.returns-clause-sound
returns-clause-sound c = λ costs W t bound a h others p. fine_under (deployed_world costs W Whole) (λ v. IsOf v t) bound a h others p

pub returns-clause-enough : goal.returns-clause-enough
returns-clause-enough c = λ costs W t bound a h p low. enough costs bound a h.within p low

pub returns-clause-deployments : goal.returns-clause-deployments
returns-clause-deployments c = λ table W ks bound a h others p. end_under (λ d t. IsNode (d ∷ W) ks t) a h.outcome others p

pub returns-clause-enough_for_deployments : goal.returns-clause-enough_for_deployments
returns-clause-enough_for_deployments c = λ table W ks bound a h p low. enough table bound a h.within p low

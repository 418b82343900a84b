use Rattle.cl_contract_sound.proofs.Deploying.{deployment_is_sound}
use Rattle.cl_contract_sound.proofs.NextNode.{first_node}
use Rattle.cl_contract_sound.proofs.TextDeployments.{text_is_sound}
use Rattle.cl_contract_sound.proofs.deployments_are_sound.Goals as goal

pub returns-clause-sound : goal.returns-clause-sound
returns-clause-sound c = deployment_is_sound

pub returns-clause-texts : goal.returns-clause-texts
returns-clause-texts c = text_is_sound

pub returns-clause-first : goal.returns-clause-first
returns-clause-first c = first_node

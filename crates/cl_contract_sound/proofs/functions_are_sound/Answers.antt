use Rattle.cl_contract_sound.proofs.Functions.{function_is_sound}
use Rattle.cl_contract_sound.proofs.Signed.{each_signed}
use Rattle.cl_contract_sound.proofs.functions_are_sound.Goals as goal

pub returns-clause-sound : goal.returns-clause-sound
returns-clause-sound c = function_is_sound

pub returns-clause-signed : goal.returns-clause-signed
returns-clause-signed c = each_signed

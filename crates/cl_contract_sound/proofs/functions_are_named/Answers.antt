use Rattle.cl_contract_sound.proofs.Named.{each_named}
use Rattle.cl_contract_sound.proofs.functions_are_named.Goals as goal

pub returns : goal.returns
returns c = each_named

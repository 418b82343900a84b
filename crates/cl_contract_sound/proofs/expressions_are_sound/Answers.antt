use Rattle.cl_meaning.specs.Kept.{Whole}
use Rattle.cl_contract_sound.proofs.Functions.{expression_is_sound}
use Rattle.cl_contract_sound.proofs.expressions_are_sound.Goals as goal

pub returns : goal.returns
returns c = λ costs W A G good F framed B E are e f t fit depth low s n. expression_is_sound costs W Whole A G good F framed B E are e f t fit depth low s n

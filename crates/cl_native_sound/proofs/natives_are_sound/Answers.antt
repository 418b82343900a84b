use Rattle.cl_native_sound.proofs.EachNative.{native_ends, native_small}
use Rattle.cl_native_sound.proofs.Charges.{numbers_within}
use Rattle.cl_native_sound.proofs.natives_are_sound.Goals as goal

pub returns-clause-ends : goal.returns-clause-ends
returns-clause-ends c = λ n ts vs fit. native_ends n ts vs fit.count fit.typed fit.clean

pub returns-clause-small : goal.returns-clause-small
returns-clause-small c = native_small

pub returns-clause-numbers : goal.returns-clause-numbers
returns-clause-numbers c = numbers_within

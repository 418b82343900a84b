use Rattle.cl_values.proofs.Digests.{hash_256, hash_512, hash_512_256}
use Rattle.cl_values.proofs.laws.digests_have_lengths.Goals as goal

pub returns-clause-sha256 : goal.returns-clause-sha256
returns-clause-sha256 c = hash_256

pub returns-clause-sha512 : goal.returns-clause-sha512
returns-clause-sha512 c = hash_512

pub returns-clause-sha512_256 : goal.returns-clause-sha512_256
returns-clause-sha512_256 c = hash_512_256

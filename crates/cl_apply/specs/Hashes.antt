-- The hash functions.
use Rattle.std.specs.Prelude.{ℕ, List}
use Rattle.sha2.specs.Sha256.{sha256}
use Rattle.sha2.specs.Sha512.{sha512, sha512_256}
use Rattle.cl_apply.specs.declared.hashes.Hash.{Hash}
use Rattle.cl_apply.specs.declared.hashes.Hash.TheVariants.{Sha256, Sha512Of256, Sha512}

abbrev pub hash_of : Hash → List ℕ → List ℕ
hash_of Sha256 = sha256
hash_of Sha512Of256 = sha512_256
hash_of Sha512 = sha512

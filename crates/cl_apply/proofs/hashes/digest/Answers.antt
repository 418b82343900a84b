use Rattle.cl_apply.specs.Hashes.{hash_of}
use Rattle.cl_values.proofs.Applies.{applied_so}
use Rattle.cl_apply.proofs.HashLaws.{digest_of_number}
use Rattle.cl_apply.proofs.hashes.digest.Goals as goal

pub returns-in-Some : goal.returns-in-Some
returns-in-Some c =
    applied_so _ _ c.number_digest.result (digest_of_number (hash_of c.args.hash) c.args.value.now c.in-Some.number c.in-Some.ensures) c.number_digest.ensures

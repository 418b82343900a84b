use Rattle.std.proofs.Common.{rules}
use Rattle.cl_codec.proofs.parts.read_address.Goals as goal

pub returns-in_err-hash-clause-broken : goal.returns-in_err-hash-clause-broken
returns-in_err-hash-clause-broken c = search rules

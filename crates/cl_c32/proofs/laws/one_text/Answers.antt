use Rattle.cl_c32.proofs.RoundTrip.{decoded-address_text, address_text-decoded, texts-apart, length-address_text, checksums-differ}
use Rattle.cl_c32.proofs.laws.one_text.Goals as goal

pub returns-clause-back : goal.returns-clause-back
returns-clause-back c = decoded-address_text

pub returns-clause-unique : goal.returns-clause-unique
returns-clause-unique c = address_text-decoded

pub returns-clause-apart : goal.returns-clause-apart
returns-clause-apart c = texts-apart

pub returns-clause-short : goal.returns-clause-short
returns-clause-short c = length-address_text

pub returns-clause-differ : goal.returns-clause-differ
returns-clause-differ c = checksums-differ

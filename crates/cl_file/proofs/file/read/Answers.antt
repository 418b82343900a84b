use Rattle.std.proofs.Common.{◌≡◌, Ok, Err}
use Rattle.cl_file.specs.Objects.{Texts}
use Rattle.cl_file.specs.Files.{file_of}
use Rattle.cl_file.proofs.Handed.{ok_each, refuses_each}
use Rattle.cl_file.proofs.file.read.Goals as goal

pub returns-clause-found : goal.returns-clause-found
returns-clause-found c = ok_each (λ (v : Texts) f. file_of v.of c.args.bytes.now ≡ Ok f) c.read_text.result c.read_text.ensures.found

pub returns-clause-broken : goal.returns-clause-broken
returns-clause-broken c = refuses_each (λ (v : Texts) r. file_of v.of c.args.bytes.now ≡ Err r) c.read_text.result c.read_text.ensures.broken

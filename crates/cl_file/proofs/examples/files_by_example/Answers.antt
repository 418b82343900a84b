use Rattle.std.proofs.Common.{refl}
use Rattle.serde_json.proofs.OnLiterals.{serde_json_on_literals}
use Rattle.cl_file.specs.Paths.{and_then, said, each_from}
use Rattle.cl_file.specs.Objects.{needed, and_more, only, object_by}
use Rattle.cl_file.specs.Entries.{block, entry, entry_after}
use Rattle.cl_file.specs.Files.{tested, epochs_of, entries_of, file_by, members_of, file_in}
use Rattle.cl_file.proofs.examples.files_by_example.Goals as goal

pub returns-clause-block : goal.returns-clause-block
unfolding serde_json_on_literals and_then said each_from needed and_more only object_by block entry entry_after tested epochs_of entries_of file_by members_of file_in
returns-clause-block c v = refl

pub returns-clause-version : goal.returns-clause-version
unfolding serde_json_on_literals and_then said each_from needed and_more only object_by block entry entry_after tested epochs_of entries_of file_by members_of file_in
returns-clause-version c v = refl

pub returns-clause-unknown : goal.returns-clause-unknown
unfolding serde_json_on_literals and_then said each_from needed and_more only object_by block entry entry_after tested epochs_of entries_of file_by members_of file_in
returns-clause-unknown c v = refl

pub returns-clause-falls : goal.returns-clause-falls
unfolding serde_json_on_literals and_then said each_from needed and_more only object_by block entry entry_after tested epochs_of entries_of file_by members_of file_in
returns-clause-falls c v = refl

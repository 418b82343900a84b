use Rattle.std.proofs.Common.{refl}
use Rattle.serde_json.proofs.OnLiterals.{serde_json_on_literals}
use Rattle.cl_file.specs.Paths.{and_then, said, each_from}
use Rattle.cl_file.specs.Objects.{needed, and_more, only, object_by}
use Rattle.cl_file.specs.Entries.{block, entry, entry_after}
use Rattle.cl_file.specs.Files.{tested, holder_at, epochs_of, entries_of, file_by, members_of, file_in}
use Rattle.cl_file.proofs.examples.faults_by_example.Goals as goal

pub returns-clause-no_object : goal.returns-clause-no_object
unfolding serde_json_on_literals and_then said each_from needed and_more only object_by block entry entry_after tested holder_at epochs_of entries_of file_by members_of file_in
returns-clause-no_object c v = refl

pub returns-clause-no_version : goal.returns-clause-no_version
unfolding serde_json_on_literals and_then said each_from needed and_more only object_by block entry entry_after tested holder_at epochs_of entries_of file_by members_of file_in
returns-clause-no_version c v = refl

pub returns-clause-absent : goal.returns-clause-absent
unfolding serde_json_on_literals and_then said each_from needed and_more only object_by block entry entry_after tested holder_at epochs_of entries_of file_by members_of file_in
returns-clause-absent c v = refl

pub returns-clause-kind : goal.returns-clause-kind
unfolding serde_json_on_literals and_then said each_from needed and_more only object_by block entry entry_after tested holder_at epochs_of entries_of file_by members_of file_in
returns-clause-kind c v = refl

pub returns-clause-alone : goal.returns-clause-alone
unfolding serde_json_on_literals and_then said each_from needed and_more only object_by block entry entry_after tested holder_at epochs_of entries_of file_by members_of file_in
returns-clause-alone c v = refl

pub returns-clause-height : goal.returns-clause-height
unfolding serde_json_on_literals and_then said each_from needed and_more only object_by block entry entry_after tested holder_at epochs_of entries_of file_by members_of file_in
returns-clause-height c v = refl

pub returns-clause-holder : goal.returns-clause-holder
unfolding serde_json_on_literals and_then said each_from needed and_more only object_by block entry entry_after tested holder_at epochs_of entries_of file_by members_of file_in
returns-clause-holder c v = refl

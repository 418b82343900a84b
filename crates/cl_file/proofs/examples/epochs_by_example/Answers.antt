use Rattle.std.proofs.Common.{refl}
use Rattle.serde_json.proofs.OnLiterals.{serde_json_on_literals}
use Rattle.cl_costs.specs.CostFile.{table_in, functions_at, function_at}
use Rattle.cl_file.specs.Paths.{and_then, said, each_from}
use Rattle.cl_file.specs.Objects.{needed, only}
use Rattle.cl_file.specs.Epochs.{epoch_above}
use Rattle.cl_file.specs.Files.{tested, epochs_of, entries_of, file_by, members_of, second_members_of, file_in}
use Rattle.cl_file.proofs.examples.epochs_by_example.Goals as goal

pub returns-clause-none : goal.returns-clause-none
unfolding serde_json_on_literals table_in functions_at function_at and_then said each_from needed only epoch_above tested epochs_of entries_of file_by members_of second_members_of file_in
returns-clause-none c v = refl

pub returns-clause-first : goal.returns-clause-first
unfolding serde_json_on_literals table_in functions_at function_at and_then said each_from needed only epoch_above tested epochs_of entries_of file_by members_of second_members_of file_in
returns-clause-first c v = refl

pub returns-clause-absent : goal.returns-clause-absent
unfolding serde_json_on_literals table_in functions_at function_at and_then said each_from needed only epoch_above tested epochs_of entries_of file_by members_of second_members_of file_in
returns-clause-absent c v = refl

pub returns-clause-no_array : goal.returns-clause-no_array
unfolding serde_json_on_literals table_in functions_at function_at and_then said each_from needed only epoch_above tested epochs_of entries_of file_by members_of second_members_of file_in
returns-clause-no_array c v = refl

pub returns-clause-no_object : goal.returns-clause-no_object
unfolding serde_json_on_literals table_in functions_at function_at and_then said each_from needed only epoch_above tested epochs_of entries_of file_by members_of second_members_of file_in
returns-clause-no_object c v = refl

pub returns-clause-unknown : goal.returns-clause-unknown
unfolding serde_json_on_literals table_in functions_at function_at and_then said each_from needed only epoch_above tested epochs_of entries_of file_by members_of second_members_of file_in
returns-clause-unknown c v = refl

pub returns-clause-zero : goal.returns-clause-zero
unfolding serde_json_on_literals table_in functions_at function_at and_then said each_from needed only epoch_above tested epochs_of entries_of file_by members_of second_members_of file_in
returns-clause-zero c v = refl

pub returns-clause-costs : goal.returns-clause-costs
unfolding serde_json_on_literals table_in functions_at function_at and_then said each_from needed only epoch_above tested epochs_of entries_of file_by members_of second_members_of file_in
returns-clause-costs c v = refl

pub returns-clause-equal : goal.returns-clause-equal
unfolding serde_json_on_literals table_in functions_at function_at and_then said each_from needed only epoch_above tested epochs_of entries_of file_by members_of second_members_of file_in
returns-clause-equal c v = refl

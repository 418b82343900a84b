use Rattle.std.specs.Prelude.{Some, option_map}
use Rattle.cl_words.specs.Seen.{command_seen, line_of}
use Rattle.cl_words.proofs.WordSources.{line_is_of_table}
use Rattle.cl_words.proofs.words.command_on.Goals as goal

pub returns-in-Some-clause-table : goal.returns-in-Some-clause-table
returns-in-Some-clause-table c = line_is_of_table (Some (line_of c.in-Some.line)) (option_map command_seen c.command_in.result) c.command_in.ensures

use Rattle.cl_values.proofs.Entries.{entries_of_value, few}
use Rattle.cl_values.proofs.Joined.{like_some}
use Rattle.cl_values.proofs.laws.sequences_have_entries.Goals as goal

pub returns-clause-entries : goal.returns-clause-entries
returns-clause-entries c = λ t v. entries_of_value v t

pub returns-clause-few : goal.returns-clause-few
returns-clause-few c = few

pub returns-clause-like : goal.returns-clause-like
returns-clause-like c = like_some

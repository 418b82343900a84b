use Rattle.std.proofs.Common.{refl}
use Rattle.serde_json.proofs.OnLiterals.{serde_json_on_literals}
use Rattle.cl_file.proofs.examples.versions_by_example.Goals as goal

pub returns-clause-one : goal.returns-clause-one
unfolding serde_json_on_literals
returns-clause-one c = refl

pub returns-clause-two : goal.returns-clause-two
unfolding serde_json_on_literals
returns-clause-two c = refl

pub returns-clause-zero : goal.returns-clause-zero
unfolding serde_json_on_literals
returns-clause-zero c = refl

pub returns-clause-three : goal.returns-clause-three
unfolding serde_json_on_literals
returns-clause-three c = refl

pub returns-clause-text : goal.returns-clause-text
unfolding serde_json_on_literals
returns-clause-text c = refl

pub returns-clause-null : goal.returns-clause-null
unfolding serde_json_on_literals
returns-clause-null c = refl

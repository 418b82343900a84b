use Rattle.cl_forms.proofs.Found.{found_by_name, named_alone}
use Rattle.cl_forms.proofs.laws.natives_have_one_name.Goals as goal

pub returns-clause-found : goal.returns-clause-found
returns-clause-found c = found_by_name

pub returns-clause-alone : goal.returns-clause-alone
returns-clause-alone c = named_alone

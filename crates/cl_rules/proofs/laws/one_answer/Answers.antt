use Rattle.cl_rules.proofs.Walk.{one_type, clean, never_both, one_first, decided}
use Rattle.cl_rules.proofs.laws.one_answer.Goals as goal

pub returns-clause-one_type : goal.returns-clause-one_type
returns-clause-one_type c = λ G B e f g d x. one_type G d x

pub returns-clause-clean : goal.returns-clause-clean
returns-clause-clean c = λ G B C e d f r x l k. clean G x l k

pub returns-clause-never_both : goal.returns-clause-never_both
returns-clause-never_both c = never_both

pub returns-clause-one_first : goal.returns-clause-one_first
returns-clause-one_first c = one_first

pub returns-clause-decided : goal.returns-clause-decided
returns-clause-decided c = decided

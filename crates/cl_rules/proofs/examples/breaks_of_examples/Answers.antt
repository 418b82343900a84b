use Rattle.cl_rules.proofs.ComputedFirsts.{first_breaks}
use Rattle.cl_rules.proofs.ComputedBreaks.{breaks_by_shape, breaks_by_types, breaks_in_match, breaks_of_forms, breaks_in_order, accepted_examples}
use Rattle.cl_rules.proofs.examples.breaks_of_examples.Goals as goal

pub returns-clause-by_shape : goal.returns-clause-by_shape
returns-clause-by_shape c = breaks_by_shape

pub returns-clause-by_types : goal.returns-clause-by_types
returns-clause-by_types c = breaks_by_types

pub returns-clause-in_match : goal.returns-clause-in_match
returns-clause-in_match c = breaks_in_match

pub returns-clause-of_forms : goal.returns-clause-of_forms
returns-clause-of_forms c = breaks_of_forms

pub returns-clause-in_order : goal.returns-clause-in_order
returns-clause-in_order c = breaks_in_order

pub returns-clause-none : goal.returns-clause-none
returns-clause-none c = accepted_examples

pub returns-clause-first : goal.returns-clause-first
returns-clause-first c = first_breaks

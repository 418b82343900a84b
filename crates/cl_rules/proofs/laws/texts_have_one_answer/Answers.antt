use Rattle.cl_forms.specs.Shapes.{trees_of}
use Rattle.cl_rules.proofs.Accepting.{accepted_clean, one_defined}
use Rattle.cl_rules.proofs.TextForms.{text_placed}
use Rattle.cl_rules.proofs.FormRulesOnce.{one_form_rule}
use Rattle.cl_rules.proofs.OneFirst.{one_first_of}
use Rattle.cl_rules.proofs.laws.texts_have_one_answer.Goals as goal

pub returns-clause-clean : goal.returns-clause-clean
returns-clause-clean c = λ deployed principal table text rule span names a b.
    accepted_clean (record { one = c.one_reading.ensures.reading; either = c.one_reading.ensures.either }) deployed principal text table rule span names a b

pub returns-clause-one_defined : goal.returns-clause-one_defined
returns-clause-one_defined c = λ deployed principal table text a b.
    one_defined (record { one = c.one_reading.ensures.reading; either = c.one_reading.ensures.either }) deployed principal text table a b

pub returns-clause-one_first : goal.returns-clause-one_first
returns-clause-one_first c = λ deployed principal table text r q s u n m x y.
    one_first_of (record {
      reading = record { one = c.one_reading.ensures.reading; either = c.one_reading.ensures.either };
      first = c.one_reading.ensures.first;
      rules = λ t items b d reads h k. one_form_rule t.version (trees_of items) (text_placed (record { items = c.items_stand_in_order.ensures; each = c.expressions_are_placed.ensures.items; forms = c.expressions_are_placed.ensures.forms }) t items reads) b d h k;
    }) deployed principal table text r q s u n m x y

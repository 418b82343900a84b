use Rattle.cl_forms.specs.Shapes.{trees_of}
use Rattle.cl_rules.proofs.Accepting.{ordered_same, never_unordered}
use Rattle.cl_rules.proofs.TextForms.{text_placed}
use Rattle.cl_rules.proofs.FormRulesOnce.{one_form_rule}
use Rattle.cl_rules.proofs.OneUnordered.{one_unordered}
use Rattle.cl_rules.proofs.laws.texts_have_one_order.Goals as goal

pub returns-clause-order : goal.returns-clause-order
returns-clause-order c = λ text f g o p x y.
    ordered_same (record { one = c.one_reading.ensures.reading; either = c.one_reading.ensures.either }) x y

pub returns-clause-clean : goal.returns-clause-clean
returns-clause-clean c = λ text forms order rule span names x y.
    never_unordered (record { one = c.one_reading.ensures.reading; either = c.one_reading.ensures.either }) x y

pub returns-clause-first : goal.returns-clause-first
returns-clause-first c = λ text r q s u n m x y.
    one_unordered (record {
      reading = record { one = c.one_reading.ensures.reading; either = c.one_reading.ensures.either };
      first = c.one_reading.ensures.first;
      rules = λ t items b d reads h k. one_form_rule t.version (trees_of items) (text_placed (record { items = c.items_stand_in_order.ensures; each = c.expressions_are_placed.ensures.items; forms = c.expressions_are_placed.ensures.forms }) t items reads) b d h k;
    }) text r q s u n m x y

use Rattle.std.proofs.Common.{◌+◌, ◌&&◌, ℕ, Bool, List, drop, arith, ap, sym, ◌∙◌}
use Rattle.std.proofs.lemmas.List.{drop_all}
use Rattle.cl_types.specs.TypeFalls.{field_falls}
use Rattle.cl_types.specs.TypeRows.{fields_at}
use Rattle.cl_types.specs.Types.{PlainType, fields}
use Rattle.cl_types.specs.Sized.{everywhere_in, has_key}
use Rattle.cl_types.proofs.keys.+has_keys.Goals as goal

pub parts_have_keys-has_keys-requires : goal.parts_have_keys-has_keys-requires
parts_have_keys-has_keys-requires t c =
    (omega (arith, field_falls c.args.row.now c.loop-field.field-index c.field-item.result c.loop-field-test.true c.field-item.is, c.decreases), tt)

pub parts_have_keys-returns-then-not-has_keys : goal.parts_have_keys-returns-then-not-has_keys
parts_have_keys-returns-then-not-has_keys t c =
    sym (c.loop-field.invariant ∙ ap (everywhere_in has_key) (fields_at c.args.row.now c.loop-field.field-index c.field-item.result c.loop-field-test.true c.field-item.is) ∙ ap (λ (b : Bool). b && everywhere_in has_key (fields (drop (c.loop-field.field-index + 1) c.args.row.now))) (sym c.has_keys.ensures ∙ c.if-not-has_keys.true))

pub parts_have_keys-loop-field-preserved : goal.parts_have_keys-loop-field-preserved
parts_have_keys-loop-field-preserved t c =
    c.loop-field.invariant ∙ ap (everywhere_in has_key) (fields_at c.args.row.now c.loop-field.field-index c.field-item.result c.loop-field-test.true c.field-item.is) ∙ ap (λ (b : Bool). b && everywhere_in has_key (fields (drop (c.loop-field.field-index + 1) c.args.row.now))) (sym c.has_keys.ensures ∙ c.if-not-has_keys.false)

pub parts_have_keys-returns : goal.parts_have_keys-returns
parts_have_keys-returns t c =
    sym (c.loop-field.invariant ∙ ap (λ (row : List (List ℕ × PlainType)). everywhere_in has_key (fields row)) (drop_all c.loop-field.field-index c.args.row.now c.loop-field-test.false))

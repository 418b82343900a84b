use Rattle.std.proofs.Common.{◌≡◌, ◌+◌, ◌≤◌, ℕ, List, drop, length, true, false, nat_le, arith, ap, sym, ◌∙◌, ◌&&◌, Bool}
use Rattle.std.proofs.lemmas.Bool.{and_from, and_left, and_right, leb-true}
use Rattle.cl_types.specs.TypeFalls.{field_falls}
use Rattle.cl_types.specs.TypeRows.{fields_at}
use Rattle.cl_types.specs.TypeView.{plain_of}
use Rattle.cl_types.specs.Types.{PlainType, ListType, TupleType, OptionalType, ResponseType, Fields, Field, fields, size_of, sizes_of}
use Rattle.cl_types.specs.Sized.{everywhere, everywhere_in, is_within, is_name, are_named, keys_are_names}
use Rattle.cl_types.proofs.Within.{size_where, some_where, none_where, no_size, no_size_left, list_measured, optional_measured, tuple_measured, in_any, tuple_named, response_measured, named, row_counted, row_too_large}
use Rattle.cl_types.proofs.measure.+measure.Goals as goal

pub measured-returns-in_err-entry-in-List-clause-counted :
    goal.measured-returns-in_err-entry-in-List-clause-counted
measured-returns-in_err-entry-in-List-clause-counted t c =
    let part : everywhere is_within c.deref.result.now ≡ false = none_where (everywhere is_within c.deref.result.now) (size_of c.deref.result.now) c.in_err-entry-in-List.ensures.counted in
    let is : ListType c.in-List.most c.deref.result.now ≡ c.args.ty.now = ap (ListType c.in-List.most) c.deref.ensures ∙ ap plain_of (sym c.in-List.is) ∙ c.ty.view_is in
    c.from_residual.ensures
    ∙ no_size (is_within (ListType c.in-List.most c.deref.result.now)) (everywhere is_within c.deref.result.now) (size_of (ListType c.in-List.most c.deref.result.now)) part
    ∙ ap (λ (t : PlainType). size_where (everywhere is_within t) (size_of t)) is

pub measured-returns-in_ok-entry-in-List-clause-counted :
    goal.measured-returns-in_ok-entry-in-List-clause-counted
measured-returns-in_ok-entry-in-List-clause-counted t c =
    let is : ListType c.in-List.most c.deref.result.now ≡ c.args.ty.now = ap (ListType c.in-List.most) c.deref.ensures ∙ ap plain_of (sym c.in-List.is) ∙ c.ty.view_is in
    c.stated-in-List.ensures
    ∙ list_measured c.deref.result.now c.in-List.most c.in_ok-entry-in-List.entry c.from-in-List.result c.from-in-List-2.result c.in_ok-entry-in-List.ensures.counted c.from-in-List.ensures c.from-in-List-2.ensures
    ∙ ap (λ (t : PlainType). size_where (everywhere is_within t) (size_of t)) is

pub measured-returns-in_ok-entry-in-List-clause-named :
    goal.measured-returns-in_ok-entry-in-List-clause-named
measured-returns-in_ok-entry-in-List-clause-named t c =
    let is : ListType c.in-List.most c.deref.result.now ≡ c.args.ty.now = ap (ListType c.in-List.most) c.deref.ensures ∙ ap plain_of (sym c.in-List.is) ∙ c.ty.view_is in
    in_any c.stated-in-List.result (everywhere keys_are_names c.args.ty.now ≡ true) (ap (everywhere keys_are_names) (sym is) ∙ c.in_ok-entry-in-List.ensures.named)

pub measured-returns-in-Tuple-clause-counted : goal.measured-returns-in-Tuple-clause-counted
measured-returns-in-Tuple-clause-counted t c =
    let row : Fields = fields c.deref-in-Tuple.result.now in
    let is : TupleType row ≡ c.args.ty.now = ap (λ (fs : List (List ℕ × PlainType)). TupleType (fields fs)) c.deref-in-Tuple.ensures.value ∙ ap plain_of (sym c.in-Tuple.is) ∙ c.ty.view_is in
    c.row_measured.ensures.counted
    ∙ tuple_measured (nat_le (5 + sizes_of row) 1048576) (everywhere_in is_within row) (5 + sizes_of row)
    ∙ ap (λ (t : PlainType). size_where (everywhere is_within t) (size_of t)) is

pub measured-returns-in-Tuple-clause-named : goal.measured-returns-in-Tuple-clause-named
measured-returns-in-Tuple-clause-named t c =
    tuple_named c.row_measured.result (fields c.deref-in-Tuple.result.now) c.args.ty.now (ap (λ (fs : List (List ℕ × PlainType)). TupleType (fields fs)) c.deref-in-Tuple.ensures.value ∙ ap plain_of (sym c.in-Tuple.is) ∙ c.ty.view_is) c.row_measured.ensures.named

pub measured-returns-in_err-part-in-Optional-clause-counted :
    goal.measured-returns-in_err-part-in-Optional-clause-counted
measured-returns-in_err-part-in-Optional-clause-counted t c =
    let part : everywhere is_within c.deref-in-Optional.result.now ≡ false = none_where (everywhere is_within c.deref-in-Optional.result.now) (size_of c.deref-in-Optional.result.now) c.in_err-part-in-Optional.ensures.counted in
    let is : OptionalType c.deref-in-Optional.result.now ≡ c.args.ty.now = ap OptionalType c.deref-in-Optional.ensures ∙ ap plain_of (sym c.in-Optional.is) ∙ c.ty.view_is in
    c.from_residual-in_err-part-in-Optional.ensures
    ∙ no_size (is_within (OptionalType c.deref-in-Optional.result.now)) (everywhere is_within c.deref-in-Optional.result.now) (size_of (OptionalType c.deref-in-Optional.result.now)) part
    ∙ ap (λ (t : PlainType). size_where (everywhere is_within t) (size_of t)) is

pub measured-returns-in_ok-part-in-Optional-clause-counted :
    goal.measured-returns-in_ok-part-in-Optional-clause-counted
measured-returns-in_ok-part-in-Optional-clause-counted t c =
    let is : OptionalType c.deref-in-Optional.result.now ≡ c.args.ty.now = ap OptionalType c.deref-in-Optional.ensures ∙ ap plain_of (sym c.in-Optional.is) ∙ c.ty.view_is in
    c.within.ensures
    ∙ optional_measured c.deref-in-Optional.result.now c.in_ok-part-in-Optional.part c.from-in-Optional.result c.in_ok-part-in-Optional.ensures.counted c.from-in-Optional.ensures
    ∙ ap (λ (t : PlainType). size_where (everywhere is_within t) (size_of t)) is

pub measured-returns-in_ok-part-in-Optional-clause-named :
    goal.measured-returns-in_ok-part-in-Optional-clause-named
measured-returns-in_ok-part-in-Optional-clause-named t c =
    let is : OptionalType c.deref-in-Optional.result.now ≡ c.args.ty.now = ap OptionalType c.deref-in-Optional.ensures ∙ ap plain_of (sym c.in-Optional.is) ∙ c.ty.view_is in
    in_any c.within.result (everywhere keys_are_names c.args.ty.now ≡ true) (ap (everywhere keys_are_names) (sym is) ∙ c.in_ok-part-in-Optional.ensures.named)

pub measured-returns-in_err-good-in-Response-clause-counted :
    goal.measured-returns-in_err-good-in-Response-clause-counted
measured-returns-in_err-good-in-Response-clause-counted t c =
    let good : PlainType = c.deref-in-Response.result.now in
    let bad : PlainType = c.in-Response.bad.value in
    let part : everywhere is_within good ≡ false = none_where (everywhere is_within good) (size_of good) c.in_err-good-in-Response.ensures.counted in
    let is : ResponseType good bad ≡ c.args.ty.now = ap (λ (t : PlainType). ResponseType t bad) c.deref-in-Response.ensures ∙ ap plain_of (sym c.in-Response.is) ∙ c.ty.view_is in
    c.from_residual-in_err-good-in-Response.ensures
    ∙ no_size_left (is_within (ResponseType good bad) && everywhere is_within good) (everywhere is_within bad) (size_of (ResponseType good bad)) (and_right (is_within (ResponseType good bad)) (everywhere is_within good) part)
    ∙ ap (λ (t : PlainType). size_where (everywhere is_within t) (size_of t)) is

pub measured-returns-in_err-bad-in-Response-clause-counted :
    goal.measured-returns-in_err-bad-in-Response-clause-counted
measured-returns-in_err-bad-in-Response-clause-counted t c =
    let good : PlainType = c.in-Response.good.value in
    let bad : PlainType = c.deref-in-Response-2.result.now in
    let part : everywhere is_within bad ≡ false = none_where (everywhere is_within bad) (size_of bad) c.in_err-bad-in-Response.ensures.counted in
    let is : ResponseType good bad ≡ c.args.ty.now = ap (ResponseType good) c.deref-in-Response-2.ensures ∙ ap plain_of (sym c.in-Response.is) ∙ c.ty.view_is in
    c.from_residual-in_err-bad-in-Response.ensures
    ∙ no_size (is_within (ResponseType good bad) && everywhere is_within good) (everywhere is_within bad) (size_of (ResponseType good bad)) part
    ∙ ap (λ (t : PlainType). size_where (everywhere is_within t) (size_of t)) is

pub measured-returns-in_ok-bad-in-Response-clause-counted :
    goal.measured-returns-in_ok-bad-in-Response-clause-counted
measured-returns-in_ok-bad-in-Response-clause-counted t c =
    let is : ResponseType c.in-Response.good.value c.in-Response.bad.value ≡ c.args.ty.now = ap plain_of (sym c.in-Response.is) ∙ c.ty.view_is in
    let parts : ResponseType c.deref-in-Response.result.now c.deref-in-Response-2.result.now ≡ c.args.ty.now =
    ap (λ (t : PlainType). ResponseType t c.deref-in-Response-2.result.now) c.deref-in-Response.ensures
    ∙ ap (λ (t : PlainType). ResponseType c.in-Response.good.value t) c.deref-in-Response-2.ensures
    ∙ is in
    c.within-in-Response.ensures
    ∙ response_measured c.deref-in-Response.result.now c.deref-in-Response-2.result.now c.in_ok-good-in-Response.good c.in_ok-bad-in-Response.bad c.from-in-Response.result c.in_ok-good-in-Response.ensures.counted c.in_ok-bad-in-Response.ensures.counted (c.from-in-Response.ensures ∙ c.max.ensures)
    ∙ ap (λ (t : PlainType). size_where (everywhere is_within t) (size_of t)) parts

pub measured-returns-in_ok-bad-in-Response-clause-named :
    goal.measured-returns-in_ok-bad-in-Response-clause-named
measured-returns-in_ok-bad-in-Response-clause-named t c =
    let good : PlainType = c.deref-in-Response.result.now in
    let bad : PlainType = c.deref-in-Response-2.result.now in
    let is : ResponseType good bad ≡ c.args.ty.now = ap (λ (t : PlainType). ResponseType t bad) c.deref-in-Response.ensures ∙ ap (ResponseType c.in-Response.good.value) c.deref-in-Response-2.ensures ∙ ap plain_of (sym c.in-Response.is) ∙ c.ty.view_is in
    in_any c.within-in-Response.result (everywhere keys_are_names c.args.ty.now ≡ true) (ap (everywhere keys_are_names) (sym is) ∙ and_from (everywhere keys_are_names good) (everywhere keys_are_names bad) c.in_ok-good-in-Response.ensures.named c.in_ok-bad-in-Response.ensures.named)

pub row_measured-measured-requires : goal.row_measured-measured-requires
row_measured-measured-requires t c =
    (omega (arith, field_falls c.args.row.now c.loop-field.field-index c.field-item.result c.loop-field-test.true c.field-item.is, c.decreases), tt)

pub row_measured-returns-in_err-part-clause-counted :
    goal.row_measured-returns-in_err-part-clause-counted
row_measured-returns-in_err-part-clause-counted t c =
    let at : fields (drop c.loop-field.field-index c.args.row.now) ≡ Field c.field-item.result.0 c.field-item.result.1 (fields (drop (c.loop-field.field-index + 1) c.args.row.now)) = fields_at c.args.row.now c.loop-field.field-index c.field-item.result c.loop-field-test.true c.field-item.is in
    let part : everywhere is_within c.field-item.result.1 ≡ false = none_where (everywhere is_within c.field-item.result.1) (size_of c.field-item.result.1) c.in_err-part.ensures.counted in
    let parts : everywhere_in is_within (fields c.args.row.now) ≡ false = c.loop-field.invariant.parts ∙ ap (everywhere_in is_within) at ∙ and_left _ _ part in
    rw c.from_residual.ensures (no_size (nat_le (5 + sizes_of (fields c.args.row.now)) 1048576) (everywhere_in is_within (fields c.args.row.now)) (5 + sizes_of (fields c.args.row.now)) parts)

pub row_measured-returns-in_err-size-clause-counted :
    goal.row_measured-returns-in_err-size-clause-counted
row_measured-returns-in_err-size-clause-counted t c =
    let at : fields (drop c.loop-field.field-index c.args.row.now) ≡ Field c.field-item.result.0 c.field-item.result.1 (fields (drop (c.loop-field.field-index + 1) c.args.row.now)) = fields_at c.args.row.now c.loop-field.field-index c.field-item.result c.loop-field-test.true c.field-item.is in
    let counted : 5 + sizes_of (fields c.args.row.now) ≡ c.loop-field.size + sizes_of (Field c.field-item.result.0 c.field-item.result.1 (fields (drop (c.loop-field.field-index + 1) c.args.row.now))) = c.loop-field.invariant.counted ∙ ap (λ (fs : Fields). c.loop-field.size + sizes_of fs) at in
    let part = some_where (everywhere is_within c.field-item.result.1) c.in_ok-part.part (size_of c.field-item.result.1) c.in_ok-part.ensures.counted in
    let above : nat_le (c.from.result + c.from-in-loop-field.result) 1048576 ≡ false = none_where (nat_le (c.from.result + c.from-in-loop-field.result) 1048576) (c.from.result + c.from-in-loop-field.result) c.in_err-size.ensures in
    let same : c.from.result + c.from-in-loop-field.result ≡ c.loop-field.size + (1 + length c.field-item.result.0 + size_of c.field-item.result.1) = omega (arith, part.1, c.from.ensures, c.from-in-loop-field.ensures, c.name_size.ensures.counted) in
    rw c.from_residual-in_err-size.ensures (no_size_left (nat_le (5 + sizes_of (fields c.args.row.now)) 1048576) (everywhere_in is_within (fields c.args.row.now)) (5 + sizes_of (fields c.args.row.now)) (row_too_large c.field-item.result.0 c.field-item.result.1 (fields (drop (c.loop-field.field-index + 1) c.args.row.now)) (fields c.args.row.now) c.loop-field.size counted (c.from.result + c.from-in-loop-field.result) same above))

pub row_measured-loop-field-preserved : goal.row_measured-loop-field-preserved
row_measured-loop-field-preserved t c =
    let at : fields (drop c.loop-field.field-index c.args.row.now) ≡ Field c.field-item.result.0 c.field-item.result.1 (fields (drop (c.loop-field.field-index + 1) c.args.row.now)) = fields_at c.args.row.now c.loop-field.field-index c.field-item.result c.loop-field-test.true c.field-item.is in
    let counted : 5 + sizes_of (fields c.args.row.now) ≡ c.loop-field.size + sizes_of (Field c.field-item.result.0 c.field-item.result.1 (fields (drop (c.loop-field.field-index + 1) c.args.row.now))) = c.loop-field.invariant.counted ∙ ap (λ (fs : Fields). c.loop-field.size + sizes_of fs) at in
    let part = some_where (everywhere is_within c.field-item.result.1) c.in_ok-part.part (size_of c.field-item.result.1) c.in_ok-part.ensures.counted in
    let sum = some_where (nat_le (c.from.result + c.from-in-loop-field.result) 1048576) c.in_ok-size.size (c.from.result + c.from-in-loop-field.result) c.in_ok-size.ensures in
    let limit : c.from.result + c.from-in-loop-field.result ≤ 1048576 = leb-true (c.from.result + c.from-in-loop-field.result) 1048576 sum.0 in
    record {
      counted = row_counted c.field-item.result.0 c.field-item.result.1 (fields (drop (c.loop-field.field-index + 1) c.args.row.now)) (fields c.args.row.now) c.loop-field.size counted c.in_ok-size.size (omega (arith, part.1, sum.1, c.from.ensures, c.from-in-loop-field.ensures, c.name_size.ensures.counted));
      limit = omega (arith, sum.1, limit);
      parts = c.loop-field.invariant.parts ∙ ap (everywhere_in is_within) at ∙ ap (λ (b : Bool). b && everywhere_in is_within (fields (drop (c.loop-field.field-index + 1) c.args.row.now))) part.0;
      named = λ h. c.loop-field.invariant.named (ap are_named at ∙ and_from (is_name c.field-item.result.0) (are_named (fields (drop (c.loop-field.field-index + 1) c.args.row.now))) (named c.field-item.result.0 c.name_size.ensures.named) h);
      parts_named = λ h. c.loop-field.invariant.parts_named (ap (everywhere_in keys_are_names) at ∙ and_from (everywhere keys_are_names c.field-item.result.1) (everywhere_in keys_are_names (fields (drop (c.loop-field.field-index + 1) c.args.row.now))) c.in_ok-part.ensures.named h);
    }

use Rattle.std.proofs.Common.{◌≡◌, ◌+◌, ◌++◌, ℕ, List, drop, arith, ap, sym, subst, ◌∙◌, append-nil}
use Rattle.std.specs.Prelude.{IfOk, codes, decimal}
use Rattle.std.proofs.lemmas.List.{drop_all}
use Rattle.cl_types.specs.Types.{PlainType, Fields, fields}
use Rattle.cl_types.specs.TypeRows.{fields_at}
use Rattle.cl_types.specs.TypeFalls.{field_falls}
use Rattle.cl_text.specs.Printed.{entry_text}
use Rattle.cl_text.specs.PrintedTypes.{printed_type, fields_text, more_fields_text}
use Rattle.cl_text.proofs.Written.{if_behind, further, none_left}
use Rattle.cl_text.proofs.type_printer.+write.Goals as goal

pub write_more-write_field-requires : goal.write_more-write_field-requires
write_more-write_field-requires t c =
    omega (arith, field_falls c.args.row.now c.loop-field.field-index c.field-item.result c.loop-field-test.true c.field-item.is, c.decreases)

pub write_list-returns : goal.write_list-returns
write_list-returns t c =
    if_behind c.write_bytes-3.result c.args.out.now.items c.write_bytes.new.out.items c.write_bytes-3.new.out.items (codes "(list ") (decimal c.args.most ++ (codes " " ++ (printed_type c.args.entry.now ++ (codes ")")))) c.in_ok-write_bytes.ensures (if_behind c.write_bytes-3.result c.write_bytes.new.out.items c.write_number.new.out.items c.write_bytes-3.new.out.items (decimal c.args.most) (codes " " ++ (printed_type c.args.entry.now ++ (codes ")"))) c.in_ok-write_number.ensures (if_behind c.write_bytes-3.result c.write_number.new.out.items c.write_bytes-2.new.out.items c.write_bytes-3.new.out.items (codes " ") (printed_type c.args.entry.now ++ (codes ")")) c.in_ok-write_bytes-2.ensures (if_behind c.write_bytes-3.result c.write_bytes-2.new.out.items c.write_type.new.out.items c.write_bytes-3.new.out.items (printed_type c.args.entry.now) (codes ")") c.in_ok-write_type.ensures c.write_bytes-3.ensures)))

pub write_optional-returns : goal.write_optional-returns
write_optional-returns t c =
    if_behind c.write_bytes-2.result c.args.out.now.items c.write_bytes.new.out.items c.write_bytes-2.new.out.items (codes "(optional ") (printed_type c.args.part.now ++ (codes ")")) c.in_ok-write_bytes.ensures (if_behind c.write_bytes-2.result c.write_bytes.new.out.items c.write_type.new.out.items c.write_bytes-2.new.out.items (printed_type c.args.part.now) (codes ")") c.in_ok-write_type.ensures c.write_bytes-2.ensures)

pub write_response-returns : goal.write_response-returns
write_response-returns t c =
    if_behind c.write_bytes-3.result c.args.out.now.items c.write_bytes.new.out.items c.write_bytes-3.new.out.items (codes "(response ") (printed_type c.args.good.now ++ (codes " " ++ (printed_type c.args.bad.now ++ (codes ")")))) c.in_ok-write_bytes.ensures (if_behind c.write_bytes-3.result c.write_bytes.new.out.items c.write_type.new.out.items c.write_bytes-3.new.out.items (printed_type c.args.good.now) (codes " " ++ (printed_type c.args.bad.now ++ (codes ")"))) c.in_ok-write_type.ensures (if_behind c.write_bytes-3.result c.write_type.new.out.items c.write_bytes-2.new.out.items c.write_bytes-3.new.out.items (codes " ") (printed_type c.args.bad.now ++ (codes ")")) c.in_ok-write_bytes-2.ensures (if_behind c.write_bytes-3.result c.write_bytes-2.new.out.items c.write_type-2.new.out.items c.write_bytes-3.new.out.items (printed_type c.args.bad.now) (codes ")") c.in_ok-write_type-2.ensures c.write_bytes-3.ensures)))

pub write_tuple-returns : goal.write_tuple-returns
write_tuple-returns t c =
    if_behind c.write_bytes-2.result c.args.out.now.items c.write_bytes.new.out.items c.write_bytes-2.new.out.items (codes "{") (fields_text (fields c.args.row.now) ++ (codes "}")) c.in_ok-write_bytes.ensures (if_behind c.write_bytes-2.result c.write_bytes.new.out.items c.write_fields.new.out.items c.write_bytes-2.new.out.items (fields_text (fields c.args.row.now)) (codes "}") c.in_ok-write_fields.ensures c.write_bytes-2.ensures)

pub write_field-returns : goal.write_field-returns
write_field-returns t c =
    let name : c.write_bytes.new.out.items ≡ c.args.out.now.items ++ c.args.field.now.0 = c.in_ok-write_bytes.ensures ∙ ap (λ (k : List ℕ). c.args.out.now.items ++ k) c.bytes.ensures.value in
    if_behind c.write_type.result c.args.out.now.items c.write_bytes.new.out.items c.write_type.new.out.items c.args.field.now.0 (codes ": " ++ printed_type c.args.field.now.1) name (if_behind c.write_type.result c.write_bytes.new.out.items c.write_bytes-2.new.out.items c.write_type.new.out.items (codes ": ") (printed_type c.args.field.now.1) c.in_ok-write_bytes-2.ensures c.write_type.ensures)

pub write_more-loop-field-preserved : goal.write_more-loop-field-preserved
write_more-loop-field-preserved t c =
    let rest : List ℕ = more_fields_text (fields (drop (c.loop-field.field-index + 1) c.args.row.now)) in
    c.loop-field.invariant
    ∙ ap (λ (fs : Fields). c.loop-field.out.items ++ more_fields_text fs) (fields_at c.args.row.now c.loop-field.field-index c.field-item.result c.loop-field-test.true c.field-item.is)
    ∙ further c.loop-field.out.items c.write_bytes.new.out.items c.write_field.new.out.items (codes ", ") (entry_text c.field-item.result.0 (printed_type c.field-item.result.1)) rest c.in_ok-write_bytes.ensures c.in_ok-write_field.ensures

pub write_more-returns : goal.write_more-returns
write_more-returns t c =
    sym (c.loop-field.invariant
    ∙ ap (λ (x : List (List ℕ × PlainType)). c.loop-field.out.items ++ more_fields_text (fields x)) (drop_all c.loop-field.field-index c.args.row.now c.loop-field-test.false)
    ∙ append-nil c.loop-field.out.items)

pub write_fields-returns-in-None : goal.write_fields-returns-in-None
write_fields-returns-in-None t c =
    sym (ap (λ (ps : List (List ℕ × PlainType)). c.args.out.now.items ++ fields_text (fields ps)) (none_left c.args.row.now c.in-None.ensures.cases) ∙ append-nil c.args.out.now.items)

pub write_fields-returns-in_ok-write_field-in-Some : goal.write_fields-returns-in_ok-write_field-in-Some
write_fields-returns-in_ok-write_field-in-Some t c =
    subst (λ (ps : List (List ℕ × PlainType)). IfOk c.write_more.result (λ _. c.write_more.new.out.items ≡ c.args.out.now.items ++ fields_text (fields ps))) (sym c.in-Some.ensures.cases.0)
    (if_behind c.write_more.result c.args.out.now.items c.write_field.new.out.items c.write_more.new.out.items (entry_text c.in-Some.first.now.0 (printed_type c.in-Some.first.now.1)) (more_fields_text (fields c.in-Some.others.now))
    c.in_ok-write_field-in-Some.ensures c.write_more.ensures)

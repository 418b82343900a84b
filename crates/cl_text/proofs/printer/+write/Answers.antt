use Rattle.std.proofs.Common.{◌≡◌, ◌+◌, ◌++◌, ℕ, List, drop, arith, ap, sym, subst, ◌∙◌, append-nil}
use Rattle.std.specs.Prelude.{IfOk, codes}
use Rattle.std.proofs.lemmas.List.{drop_all}
use Rattle.cl_values.specs.Tree.{Tree, Items, Entries, items_of, entries_of}
use Rattle.cl_values.specs.Rows.{items_at, entries_at}
use Rattle.cl_values.specs.ViewFalls.{item_lighter, entry_falls}
use Rattle.cl_text.specs.Printed.{entry_text, printed, items_text, entries_text, more_text}
use Rattle.cl_text.proofs.Written.{if_behind, further, none_left}
use Rattle.cl_text.proofs.printer.+write.Goals as goal

pub write_items-write_value-requires : goal.write_items-write_value-requires
write_items-write_value-requires t c =
    omega (arith, item_lighter c.args.values.now c.loop-value.value-index c.value-item.result c.loop-value-test.true c.value-item.is, c.decreases)

pub write_more-write_entry-requires : goal.write_more-write_entry-requires
write_more-write_entry-requires t c =
    omega (arith, entry_falls c.args.entries.now c.loop-entry.entry-index c.entry-item.result c.loop-entry-test.true c.entry-item.is, c.decreases)

pub write_wrapped-returns : goal.write_wrapped-returns
write_wrapped-returns t c =
    if_behind c.write_bytes-2.result c.args.out.now.items c.write_bytes.new.out.items c.write_bytes-2.new.out.items c.args.front.now (printed c.args.value.now ++ (codes ")")) c.in_ok-write_bytes.ensures
    (if_behind c.write_bytes-2.result c.write_bytes.new.out.items c.write_value.new.out.items c.write_bytes-2.new.out.items (printed c.args.value.now) (codes ")") c.in_ok-write_value.ensures c.write_bytes-2.ensures)

pub write_list-returns : goal.write_list-returns
write_list-returns t c =
    if_behind c.write_bytes-2.result c.args.out.now.items c.write_bytes.new.out.items c.write_bytes-2.new.out.items (codes "(list") (items_text (items_of c.args.values.now) ++ (codes ")")) c.in_ok-write_bytes.ensures
    (if_behind c.write_bytes-2.result c.write_bytes.new.out.items c.write_items.new.out.items c.write_bytes-2.new.out.items (items_text (items_of c.args.values.now)) (codes ")") c.in_ok-write_items.ensures c.write_bytes-2.ensures)

pub write_tuple-returns : goal.write_tuple-returns
write_tuple-returns t c =
    if_behind c.write_bytes-2.result c.args.out.now.items c.write_bytes.new.out.items c.write_bytes-2.new.out.items (codes "{") (entries_text (entries_of c.args.entries.now) ++ (codes "}")) c.in_ok-write_bytes.ensures
    (if_behind c.write_bytes-2.result c.write_bytes.new.out.items c.write_entries.new.out.items c.write_bytes-2.new.out.items (entries_text (entries_of c.args.entries.now)) (codes "}") c.in_ok-write_entries.ensures c.write_bytes-2.ensures)

pub write_entry-returns : goal.write_entry-returns
write_entry-returns t c =
    let name : c.write_bytes.new.out.items ≡ c.args.out.now.items ++ c.args.entry.now.0 = c.in_ok-write_bytes.ensures ∙ ap (λ (k : List ℕ). c.args.out.now.items ++ k) c.bytes.ensures.value in
    if_behind c.write_value.result c.args.out.now.items c.write_bytes.new.out.items c.write_value.new.out.items c.args.entry.now.0 (codes ": " ++ printed c.args.entry.now.1) name
    (if_behind c.write_value.result c.write_bytes.new.out.items c.write_bytes-2.new.out.items c.write_value.new.out.items (codes ": ") (printed c.args.entry.now.1) c.in_ok-write_bytes-2.ensures c.write_value.ensures)

pub write_items-loop-value-preserved : goal.write_items-loop-value-preserved
write_items-loop-value-preserved t c =
    let rest : List ℕ = items_text (items_of (drop (c.loop-value.value-index + 1) c.args.values.now)) in
    c.loop-value.invariant
    ∙ ap (λ (vs : Items). c.loop-value.out.items ++ items_text vs) (items_at c.args.values.now c.loop-value.value-index c.value-item.result c.loop-value-test.true c.value-item.is)
    ∙ further c.loop-value.out.items c.write_bytes.new.out.items c.write_value.new.out.items (codes " ") (printed c.value-item.result) rest c.in_ok-write_bytes.ensures c.in_ok-write_value.ensures

pub write_items-returns : goal.write_items-returns
write_items-returns t c =
    sym (c.loop-value.invariant
    ∙ ap (λ (vs : List Tree). c.loop-value.out.items ++ items_text (items_of vs)) (drop_all c.loop-value.value-index c.args.values.now c.loop-value-test.false)
    ∙ append-nil c.loop-value.out.items)

pub write_entries-returns-in-None : goal.write_entries-returns-in-None
write_entries-returns-in-None t c =
    sym (ap (λ (es : List (List ℕ × Tree)). c.args.out.now.items ++ entries_text (entries_of es)) (none_left c.args.entries.now c.in-None.ensures.cases) ∙ append-nil c.args.out.now.items)

pub write_entries-returns-in_ok-write_entry-in-Some : goal.write_entries-returns-in_ok-write_entry-in-Some
write_entries-returns-in_ok-write_entry-in-Some t c =
    subst (λ (es : List (List ℕ × Tree)). IfOk c.write_more.result (λ _. c.write_more.new.out.items ≡ c.args.out.now.items ++ entries_text (entries_of es))) (sym c.in-Some.ensures.cases.0)
    (if_behind c.write_more.result c.args.out.now.items c.write_entry.new.out.items c.write_more.new.out.items (entry_text c.in-Some.first.now.0 (printed c.in-Some.first.now.1)) (more_text (entries_of c.in-Some.others.now))
    c.in_ok-write_entry-in-Some.ensures c.write_more.ensures)

pub write_more-loop-entry-preserved : goal.write_more-loop-entry-preserved
write_more-loop-entry-preserved t c =
    let rest : List ℕ = more_text (entries_of (drop (c.loop-entry.entry-index + 1) c.args.entries.now)) in
    c.loop-entry.invariant
    ∙ ap (λ (es : Entries). c.loop-entry.out.items ++ more_text es) (entries_at c.args.entries.now c.loop-entry.entry-index c.entry-item.result c.loop-entry-test.true c.entry-item.is)
    ∙ further c.loop-entry.out.items c.write_bytes.new.out.items c.write_entry.new.out.items (codes ", ") (entry_text c.entry-item.result.0 (printed c.entry-item.result.1)) rest c.in_ok-write_bytes.ensures c.in_ok-write_entry.ensures

pub write_more-returns : goal.write_more-returns
write_more-returns t c =
    sym (c.loop-entry.invariant
    ∙ ap (λ (es : List (List ℕ × Tree)). c.loop-entry.out.items ++ more_text (entries_of es)) (drop_all c.loop-entry.entry-index c.args.entries.now c.loop-entry-test.false)
    ∙ append-nil c.loop-entry.out.items)

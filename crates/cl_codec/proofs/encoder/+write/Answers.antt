use Rattle.std.proofs.Common.{rules, ◌≡◌, ℕ, ◌+◌, List, [], ◌∷◌, ◌++◌, drop, IfOk, arith, ap, sym, subst, ◌∙◌, append_assoc, FitsSigned}
use Rattle.std.specs.Prelude.{ℤ}
use Rattle.std.specs.Int.{w128, cast_unsigned}
use Rattle.std.proofs.lemmas.Int.{to_z-of_z}
use Rattle.cl_values.specs.Tree.{Tree, items_of, items_count, entries_of, entries_count}
use Rattle.cl_values.specs.View.{tree_of}
use Rattle.cl_values.specs.Wire.{wire, prefix_of, body_of, four_bytes, sixteen_bytes, name_wire, contract_wire, items_wire, entries_wire}
use Rattle.cl_values.specs.ViewFalls.{item_lighter, entry_falls}
use Rattle.cl_codec.proofs.RowsWritten.{both_written, values_written, values_sized, values_end, entries_written, entries_sized, entries_end}
use Rattle.cl_codec.proofs.encoder.+write.Goals as goal

pub write_body-returns-in-Int : goal.write_body-returns-in-Int
write_body-returns-in-Int t c =
    let fits : FitsSigned w128 c.in-Int.number = search rules in
    let written : IfOk c.write_int.result (λ _. c.write_int.new.out.items ≡ c.args.out.now.items ++ sixteen_bytes (cast_unsigned w128 c.in-Int.number)) =
    subst (λ (z : ℤ). IfOk c.write_int.result (λ _. c.write_int.new.out.items ≡ c.args.out.now.items ++ sixteen_bytes (cast_unsigned w128 z))) (to_z-of_z w128 c.in-Int.number fits) c.write_int.ensures in
    subst (λ (v : Tree). IfOk c.write_int.result (λ _. c.write_int.new.out.items ≡ c.args.out.now.items ++ body_of v)) (ap tree_of (sym c.in-Int.is) ∙ c.value.view_is) written

pub write_body-returns-in-Uint : goal.write_body-returns-in-Uint
write_body-returns-in-Uint t c =
    subst (λ (v : Tree). IfOk c.write_uint.result (λ _. c.write_uint.new.out.items ≡ c.args.out.now.items ++ body_of v)) (ap tree_of (sym c.in-Uint.is) ∙ c.value.view_is) c.write_uint.ensures

pub write_values-write_value-requires : goal.write_values-write_value-requires
write_values-write_value-requires t c = (
  omega (arith, item_lighter c.args.values.now c.loop-value.value-index c.value-item.result c.loop-value-test.true c.value-item.is, c.decreases),
  omega (arith, values_sized c.args.values.now c.loop-value.value-index c.value-item.result c.loop-value-test.true c.value-item.is, c.loop-value.invariant.within),
)

pub write_entries-write_entry-requires : goal.write_entries-write_entry-requires
write_entries-write_entry-requires t c = (
  omega (arith, entry_falls c.args.entries.now c.loop-entry.entry-index c.entry-item.result c.loop-entry-test.true c.entry-item.is, c.decreases),
  omega (arith, entries_sized c.args.entries.now c.loop-entry.entry-index c.entry-item.result c.loop-entry-test.true c.entry-item.is, c.loop-entry.invariant.within),
)

pub write_body-returns-in-Principal : goal.write_body-returns-in-Principal
write_body-returns-in-Principal t c =
    subst (λ (v : Tree). IfOk c.write_principal.result (λ _. c.write_principal.new.out.items ≡ c.args.out.now.items ++ body_of v)) (ap tree_of (sym c.in-Principal.is) ∙ c.value.view_is)
    (subst (λ (bytes : List ℕ). IfOk c.write_principal.result (λ _. c.write_principal.new.out.items ≡ bytes)) (append_assoc c.args.out.now.items (c.in-Principal.principal.address.version ∷ c.in-Principal.principal.address.hash) (contract_wire c.in-Principal.principal.contract)) c.write_principal.ensures)

pub write_value-returns : goal.write_value-returns
write_value-returns t c =
    both_written c.write_body.result c.args.out.now.items (prefix_of c.args.value.now ∷ []) (body_of c.args.value.now) c.push.new.self.items c.write_body.new.out.items
    (c.in_ok-push.ensures.items ∙ ap (λ (b : ℕ). c.args.out.now.items ++ b ∷ []) c.prefix_of.ensures) c.write_body.ensures

pub write_list-returns : goal.write_list-returns
write_list-returns t c =
    both_written c.write_values.result c.args.out.now.items (four_bytes (items_count (items_of c.args.values.now))) (items_wire (items_of c.args.values.now)) c.write_item_count.new.out.items c.write_values.new.out.items c.in_ok-write_item_count.ensures c.write_values.ensures

pub write_values-loop-value-preserved : goal.write_values-loop-value-preserved
write_values-loop-value-preserved t c = record {
  written = c.loop-value.invariant.written
      ∙ values_written c.args.values.now c.loop-value.value-index c.value-item.result c.loop-value.out.items c.loop-value-test.true c.value-item.is
      ∙ ap (λ (out : List ℕ). out ++ items_wire (items_of (drop (c.loop-value.value-index + 1) c.args.values.now))) (sym c.in_ok-write_value.ensures);
  within = omega (arith, values_sized c.args.values.now c.loop-value.value-index c.value-item.result c.loop-value-test.true c.value-item.is, c.loop-value.invariant.within);
}

pub write_values-returns : goal.write_values-returns
write_values-returns t c = values_end c.args.values.now c.loop-value.value-index c.args.out.now.items c.loop-value.out.items c.loop-value.invariant.written c.loop-value-test.false

pub write_tuple-returns : goal.write_tuple-returns
write_tuple-returns t c =
    both_written c.write_entries.result c.args.out.now.items (four_bytes (entries_count (entries_of c.args.entries.now))) (entries_wire (entries_of c.args.entries.now)) c.write_entry_count.new.out.items c.write_entries.new.out.items c.in_ok-write_entry_count.ensures c.write_entries.ensures

pub write_entries-loop-entry-preserved : goal.write_entries-loop-entry-preserved
write_entries-loop-entry-preserved t c = record {
  written = c.loop-entry.invariant.written
      ∙ entries_written c.args.entries.now c.loop-entry.entry-index c.entry-item.result c.loop-entry.out.items c.loop-entry-test.true c.entry-item.is
      ∙ ap (λ (out : List ℕ). out ++ entries_wire (entries_of (drop (c.loop-entry.entry-index + 1) c.args.entries.now))) (sym c.in_ok-write_entry.ensures);
  within = omega (arith, entries_sized c.args.entries.now c.loop-entry.entry-index c.entry-item.result c.loop-entry-test.true c.entry-item.is, c.loop-entry.invariant.within);
}

pub write_entries-returns : goal.write_entries-returns
write_entries-returns t c = entries_end c.args.entries.now c.loop-entry.entry-index c.args.out.now.items c.loop-entry.out.items c.loop-entry.invariant.written c.loop-entry-test.false

pub write_entry-returns : goal.write_entry-returns
write_entry-returns t c =
    both_written c.write_value.result c.args.out.now.items (name_wire c.args.entry.now.0) (wire c.args.entry.now.1) c.write_name.new.out.items c.write_value.new.out.items (c.in_ok-write_name.ensures ∙ ap (λ (name : List ℕ). c.args.out.now.items ++ name_wire name) c.bytes.ensures.value) c.write_value.ensures

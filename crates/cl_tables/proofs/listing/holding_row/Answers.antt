use Rattle.std.proofs.Common.{◌≡◌, ◌∙◌, Some, sym, ap}
use Rattle.std.specs.Prelude.{option_copied}
use Rattle.cl_values.specs.Tree.{PrincipalV}
use Rattle.cl_values.proofs.Parts.{principal_is_val}
use Rattle.cl_tables.specs.declared.row.RowKind.TheVariants.{Balance}
use Rattle.cl_tables.specs.StateRows.{placed_row}
use Rattle.cl_tables.specs.RowParts.{holding_row}
use Rattle.cl_tables.proofs.OwnerKeys.{value_read}
use Rattle.cl_tables.proofs.MadeRows.{stx_made}
use Rattle.cl_tables.proofs.listing.holding_row.Goals as goal

pub value_of-requires : goal.value_of-requires
value_of-requires c = (PrincipalV c.requires.0, principal_is_val c.requires.0 c.requires.1, c.bytes.ensures ∙ c.requires.2)

pub returns-in-Some : goal.returns-in-Some
returns-in-Some c =
    let h = c.requires in
    let who : c.in_ok-value_of.field-0 ≡ PrincipalV h.0 = value_read c.read_back.ensures c.bytes.result.now c.in_ok-value_of.field-0 (PrincipalV h.0, principal_is_val h.0 h.1, c.bytes.ensures ∙ h.2) c.in_ok-value_of.ensures in
    let value = c.uint_value-value.ensures in
    (h.0, h.1, h.2, c.placed_row.ensures ∙ (λ i. placed_row Balance c.in-Some.at.now (Some (who i)) (value i)) ∙ sym (ap (λ o. holding_row (option_copied o) h.0 c.args.amount) c.in-Some.is))

pub returns-in-None : goal.returns-in-None
returns-in-None c =
    let h = c.requires in
    let who : c.in_ok-value_of.field-0 ≡ PrincipalV h.0 = value_read c.read_back.ensures c.bytes.result.now c.in_ok-value_of.field-0 (PrincipalV h.0, principal_is_val h.0 h.1, c.bytes.ensures ∙ h.2) c.in_ok-value_of.ensures in
    (h.0, h.1, h.2, stx_made c.in_ok-value_of.field-0 c.uint_value-value.result h.0 c.args.amount who c.uint_value-value.ensures ∙ sym (ap (λ o. holding_row (option_copied o) h.0 c.args.amount) c.in-None.is))

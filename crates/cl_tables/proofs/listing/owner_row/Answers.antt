use Rattle.std.proofs.Common.{◌≡◌, ◌∙◌, Some}
use Rattle.cl_values.specs.Tree.{PrincipalV}
use Rattle.cl_values.proofs.Parts.{principal_is_val}
use Rattle.cl_tables.specs.declared.row.RowKind.TheVariants.{Owner}
use Rattle.cl_tables.specs.StateRows.{placed_row}
use Rattle.cl_tables.proofs.OwnerKeys.{value_read}
use Rattle.cl_tables.proofs.listing.owner_row.Goals as goal

pub value_of-requires-2 : goal.value_of-requires-2
value_of-requires-2 c = (PrincipalV c.requires.owner.0, principal_is_val c.requires.owner.0 c.requires.owner.1, c.bytes-2.ensures ∙ c.requires.owner.2)

pub returns : goal.returns
returns c =
    let a = c.requires.asset in
    let o = c.requires.owner in
    let id : c.in_ok-id.id ≡ a.0 = value_read c.read_back.ensures c.bytes.result.now c.in_ok-id.id (a.0, a.1, c.bytes.ensures ∙ a.2) c.in_ok-id.ensures in
    let owner : c.in_ok-owner.owner ≡ PrincipalV o.0 = value_read c.read_back.ensures c.bytes-2.result.now c.in_ok-owner.owner (PrincipalV o.0, principal_is_val o.0 o.1, c.bytes-2.ensures ∙ o.2) c.in_ok-owner.ensures in
    (a.0, o.0, a.1, o.1, a.2, o.2, c.placed_row.ensures ∙ (λ i. placed_row Owner c.args.at.now (Some (id i)) (owner i)))

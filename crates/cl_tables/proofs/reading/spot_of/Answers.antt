use Rattle.std.proofs.Common.{◌≡◌, ◌++◌, ◌∙◌, sym, subst}
use Rattle.cl_types.specs.Name.{IsName}
use Rattle.cl_values.specs.Wire.{wire, name_wire}
use Rattle.cl_tables.specs.Variables.{key_of}
use Rattle.cl_tables.proofs.OwnerKeys.{value_read}
use Rattle.cl_tables.proofs.KeyReading.{spot_split}
use Rattle.cl_tables.proofs.reading.spot_of.Goals as goal

pub place_from-requires-clause-contract : goal.place_from-requires-clause-contract
place_from-requires-clause-contract c =
    let h = c.requires in
    (h.0.contract, h.2.0, (c.cut_principal.ensures h.0.contract (name_wire h.0.name ++ wire h.1) h.2.0 (h.4 ∙ spot_split h.0 h.1)).0)

pub place_from-requires-clause-name : goal.place_from-requires-clause-name
place_from-requires-clause-name c =
    let h = c.requires in
    let first = c.cut_principal.ensures h.0.contract (name_wire h.0.name ++ wire h.1) h.2.0 (h.4 ∙ spot_split h.0 h.1) in
    subst IsName (sym (c.cut_name.ensures h.0.name (wire h.1) first.1).0) h.2.1

pub value_of-requires : goal.value_of-requires
value_of-requires c =
    let h = c.requires in
    let first = c.cut_principal.ensures h.0.contract (name_wire h.0.name ++ wire h.1) h.2.0 (h.4 ∙ spot_split h.0 h.1) in
    (h.1, h.3, (c.cut_name.ensures h.0.name (wire h.1) first.1).1)

pub returns-clause-spelled : goal.returns-clause-spelled
returns-clause-spelled c =
    let h = c.requires in
    let first = c.cut_principal.ensures h.0.contract (name_wire h.0.name ++ wire h.1) h.2.0 (h.4 ∙ spot_split h.0 h.1) in
    let second = c.cut_name.ensures h.0.name (wire h.1) first.1 in
    let at : key_of c.in_ok-at.at ≡ key_of h.0 = c.in_ok-at.ensures.spelled ∙ (λ i. first.0 i ++ name_wire (second.0 i)) in
    let key : c.in_ok-key.key ≡ h.1 = value_read c.read_back.ensures c.cut_name.result.1.now c.in_ok-key.key (h.1, h.3, second.1) c.in_ok-key.ensures in
    h.4 ∙ sym (λ i. at i ++ wire (key i))

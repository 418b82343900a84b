use Rattle.std.proofs.Common.{◌++◌, ◌∙◌, [], sym, subst}
use Rattle.std.proofs.lemmas.List.{append-nil}
use Rattle.std.proofs.lemmas.Result.{IfOk-weaker}
use Rattle.cl_types.specs.Name.{IsName}
use Rattle.cl_values.specs.Wire.{name_wire}
use Rattle.cl_tables.proofs.reading.place_of.Goals as goal

pub cut_principal-requires : goal.cut_principal-requires
cut_principal-requires c = (c.requires.0.contract, name_wire c.requires.0.name, c.requires.1.0, c.requires.2)

pub cut_name-requires : goal.cut_name-requires
cut_name-requires c =
    let h = c.requires in
    let first = c.cut_principal.ensures h.0.contract (name_wire h.0.name) h.1.0 h.2 in
    (h.0.name, [], first.1 ∙ sym (append-nil (name_wire h.0.name)))

pub place_from-requires-clause-contract : goal.place_from-requires-clause-contract
place_from-requires-clause-contract c =
    let h = c.requires in
    (h.0.contract, h.1.0, (c.cut_principal.ensures h.0.contract (name_wire h.0.name) h.1.0 h.2).0)

pub place_from-requires-clause-name : goal.place_from-requires-clause-name
place_from-requires-clause-name c =
    let h = c.requires in
    let first = c.cut_principal.ensures h.0.contract (name_wire h.0.name) h.1.0 h.2 in
    subst IsName (sym (c.cut_name.ensures h.0.name [] (first.1 ∙ sym (append-nil (name_wire h.0.name)))).0) h.1.1

pub returns-clause-spelled : goal.returns-clause-spelled
returns-clause-spelled c =
    let h = c.requires in
    let first = c.cut_principal.ensures h.0.contract (name_wire h.0.name) h.1.0 h.2 in
    let second = c.cut_name.ensures h.0.name [] (first.1 ∙ sym (append-nil (name_wire h.0.name))) in
    IfOk-weaker c.place_from.result _ _ (λ at is. h.2 ∙ sym (is ∙ (λ i. first.0 i ++ name_wire (second.0 i)))) c.place_from.ensures.spelled

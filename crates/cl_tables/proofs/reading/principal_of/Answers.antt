use Rattle.std.proofs.Common.{◌∙◌, ap, sym}
use Rattle.cl_values.specs.Wire.{wire}
use Rattle.cl_values.specs.View.{tree_of}
use Rattle.cl_tables.proofs.OwnerKeys.{holder_spells, value_read, other_kind}
use Rattle.cl_tables.proofs.reading.principal_of.Goals as goal

pub value_of-requires : goal.value_of-requires
value_of-requires c = holder_spells c.args.bytes.now c.requires

pub unreachable-requires : goal.unreachable-requires
unreachable-requires c =
    let v = value_read c.read_back.ensures c.args.bytes.now c.in_ok-value.value (holder_spells c.args.bytes.now c.requires) c.in_ok-value.ensures in
    other_kind c.behind-value.inside.kind c.requires.0 (c.behind-value.view_is ∙ c.value.ensures.tree ∙ v) c.in_default.not-Principal

pub returns-clause-spelled : goal.returns-clause-spelled
returns-clause-spelled c =
    let v = value_read c.read_back.ensures c.args.bytes.now c.in_ok-value.value (holder_spells c.args.bytes.now c.requires) c.in_ok-value.ensures in
    ap wire (ap tree_of (sym c.in-Principal.is) ∙ c.behind-value.view_is ∙ c.value.ensures.tree ∙ v) ∙ sym c.requires.2

use Rattle.std.proofs.Common.{◌+◌, ◌++◌, ◌∷◌, take, List, ap, ◌∙◌, arith}
use Rattle.std.proofs.lemmas.List.{take_rest}
use Rattle.cl_values.specs.Tree.{Tree, ListV, SomeV, items_of}
use Rattle.cl_values.specs.Wire.{items_size}
use Rattle.cl_values.specs.Computed.{is_within}
use Rattle.cl_apply.proofs.SequenceLaws.{item_replaced, no_item_replaced, part_sizes}
use Rattle.cl_apply.proofs.sequence_definedness.replaces_value.Goals as goal

pub returns-then-at-values : goal.returns-then-at-values
returns-then-at-values c = no_item_replaced c.args.at c.args.item.now c.args.values.now (omega arith)

pub wraps_around-requires-clause-before : goal.wraps_around-requires-clause-before
wraps_around-requires-clause-before c =
    let sizes = part_sizes c.args.at c.args.values.now in
    omega (arith, sizes, c.requires.size)

pub wraps_around-requires-clause-after : goal.wraps_around-requires-clause-after
wraps_around-requires-clause-after c =
    let rest = ap (λ (xs : List Tree). items_size (items_of xs)) (take_rest c.args.values.now (c.args.at + 1)) in
    let sizes = part_sizes (c.args.at + 1) c.args.values.now in
    omega (arith, rest, sizes, c.requires.size)

pub returns : goal.returns
returns c =
    c.wraps_around.ensures
    ∙ ap (λ (xs : List Tree). is_within (SomeV (ListV (items_of (take c.args.at c.args.values.now ++ c.args.item.now ∷ xs))))) (take_rest c.args.values.now (c.args.at + 1))
    ∙ item_replaced c.args.at c.args.item.now c.args.values.now c.if-at-values.false

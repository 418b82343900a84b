use Rattle.std.proofs.Common.{rules, ◌≡◌, ◌++◌, ◌∷◌, [], arith}
use Rattle.cl_values.proofs.Applies.{applied_so}
use Rattle.cl_seq.proofs.Entries.{more_fine, longer_size, longer_depth, longer_value}
use Rattle.cl_values.specs.Valid.{IsVal}
use Rattle.cl_seq.proofs.joining.append_to.Goals as goal

pub made-requires-clause-fine : goal.made-requires-clause-fine
made-requires-clause-fine c =
    let at : c.in_ok-values.values.items ≡ c.args.values.items ++ c.args.item ∷ [] = search rules in
    let valid : IsVal c.args.item = search rules in
    more_fine c.args.values.items c.args.item c.in_ok-values.values.items at (record { ranges = c.requires.valid.ranges; keys = c.requires.valid.keys; texts = c.requires.valid.texts }) valid

pub made-requires-clause-counted : goal.made-requires-clause-counted
made-requires-clause-counted c =
    let at : c.in_ok-values.values.items ≡ c.args.values.items ++ c.args.item ∷ [] = search rules in
    omega (arith, longer_size c.args.values.items c.args.item c.in_ok-values.values.items at, c.requires.counted, c.size.ensures.counted)

pub made-requires-clause-measured : goal.made-requires-clause-measured
made-requires-clause-measured c =
    let at : c.in_ok-values.values.items ≡ c.args.values.items ++ c.args.item ∷ [] = search rules in
    omega (arith, longer_depth c.args.values.items c.args.item c.in_ok-values.values.items at, c.requires.measured, c.depth.ensures.counted, c.max-depth.ensures)

pub returns : goal.returns
returns c =
    let at : c.in_ok-values.values.items ≡ c.args.values.items ++ c.args.item ∷ [] = search rules in
    applied_so _ _ c.made.result (longer_value c.args.values.items c.args.item c.in_ok-values.values.items at) c.made.ensures

use Rattle.std.proofs.Common.{map, sym, ◌∙◌}
use Rattle.cl_typing.proofs.StatedRows.{length_of_map}
use Rattle.cl_typing.proofs.TupleRows.{pairs_keyed, pairs_differ, pairs_rules}
use Rattle.cl_typing.proofs.tuples.tuple_type.Goals as goal

pub tuple-requires-clause-keyed : goal.tuple-requires-clause-keyed
tuple-requires-clause-keyed c = rw c.in_ok-row.ensures.value (pairs_keyed c.args.keys.now (map (λ t. t.now) c.args.types.now) (c.requires.count ∙ sym (length_of_map (λ t. t.now) c.args.types.now)) c.requires.some)

pub tuple-requires-clause-differ : goal.tuple-requires-clause-differ
tuple-requires-clause-differ c = rw c.in_ok-row.ensures.value (pairs_differ c.args.keys.now (map (λ t. t.now) c.args.types.now) (c.requires.count ∙ sym (length_of_map (λ t. t.now) c.args.types.now)) c.requires.once)

pub returns : goal.returns
returns c = pairs_rules c.args.keys.now (map (λ t. t.now) c.args.types.now) c.in_ok-row.row.items c.tuple.result c.in_ok-row.ensures.value c.tuple.ensures

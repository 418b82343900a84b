use Rattle.std.proofs.Common.{map, ap, ◌∙◌}
use Rattle.cl_typing.proofs.IterationRows.{map_fails}
use Rattle.cl_typing.proofs.iterations.map_type.Goals as goal

pub returns : goal.returns
returns c =
    map_fails c.args.used.now (map (λ t. t.now) c.args.types.now) c.are_sequences.result c.are_sequences.ensures c.if-not-are_sequences.false (map (λ t. t.now) c.deref-2.result.now)
    (ap (map (λ t. t.now)) c.deref-2.ensures.value ∙ c.in_ok-each.ensures ∙ c.deref.ensures.value ∙ c.in_ok-entries.ensures) c.in-Err.fault c.in-Err.ensures

use Rattle.std.proofs.Common.{rules, ◌≡◌, ◌∷◌, [], ◌++◌, length, arith, ap, sym, subst, ◌∙◌}
use Rattle.std.specs.Vec.Iter.{into_iter_items}
use Rattle.cl_values.specs.Tree.{entries_of}
use Rattle.cl_values.specs.Valid.{AreEntries}
use Rattle.cl_values.proofs.Parts.{tuple_part, rest_entries}
use Rattle.cl_seq.proofs.Entries.{turned, ended}
use Rattle.cl_seq.proofs.tuples.parts_of.Goals as goal

pub loop-key-init : goal.loop-key-init
loop-key-init c =
    let same : into_iter_items c.into_iter-key-iterator.result ≡ c.args.entries.items = search rules in
    record {
      whole = ap (λ l. l ++ into_iter_items c.into_iter-key-iterator.result) c.new-parts.ensures.items ∙ same;
      valid = subst (λ l. AreEntries (entries_of l)) (sym same) (tuple_part (entries_of c.args.entries.items) c.requires);
    }

pub loop-key-preserved : goal.loop-key-preserved
loop-key-preserved c =
    let left = into_iter_items c.next.new.self in
    let next : into_iter_items c.loop-key.key-iterator ≡ (c.in-Some.key, c.in-Some.value) ∷ left = c.in-Some.ensures.steps.0 in
    let at : c.in_ok-parts.parts.items ≡ c.loop-key.parts.items ++ (c.in-Some.key, c.in-Some.value) ∷ [] = c.in_ok-parts.ensures ∙ ap (λ w. c.loop-key.parts.items ++ (c.in-Some.key, w) ∷ []) c.counted.ensures in
    record {
      whole = ap (λ l. l ++ left) at ∙ turned c.loop-key.parts.items left c.args.entries.items (into_iter_items c.loop-key.key-iterator) (c.in-Some.key, c.in-Some.value) c.loop-key.invariant.whole next;
      valid = rest_entries c.in-Some.key c.in-Some.value (entries_of left) (subst (λ l. AreEntries (entries_of l)) next c.loop-key.invariant.valid);
    }

pub returns : goal.returns
returns c =
    let empty : length (into_iter_items c.loop-key.key-iterator) ≡ 0 = omega (arith, c.loop-key.key-iterator.rest.ok.0, c.in-None.ensures.steps.0) in
    sym (ended c.loop-key.parts.items (into_iter_items c.loop-key.key-iterator) c.args.entries.items c.loop-key.invariant.whole empty)

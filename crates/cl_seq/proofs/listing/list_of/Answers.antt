use Rattle.std.proofs.Common.{rules, ◌≡◌, ◌∷◌, [], ◌++◌, length, ap, ◌∙◌, arith}
use Rattle.std.specs.Vec.Iter.{into_iter_items}
use Rattle.cl_values.specs.Tree.{ListV, items_of}
use Rattle.cl_values.specs.Computed.{Gives}
use Rattle.cl_values.proofs.Applies.{applied_so}
use Rattle.cl_seq.proofs.Entries.{too_large, turned, ended, more_fine, longer_size, more_depth}
use Rattle.cl_seq.proofs.listing.list_of.Goals as goal

pub returns-then-size-gt-MOST_SIZE : goal.returns-then-size-gt-MOST_SIZE
returns-then-size-gt-MOST_SIZE c =
    too_large c.loop-value.entries.items (into_iter_items c.loop-value.value-iterator) c.args.values.items c.loop-value.invariant.whole (omega (arith, c.loop-value.invariant.counted, c.if-size-gt-MOST_SIZE.true))

pub loop-value-preserved : goal.loop-value-preserved
loop-value-preserved c =
    let at : c.in_ok-entries.entries.items ≡ c.loop-value.entries.items ++ c.in-Some.value ∷ [] = c.in_ok-entries.ensures ∙ ap (λ w. c.loop-value.entries.items ++ w ∷ []) c.into_value.ensures.tree in
    record {
      whole = ap (λ l. l ++ into_iter_items c.next.new.self) at ∙ turned c.loop-value.entries.items (into_iter_items c.next.new.self) c.args.values.items (into_iter_items c.loop-value.value-iterator) c.in-Some.value c.loop-value.invariant.whole c.in-Some.ensures.steps.0;
      fine = more_fine c.loop-value.entries.items c.in-Some.value c.in_ok-entries.entries.items at c.loop-value.invariant.fine (search rules);
      counted = omega (arith, longer_size c.loop-value.entries.items c.in-Some.value c.in_ok-entries.entries.items at, c.loop-value.invariant.counted, c.size-size.ensures.counted);
      small = omega (arith, c.if-size-gt-MOST_SIZE.false, c.size-size.ensures.within);
      measured = omega (arith, more_depth c.loop-value.entries.items c.in-Some.value c.in_ok-entries.entries.items at, c.max-depth.ensures, c.depth.ensures.counted, c.loop-value.invariant.measured);
      shallow = omega (arith, c.max-depth.ensures, c.depth.ensures.within, c.loop-value.invariant.shallow);
    }

pub returns : goal.returns
returns c =
    let empty : length (into_iter_items c.loop-value.value-iterator) ≡ 0 = omega (arith, c.loop-value.value-iterator.rest.ok.0, c.in-None.ensures.steps.0) in
    let whole : c.args.values.items ≡ c.loop-value.entries.items = ended c.loop-value.entries.items (into_iter_items c.loop-value.value-iterator) c.args.values.items c.loop-value.invariant.whole empty in
    applied_so _ _ c.made.result (ap (λ l. Gives (ListV (items_of l))) whole) c.made.ensures

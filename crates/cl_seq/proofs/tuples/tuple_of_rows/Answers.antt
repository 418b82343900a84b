use Rattle.std.proofs.Common.{rules, ◌≡◌, true, ◌∷◌, [], ◌++◌, length, ap, subst, ◌∙◌, arith}
use Rattle.std.specs.Vec.Iter.{into_iter_items}
use Rattle.cl_types.specs.Name.{IsName}
use Rattle.cl_values.specs.Tree.{TupleV, entries_of}
use Rattle.cl_values.specs.Valid.{IsVal, rises}
use Rattle.cl_values.specs.Computed.{Gives}
use Rattle.cl_values.proofs.Applies.{applied_so}
use Rattle.cl_seq.proofs.Entries.{turned, ended}
use Rattle.cl_seq.proofs.Rows.{all_fine, row_fine, row_size, row_depth, tuple_too_large}
use Rattle.cl_seq.proofs.tuples.tuple_of_rows.Goals as goal

pub returns-then-size-gt-MOST_SIZE : goal.returns-then-size-gt-MOST_SIZE
returns-then-size-gt-MOST_SIZE c =
    tuple_too_large c.loop-key.entries.items (into_iter_items c.loop-key.key-iterator) c.args.rows.items c.loop-key.invariant.whole (omega (arith, c.loop-key.invariant.counted, c.if-size-gt-MOST_SIZE.true))

pub loop-key-preserved : goal.loop-key-preserved
loop-key-preserved c =
    let at : c.in_ok-entries.entries.items ≡ c.loop-key.entries.items ++ (c.in-Some.key, c.in-Some.value) ∷ [] = c.in_ok-entries.ensures ∙ ap (λ w. c.loop-key.entries.items ++ (c.in-Some.key, w) ∷ []) c.into_value.ensures.tree in
    let named : IsName c.in-Some.key = subst IsName c.bytes.ensures.value c.bytes.ensures.name in
    let valid : IsVal c.in-Some.value = search rules in
    let long = row_size c.loop-key.entries.items c.in-Some.key c.in-Some.value c.in_ok-entries.entries.items at in
    let deep = row_depth c.loop-key.entries.items c.in-Some.key c.in-Some.value c.in_ok-entries.entries.items at in
    let spelled = ap length c.bytes.ensures.value in
    record {
      whole = ap (λ l. l ++ into_iter_items c.next.new.self) at ∙ turned c.loop-key.entries.items (into_iter_items c.next.new.self) c.args.rows.items (into_iter_items c.loop-key.key-iterator) (c.in-Some.key, c.in-Some.value) c.loop-key.invariant.whole c.in-Some.ensures.steps.0;
      fine = row_fine c.loop-key.entries.items c.in-Some.key c.in-Some.value c.in_ok-entries.entries.items at c.loop-key.invariant.fine named valid;
      counted = omega (arith, long, spelled, c.loop-key.invariant.counted, c.size.ensures.counted);
      small = omega (arith, c.if-size-gt-MOST_SIZE.false, c.size.ensures.within, c.bytes.ensures.name.within);
      measured = omega (arith, deep, c.max-depth.ensures, c.depth.ensures.counted, c.loop-key.invariant.measured);
      shallow = omega (arith, c.max-depth.ensures, c.depth.ensures.within, c.loop-key.invariant.shallow);
    }

pub made-requires-clause-fine : goal.made-requires-clause-fine
made-requires-clause-fine c =
    let empty : length (into_iter_items c.loop-key.key-iterator) ≡ 0 = omega (arith, c.loop-key.key-iterator.rest.ok.0, c.in-None.ensures.steps.0) in
    let whole : c.args.rows.items ≡ c.loop-key.entries.items = ended c.loop-key.entries.items (into_iter_items c.loop-key.key-iterator) c.args.rows.items c.loop-key.invariant.whole empty in
    all_fine (entries_of c.loop-key.entries.items) c.loop-key.invariant.fine (subst (λ l. rises (entries_of l) ≡ true) whole c.requires)

pub returns : goal.returns
returns c =
    let empty : length (into_iter_items c.loop-key.key-iterator) ≡ 0 = omega (arith, c.loop-key.key-iterator.rest.ok.0, c.in-None.ensures.steps.0) in
    let whole : c.args.rows.items ≡ c.loop-key.entries.items = ended c.loop-key.entries.items (into_iter_items c.loop-key.key-iterator) c.args.rows.items c.loop-key.invariant.whole empty in
    applied_so _ _ c.made.result (ap (λ l. Gives (TupleV (entries_of l))) whole) c.made.ensures

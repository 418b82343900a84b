use Rattle.std.proofs.Common.{◌≡◌, List, Result, Ok, Err, arith, subst, sym, ◌∙◌, ap}
use Rattle.std.specs.Prelude.{IfOk}
use Rattle.cl_types.specs.Fault.{IfRefused}
use Rattle.cl_sexpr.specs.declared.sexpr.Span.{Span}
use Rattle.cl_sexpr.specs.Tree.{Tree as Item, forest, pairs}
use Rattle.cl_values.specs.Tree.{Tree, SomeV, ResponseV}
use Rattle.cl_text.specs.Literal.{by_key, made_of, literal, list_literal, sole, literals, pair_entries, pair_entry, entry_in, entries}
use Rattle.cl_text.proofs.Parts.{handed_on, tuple_made, more_than_one, one_part, values_go_on, values_stop, all_values, pairs_go_on, pairs_stop, all_pairs, entries_go_on, entries_stop, all_entries}
use Rattle.cl_text.proofs.Rows.{item_smaller, pair_smaller}
use Rattle.cl_text.proofs.Written.{none_left}
use Rattle.cl_text.proofs.literal.+literal.Goals as goal

pub literals-literal-requires : goal.literals-literal-requires
literals-literal-requires t c =
    omega (arith, item_smaller c.args.items.now c.loop-item.item-index c.item-item.result c.loop-item-test.true c.item-item.is, c.decreases)

pub pair_entries-pair_entry-requires : goal.pair_entries-pair_entry-requires
pair_entries-pair_entry-requires t c =
    omega (arith, item_smaller c.args.items.now c.loop-item.item-index c.item-item.result c.loop-item-test.true c.item-item.is, c.decreases)

pub entries-literal-requires : goal.entries-literal-requires
entries-literal-requires t c =
    omega (arith, pair_smaller c.args.parts.now c.loop-part.part-index c.part-item.result c.loop-part-test.true c.part-item.is, c.decreases)

pub sole-returns-then-not-is_empty-clause-broken : goal.sole-returns-then-not-is_empty-clause-broken
sole-returns-then-not-is_empty-clause-broken t c =
    ap (λ (ts : List Item). sole c.args.span (forest ts)) c.in-Some.ensures.cases.0
    ∙ more_than_one c.args.span c.in-Some.others.now (literal c.in-Some.item.now) (sym c.is_empty.ensures ∙ c.if-not-is_empty.true)

pub list_literal-returns-in_default-clause-broken : goal.list_literal-returns-in_default-clause-broken
list_literal-returns-in_default-clause-broken t c = ap (λ (ts : List Item). list_literal c.args.span (forest ts)) (none_left c.args.items.now c.in_default.ensures.cases)

pub sole-returns-in_default-clause-broken : goal.sole-returns-in_default-clause-broken
sole-returns-in_default-clause-broken t c = ap (λ (ts : List Item). sole c.args.span (forest ts)) (none_left c.args.parts.now c.in_default.ensures.cases)

pub entry_in-returns-in_default-clause-broken : goal.entry_in-returns-in_default-clause-broken
entry_in-returns-in_default-clause-broken t c = ap (λ (ts : List Item). entry_in c.args.span (forest ts)) (none_left c.args.items.now c.in_default.ensures.cases)

pub sole-returns-clause-found : goal.sole-returns-clause-found
sole-returns-clause-found t c =
    subst (λ (r : Result Tree Span). IfOk c.literal.result (λ v. r ≡ Ok v))
    (one_part c.args.span c.args.parts.now c.in-Some.others.now c.in-Some.item.now c.in-Some.ensures.cases.0 c.if-not-is_empty.ensures)
    c.literal.ensures.found

pub sole-returns-clause-broken : goal.sole-returns-clause-broken
sole-returns-clause-broken t c =
    subst (λ (r : Result Tree Span). IfRefused c.literal.result (λ part. r ≡ Err part))
    (one_part c.args.span c.args.parts.now c.in-Some.others.now c.in-Some.item.now c.in-Some.ensures.cases.0 c.if-not-is_empty.ensures)
    c.literal.ensures.broken

pub literals-loop-item-preserved : goal.literals-loop-item-preserved
literals-loop-item-preserved t c =
    values_go_on c.args.items.now c.loop-item.item-index c.loop-item.values.items c.loop-item.invariant c.item-item.result c.in_ok-literal.field-0 c.push.new.self.items c.loop-item-test.true c.item-item.is c.in_ok-literal.ensures.found c.in_ok-push.ensures.items

pub literals-returns-clause-found : goal.literals-returns-clause-found
literals-returns-clause-found t c = all_values c.args.items.now c.loop-item.item-index c.loop-item.values.items c.loop-item.invariant c.loop-item-test.false

pub pair_entries-loop-item-preserved : goal.pair_entries-loop-item-preserved
pair_entries-loop-item-preserved t c =
    pairs_go_on c.args.items.now c.loop-item.item-index c.loop-item.sorted.entries _ c.loop-item.invariant c.item-item.result c.in_ok-key.key c.in_ok-key.value c.put.new.sorted.entries c.loop-item-test.true c.item-item.is c.in_ok-key.ensures.found c.in_ok-put.ensures

pub pair_entries-returns-clause-found : goal.pair_entries-returns-clause-found
pair_entries-returns-clause-found t c = all_pairs c.args.items.now c.loop-item.item-index c.loop-item.sorted.entries _ c.loop-item.invariant c.loop-item-test.false

pub entries-loop-part-preserved : goal.entries-loop-part-preserved
entries-loop-part-preserved t c =
    entries_go_on c.args.parts.now c.loop-part.part-index c.loop-part.sorted.entries _ c.loop-part.invariant c.part-item.result c.in_ok-value.value c.put.new.sorted.entries c.loop-part-test.true c.part-item.is c.in_ok-value.ensures.found c.in_ok-put.ensures

pub entries-returns-clause-found : goal.entries-returns-clause-found
entries-returns-clause-found t c = all_entries c.args.parts.now c.loop-part.part-index c.loop-part.sorted.entries _ c.loop-part.invariant c.loop-part-test.false

pub literals-returns-in_err-literal-clause-broken : goal.literals-returns-in_err-literal-clause-broken
literals-returns-in_err-literal-clause-broken t c =
    handed_on (λ part. literal c.item-item.result ≡ Err part) (λ part. literals (forest c.args.items.now) ≡ Err part) c.in_err-literal.field-0.0 c.from_residual-in_err-literal.result (λ part fault. values_stop c.args.items.now c.loop-item.item-index c.loop-item.values.items c.loop-item.invariant c.item-item.result part c.loop-item-test.true c.item-item.is fault) c.from_residual-in_err-literal.ensures.1 c.in_err-literal.ensures.broken

pub pair_entries-returns-in_err-key-clause-broken : goal.pair_entries-returns-in_err-key-clause-broken
pair_entries-returns-in_err-key-clause-broken t c =
    handed_on (λ part. pair_entry c.item-item.result ≡ Err part) (λ part. made_of by_key (pair_entries (forest c.args.items.now)) ≡ Err part) c.in_err-key.field-0.0 c.from_residual.result (λ part fault. pairs_stop c.args.items.now c.loop-item.item-index c.loop-item.sorted.entries _ c.loop-item.invariant c.item-item.result part c.loop-item-test.true c.item-item.is fault) c.from_residual.ensures.1 c.in_err-key.ensures.broken

pub entries-returns-in_err-value-clause-broken : goal.entries-returns-in_err-value-clause-broken
entries-returns-in_err-value-clause-broken t c =
    handed_on (λ part. literal c.part-item.result.1 ≡ Err part) (λ part. made_of by_key (entries (pairs c.args.parts.now)) ≡ Err part) c.in_err-value.field-0.0 c.from_residual.result (λ part fault. entries_stop c.args.parts.now c.loop-part.part-index c.loop-part.sorted.entries _ c.loop-part.invariant c.part-item.result part c.loop-part-test.true c.part-item.is fault) c.from_residual.ensures.1 c.in_err-value.ensures.broken

pub some_literal-returns-clause-found : goal.some_literal-returns-clause-found
some_literal-returns-clause-found t c = ap (made_of SomeV) c.in_ok-sole.ensures.found ∙ ap (λ (v : Tree). Ok (SomeV v)) (sym c.in_ok-inner.ensures.ok)

pub response_literal-returns-clause-found : goal.response_literal-returns-clause-found
response_literal-returns-clause-found t c = ap (made_of (ResponseV c.args.good)) c.in_ok-sole.ensures.found ∙ ap (λ (v : Tree). Ok (ResponseV c.args.good v)) (sym c.in_ok-inner.ensures.ok)

pub pairs_literal-returns-clause-found : goal.pairs_literal-returns-clause-found
pairs_literal-returns-clause-found t c = tuple_made c.args.span _ (pair_entries (forest c.args.items.now)) c.in_ok-sorted.sorted.entries c.in_ok-tuple_value.field-0 (sym c.in_ok-are_pairs.ensures ∙ c.if-not-branch.false) c.in_ok-sorted.ensures.found c.in_ok-tuple_value.ensures

pub tuple_literal-returns-clause-found : goal.tuple_literal-returns-clause-found
tuple_literal-returns-clause-found t c = tuple_made c.args.span _ (entries (pairs c.args.parts.now)) c.in_ok-sorted.sorted.entries c.in_ok-tuple_value.field-0 (sym c.in_ok-has_tuple_keys.ensures ∙ c.if-not-branch.false) c.in_ok-sorted.ensures.found c.in_ok-tuple_value.ensures

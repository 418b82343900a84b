use Rattle.std.proofs.Common.{ℕ, List, sym, ap, subst, ◌∙◌}
use Rattle.std.proofs.lemmas.Bool.{and_parts}
use Rattle.cl_types.specs.Types.{PlainType, TupleType, fields}
use Rattle.cl_types.specs.TypeView.{plain_of}
use Rattle.cl_types.specs.Sized.{IsSized, rises, everywhere_in, keys_rise}
use Rattle.cl_types.specs.SizedParts.{tuple_parts}
use Rattle.cl_types.proofs.Rising.{rising_differ}
use Rattle.cl_typing.proofs.TupleRows.{unlike_rise, unlike_shallow, unlike_keyed, unlike_differ, merged_rules}
use Rattle.cl_typing.proofs.tuples.merge.Goals as goal

pub tuple-requires-clause-rise : goal.tuple-requires-clause-rise
tuple-requires-clause-rise c =
    let at_t = ap (λ (xs : List (List ℕ × PlainType)). TupleType (fields xs)) c.deref.ensures.value ∙ ap plain_of (sym c.in-Tuple-Tuple.is-0) ∙ c.behind-t.view_is in
    let at_u = ap (λ (xs : List (List ℕ × PlainType)). TupleType (fields xs)) c.deref-in-Tuple-Tuple.ensures.value ∙ ap plain_of (sym c.in-Tuple-Tuple.is-1) ∙ c.behind-u.view_is in
    let first : IsSized (TupleType (fields c.deref.result.now)) = subst IsSized (sym at_t) c.ty.ensures.sized in
    let second : IsSized (TupleType (fields c.deref-in-Tuple-Tuple.result.now)) = subst IsSized (sym at_u) c.ty-2.ensures.sized in
    rw c.in_ok-row-in-Tuple-Tuple.ensures (unlike_rise c.deref-in-Tuple-Tuple.result.now c.deref.result.now (tuple_parts _ first).keys (tuple_parts _ second).keys)

pub tuple-requires-clause-depth : goal.tuple-requires-clause-depth
tuple-requires-clause-depth c =
    let at_t = ap (λ (xs : List (List ℕ × PlainType)). TupleType (fields xs)) c.deref.ensures.value ∙ ap plain_of (sym c.in-Tuple-Tuple.is-0) ∙ c.behind-t.view_is in
    let at_u = ap (λ (xs : List (List ℕ × PlainType)). TupleType (fields xs)) c.deref-in-Tuple-Tuple.ensures.value ∙ ap plain_of (sym c.in-Tuple-Tuple.is-1) ∙ c.behind-u.view_is in
    let first : IsSized (TupleType (fields c.deref.result.now)) = subst IsSized (sym at_t) c.ty.ensures.sized in
    let second : IsSized (TupleType (fields c.deref-in-Tuple-Tuple.result.now)) = subst IsSized (sym at_u) c.ty-2.ensures.sized in
    rw c.in_ok-row-in-Tuple-Tuple.ensures (unlike_shallow c.deref-in-Tuple-Tuple.result.now c.deref.result.now (tuple_parts _ first).depth (tuple_parts _ second).depth)

pub tuple-requires-clause-keyed : goal.tuple-requires-clause-keyed
tuple-requires-clause-keyed c =
    let at_t = ap (λ (xs : List (List ℕ × PlainType)). TupleType (fields xs)) c.deref.ensures.value ∙ ap plain_of (sym c.in-Tuple-Tuple.is-0) ∙ c.behind-t.view_is in
    let at_u = ap (λ (xs : List (List ℕ × PlainType)). TupleType (fields xs)) c.deref-in-Tuple-Tuple.ensures.value ∙ ap plain_of (sym c.in-Tuple-Tuple.is-1) ∙ c.behind-u.view_is in
    let first : IsSized (TupleType (fields c.deref.result.now)) = subst IsSized (sym at_t) c.ty.ensures.sized in
    let second : IsSized (TupleType (fields c.deref-in-Tuple-Tuple.result.now)) = subst IsSized (sym at_u) c.ty-2.ensures.sized in
    rw c.in_ok-row-in-Tuple-Tuple.ensures (unlike_keyed c.deref-in-Tuple-Tuple.result.now c.deref.result.now (and_parts (rises (fields c.deref-in-Tuple-Tuple.result.now)) (everywhere_in keys_rise (fields c.deref-in-Tuple-Tuple.result.now)) second.keys).0)

pub tuple-requires-clause-differ : goal.tuple-requires-clause-differ
tuple-requires-clause-differ c =
    let at_t = ap (λ (xs : List (List ℕ × PlainType)). TupleType (fields xs)) c.deref.ensures.value ∙ ap plain_of (sym c.in-Tuple-Tuple.is-0) ∙ c.behind-t.view_is in
    let at_u = ap (λ (xs : List (List ℕ × PlainType)). TupleType (fields xs)) c.deref-in-Tuple-Tuple.ensures.value ∙ ap plain_of (sym c.in-Tuple-Tuple.is-1) ∙ c.behind-u.view_is in
    let first : IsSized (TupleType (fields c.deref.result.now)) = subst IsSized (sym at_t) c.ty.ensures.sized in
    let second : IsSized (TupleType (fields c.deref-in-Tuple-Tuple.result.now)) = subst IsSized (sym at_u) c.ty-2.ensures.sized in
    rw c.in_ok-row-in-Tuple-Tuple.ensures (unlike_differ c.deref-in-Tuple-Tuple.result.now c.deref.result.now (rising_differ (fields c.deref.result.now) (and_parts (rises (fields c.deref.result.now)) (everywhere_in keys_rise (fields c.deref.result.now)) first.keys).0) (rising_differ (fields c.deref-in-Tuple-Tuple.result.now) (and_parts (rises (fields c.deref-in-Tuple-Tuple.result.now)) (everywhere_in keys_rise (fields c.deref-in-Tuple-Tuple.result.now)) second.keys).0))

pub returns-in_ok-row-in-Tuple-Tuple : goal.returns-in_ok-row-in-Tuple-Tuple
returns-in_ok-row-in-Tuple-Tuple c =
    let at_t = ap (λ (xs : List (List ℕ × PlainType)). TupleType (fields xs)) c.deref.ensures.value ∙ ap plain_of (sym c.in-Tuple-Tuple.is-0) ∙ c.behind-t.view_is in
    let at_u = ap (λ (xs : List (List ℕ × PlainType)). TupleType (fields xs)) c.deref-in-Tuple-Tuple.ensures.value ∙ ap plain_of (sym c.in-Tuple-Tuple.is-1) ∙ c.behind-u.view_is in
    let first : IsSized (TupleType (fields c.deref.result.now)) = subst IsSized (sym at_t) c.ty.ensures.sized in
    let second : IsSized (TupleType (fields c.deref-in-Tuple-Tuple.result.now)) = subst IsSized (sym at_u) c.ty-2.ensures.sized in
    merged_rules c.deref-in-Tuple-Tuple.result.now c.deref.result.now c.in_ok-row-in-Tuple-Tuple.row.items c.args.t.now c.args.u.now c.tuple.result (at_t ∙ c.ty.ensures.tree) (at_u ∙ c.ty-2.ensures.tree) (and_parts (rises (fields c.deref-in-Tuple-Tuple.result.now)) (everywhere_in keys_rise (fields c.deref-in-Tuple-Tuple.result.now)) second.keys).0 c.in_ok-row-in-Tuple-Tuple.ensures c.tuple.ensures

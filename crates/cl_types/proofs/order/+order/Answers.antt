use Rattle.std.proofs.Common.{◌≡◌, ◌<◌, get_or, arith, ap, sym, ◌∙◌, List, ℕ}
use Rattle.std.proofs.lemmas.Result.{on_ok_weaker}
use Rattle.cl_types.specs.TypeFalls.{field_falls}
use Rattle.cl_types.specs.TypeView.{plain_of}
use Rattle.cl_types.specs.Types.{PlainType, ListType, TupleType, OptionalType, ResponseType, fields, weight_of, weights_of}
use Rattle.cl_types.specs.Sized.{sorted, sorted_parts, in_order}
use Rattle.cl_types.proofs.Sorting.{sorted_more, unsorted_yet, all_sorted, leaf_sorted}
use Rattle.cl_types.proofs.order.+order.Goals as goal
use Rattle.cl_types.proofs.order.+order.Goals.{sort-in-List, sort-in-Tuple, sort-in-Optional, sort-in-Response+in_ok-sort-in-Response, sort-in_default}

pub sort-returns : goal.sort-returns
sort-returns t c =
    elim c.match-ty.branch [
      | sort-in-List w ↦
          let is : ListType w.in-List.field-0 w.in-List.part.value ≡ c.args.ty.now = ap plain_of (sym w.in-List.is) ∙ c.ty.view_is in
          rw (w.result-is, w.ty-inside-is) (on_ok_weaker w.sort.result (λ (e : w.sort.new.ty ≡ sorted w.deref_mut.result.now). ap (λ (u : PlainType). ListType w.in-List.field-0 u) (e ∙ ap sorted w.deref_mut.ensures.value) ∙ ap sorted is) w.sort.ensures)
      | sort-in-Tuple w ↦
          let is : TupleType (fields w.in-Tuple.row.items) ≡ c.args.ty.now = ap plain_of (sym w.in-Tuple.is) ∙ c.ty.view_is in
          rw (w.result-is, w.ty-inside-is) (on_ok_weaker w.sort_tuple.result (λ (e : fields w.sort_tuple.new.row.items ≡ in_order (sorted_parts (fields w.in-Tuple.row.items))). ap TupleType e ∙ ap sorted is) w.sort_tuple.ensures)
      | sort-in-Optional w ↦
          let is : OptionalType w.in-Optional.part.value ≡ c.args.ty.now = ap plain_of (sym w.in-Optional.is) ∙ c.ty.view_is in
          rw (w.result-is, w.ty-inside-is) (on_ok_weaker w.sort-in-Optional.result (λ (e : w.sort-in-Optional.new.ty ≡ sorted w.deref_mut-in-Optional.result.now). ap OptionalType (e ∙ ap sorted w.deref_mut-in-Optional.ensures.value) ∙ ap sorted is) w.sort-in-Optional.ensures)
      | sort-in-Response+in_ok-sort-in-Response w ↦
          let is : ResponseType w.in-Response.good.value w.in-Response.bad.value ≡ c.args.ty.now = ap plain_of (sym w.in-Response.is) ∙ c.ty.view_is in
          let good : w.sort-in-Response.new.ty ≡ sorted w.in-Response.good.value = w.in_ok-sort-in-Response.ensures ∙ ap sorted w.deref_mut-in-Response.ensures.value in
          rw (w.result-is, w.ty-inside-is) (on_ok_weaker w.sort-in-Response-2.result (λ (e : w.sort-in-Response-2.new.ty ≡ sorted w.deref_mut-in-Response-2.result.now). ap (λ (u : PlainType). ResponseType w.sort-in-Response.new.ty u) (e ∙ ap sorted w.deref_mut-in-Response-2.ensures.value) ∙ ap (λ (u : PlainType). ResponseType u (sorted w.in-Response.bad.value)) good ∙ ap sorted is) w.sort-in-Response-2.ensures)
      | sort-in_default w ↦
          rw (w.result-is, w.ty-inside-is) (sym (leaf_sorted c.ty.inside.kind w.in_default.not-List w.in_default.not-Tuple w.in_default.not-Optional w.in_default.not-Response) ∙ ap sorted c.ty.view_is)
    ]

pub sort_parts-sort-requires : goal.sort_parts-sort-requires
sort_parts-sort-requires t c =
    let here : get_or c.loop-field.row c.loop-field.field-index c.field-item.result ≡ get_or c.args.row.now c.loop-field.field-index c.field-item.result = ap (λ (hs : List (List ℕ × PlainType)). get_or hs c.loop-field.field-index c.field-item.result) c.loop-field.invariant ∙ unsorted_yet c.args.row.now c.loop-field.field-index c.field-item.result c.loop-field-test.true in
    let lighter : weight_of c.field-item.result.1 < weights_of (fields c.args.row.now) = field_falls c.args.row.now c.loop-field.field-index c.field-item.result c.loop-field-test.true (c.field-item.is ∙ here) in
    let same : weight_of (get_or c.loop-field.row c.loop-field.field-index c.field-item.result).1 ≡ weight_of c.field-item.result.1 = ap (λ (f : List ℕ × PlainType). weight_of f.1) (sym c.field-item.is) in
    (omega (arith, lighter, same, c.decreases), tt)

pub sort_parts-loop-field-preserved : goal.sort_parts-loop-field-preserved
sort_parts-loop-field-preserved t c =
    sorted_more c.args.row.now c.loop-field.row c.loop-field.field-index c.field-item.result c.sort.new.ty c.loop-field-test.true c.loop-field.invariant c.in_ok-sort.ensures

pub sort_parts-returns : goal.sort_parts-returns
sort_parts-returns t c = all_sorted c.args.row.now c.loop-field.row c.loop-field.field-index c.loop-field-test.false c.loop-field.invariant

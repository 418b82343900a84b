use Rattle.std.proofs.Common.{List, map, take, [], ◌∷◌, ◌++◌, sym, ap, ◌∙◌}
use Rattle.std.specs.Borrow.{Bor}
use Rattle.std.proofs.lemmas.List.{map_push}
use Rattle.cl_types.specs.Types.{PlainType}
use Rattle.cl_types.specs.TypeKinds.{entry_of}
use Rattle.cl_types.specs.declared.sized.SizedTy.{SizedTy}
use Rattle.cl_typing.proofs.InOrder.{one_read, all_taken}
use Rattle.cl_typing.proofs.iterations.entries.Goals as goal

pub loop-ty-preserved : goal.loop-ty-preserved
loop-ty-preserved c =
    let so_far : List PlainType = map (λ (t : Bor SizedTy). t.now) (take c.loop-ty.ty-index c.args.types.now) in
    c.in_ok-push.ensures.items ∙ ap (λ (ts : List PlainType). ts ++ c.in_ok-entry.entry ∷ []) c.loop-ty.invariant ∙ ap (λ (t : PlainType). map entry_of so_far ++ t ∷ []) c.in_ok-entry.ensures
    ∙ (sym (map_push entry_of so_far c.ty-item.result.now) ∙ ap (map entry_of) (one_read (λ (t : Bor SizedTy). t.now) c.args.types.now c.loop-ty.ty-index c.ty-item.result c.loop-ty-test.true c.ty-item.is))

pub returns : goal.returns
returns c = c.loop-ty.invariant ∙ ap (λ (ts : List (Bor SizedTy)). map entry_of (map (λ t. t.now) ts)) (all_taken c.args.types.now c.loop-ty.ty-index c.loop-ty-test.false)

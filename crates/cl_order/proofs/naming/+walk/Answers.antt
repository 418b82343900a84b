use Rattle.std.proofs.Common.{◌++◌, ℕ, List, flat_map, append-nil, arith, refl, ap, sym, ◌∙◌}
use Rattle.std.proofs.lemmas.List.{drop_all}
use Rattle.std.proofs.lemmas.Result.{err_from_is_err_and}
use Rattle.cl_sexpr.specs.Tree.{Tree, forest, pairs, tree_size}
use Rattle.cl_sexpr.specs.ViewFalls.{part_falls, pair_falls}
use Rattle.cl_forms.specs.Names.{atoms_of, atoms_of_pairs}
use Rattle.cl_order.specs.Index.{under}
use Rattle.cl_order.specs.Naming.{place}
use Rattle.cl_order.proofs.Walks.{walked_named, item_found, pair_found}
use Rattle.cl_order.proofs.naming.+walk.Goals as goal

pub walk_list-returns-in_ok-walk_first-in-Some-atom : goal.walk_list-returns-in_ok-walk_first-in-Some-atom
walk_list-returns-in_ok-walk_first-in-Some-atom t c =
    walked_named (under c.args.index.now) c.walk_items.result (place c.args.site) (place c.behind.result) c.args.items.now c.in-Some.first.now c.in-Some.rest.now c.in-Some-atom.name.now _
    c.args.found.now.items c.walk_first.new.found.items c.walk_items.new.found.items c.in-Some.ensures c.in-Some-atom.ensures refl c.behind.ensures c.in_ok-walk_first-in-Some-atom.ensures c.walk_items.ensures

pub walk_items-walk-requires : goal.walk_items-walk-requires
walk_items-walk-requires t c =
    (omega (arith, part_falls c.args.items.now c.loop-item.item-index c.item-item.result c.loop-item-test.true, ap tree_size c.item-item.is, c.decreases), tt)

pub walk_items-loop-item-preserved : goal.walk_items-loop-item-preserved
walk_items-loop-item-preserved t c =
    item_found (under c.args.index.now) c.args.items.now c.loop-item.item-index c.item-item.result (place c.loop-item.site) (place c.next-site.result)
    c.loop-item.found.items c.walk.new.found.items _ c.loop-item-test.true c.item-item.is c.next-site.ensures c.in_ok-walk.ensures c.loop-item.invariant

pub walk_items-returns : goal.walk_items-returns
walk_items-returns t c =
    sym (append-nil c.loop-item.found.items)
    ∙ ap (λ (ts : List Tree). c.loop-item.found.items ++ flat_map (under c.args.index.now) (atoms_of (place c.loop-item.site) (forest ts))) (sym (drop_all c.loop-item.item-index c.args.items.now c.loop-item-test.false))
    ∙ c.loop-item.invariant

pub walk_items-returns-in_err-walk : goal.walk_items-returns-in_err-walk
walk_items-returns-in_err-walk t c = let failed = err_from_is_err_and c.from_residual.result c.from_residual.ensures.1 in rw failed.1 tt

pub walk_pairs-walk-requires : goal.walk_pairs-walk-requires
walk_pairs-walk-requires t c =
    (omega (arith, pair_falls c.args.parts.now c.loop-part.part-index c.part-item.result c.loop-part-test.true, ap (λ (p : List ℕ × Tree). tree_size p.1) c.part-item.is, c.decreases), tt)

pub walk_pairs-loop-part-preserved : goal.walk_pairs-loop-part-preserved
walk_pairs-loop-part-preserved t c =
    pair_found (under c.args.index.now) c.args.parts.now c.loop-part.part-index c.part-item.result
    c.loop-part.found.items c.walk.new.found.items _ c.loop-part-test.true c.part-item.is c.in_ok-walk.ensures c.loop-part.invariant

pub walk_pairs-returns : goal.walk_pairs-returns
walk_pairs-returns t c =
    sym (append-nil c.loop-part.found.items)
    ∙ ap (λ (ps : List (List ℕ × Tree)). c.loop-part.found.items ++ flat_map (under c.args.index.now) (atoms_of_pairs (pairs ps))) (sym (drop_all c.loop-part.part-index c.args.parts.now c.loop-part-test.false))
    ∙ c.loop-part.invariant

pub walk_pairs-returns-in_err-walk : goal.walk_pairs-returns-in_err-walk
walk_pairs-returns-in_err-walk t c = let failed = err_from_is_err_and c.from_residual.result c.from_residual.ensures.1 in rw failed.1 tt

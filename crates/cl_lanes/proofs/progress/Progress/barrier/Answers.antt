use Rattle.std.proofs.Common.{◌≡◌, ◌+◌, ℕ, List, [], ◌∷◌, ◌++◌, length, slice_get, Option, None, sym, ap, subst, ◌∙◌, arith}
use Rattle.std.proofs.lemmas.List.{length_push}
use Rattle.cl_tables.specs.declared.spot.Spot.{Spot}
use Rattle.cl_tx.specs.declared.outcome.TxResult.{TxResult}
use Rattle.cl_lanes.specs.declared.moves.Move.TheVariants.{Barrier}
use Rattle.cl_lanes.specs.contracts.progress.Progress.{the_view}
use Rattle.cl_lanes.specs.Held.{AreLanes}
use Rattle.cl_lanes.specs.Lanes.{with_skipped}
use Rattle.cl_lanes.specs.Progress.{MakesMove}
use Rattle.cl_lanes.proofs.LanesKept.{each_barrier}
use Rattle.cl_lanes.proofs.Made.{made_of, made_barrier, made_skip}
use Rattle.cl_lanes.proofs.progress.Progress.barrier.Goals as goal

pub returns-in_default-clause-moved : goal.returns-in_default-clause-moved
returns-in_default-clause-moved c =
    let count : c.len.result ≡ length c.self.inside.results.items = omega (arith, c.self.inside.results.ok.0) in
    made_of c.args.costs.now c.args.file.now.entries (the_view c.self.inside) c.args.self.now Barrier (with_skipped (the_view c.self.inside)) c.self.view_is
    (made_skip c.args.costs.now c.args.file.now.entries (the_view c.self.inside) Barrier
    (λ e there. c.in_default.ensures.none e (ap (λ (n : ℕ). slice_get c.args.file.now.entries n) count ∙ there)))

pub invariant_of-self-2 : goal.invariant_of-self-2
invariant_of-self-2 c =
    let results : c.append.new.items.items ≡ c.self.inside.results.items ++ c.in_ok-result.result ∷ [] = c.append.ensures ∙ ap (λ (rs : List TxResult). rs ++ c.in_ok-result.result ∷ []) c.in_ok-reserve.ensures.items in
    let wrote : c.append-2.new.items.items ≡ c.self.inside.wrote.items ++ None ∷ [] = c.append-2.ensures ∙ ap (λ (ws : List (Option (List Spot))). ws ++ None ∷ []) c.in_ok-reserve-2.ensures.items in
    let below = c.in-Some.ensures.found.2 in
    subst (λ (x : List TxResult × List (Option (List Spot))). AreLanes c.step.new.self (length x.0) x.1 c.self.inside.held.items) (λ i. (sym results i, sym wrote i)) (record {
      as_many = length_push c.self.inside.wrote.items None ∙ ap (λ (n : ℕ). n + 1) c.self.invariant.as_many ∙ sym (length_push c.self.inside.results.items c.in_ok-result.result);
      few = omega (arith, below, c.self.inside.results.ok.0, length_push c.self.inside.results.items c.in_ok-result.result);
      each = each_barrier c.self.inside.node c.step.new.self c.self.inside.wrote.items c.self.inside.held.items c.self.invariant.each;
    })

pub returns-clause-moved : goal.returns-clause-moved
returns-clause-moved c =
    let count : c.len.result ≡ length c.self.inside.results.items = omega (arith, c.self.inside.results.ok.0) in
    let results : c.append.new.items.items ≡ c.self.inside.results.items ++ c.in_ok-result.result ∷ [] = c.append.ensures ∙ ap (λ (rs : List TxResult). rs ++ c.in_ok-result.result ∷ []) c.in_ok-reserve.ensures.items in
    let wrote : c.append-2.new.items.items ≡ c.self.inside.wrote.items ++ None ∷ [] = c.append-2.ensures ∙ ap (λ (ws : List (Option (List Spot))). ws ++ None ∷ []) c.in_ok-reserve-2.ensures.items in
    made_of c.args.costs.now c.args.file.now.entries (the_view c.self.inside) c.args.self.now Barrier (record (the_view c.self.inside) { node = c.step.new.self; results = c.append.new.items.items; wrote = c.append-2.new.items.items }) c.self.view_is
    (subst (λ (x : List TxResult × List (Option (List Spot))). MakesMove c.args.costs.now c.args.file.now.entries (the_view c.self.inside) Barrier (record (the_view c.self.inside) { node = c.step.new.self; results = x.0; wrote = x.1 })) (λ i. (sym results i, sym wrote i))
    (made_barrier c.args.costs.now c.args.file.now.entries c.nodes_are_known_in_one_way.ensures (the_view c.self.inside) c.in-Some.entry.now c.in_ok-result.result c.step.new.self (ap (λ (n : ℕ). slice_get c.args.file.now.entries n) (sym count) ∙ c.in-Some.ensures.found.0) c.in-Some.ensures.found.1 c.in_ok-result.ensures.steps))

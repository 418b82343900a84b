use Rattle.std.proofs.Common.{◌≡◌, List, [], ◌∷◌, sym, subst, ◌∙◌}
use Rattle.cl_tables.specs.declared.spot.Spot.{Spot}
use Rattle.cl_contracts.specs.Seen.{deployed_seen}
use Rattle.cl_touch.specs.Uses.{of_own}
use Rattle.cl_touch.specs.CallSpots.{IsFootprint}
use Rattle.cl_footprint.specs.Gathering.{and_place, gathered}
use Rattle.cl_footprint.proofs.Each.{none_found, all_found}
use Rattle.cl_footprint.proofs.footprint.footprint_at.Goals.{then-is_callable+in_ok-add_function+in_ok-gather, else-is_callable}
use Rattle.cl_footprint.proofs.footprint.footprint_at.Goals as goal

pub returns : goal.returns
returns c =
    let touched : c.new.result ≡ c.if-is_callable.touched.keys = c.new.ensures ∙ c.in_ok-touched.ensures.items ∙ c.as_slice-2.ensures.keys in
    let written : c.new-2.result ≡ c.if-is_callable.written.keys = c.new-2.ensures ∙ c.in_ok-written.ensures.items ∙ c.as_slice-3.ensures.keys in
    subst (λ (x : List Spot × List Spot). IsFootprint (deployed_seen c.args.deployed.now) c.args.contract.now c.args.function.now x.0 x.1) (λ i. (sym touched i, sym written i))
    (elim c.if-is_callable.branch [
      | then-is_callable+in_ok-add_function+in_ok-gather w ↦
          let reached : w.add_function.new.reached.keys ≡ of_own c.args.contract.now c.args.function.now ∷ [] = w.in_ok-add_function.ensures ∙ (λ i. and_place (w.with_hasher-reached.ensures.empty i) (w.at_own.ensures i)) in
          let start : gathered w.add_function.new.reached.keys c.with_hasher-touched.result.keys c.with_hasher-written.result.keys ≡ gathered (of_own c.args.contract.now c.args.function.now ∷ []) [] [] = λ i. gathered (reached i) (c.with_hasher-touched.ensures.empty i) (c.with_hasher-written.ensures.empty i) in
          let touched : c.if-is_callable.touched.keys ≡ w.gather.new.touched.keys = λ i. (w.touched-is i).keys in
          let written : c.if-is_callable.written.keys ≡ w.gather.new.written.keys = λ i. (w.written-is i).keys in
          subst (λ (x : List Spot × List Spot). IsFootprint (deployed_seen c.args.deployed.now) c.args.contract.now c.args.function.now x.0 x.1) (λ i. (sym touched i, sym written i))
          (all_found (deployed_seen c.args.deployed.now) c.args.contract.now c.args.function.now (c.is_callable.ensures.yes w.if-is_callable.true) w.gather.new.touched.keys w.gather.new.written.keys c.as_slice.result.now
          (w.in_ok-gather.ensures c.args.contract.now c.args.function.now start) (c.as_slice.ensures.keys ∙ touched) c.are_spots.ensures)
      | else-is_callable w ↦
          none_found (deployed_seen c.args.deployed.now) c.args.contract.now c.args.function.now (c.is_callable.ensures.no w.if-is_callable.false) c.if-is_callable.touched.keys c.if-is_callable.written.keys
          ((λ i. (w.touched-is i).keys) ∙ c.with_hasher-touched.ensures.empty) ((λ i. (w.written-is i).keys) ∙ c.with_hasher-written.ensures.empty)
    ])

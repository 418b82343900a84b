use Rattle.std.proofs.Common.{◌≡◌, ◌+◌, ◌<◌, ℕ, inl, inr, length, slice_get, List, Option, Some, sym, ap, subst, ◌∙◌, arith}
use Rattle.cl_lanes.specs.declared.moves.Move.TheVariants.{Run}
use Rattle.cl_lanes.specs.contracts.progress.Progress.{the_view}
use Rattle.cl_lanes.specs.Held.{EachHeld, IsHeldIn, lanes_seen}
use Rattle.cl_lanes.specs.Lanes.{HeldSeen, with_skipped}
use Rattle.cl_lanes.specs.Progress.{MakesMove}
use Rattle.cl_lanes.proofs.LanesKept.{each_tried}
use Rattle.cl_lanes.proofs.Made.{made_of, made_run, made_skip, lanes-set, no_lane, some_lane}
use Rattle.cl_lanes.proofs.progress.Progress.run.Goals as goal

pub returns-in_default-clause-moved : goal.returns-in_default-clause-moved
returns-in_default-clause-moved c =
    let count : c.len-start.result ≡ length c.self.inside.results.items = omega (arith, c.self.inside.results.ok.0) in
    made_of c.args.costs.now c.args.file.now.entries (the_view c.self.inside) c.args.self.now (Run c.args.lane c.args.ahead) (with_skipped (the_view c.self.inside)) c.self.view_is
    (made_skip c.args.costs.now c.args.file.now.entries (the_view c.self.inside) (Run c.args.lane c.args.ahead)
    (inr (λ e there call. c.in_default.ensures.none e (ap (λ (n : ℕ). slice_get c.args.file.now.entries (n + c.args.ahead)) count ∙ there) call)))

pub returns-then-lane-len-clause-moved : goal.returns-then-lane-len-clause-moved
returns-then-lane-len-clause-moved c =
    made_of c.args.costs.now c.args.file.now.entries (the_view c.self.inside) c.args.self.now (Run c.args.lane c.args.ahead) (with_skipped (the_view c.self.inside)) c.self.view_is
    (made_skip c.args.costs.now c.args.file.now.entries (the_view c.self.inside) (Run c.args.lane c.args.ahead)
    (inl (no_lane c.self.inside.held.items c.args.lane (let past = c.if-lane-len.true in omega (arith, past, c.self.inside.held.ok.0)))))

pub invariant_of-self-2 : goal.invariant_of-self-2
invariant_of-self-2 c = record {
  as_many = c.self.invariant.as_many;
  few = c.self.invariant.few;
  each = subst (EachHeld c.self.inside.node c.self.inside.wrote.items) (sym c.put.ensures)
      (each_tried c.self.inside.node c.self.inside.wrote.items c.self.inside.held.items c.args.lane c.in_ok-held.held good c.self.invariant.each);
}
  where
    good : IsHeldIn c.self.inside.node c.self.inside.wrote.items c.in_ok-held.held
    good =
        let place = c.in_ok-held.ensures.places.0 in
        let start = c.in_ok-held.ensures.places.1 in
        let below = c.in-Some.ensures.found.2 in
        let many = c.self.invariant.as_many in
        record {
          entry = omega (arith, place, below);
          start = omega (arith, start, many, c.self.inside.results.ok.0);
          base = c.in_ok-held.ensures.trial.base;
          kept = λ none. c.in_ok-held.ensures.trial.kept;
        }

pub returns-clause-moved : goal.returns-clause-moved
returns-clause-moved c =
    let count : c.len-start.result ≡ length c.self.inside.results.items = omega (arith, c.self.inside.results.ok.0) in
    let below : c.args.lane < length c.self.inside.held.items = (let in_lanes = c.if-lane-len.false in omega (arith, in_lanes, c.self.inside.held.ok.0)) in
    let before = some_lane c.self.inside.held.items c.args.lane below in
    let place = c.in_ok-held.ensures.places.0 in
    let start = c.in_ok-held.ensures.places.1 in
    let there = c.in-Some.ensures.found.0 in
    let tried = c.in_ok-held.ensures.trial in
    made_of c.args.costs.now c.args.file.now.entries (the_view c.self.inside) c.args.self.now (Run c.args.lane c.args.ahead) (record (the_view c.self.inside) { held = lanes_seen c.put.new.items.items }) c.self.view_is
    (subst (λ (held : List (Option HeldSeen)). MakesMove c.args.costs.now c.args.file.now.entries (the_view c.self.inside) (Run c.args.lane c.args.ahead) (record (the_view c.self.inside) { held = held }))
    (sym (ap lanes_seen c.put.ensures ∙ lanes-set c.self.inside.held.items c.args.lane (Some c.in_ok-held.held)))
    (made_run c.args.costs.now c.args.file.now.entries c.nodes_are_known_in_one_way.ensures (the_view c.self.inside) c.args.lane c.args.ahead before.0 c.in-Some.entry.now c.in_ok-held.held before.1 (ap (λ (n : ℕ). slice_get c.args.file.now.entries (n + c.args.ahead)) (sym count) ∙ there) tried (place ∙ ap (λ (n : ℕ). n + c.args.ahead) count) (start ∙ count)))

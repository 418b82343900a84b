use Rattle.std.proofs.Common.{◌≡◌, ◌+◌, ℕ, List, [], ◌∷◌, ◌++◌, length, slice_get, slice_set, Option, Some, None, refl, sym, ap, subst, ◌∙◌, arith}
use Rattle.std.proofs.lemmas.List.{length_push}
use Rattle.std.proofs.lemmas.Option.{slice_get_within}
use Rattle.cl_tables.specs.declared.spot.Spot.{Spot}
use Rattle.cl_tx.specs.declared.outcome.TxResult.{TxResult}
use Rattle.cl_nodes.specs.Seen.{Seen}
use Rattle.cl_lanes.specs.declared.held.Held.{Held}
use Rattle.cl_lanes.specs.declared.ready.Ready.TheVariants.{Idle, Past, Stale, Good}
use Rattle.cl_lanes.specs.declared.moves.Move.TheVariants.{Commit}
use Rattle.cl_lanes.specs.contracts.progress.Progress.{the_view}
use Rattle.cl_lanes.specs.Committing.{grafted_seen}
use Rattle.cl_lanes.specs.Held.{AreLanes, EachHeld, held_seen, lanes_seen}
use Rattle.cl_lanes.specs.Lanes.{HeldSeen, with_skipped}
use Rattle.cl_lanes.specs.Progress.{MakesMove}
use Rattle.cl_lanes.proofs.LanesKept.{each_emptied, each_call, no_barrier}
use Rattle.cl_lanes.proofs.Made.{made_of, made_skip, made_empty, made_redo, made_commit, lanes-set, lane_found, ready_as, idle_lane}
use Rattle.cl_lanes.proofs.progress.Progress.commit.Goals as goal

pub judge-requires : goal.judge-requires
judge-requires c = λ lane h there.
    let held : slice_get c.self.inside.held.items lane ≡ Some (Some h) = ap (λ (held : List (Option Held)). slice_get held lane) (sym c.as_slice.ensures.value) ∙ there in
    let start = (c.self.invariant.each lane h held).start in
    let same : length c.as_slice-2.result.now ≡ length c.self.inside.wrote.items = ap (λ (ws : List (Option (List Spot))). length ws) c.as_slice-2.ensures.value in
    omega (arith, start, same)

pub put-requires : goal.put-requires
put-requires c =
    let r = ready_as c.in_ok-judge.field-0 Past c.as_slice.result.now c.self.inside.held.items c.as_slice-2.result.now c.self.inside.wrote.items c.args.lane c.in-Past.is c.as_slice.ensures.value c.as_slice-2.ensures.value c.in_ok-judge.ensures in
    slice_get_within c.self.inside.held.items c.args.lane (Some r.0) r.1

pub put-requires-in-Stale : goal.put-requires-in-Stale
put-requires-in-Stale c =
    let r = ready_as c.in_ok-judge.field-0 Stale c.as_slice.result.now c.self.inside.held.items c.as_slice-2.result.now c.self.inside.wrote.items c.args.lane c.in-Stale.is c.as_slice.ensures.value c.as_slice-2.ensures.value c.in_ok-judge.ensures in
    slice_get_within c.self.inside.held.items c.args.lane (Some r.0) r.1

pub invariant_of-self-in-Past : goal.invariant_of-self-in-Past
invariant_of-self-in-Past c = record {
  as_many = c.self.invariant.as_many;
  few = c.self.invariant.few;
  each = subst (EachHeld c.self.inside.node c.self.inside.wrote.items) (sym c.put.ensures) (each_emptied c.self.inside.node c.self.inside.wrote.items c.self.inside.held.items c.args.lane c.self.invariant.each);
}

pub invariant_of-self-in-Stale : goal.invariant_of-self-in-Stale
invariant_of-self-in-Stale c = record {
  as_many = c.self.invariant.as_many;
  few = c.self.invariant.few;
  each = subst (EachHeld c.self.inside.node c.self.inside.wrote.items) (sym c.put-in-Stale.ensures) (each_emptied c.self.inside.node c.self.inside.wrote.items c.self.inside.held.items c.args.lane c.self.invariant.each);
}

pub returns-in-Idle-clause-moved : goal.returns-in-Idle-clause-moved
returns-in-Idle-clause-moved c = λ costs entries.
    let r = ready_as c.in_ok-judge.field-0 Idle c.as_slice.result.now c.self.inside.held.items c.as_slice-2.result.now c.self.inside.wrote.items c.args.lane c.in-Idle.is c.as_slice.ensures.value c.as_slice-2.ensures.value c.in_ok-judge.ensures in
    made_of costs entries (the_view c.self.inside) c.args.self.now (Commit c.args.lane) (with_skipped (the_view c.self.inside)) c.self.view_is
    (made_skip costs entries (the_view c.self.inside) (Commit c.args.lane)
    (idle_lane entries c.self.inside.node c.self.inside.results.items c.self.inside.wrote.items c.self.inside.held.items c.self.inside.redone c.self.inside.skipped c.args.lane c.self.invariant.as_many r))

pub returns-in-Past-clause-moved : goal.returns-in-Past-clause-moved
returns-in-Past-clause-moved c = λ costs entries.
    let r = ready_as c.in_ok-judge.field-0 Past c.as_slice.result.now c.self.inside.held.items c.as_slice-2.result.now c.self.inside.wrote.items c.args.lane c.in-Past.is c.as_slice.ensures.value c.as_slice-2.ensures.value c.in_ok-judge.ensures in
    let many = c.self.invariant.as_many in
    let below = r.2 in
    made_of costs entries (the_view c.self.inside) c.args.self.now (Commit c.args.lane) (record (with_skipped (the_view c.self.inside)) { held = lanes_seen c.put.new.items.items }) c.self.view_is
    (subst (λ (held : List (Option HeldSeen)). MakesMove costs entries (the_view c.self.inside) (Commit c.args.lane) (record (with_skipped (the_view c.self.inside)) { held = held }))
    (sym (ap lanes_seen c.put.ensures ∙ lanes-set c.self.inside.held.items c.args.lane None))
    (made_empty costs entries (the_view c.self.inside) c.args.lane (held_seen r.0) (lane_found c.self.inside.held.items c.args.lane (Some r.0) r.1) (omega (arith, below, many))))

pub returns-in-Stale-clause-moved : goal.returns-in-Stale-clause-moved
returns-in-Stale-clause-moved c = λ costs entries.
    let r = ready_as c.in_ok-judge.field-0 Stale c.as_slice.result.now c.self.inside.held.items c.as_slice-2.result.now c.self.inside.wrote.items c.args.lane c.in-Stale.is c.as_slice.ensures.value c.as_slice-2.ensures.value c.in_ok-judge.ensures in
    made_of costs entries (the_view c.self.inside) c.args.self.now (Commit c.args.lane) (record (the_view c.self.inside) { held = lanes_seen c.put-in-Stale.new.items.items; redone = c.self.inside.redone + 1 }) c.self.view_is
    (subst (λ (held : List (Option HeldSeen)). MakesMove costs entries (the_view c.self.inside) (Commit c.args.lane) (record (the_view c.self.inside) { held = held; redone = c.self.inside.redone + 1 }))
    (sym (ap lanes_seen c.put-in-Stale.ensures ∙ lanes-set c.self.inside.held.items c.args.lane None))
    (made_redo costs entries (the_view c.self.inside) c.args.lane (held_seen r.0) (lane_found c.self.inside.held.items c.args.lane (Some r.0) r.1) (r.2 ∙ c.self.invariant.as_many) r.3))

pub commit_trial-requires : goal.commit_trial-requires
commit_trial-requires c =
    let r = ready_as c.in_ok-judge.field-0 Good c.as_slice.result.now c.self.inside.held.items c.as_slice-2.result.now c.self.inside.wrote.items c.args.lane c.in-Good.is c.as_slice.ensures.value c.as_slice-2.ensures.value c.in_ok-judge.ensures in
    let i = c.self.invariant.each c.args.lane r.0 r.1 in
    record { run = r.0; there = r.1; base = i.base; kept = i.kept (no_barrier r.0.footprint.touched _ r.3) }

pub invariant_of-self-in-Continue-branch-3 : goal.invariant_of-self-in-Continue-branch-3
invariant_of-self-in-Continue-branch-3 c =
    let r = ready_as c.in_ok-judge.field-0 Good c.as_slice.result.now c.self.inside.held.items c.as_slice-2.result.now c.self.inside.wrote.items c.args.lane c.in-Good.is c.as_slice.ensures.value c.as_slice-2.ensures.value c.in_ok-judge.ensures in
    let done = c.in_ok-commit_trial-in-Good.ensures in
    let node : c.commit_trial.new.node ≡ grafted_seen r.0 c.self.inside.node = done.node r.0 r.1 in
    let results : c.commit_trial.new.results.items ≡ c.self.inside.results.items ++ r.0.trial.result ∷ [] = done.results r.0 r.1 in
    let wrote : c.commit_trial.new.wrote.items ≡ c.self.inside.wrote.items ++ Some r.0.footprint.written ∷ [] = done.wrote r.0 r.1 in
    let place = r.2 in
    let below = (c.self.invariant.each c.args.lane r.0 r.1).entry in
    let many = c.self.invariant.as_many in
    let after : Seen = grafted_seen r.0 c.self.inside.node in
    let wrote_after : List (Option (List Spot)) = c.self.inside.wrote.items ++ Some r.0.footprint.written ∷ [] in
    subst (λ (x : Seen × List TxResult × List (Option (List Spot)) × List (Option Held)). AreLanes x.0 (length x.1) x.2 x.3) (λ i. (sym node i, sym results i, sym wrote i, sym done.held i)) (record {
      as_many = length_push c.self.inside.wrote.items (Some r.0.footprint.written) ∙ ap (λ (n : ℕ). n + 1) c.self.invariant.as_many ∙ sym (length_push c.self.inside.results.items r.0.trial.result);
      few = omega (arith, place, below, many, length_push c.self.inside.results.items r.0.trial.result);
      each = each_emptied after wrote_after c.self.inside.held.items c.args.lane
          (each_call c.self.inside.node after c.self.inside.wrote.items r.0.footprint.written c.self.inside.held.items refl c.self.invariant.each);
    })

pub returns-in_ok-commit_trial-in-Good-clause-moved : goal.returns-in_ok-commit_trial-in-Good-clause-moved
returns-in_ok-commit_trial-in-Good-clause-moved c = λ costs entries.
    let r = ready_as c.in_ok-judge.field-0 Good c.as_slice.result.now c.self.inside.held.items c.as_slice-2.result.now c.self.inside.wrote.items c.args.lane c.in-Good.is c.as_slice.ensures.value c.as_slice-2.ensures.value c.in_ok-judge.ensures in
    let done = c.in_ok-commit_trial-in-Good.ensures in
    let node : c.commit_trial.new.node ≡ grafted_seen r.0 c.self.inside.node = done.node r.0 r.1 in
    let results : c.commit_trial.new.results.items ≡ c.self.inside.results.items ++ r.0.trial.result ∷ [] = done.results r.0 r.1 in
    let wrote : c.commit_trial.new.wrote.items ≡ c.self.inside.wrote.items ++ Some r.0.footprint.written ∷ [] = done.wrote r.0 r.1 in
    let held : lanes_seen c.commit_trial.new.held.items ≡ slice_set (lanes_seen c.self.inside.held.items) c.args.lane None = ap lanes_seen done.held ∙ lanes-set c.self.inside.held.items c.args.lane None in
    made_of costs entries (the_view c.self.inside) c.args.self.now (Commit c.args.lane) (record (the_view c.self.inside) { node = c.commit_trial.new.node; results = c.commit_trial.new.results.items; wrote = c.commit_trial.new.wrote.items; held = lanes_seen c.commit_trial.new.held.items }) c.self.view_is
    (subst (λ (x : Seen × List TxResult × List (Option (List Spot)) × List (Option HeldSeen)). MakesMove costs entries (the_view c.self.inside) (Commit c.args.lane) (record (the_view c.self.inside) { node = x.0; results = x.1; wrote = x.2; held = x.3 })) (λ i. (sym node i, sym results i, sym wrote i, sym held i))
    (made_commit costs entries (the_view c.self.inside) c.args.lane (held_seen r.0) (lane_found c.self.inside.held.items c.args.lane (Some r.0) r.1) (r.2 ∙ c.self.invariant.as_many) r.3))

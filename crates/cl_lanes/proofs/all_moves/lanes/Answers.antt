use Rattle.std.proofs.Common.{ℕ, ◌+◌, get_or, List, take, take_all, sym, ap, subst, ◌∙◌, arith}
use Rattle.std.proofs.lemmas.List.{take_more}
use Rattle.cl_c32.specs.declared.principal.Principal.{Principal}
use Rattle.cl_file.specs.Entries.{NeverFall}
use Rattle.cl_lanes.specs.declared.moves.Move.{Move}
use Rattle.cl_lanes.specs.declared.moves.Move.TheVariants.{Run}
use Rattle.cl_lanes.specs.Lanes.{first_progress}
use Rattle.cl_lanes.specs.Progress.{first_seen, MakesMoves}
use Rattle.cl_lanes.proofs.AllMade.{MadeSoFar, made_first, made_next, next_rises, ran_first, has_prefix}
use Rattle.cl_lanes.proofs.all_moves.lanes.Goals as goal

pub loop-step-init : goal.loop-step-init
loop-step-init c =
    made_first c.args.costs.now c.args.file.now c.args.lanes c.in_ok-progress.progress
    (c.in_ok-progress.ensures ∙ ap (λ (holders : List (Principal × ℕ)). first_progress (first_seen holders) c.args.lanes) c.in_ok-holders.ensures.value)

pub make-requires : goal.make-requires
make-requires c =
    let counted = c.loop-step.invariant.counted in
    record {
      counts = record { redone = omega (arith, counted, c.requires.few, c.loop-step-test.true); skipped = omega (arith, counted, c.requires.few, c.loop-step-test.true) };
      rises = next_rises c.lanes_run_the_entries.ensures.entries c.heights_are_those_of_the_file.ensures c.args.costs.now c.args.file.now c.args.lanes (take c.loop-step.step-index c.args.moves.now) c.loop-step.progress (subst (NeverFall 0) c.entries-entries.ensures.value c.entries-entries.ensures.rising) c.loop-step.invariant.made;
    }

pub loop-step-preserved : goal.loop-step-preserved
loop-step-preserved c =
    subst (λ (moves : List Move). MadeSoFar c.args.costs.now c.args.file.now c.args.lanes moves (c.loop-step.step-index + 1) c.make.new.progress)
    (sym (take_more c.args.moves.now c.loop-step.step-index (Run 0 0) c.loop-step-test.true))
    (made_next c.args.costs.now c.args.file.now c.args.lanes (take c.loop-step.step-index c.args.moves.now) c.loop-step.step-index c.loop-step.progress c.make.new.progress (get_or c.args.moves.now c.loop-step.step-index (Run 0 0)) c.loop-step.invariant c.in_ok-make.ensures.moved)

pub returns : goal.returns
returns c =
    let made : MakesMoves c.args.costs.now c.args.file.now c.args.lanes c.args.moves.now c.loop-step.progress =
    subst (λ (moves : List Move). MakesMoves c.args.costs.now c.args.file.now c.args.lanes moves c.loop-step.progress) (take_all c.loop-step.step-index c.args.moves.now c.loop-step-test.false) c.loop-step.invariant.made in
    record {
      moved = made;
      entries = ran_first c.lanes_run_the_entries.ensures.entries c.args.costs.now c.args.file.now c.args.lanes c.args.moves.now c.loop-step.progress made;
      prefix = has_prefix c.lanes_run_the_entries.ensures.prefix c.args.costs.now c.args.file.now c.args.lanes c.args.moves.now c.loop-step.progress made;
    }

use Rattle.std.proofs.Common.{sym, subst}
use Rattle.cl_lanes.specs.declared.moves.Move.{Move}
use Rattle.cl_lanes.specs.Progress.{MakesMove}
use Rattle.cl_lanes.proofs.all_moves.make.Goals as goal

pub returns-in_ok-run-in-Run-clause-moved : goal.returns-in_ok-run-in-Run-clause-moved
returns-in_ok-run-in-Run-clause-moved c = subst (λ (m : Move). MakesMove c.args.costs.now c.args.file.now.entries c.args.progress.now m c.run.new.self) (sym c.in-Run.is) (c.in_ok-run-in-Run.ensures.moved)

pub returns-in_ok-commit-in-Commit-clause-moved : goal.returns-in_ok-commit-in-Commit-clause-moved
returns-in_ok-commit-in-Commit-clause-moved c = subst (λ (m : Move). MakesMove c.args.costs.now c.args.file.now.entries c.args.progress.now m c.commit.new.self) (sym c.in-Commit.is) (c.in_ok-commit-in-Commit.ensures.moved c.args.costs.now c.args.file.now.entries)

pub returns-in_ok-barrier-in-Barrier-clause-moved : goal.returns-in_ok-barrier-in-Barrier-clause-moved
returns-in_ok-barrier-in-Barrier-clause-moved c = subst (λ (m : Move). MakesMove c.args.costs.now c.args.file.now.entries c.args.progress.now m c.barrier.new.self) (sym c.in-Barrier.is) (c.in_ok-barrier-in-Barrier.ensures.moved)

use Rattle.std.proofs.Common.{◌≡◌, ◌≤◌, ◌<◌, ◌+◌, suc, length, sym, subst, arith}
use Rattle.cl_file.specs.Entries.{NeverFall}
use Rattle.cl_entries.specs.Entries.{IsOnTheWay, IsRunning, Progress, left_of, state_count}
use Rattle.cl_entries.proofs.Running.{fewer_left, fits_here, may_come, running_at}
use Rattle.cl_entries.proofs.run.EntrySteps.next_entry.Goals as goal

pub make_at-requires-clause-here : goal.make_at-requires-clause-here
make_at-requires-clause-here c =
    let q : Progress = record { file = c.self.inside.file; schedule = c.self.inside.costs; state = c.self.inside.state; node = c.self.inside.node; done = c.self.inside.done } in
    let e : q ≡ c.args.self.now = c.self.view_is in
    subst (λ (p : Progress). p.done < length p.file.entries) (sym e) c.requires.here

pub make_at-requires-clause-rises : goal.make_at-requires-clause-rises
make_at-requires-clause-rises c =
    let q : Progress = record { file = c.self.inside.file; schedule = c.self.inside.costs; state = c.self.inside.state; node = c.self.inside.node; done = c.self.inside.done } in
    let e : q ≡ c.args.self.now = c.self.view_is in
    λ x is_next. may_come c.heights_are_those_of_the_file.ensures q x (subst (λ (p : Progress). p.done < length p.file.entries) (sym e) c.requires.here) is_next (subst (λ (p : Progress). NeverFall 0 p.file.entries) (sym e) c.requires.rising) (subst IsOnTheWay (sym e) c.requires.way)

pub overflow_add-self : goal.overflow_add-self
overflow_add-self c =
    let q : Progress = record { file = c.self.inside.file; schedule = c.self.inside.costs; state = c.self.inside.state; node = c.self.inside.node; done = c.self.inside.done } in
    let e : q ≡ c.args.self.now = c.self.view_is in
    fits_here q (subst (λ (p : Progress). p.done < length p.file.entries) (sym e) c.requires.here) (subst (λ (p : Progress). length p.file.entries ≤ 100000) (sym e) c.requires.few)

pub returns-clause-next : goal.returns-clause-next
returns-clause-next c =
    let q : Progress = record { file = c.self.inside.file; schedule = c.self.inside.costs; state = c.self.inside.state; node = c.self.inside.node; done = c.self.inside.done } in
    let e : q ≡ c.args.self.now = c.self.view_is in
    λ table file state steps so_far. running_at c.nodes_are_known_in_one_way.ensures table file state steps q c.make_at.new.node c.in_ok-step.step (subst (λ (p : Progress). p.done < length p.file.entries) (sym e) c.requires.here) c.make_at.ensures.parts c.in_ok-step.ensures.made
    (subst (IsRunning table file state steps) (sym e) so_far)

pub returns-clause-left : goal.returns-clause-left
returns-clause-left c =
    let q : Progress = record { file = c.self.inside.file; schedule = c.self.inside.costs; state = c.self.inside.state; node = c.self.inside.node; done = c.self.inside.done } in
    let e : q ≡ c.args.self.now = c.self.view_is in
    subst (λ (p : Progress). suc (left_of (record q { done = q.done + 1 })) ≡ left_of p) e (fewer_left (length q.file.entries) (state_count q.state) q.done (subst (λ (p : Progress). p.done < length p.file.entries) (sym e) c.requires.here))

use Rattle.std.proofs.Common.{◌≡◌, ◌≤◌, ◌<◌, ◌+◌, suc, length, refl, sym, subst}
use Rattle.cl_lines.specs.StateLines.{IsStateText}
use Rattle.cl_entries.specs.Entries.{IsRunning, Progress, left_of, state_count}
use Rattle.cl_entries.proofs.Running.{fits_behind, less_left, running_state}
use Rattle.cl_entries.proofs.run.EntrySteps.next_state.Goals as goal

pub overflow_add-self : goal.overflow_add-self
overflow_add-self c =
    let q : Progress = record { file = c.self.inside.file; schedule = c.self.inside.costs; state = c.self.inside.state; node = c.self.inside.node; done = c.self.inside.done } in
    let e : q ≡ c.args.self.now = c.self.view_is in
    fits_behind q (subst (λ (p : Progress). length p.file.entries ≤ p.done) (sym e) c.requires.behind) (subst (λ (p : Progress). 0 < left_of p) (sym e) c.requires.left) (subst (λ (p : Progress). length p.file.entries ≤ 100000) (sym e) c.requires.few)

pub returns-clause-next : goal.returns-clause-next
returns-clause-next c =
    let q : Progress = record { file = c.self.inside.file; schedule = c.self.inside.costs; state = c.self.inside.state; node = c.self.inside.node; done = c.self.inside.done } in
    let e : q ≡ c.args.self.now = c.self.view_is in
    λ table file state steps so_far. running_state table file state steps q c.in_ok-step.step (subst (λ (p : Progress). length p.file.entries ≤ p.done) (sym e) c.requires.behind) (subst (λ (p : Progress). 0 < left_of p) (sym e) c.requires.left)
    c.in_ok-step.ensures.events c.in_ok-step.step.bytes refl (c.in_ok-step.step.bytes, c.in_ok-step.ensures.text, refl) (subst (IsRunning table file state steps) (sym e) so_far)

pub returns-clause-left : goal.returns-clause-left
returns-clause-left c =
    let q : Progress = record { file = c.self.inside.file; schedule = c.self.inside.costs; state = c.self.inside.state; node = c.self.inside.node; done = c.self.inside.done } in
    let e : q ≡ c.args.self.now = c.self.view_is in
    subst (λ (p : Progress). suc (left_of (record q { done = q.done + 1 })) ≡ left_of p) e (less_left (length q.file.entries + state_count q.state) q.done (subst (λ (p : Progress). 0 < left_of p) (sym e) c.requires.left))

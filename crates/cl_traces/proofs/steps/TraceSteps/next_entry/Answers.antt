use Rattle.std.proofs.Common.{◌≡◌, ◌≤◌, ◌<◌, ◌+◌, suc, length, sym, subst}
use Rattle.cl_file.specs.Entries.{NeverFall}
use Rattle.cl_traces.specs.Traces.{IsSomeTracing, IsTracing, Tracing, left_of}
use Rattle.cl_traces.proofs.Tracing.{fewer_left, fits_here, may_come, tracing_at}
use Rattle.cl_traces.proofs.steps.TraceSteps.next_entry.Goals as goal

pub make_at-requires-clause-here : goal.make_at-requires-clause-here
make_at-requires-clause-here c =
    let q : Tracing = record { file = c.self.inside.file; schedule = c.self.inside.costs; node = c.self.inside.node; done = c.self.inside.done } in
    let e : q ≡ c.args.self.now = c.self.view_is in
    subst (λ (p : Tracing). p.done < length p.file.entries) (sym e) c.requires.here

pub make_at-requires-clause-rises : goal.make_at-requires-clause-rises
make_at-requires-clause-rises c =
    let q : Tracing = record { file = c.self.inside.file; schedule = c.self.inside.costs; node = c.self.inside.node; done = c.self.inside.done } in
    let e : q ≡ c.args.self.now = c.self.view_is in
    λ x is_next. may_come c.heights_are_those_of_the_file.ensures q x (subst (λ (p : Tracing). p.done < length p.file.entries) (sym e) c.requires.here) is_next (subst (λ (p : Tracing). NeverFall 0 p.file.entries) (sym e) c.requires.rising) (subst IsSomeTracing (sym e) c.requires.way)

pub overflow_add-self : goal.overflow_add-self
overflow_add-self c =
    let q : Tracing = record { file = c.self.inside.file; schedule = c.self.inside.costs; node = c.self.inside.node; done = c.self.inside.done } in
    let e : q ≡ c.args.self.now = c.self.view_is in
    fits_here q (subst (λ (p : Tracing). p.done < length p.file.entries) (sym e) c.requires.here) (subst (λ (p : Tracing). length p.file.entries ≤ 100000) (sym e) c.requires.few)

pub returns-clause-next : goal.returns-clause-next
returns-clause-next c =
    let q : Tracing = record { file = c.self.inside.file; schedule = c.self.inside.costs; node = c.self.inside.node; done = c.self.inside.done } in
    let e : q ≡ c.args.self.now = c.self.view_is in
    λ table file steps so_far. tracing_at c.nodes_are_known_in_one_way.ensures table file steps q c.make_at.new.node c.in_ok-step.step (subst (λ (p : Tracing). p.done < length p.file.entries) (sym e) c.requires.here) c.make_at.ensures.parts c.in_ok-step.ensures.made
    (subst (IsTracing table file steps) (sym e) so_far)

pub returns-clause-left : goal.returns-clause-left
returns-clause-left c =
    let q : Tracing = record { file = c.self.inside.file; schedule = c.self.inside.costs; node = c.self.inside.node; done = c.self.inside.done } in
    let e : q ≡ c.args.self.now = c.self.view_is in
    subst (λ (p : Tracing). suc (left_of (record q { done = q.done + 1 })) ≡ left_of p) e (fewer_left (length q.file.entries) q.done (subst (λ (p : Tracing). p.done < length p.file.entries) (sym e) c.requires.here))

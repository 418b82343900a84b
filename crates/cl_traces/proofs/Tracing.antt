-- The steps of a file's traces while they are done.
use Rattle.std.proofs.Common.{◌≡◌, Fits, w64, ℕ, zero, suc, ◌+◌, ◌-◌, ◌<◌, ◌≤◌, List, [], ◌∷◌, ◌++◌, length, take, get_or, Some, Ok, refl, sym, ap, subst, ◌∙◌, length-take, arith}
use Rattle.std.proofs.lemmas.List.{take_all, take_more}
use Rattle.std.specs.List.{All}
use Rattle.std.proofs.lemmas.List.Elements.{All-nil, All-push}
use Rattle.cl_c32.specs.declared.principal.Principal.{Principal}
use Rattle.cl_values.specs.Valid.{IsPrincipal}
use Rattle.cl_shapes.specs.declared.function.CostFn.{CostFn}
use Rattle.cl_costs.specs.Schedules.{ScheduleSeen}
use Rattle.cl_file.specs.Entries.{height_after, NeverFall}
use Rattle.cl_file.specs.declared.entry.Entry.{Entry}
use Rattle.cl_file.specs.Files.{FileSeen}
use Rattle.cl_tx.specs.Laws.{HeightIsLast, OneStep}
use Rattle.cl_tx.specs.declared.outcome.TxResult.{TxResult}
use Rattle.cl_tx.specs.Nodes.{NodeSeen, Stepped}
use Rattle.cl_tx.specs.Step.{Steps, costs_for, first_node, schedule_of}
use Rattle.cl_node_sound.specs.Sound.{HasParts}
use Rattle.cl_nodes.specs.Seen.{Seen}
use Rattle.cl_nodes.specs.Laws.{OneNode}
use Rattle.cl_nodes.specs.Steps.{Makes}
use Rattle.cl_engine.specs.Traces.{Trace, IsTrace, SeesTrace}
use Rattle.cl_entries.specs.declared.status.Step.{Step}
use Rattle.cl_entries.specs.declared.status.Status.TheVariants.{Done}
use Rattle.cl_entries.specs.Entries.{HasPartsAt, IsFirst}
use Rattle.cl_entries.specs.Scripts.{Script}
use Rattle.cl_entries.proofs.Reached.{may_follow}
use Rattle.cl_traces.specs.Traces.{AllTraced, HasTrace, IsSomeTracing, IsTraceScript, IsTraceStepAt, IsTracing, OneTrace, ReachesTraced, Tracing, left_of, trace_step, trace_steps}
use Rattle.cl_traces.proofs.Traced.{all_same, all_step, all_then, each_trace, front_same, steps_front, steps_then}

abbrev Holders : Type 0
Holders = List (Principal × ℕ)

-- ---- one entry

-- what a trace was told is the entry's trace
pub has_trace : (schedule : ScheduleSeen) (before after : Seen) (entry : Entry) (result : TxResult) (told : Trace) → Makes schedule before entry result after → SeesTrace schedule before entry result (Some []) (Some told) → HasTrace schedule before entry told after
has_trace schedule before after entry result told makes sees =
    let same : told ≡ sees.found = let grew : Some told ≡ Some sees.found = sees.grew in cc in
    record {
      result = result;
      makes = makes;
      from = sees.from;
      is_from = sees.is_from;
      is_trace = subst (λ (t : Trace). IsTrace (costs_for schedule sees.from) sees.from entry result.outcome t) (sym same) sees.is_trace;
    }

-- ---- the first, and the next ones

first_reached : (schedule : ScheduleSeen) (holders : Holders) (n : Seen) → All (λ (h : Principal × ℕ). IsPrincipal h.0) holders → IsFirst holders n → ReachesTraced schedule holders [] [] n
first_reached schedule holders n who is = subst (ReachesTraced schedule holders [] []) (sym is) (record {
  node = first_node holders;
  is_node = record { known = refl; is = refl };
  are_principals = who;
  parts = All-nil HasParts;
  traced = (refl, refl);
})

next_reached : OneNode → (schedule : ScheduleSeen) (holders : Holders) (es : List Entry) (ts : List Trace) (n m : Seen) (e : Entry) (t : Trace) → ReachesTraced schedule holders es ts n → HasParts e → HasTrace schedule n e t m → ReachesTraced schedule holders (es ++ e ∷ []) (ts ++ t ∷ []) m
next_reached one schedule holders es ts n m e t so_far parts has =
    let s : Stepped = record { node = has.makes.to; result = has.result } in
    let from : has.makes.from ≡ so_far.node = one n has.makes.from so_far.node has.makes.is_from so_far.is_node in
    let there : has.from ≡ so_far.node = one n has.from so_far.node has.is_from so_far.is_node in
    let step : Steps schedule so_far.node e s = subst (λ (x : NodeSeen). Steps schedule x e s) from has.makes.steps in
    let is : IsTrace (costs_for schedule so_far.node) so_far.node e s.result.outcome t = subst (λ (x : NodeSeen). IsTrace (costs_for schedule x) x e has.result.outcome t) there has.is_trace in
    record {
      node = has.makes.to;
      is_node = has.makes.is_to;
      are_principals = so_far.are_principals;
      parts = All-push HasParts es e so_far.parts parts;
      traced = all_then schedule (first_node holders) es ts so_far.node e s t so_far.traced step is;
    }

pub tracing_first : (table : List CostFn) (file : FileSeen) (n : Seen) → All (λ (h : Principal × ℕ). IsPrincipal h.0) file.genesis → IsFirst file.genesis n → IsTracing table file [] (record { file = file; schedule = schedule_of table file; node = n; done = 0 })
tracing_first table file n who is = record {
  file_is = refl;
  schedule_is = refl;
  within = omega arith;
  traces = [];
  reaches = first_reached (schedule_of table file) file.genesis n who is;
  are = refl;
}

-- there is an entry at each place
entry_at : (es : List Entry) (i : ℕ) → i < length es → (e : Entry) × (e ≡ get_or es i e)
entry_at [] i h = absurd (omega (arith, h))
entry_at (e ∷ es) zero h = (e, refl)
entry_at (e ∷ es) (suc i) h = entry_at es i (omega (arith, h))

tracing_next : OneNode → (table : List CostFn) (file : FileSeen) (steps : List Step) (p : Tracing) (m : Seen) (e : Entry) (t : Trace) → p.done < length p.file.entries → e ≡ get_or p.file.entries p.done e → HasParts e → HasTrace p.schedule p.node e t m
    → IsTracing table file steps p → IsTracing table file (steps ++ trace_step p.done t ∷ []) (record p { node = m; done = p.done + 1 })
tracing_next one table file steps p m e t h is_next parts has so_far =
    let entries = p.file.entries in
    let more : take (p.done + 1) entries ≡ take p.done entries ++ e ∷ [] = take_more entries p.done e h ∙ ap (λ (x : Entry). take p.done entries ++ x ∷ []) (sym is_next) in
    let reached = next_reached one p.schedule p.file.genesis (take p.done entries) so_far.traces p.node m e t so_far.reaches parts has in
    let same : length so_far.traces ≡ length (take p.done entries) = each_trace p.schedule (first_node p.file.genesis) (take p.done entries) so_far.traces so_far.reaches.node so_far.reaches.traced in
    let counted : 0 + length so_far.traces ≡ p.done = omega (arith, same, length-take p.done entries, h) in
    record {
      file_is = so_far.file_is;
      schedule_is = so_far.schedule_is;
      within = omega (arith, h);
      traces = so_far.traces ++ t ∷ [];
      reaches = subst (λ (es : List Entry). ReachesTraced p.schedule p.file.genesis es (so_far.traces ++ t ∷ []) m) (sym more) reached;
      are =
          ap (λ (all : List Step). all ++ trace_step p.done t ∷ []) so_far.are
          ∙ ap (λ (k : ℕ). trace_steps 0 so_far.traces ++ trace_step k t ∷ []) (sym counted)
          ∙ sym (steps_then 0 so_far.traces t);
    }

-- the same, by the step of the entry at its place
pub tracing_at : OneNode → (table : List CostFn) (file : FileSeen) (steps : List Step) (p : Tracing) (m : Seen) (step : Step) → p.done < length p.file.entries → HasPartsAt p.file.entries p.done → IsTraceStepAt p.schedule p.node p.file.entries p.done step m
    → IsTracing table file steps p → IsTracing table file (steps ++ step ∷ []) (record p { node = m; done = p.done + 1 })
tracing_at one table file steps p m step h parts made so_far =
    let here = entry_at p.file.entries p.done h in
    let it = made here.0 here.1 in
    subst (λ (s : Step). IsTracing table file (steps ++ s ∷ []) (record p { node = m; done = p.done + 1 })) (sym it.is)
    (tracing_next one table file steps p m here.0 it.trace h here.1 (parts here.0 here.1) it.has so_far)

-- ---- the last

pub last_ends : (table : List CostFn) (file : FileSeen) (steps : List Step) (p : Tracing) → IsTracing table file steps p → left_of p ≡ 0 → IsTraceScript table file (record { steps = steps; end = Ok Done })
last_ends table file steps p so_far left =
    let end = so_far.reaches.node in
    let all : take p.done p.file.entries ≡ p.file.entries = take_all p.done p.file.entries (omega (arith, left)) in
    let whole = subst (λ (es : List Entry). AllTraced p.schedule (first_node p.file.genesis) es so_far.traces end) all so_far.reaches.traced in
    let of_file = subst (λ (f : FileSeen). AllTraced p.schedule (first_node f.genesis) f.entries so_far.traces end) so_far.file_is whole in
    record {
      traces = so_far.traces;
      after = end;
      traced = subst (λ (s : ScheduleSeen). AllTraced s (first_node file.genesis) file.entries so_far.traces end) so_far.schedule_is of_file;
      is = ap (λ (l : List Step). record { steps = l; end = Ok Done }) so_far.are;
    }

pub first_are_done : OneStep → OneTrace → (table : List CostFn) (file : FileSeen) (steps : List Step) (p : Tracing) (script : Script) → IsTracing table file steps p → IsTraceScript table file script → (more : List Step) × (script.steps ≡ steps ++ more)
first_are_done one once table file steps p script so_far is =
    let end = so_far.reaches.node in
    let of_file = subst (λ (f : FileSeen). AllTraced p.schedule (first_node f.genesis) (take p.done f.entries) so_far.traces end) so_far.file_is so_far.reaches.traced in
    let of_table = subst (λ (s : ScheduleSeen). AllTraced s (first_node file.genesis) (take p.done file.entries) so_far.traces end) so_far.schedule_is of_file in
    let split = front_same one once (schedule_of table file) (first_node file.genesis) p.done file.entries so_far.traces is.traces end is.after of_table is.traced in
    let front = steps_front 0 so_far.traces split.0 in (
      front.0,
      ap (λ (s : Script). s.steps) is.is
          ∙ ap (λ (ts : List Trace). trace_steps 0 ts) split.1
          ∙ front.1
          ∙ ap (λ (l : List Step). l ++ front.0) (sym so_far.are),
    )

pub script_same : OneStep → OneTrace → (table : List CostFn) (file : FileSeen) (a b : Script) → IsTraceScript table file a → IsTraceScript table file b → a ≡ b
script_same one once table file a b p q =
    p.is
    ∙ ap (λ (ts : List Trace). record { steps = trace_steps 0 ts; end = Ok Done })
    (all_same one once (schedule_of table file) (first_node file.genesis) file.entries p.traces q.traces p.after q.after p.traced q.traced)
    ∙ sym q.is

-- ---- as the code goes

-- the next entry may follow
pub may_come : HeightIsLast → (p : Tracing) (e : Entry) → p.done < length p.file.entries → e ≡ get_or p.file.entries p.done e → NeverFall 0 p.file.entries → (way : IsSomeTracing p) → p.node.height ≤ height_after p.node.height e
may_come law p e h is_next rises way =
    let so_far = way.tracing.reaches in
    let run = all_step p.schedule (first_node p.file.genesis) (take p.done p.file.entries) way.tracing.traces so_far.node so_far.traced in
    may_follow law p.schedule p.file.genesis p.file.entries run.0 p.node p.done e h is_next rises (record {
      node = so_far.node;
      is_node = so_far.is_node;
      are_principals = so_far.are_principals;
      parts = so_far.parts;
      steps = run.1;
    })

pub fewer_left : (count done : ℕ) → done < count → suc (count - (done + 1)) ≡ count - done
fewer_left count done h = omega (arith, h)

pub fits_here : (p : Tracing) → p.done < length p.file.entries → length p.file.entries ≤ 100000 → Fits w64 (p.done + 1)
fits_here p h few = omega (arith, h, few)

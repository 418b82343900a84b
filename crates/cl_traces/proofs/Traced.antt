-- The traces of entries one after another.
use Rattle.std.proofs.Common.{◌≡◌, ℕ, zero, suc, ◌+◌, List, [], ◌∷◌, ◌++◌, length, take, refl, sym, ap, subst, ◌∙◌, arith}
use Rattle.cl_costs.specs.Schedules.{ScheduleSeen}
use Rattle.cl_rules.specs.Laws.{OneOrder}
use Rattle.cl_frames.specs.Watching.{trace}
use Rattle.cl_file.specs.declared.entry.Entry.{Entry}
use Rattle.cl_tx.specs.declared.outcome.TxResult.{TxResult}
use Rattle.cl_tx.specs.Laws.{OneStep}
use Rattle.cl_tx.specs.Nodes.{NodeSeen, Stepped}
use Rattle.cl_tx.specs.Step.{AllStep, Steps, costs_for}
use Rattle.cl_nodes.proofs.Tracing as nodes
use Rattle.cl_engine.specs.Traces.{Trace, IsTrace, shown}
use Rattle.cl_entries.specs.declared.status.Step.{Step}
use Rattle.cl_traces.specs.Traces.{AllTraced, OneTrace, trace_step, trace_steps}

-- ---- one trace

pub one_trace : OneOrder → OneTrace
one_trace order costs node entry outcome a b p q = nodes.one_trace shown order costs node entry outcome a b p q

-- ---- one after another

-- one more
pub all_then : (schedule : ScheduleSeen) (node : NodeSeen) (es : List Entry) (ts : List Trace) (m : NodeSeen) (e : Entry) (s : Stepped) (t : Trace) → AllTraced schedule node es ts m → Steps schedule m e s → IsTrace (costs_for schedule m) m e s.result.outcome t
    → AllTraced schedule node (es ++ e ∷ []) (ts ++ t ∷ []) s.node
all_then schedule node [] ts m e s t all step is = (
  s,
  t,
  [],
  subst (λ (n : NodeSeen). Steps schedule n e s) all.1 step,
  subst (λ (n : NodeSeen). IsTrace (costs_for schedule n) n e s.result.outcome t) all.1 is,
  (refl, refl),
  ap (λ (l : List Trace). l ++ t ∷ []) all.0,
)
all_then schedule node (f ∷ es) ts m e s t all step is = (
  all.0,
  all.1,
  all.2 ++ t ∷ [],
  all.3,
  all.4,
  all_then schedule all.0.node es all.2 m e s t all.5 step is,
  ap (λ (l : List Trace). l ++ t ∷ []) all.6,
)

-- the entries have results, too
pub all_step : (schedule : ScheduleSeen) (node : NodeSeen) (es : List Entry) (ts : List Trace) (m : NodeSeen) → AllTraced schedule node es ts m → (rs : List TxResult) × AllStep schedule node es rs m
all_step schedule node [] ts m all = ([], (refl, all.1))
all_step schedule node (e ∷ es) ts m all =
    let rest = all_step schedule all.0.node es all.2 m all.5 in
    (all.0.result ∷ rest.0, (all.0, rest.0, all.3, rest.1, refl))

-- each entry has its trace
pub each_trace : (schedule : ScheduleSeen) (node : NodeSeen) (es : List Entry) (ts : List Trace) (m : NodeSeen) → AllTraced schedule node es ts m → length ts ≡ length es
each_trace schedule node [] ts m all = ap length all.0
each_trace schedule node (e ∷ es) ts m all = ap length all.6 ∙ ap suc (each_trace schedule all.0.node es all.2 m all.5)

module _ (one : OneStep) (once : OneTrace) (schedule : ScheduleSeen) where
  -- what an entry has is one
  trace_same : (node : NodeSeen) (e : Entry) (s t : Stepped) (a b : Trace) → s ≡ t → IsTrace (costs_for schedule node) node e s.result.outcome a → IsTrace (costs_for schedule node) node e t.result.outcome b → a ≡ b
  trace_same node e s t a b same p q = once (costs_for schedule node) node e t.result.outcome a b (subst (λ (x : Stepped). IsTrace (costs_for schedule node) node e x.result.outcome a) same p) q

  pub all_same : (node : NodeSeen) (es : List Entry) (ts us : List Trace) (m k : NodeSeen) → AllTraced schedule node es ts m → AllTraced schedule node es us k → ts ≡ us
  all_same node [] ts us m k p q = p.0 ∙ sym q.0
  all_same node (e ∷ es) ts us m k p q =
      let same : p.0 ≡ q.0 = one schedule node e p.0 q.0 p.3 q.3 in
      let trace : p.1 ≡ q.1 = trace_same node e p.0 q.0 p.1 q.1 same p.4 q.4 in
      let rest : p.2 ≡ q.2 = all_same q.0.node es p.2 q.2 m k (subst (λ (x : Stepped). AllTraced schedule x.node es p.2 m) same p.5) q.5 in
      p.6 ∙ (λ i. trace i ∷ rest i) ∙ sym q.6

  -- the traces of so many first entries stand before those of the others
  pub front_same : (node : NodeSeen) (count : ℕ) (es : List Entry) (ts us : List Trace) (m k : NodeSeen) → AllTraced schedule node (take count es) ts m → AllTraced schedule node es us k → (back : List Trace) × (us ≡ ts ++ back)
  front_same node zero es ts us m k p q = (us, ap (λ (l : List Trace). l ++ us) (sym p.0))
  front_same node (suc count) [] ts us m k p q = (us, ap (λ (l : List Trace). l ++ us) (sym p.0))
  front_same node (suc count) (e ∷ es) ts us m k p q =
      let same : p.0 ≡ q.0 = one schedule node e p.0 q.0 p.3 q.3 in
      let trace : q.1 ≡ p.1 = sym (trace_same node e p.0 q.0 p.1 q.1 same p.4 q.4) in
      let rest = front_same q.0.node count es p.2 q.2 m k (subst (λ (x : Stepped). AllTraced schedule x.node (take count es) p.2 m) same p.5) q.5 in
      (rest.0, q.6 ∙ (λ i. trace i ∷ rest.1 i) ∙ ap (λ (l : List Trace). l ++ rest.0) (sym p.6))

-- ---- steps

pub steps_then : (n : ℕ) (ts : List Trace) (t : Trace) → trace_steps n (ts ++ t ∷ []) ≡ trace_steps n ts ++ trace_step (n + length ts) t ∷ []
steps_then n [] t = ap (λ (k : ℕ). trace_step k t ∷ []) (omega arith)
steps_then n (u ∷ ts) t =
    let numbered : (n + 1) + length ts ≡ n + suc (length ts) = omega arith in
    ap (λ (steps : List Step). trace_step n u ∷ steps) (steps_then (n + 1) ts t ∙ ap (λ (k : ℕ). trace_steps (n + 1) ts ++ trace_step k t ∷ []) numbered)

pub steps_front : (n : ℕ) (ts back : List Trace) → (rest : List Step) × (trace_steps n (ts ++ back) ≡ trace_steps n ts ++ rest)
steps_front n [] back = (trace_steps n back, refl)
steps_front n (t ∷ ts) back =
    let behind = steps_front (n + 1) ts back in
    (behind.0, ap (λ (steps : List Step). trace_step n t ∷ steps) behind.1)

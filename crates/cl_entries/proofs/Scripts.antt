-- The steps of the entries of a file, and how far they are done.
use Rattle.std.proofs.Common.{◌≡◌, ℕ, zero, suc, ◌+◌, ◌<◌, ◌≤◌, nat_lt, Bool, true, false, List, [], ◌∷◌, ◌++◌, length, take, get_or, Ok, refl, sym, ap, subst, ◌∙◌, append_assoc, append-nil, length-take, arith}
use Rattle.std.proofs.lemmas.List.{take_all, take_more}
use Rattle.std.specs.List.{flat_map}
use Rattle.cl_shapes.specs.declared.function.CostFn.{CostFn}
use Rattle.cl_costs.specs.Schedules.{ScheduleSeen}
use Rattle.cl_events.specs.State.{State}
use Rattle.cl_events.specs.declared.event.Event.{Event}
use Rattle.cl_file.specs.declared.entry.Entry.{Entry}
use Rattle.cl_file.specs.Files.{FileSeen}
use Rattle.cl_tx.specs.Laws.{OneRun}
use Rattle.cl_tx.specs.declared.outcome.TxResult.{TxResult}
use Rattle.cl_tx.specs.Nodes.{NodeSeen}
use Rattle.cl_tx.specs.Step.{AllStep, Runs, committed, first_node, if_committed, schedule_of}
use Rattle.cl_lines.specs.StateLines.{IsStateText}
use Rattle.cl_node_sound.specs.Sound.{FileHasParts}
use Rattle.cl_report.specs.Lines.{lines_of, report_from}
use Rattle.cl_entries.specs.declared.status.Step.{Step}
use Rattle.cl_entries.specs.declared.status.Status.TheVariants.{Done}
use Rattle.cl_entries.specs.Scripts.{Script, bytes_of, events_of}
use Rattle.cl_entries.specs.Entries.{AreStateSteps, IsRun, RunsAreSound, step_of, steps_from}

-- ---- steps

-- each entry has its result
pub each_result : (schedule : ScheduleSeen) (node : NodeSeen) (es : List Entry) (rs : List TxResult) (m : NodeSeen) → AllStep schedule node es rs m → length es ≡ length rs
each_result schedule node [] rs m all = sym (ap length all.0)
each_result schedule node (e ∷ es) rs m all = ap suc (each_result schedule all.0.node es all.1 m all.3) ∙ sym (ap length all.4)

pub steps_then : (n : ℕ) (es : List Entry) (rs : List TxResult) (e : Entry) (r : TxResult) → length es ≡ length rs → steps_from n (es ++ e ∷ []) (rs ++ r ∷ []) ≡ steps_from n es rs ++ step_of (n + length es) e r ∷ []
steps_then n [] [] e r same = ap (λ (k : ℕ). step_of k e r ∷ []) (omega arith)
steps_then n [] (q ∷ rs) e r same = absurd cc
steps_then n (f ∷ es) [] e r same = absurd cc
steps_then n (f ∷ es) (q ∷ rs) e r same =
    let fewer : length es ≡ length rs = cc in
    let numbered : (n + 1) + length es ≡ n + suc (length es) = omega arith in
    ap (λ (steps : List Step). step_of n f q ∷ steps) (steps_then (n + 1) es rs e r fewer ∙ ap (λ (k : ℕ). steps_from (n + 1) es rs ++ step_of k e r ∷ []) numbered)

-- the steps of so many first entries stand before those of the others
steps_front : (n count : ℕ) (es : List Entry) (rs back : List TxResult) → length (take count es) ≡ length rs → (rest : List Step) × (steps_from n es (rs ++ back) ≡ steps_from n (take count es) rs ++ rest)
steps_front n zero es [] back same = (steps_from n es back, refl)
steps_front n zero es (r ∷ rs) back same = absurd cc
steps_front n (suc count) [] [] back same = ([], refl)
steps_front n (suc count) [] (r ∷ rs) back same = absurd cc
steps_front n (suc count) (e ∷ es) [] back same = absurd cc
steps_front n (suc count) (e ∷ es) (r ∷ rs) back same =
    let fewer : length (take count es) ≡ length rs = cc in
    let behind = steps_front (n + 1) count es rs back fewer in
    (behind.0, ap (λ (steps : List Step). step_of n e r ∷ steps) behind.1)

-- their bytes are the report, and their events those that are committed
steps_write : (n : ℕ) (es : List Entry) (rs : List TxResult) → bytes_of (steps_from n es rs) ≡ report_from n es rs
steps_write n [] rs = refl
steps_write n (e ∷ es) [] = refl
steps_write n (e ∷ es) (r ∷ rs) = ap (λ (text : List ℕ). lines_of n e r ++ text) (steps_write (n + 1) es rs)

steps_tell : (n : ℕ) (es : List Entry) (rs : List TxResult) → length es ≡ length rs → events_of (steps_from n es rs) ≡ committed rs
steps_tell n [] [] same = refl
steps_tell n [] (r ∷ rs) same = absurd cc
steps_tell n (e ∷ es) [] same = absurd cc
steps_tell n (e ∷ es) (r ∷ rs) same =
    let fewer : length es ≡ length rs = cc in
    ap (λ (events : List Event). if_committed r.outcome r.events ++ events) (steps_tell (n + 1) es rs fewer)

pub events_append : (front back : List Step) → events_of (front ++ back) ≡ events_of front ++ events_of back
events_append [] back = refl
events_append (s ∷ front) back = ap (λ (events : List Event). s.events ++ events) (events_append front back) ∙ sym (append_assoc s.events (events_of front) (events_of back))

pub bytes_append : (front back : List Step) → bytes_of (front ++ back) ≡ bytes_of front ++ bytes_of back
bytes_append [] back = refl
bytes_append (s ∷ front) back = ap (λ (bytes : List ℕ). s.bytes ++ bytes) (bytes_append front back) ∙ sym (append_assoc s.bytes (bytes_of front) (bytes_of back))

-- the state tells nothing
state_tells : (state : Bool) (s : State) (steps : List Step) → AreStateSteps state s steps → events_of steps ≡ []
state_tells true s steps are = ap events_of are.2
state_tells false s steps are = ap events_of are

-- ---- one run

abbrev pub OneStateText : Type 0
OneStateText = (s : State) (a b : List ℕ) → IsStateText s a → IsStateText s b → a ≡ b

pub state_same : OneStateText → (state : Bool) (s : State) (a b : List Step) → AreStateSteps state s a → AreStateSteps state s b → a ≡ b
state_same once true s a b p q = p.2 ∙ ap (λ (text : List ℕ). record { events = []; bytes = text } ∷ []) (once s p.0 q.0 p.1 q.1) ∙ sym q.2
state_same once false s a b p q = p ∙ sym q

pub run_same : OneRun → OneStateText → (table : List CostFn) (file : FileSeen) (state : Bool) (a b : Script) → IsRun table file state a → IsRun table file state b → a ≡ b
run_same once text table file state a b p q =
    let both = once (schedule_of table file) file p.results q.results p.after q.after p.runs q.runs in
    let steps : p.state_steps ≡ q.state_steps =
    state_same text state q.after.state p.state_steps q.state_steps (subst (λ (n : NodeSeen). AreStateSteps state n.state p.state_steps) both.1 p.are_state) q.are_state
    in
    p.is
    ∙ ap (λ (rs : List TxResult). record { steps = steps_from 0 file.entries rs ++ p.state_steps; end = Ok Done }) both.0
    ∙ ap (λ (more : List Step). record { steps = steps_from 0 file.entries q.results ++ more; end = Ok Done }) steps
    ∙ sym q.is

-- the first entries' results stand before those of the others
split_steps : (schedule : ScheduleSeen) (node : NodeSeen) (count : ℕ) (es : List Entry) (rs : List TxResult) (m : NodeSeen) → AllStep schedule node es rs m
    → (front : List TxResult) × (back : List TxResult) × (n : NodeSeen) × AllStep schedule node (take count es) front n × (rs ≡ front ++ back)
split_steps schedule node zero es rs m all = ([], rs, node, (refl, refl), refl)
split_steps schedule node (suc count) [] rs m all = (rs, [], m, all, sym (append-nil rs))
split_steps schedule node (suc count) (e ∷ es) rs m all =
    let behind = split_steps schedule all.0.node count es all.1 m all.3 in
    (all.0.result ∷ behind.0, behind.1, behind.2, (all.0, behind.0, all.2, behind.3, refl), all.4 ∙ ap (λ (l : List TxResult). all.0.result ∷ l) behind.4)

first_of_all : OneRun → (schedule : ScheduleSeen) (file : FileSeen) (count : ℕ) (first all : List TxResult) (after end : NodeSeen) → AllStep schedule (first_node file.genesis) (take count file.entries) first after → AllStep schedule (first_node file.genesis) file.entries all end → (back : List TxResult) × (all ≡ first ++ back)
first_of_all once schedule file count first all after end steps whole =
    let parts = split_steps schedule (first_node file.genesis) count file.entries all end whole in
    let same : parts.0 ≡ first =
    (once schedule (record file { entries = take count file.entries }) parts.0 first parts.2 after (record { steps = parts.3 }) (record { steps = steps })).0
    in
    (parts.1, parts.4 ∙ ap (λ (rs : List TxResult). rs ++ parts.1) same)

-- the steps of so many first entries are the first ones of each script
pub first_steps : OneRun → (table : List CostFn) (file : FileSeen) (state : Bool) (script : Script) (count : ℕ) (first : List TxResult) (after : NodeSeen) → AllStep (schedule_of table file) (first_node file.genesis) (take count file.entries) first after → IsRun table file state script
    → (more : List Step) × (script.steps ≡ steps_from 0 (take count file.entries) first ++ more)
first_steps once table file state script count first after steps is =
    let schedule = schedule_of table file in
    let split = first_of_all once schedule file count first is.results after is.after steps is.runs.steps in
    let front = steps_front 0 count file.entries first split.0 (each_result schedule (first_node file.genesis) (take count file.entries) first after steps) in (
      front.0 ++ is.state_steps,
      ap (λ (s : Script). s.steps) is.is
          ∙ ap (λ (rs : List TxResult). steps_from 0 file.entries rs ++ is.state_steps) split.1
          ∙ ap (λ (steps : List Step). steps ++ is.state_steps) front.1
          ∙ append_assoc (steps_from 0 (take count file.entries) first) front.0 is.state_steps,
    )

-- ---- what a script tells and writes

pub run_tells : (table : List CostFn) (file : FileSeen) (state : Bool) (script : Script) (is : IsRun table file state script) → events_of script.steps ≡ committed is.results
run_tells table file state script is =
    ap (λ (s : Script). events_of s.steps) is.is
    ∙ events_append (steps_from 0 file.entries is.results) is.state_steps
    ∙ ap (λ (events : List Event). events ++ events_of is.state_steps) (steps_tell 0 file.entries is.results (each_result (schedule_of table file) (first_node file.genesis) file.entries is.results is.after is.runs.steps))
    ∙ ap (λ (events : List Event). committed is.results ++ events) (state_tells state is.after.state is.state_steps is.are_state)
    ∙ append-nil (committed is.results)

pub run_writes : (table : List CostFn) (file : FileSeen) (state : Bool) (script : Script) (is : IsRun table file state script) → bytes_of script.steps ≡ report_from 0 file.entries is.results ++ bytes_of is.state_steps
run_writes table file state script is =
    ap (λ (s : Script). bytes_of s.steps) is.is
    ∙ bytes_append (steps_from 0 file.entries is.results) is.state_steps
    ∙ ap (λ (text : List ℕ). text ++ bytes_of is.state_steps) (steps_write 0 file.entries is.results)

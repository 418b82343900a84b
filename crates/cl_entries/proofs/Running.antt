-- The steps of a file while they are done.
use Rattle.std.proofs.Common.{◌≡◌, Fits, w64, IfOk, Result, Err, ℕ, zero, suc, ◌+◌, ◌-◌, ◌<◌, ◌≤◌, nat_lt, Bool, true, false, List, [], ◌∷◌, ◌++◌, length, take, get_or, Ok, refl, sym, ap, subst, ◌∙◌, append-nil, length-take, arith}
use Rattle.std.proofs.lemmas.Bool.{le-ltb, lt-ltb, ltb-true}
use Rattle.std.proofs.lemmas.List.{take_all, take_more}
use Rattle.std.specs.List.{All}
use Rattle.cl_c32.specs.declared.principal.Principal.{Principal}
use Rattle.cl_values.specs.Valid.{IsPrincipal}
use Rattle.cl_shapes.specs.declared.function.CostFn.{CostFn}
use Rattle.cl_costs.specs.Schedules.{ScheduleSeen}
use Rattle.cl_events.specs.State.{State}
use Rattle.cl_file.specs.Entries.{height_after, NeverFall}
use Rattle.cl_file.specs.declared.entry.Entry.{Entry}
use Rattle.cl_file.specs.Files.{FileSeen}
use Rattle.cl_tx.specs.Laws.{HeightIsLast, OneRun}
use Rattle.cl_tx.specs.declared.outcome.TxResult.{TxResult}
use Rattle.cl_tx.specs.Nodes.{NodeSeen}
use Rattle.cl_tx.specs.Step.{AllStep, Runs, first_node, schedule_of}
use Rattle.cl_node_sound.specs.Sound.{HasParts, FileHasParts}
use Rattle.cl_nodes.specs.Seen.{Seen}
use Rattle.cl_nodes.specs.Laws.{OneNode}
use Rattle.cl_nodes.specs.Steps.{Makes}
use Rattle.cl_entries.specs.declared.status.Step.{Step}
use Rattle.cl_entries.specs.declared.status.Status.TheVariants.{Done}
use Rattle.cl_entries.specs.Scripts.{Script}
use Rattle.cl_entries.specs.Entries.{AreStateSteps, IsFirst, IsOnTheWay, IsRun, HasPartsAt, IsRunning, IsStepAt, IsStepOf, Progress, Reaches, RunsAreSound, left_of, state_count, step_of, steps_from}
use Rattle.cl_entries.proofs.Reached.{may_follow, reaches_first, reaches_next}
use Rattle.cl_entries.proofs.Scripts.{OneStateText, each_result, first_steps, run_same, steps_then}

-- ---- the first, and the next

pub running_first : (table : List CostFn) (file : FileSeen) (state : Bool) (n : Seen) → All (λ (h : Principal × ℕ). IsPrincipal h.0) file.genesis → IsFirst file.genesis n → IsRunning table file state [] (record { file = file; schedule = schedule_of table file; state = state; node = n; done = 0 })
running_first table file state n who is = record {
  file_is = refl;
  schedule_is = refl;
  state_is = refl;
  within = omega arith;
  results = [];
  reaches = reaches_first (schedule_of table file) file.genesis n who is;
  state_steps = [];
  are_state = subst (λ (b : Bool). AreStateSteps b n.state []) (sym (le-ltb (length file.entries) 0 (omega arith))) refl;
  are = refl;
}

-- while there are entries left the state has no step yet
no_state_yet : (count done : ℕ) (s : State) (steps : List Step) → done ≤ count → AreStateSteps (nat_lt count done) s steps → steps ≡ []
no_state_yet count done s steps h are = subst (λ (b : Bool). AreStateSteps b s steps) (le-ltb count done h) are

pub running_next : OneNode → (table : List CostFn) (file : FileSeen) (state : Bool) (steps : List Step) (p : Progress) (m : Seen) (e : Entry) (r : TxResult) → p.done < length p.file.entries → e ≡ get_or p.file.entries p.done e → HasParts e → Makes p.schedule p.node e r m
    → IsRunning table file state steps p → IsRunning table file state (steps ++ step_of p.done e r ∷ []) (record p { node = m; done = p.done + 1 })
running_next one table file state steps p m e r h is_next parts makes so_far =
    let entries = p.file.entries in
    let more : take (p.done + 1) entries ≡ take p.done entries ++ e ∷ [] = take_more entries p.done e h ∙ ap (λ (x : Entry). take p.done entries ++ x ∷ []) (sym is_next) in
    let reached = reaches_next one p.schedule p.file.genesis (take p.done entries) so_far.results p.node m e r so_far.reaches parts makes in
    let counted : 0 + length (take p.done entries) ≡ p.done = omega (arith, length-take p.done entries, h) in
    let none : so_far.state_steps ≡ [] = no_state_yet (length entries) p.done p.node.state so_far.state_steps (omega (arith, h)) so_far.are_state in
    let same : length (take p.done entries) ≡ length so_far.results = each_result p.schedule (first_node p.file.genesis) (take p.done entries) so_far.results so_far.reaches.node so_far.reaches.steps in
    record {
      file_is = so_far.file_is;
      schedule_is = so_far.schedule_is;
      state_is = so_far.state_is;
      within = omega (arith, h);
      results = so_far.results ++ r ∷ [];
      reaches = subst (λ (es : List Entry). Reaches p.schedule p.file.genesis es (so_far.results ++ r ∷ []) m) (sym more) reached;
      state_steps = [];
      are_state = subst (λ (b : Bool). AreStateSteps b m.state []) (sym (le-ltb (length entries) (p.done + 1) (omega (arith, h)))) refl;
      are =
          ap (λ (all : List Step). all ++ step_of p.done e r ∷ []) (so_far.are ∙ ap (λ (l : List Step). steps_from 0 (take p.done entries) so_far.results ++ l) none ∙ append-nil (steps_from 0 (take p.done entries) so_far.results))
          ∙ ap (λ (k : ℕ). steps_from 0 (take p.done entries) so_far.results ++ step_of k e r ∷ []) (sym counted)
          ∙ sym (steps_then 0 (take p.done entries) so_far.results e r same)
          ∙ ap (λ (es : List Entry). steps_from 0 es (so_far.results ++ r ∷ [])) (sym more)
          ∙ sym (append-nil (steps_from 0 (take (p.done + 1) entries) (so_far.results ++ r ∷ [])));
    }

-- there is an entry at each place
entry_at : (es : List Entry) (i : ℕ) → i < length es → (e : Entry) × (e ≡ get_or es i e)
entry_at [] i h = absurd (omega (arith, h))
entry_at (e ∷ es) zero h = (e, refl)
entry_at (e ∷ es) (suc i) h = entry_at es i (omega (arith, h))

-- the same, by the step of the next entry
pub running_step : OneNode → (table : List CostFn) (file : FileSeen) (state : Bool) (steps : List Step) (p : Progress) (m : Seen) (e : Entry) (number : ℕ) (step : Step) → p.done < length p.file.entries → e ≡ get_or p.file.entries p.done e → number ≡ p.done → HasParts e → IsStepOf p.schedule p.node number e step m
    → IsRunning table file state steps p → IsRunning table file state (steps ++ step ∷ []) (record p { node = m; done = p.done + 1 })
running_step one table file state steps p m e number step h is_next numbered parts made so_far =
    subst (λ (s : Step). IsRunning table file state (steps ++ s ∷ []) (record p { node = m; done = p.done + 1 })) (ap (λ (k : ℕ). step_of k e made.result) (sym numbered) ∙ sym made.is)
    (running_next one table file state steps p m e made.result h is_next parts made.makes so_far)

pub running_at : OneNode → (table : List CostFn) (file : FileSeen) (state : Bool) (steps : List Step) (p : Progress) (m : Seen) (step : Step) → p.done < length p.file.entries → HasPartsAt p.file.entries p.done → IsStepAt p.schedule p.node p.file.entries p.done step m
    → IsRunning table file state steps p → IsRunning table file state (steps ++ step ∷ []) (record p { node = m; done = p.done + 1 })
running_at one table file state steps p m step h parts made so_far =
    let here = entry_at p.file.entries p.done h in
    running_step one table file state steps p m here.0 p.done step h here.1 refl (parts here.0 here.1) (made here.0 here.1) so_far

one_more_left : (count done : ℕ) (state : Bool) → count ≤ done → 0 < (count + state_count state) - done → (state ≡ true) × (done ≡ count)
one_more_left count done true h left = (refl, omega (arith, h, left))
one_more_left count done false h left = absurd (omega (arith, h, left))

pub running_state : (table : List CostFn) (file : FileSeen) (state : Bool) (steps : List Step) (p : Progress) (step : Step) → length p.file.entries ≤ p.done → 0 < left_of p → step.events ≡ [] → (text : List ℕ) → step.bytes ≡ text → AreStateSteps true p.node.state (record { events = []; bytes = text } ∷ [])
    → IsRunning table file state steps p → IsRunning table file state (steps ++ step ∷ []) (record p { done = p.done + 1 })
running_state table file state steps p step h left none text bytes are so_far =
    let entries = p.file.entries in
    let place = one_more_left (length entries) p.done p.state h left in
    let nothing : so_far.state_steps ≡ [] = no_state_yet (length entries) p.done p.node.state so_far.state_steps (omega (arith, place.1)) so_far.are_state in
    let same : take (p.done + 1) entries ≡ take p.done entries = take_all (p.done + 1) entries (omega (arith, h)) ∙ sym (take_all p.done entries h) in
    let is_step : step ≡ record { events = []; bytes = text } = λ i. record { events = none i; bytes = bytes i } in
    record {
      file_is = so_far.file_is;
      schedule_is = so_far.schedule_is;
      state_is = so_far.state_is;
      within = subst (λ (b : Bool). p.done + 1 ≤ length entries + state_count b) (sym place.0) (omega (arith, place.1));
      results = so_far.results;
      reaches = subst (λ (es : List Entry). Reaches p.schedule p.file.genesis es so_far.results p.node) (sym same) so_far.reaches;
      state_steps = step ∷ [];
      are_state =
          subst (λ (b : Bool). AreStateSteps b p.node.state (step ∷ [])) (sym (lt-ltb (length entries) (p.done + 1) (omega (arith, h))))
          (subst (λ (s : Step). AreStateSteps true p.node.state (s ∷ [])) (sym is_step) are);
      are =
          ap (λ (all : List Step). all ++ step ∷ []) (so_far.are ∙ ap (λ (l : List Step). steps_from 0 (take p.done entries) so_far.results ++ l) nothing ∙ append-nil (steps_from 0 (take p.done entries) so_far.results))
          ∙ ap (λ (es : List Entry). steps_from 0 es so_far.results ++ step ∷ []) (sym same);
    }

-- ---- the last

whole : (count done : ℕ) (state : Bool) → done ≤ count + state_count state → (count + state_count state) - done ≡ 0 → (count ≤ done) × (nat_lt count done ≡ state)
whole count done true h left = (omega (arith, h, left), lt-ltb count done (omega (arith, h, left)))
whole count done false h left = (omega (arith, h, left), le-ltb count done (omega (arith, h, left)))

pub last_ends : RunsAreSound → (table : List CostFn) (file : FileSeen) (state : Bool) (steps : List Step) (p : Progress) → IsRunning table file state steps p → left_of p ≡ 0 → IsRun table file state (record { steps = steps; end = Ok Done })
last_ends sound table file state steps p so_far left =
    let place = whole (length p.file.entries) p.done p.state so_far.within left in
    let all : take p.done p.file.entries ≡ p.file.entries = take_all p.done p.file.entries place.0 in
    let taken : take p.done p.file.entries ≡ file.entries = all ∙ ap (λ (f : FileSeen). f.entries) so_far.file_is in
    let stepped : AllStep (schedule_of table file) (first_node file.genesis) file.entries so_far.results so_far.reaches.node =
    subst (λ (x : ScheduleSeen × (FileSeen × List Entry)). AllStep x.0 (first_node x.1.0.genesis) x.1.1 so_far.results so_far.reaches.node) (λ i. (so_far.schedule_is i, (so_far.file_is i, taken i))) so_far.reaches.steps
    in
    let runs : Runs (schedule_of table file) file so_far.results so_far.reaches.node = record { steps = stepped } in
    let parts : FileHasParts file = record {
      holders = subst (λ (f : FileSeen). All (λ (h : Principal × ℕ). IsPrincipal h.0) f.genesis) so_far.file_is so_far.reaches.are_principals;
      entries = subst (All HasParts) taken so_far.reaches.parts;
    } in
    let asked : nat_lt (length p.file.entries) p.done ≡ state = place.1 ∙ so_far.state_is in
    record {
      results = so_far.results;
      after = so_far.reaches.node;
      runs = runs;
      sound = sound (schedule_of table file) file so_far.results so_far.reaches.node parts runs;
      state_steps = so_far.state_steps;
      are_state = subst (λ (s : State). AreStateSteps state s so_far.state_steps) (sym (ap (λ (n : NodeSeen). n.state) so_far.reaches.is_node.is))
          (subst (λ (b : Bool). AreStateSteps b p.node.state so_far.state_steps) asked so_far.are_state);
      is = ap (λ (all : List Step). record { steps = all; end = Ok Done }) (so_far.are ∙ ap (λ (es : List Entry). steps_from 0 es so_far.results ++ so_far.state_steps) taken);
    }

-- ---- the first ones of each script

behind_none : (front state more : List Step) (steps : List Step) → state ≡ [] → steps ≡ front ++ state → front ++ more ≡ steps ++ more
behind_none front state more steps none are = ap (λ (l : List Step). l ++ more) (sym (are ∙ ap (λ (l : List Step). front ++ l) none ∙ append-nil front))

-- the state's step is among them, or not
first_by : RunsAreSound → OneRun → OneStateText → (b : Bool) (table : List CostFn) (file : FileSeen) (state : Bool) (steps : List Step) (p : Progress) (script : Script) → nat_lt (length p.file.entries) p.done ≡ b → IsRunning table file state steps p → IsRun table file state script → (more : List Step) × (script.steps ≡ steps ++ more)
first_by sound once text true table file state steps p script b so_far is =
    let full : left_of p ≡ 0 = full_of (length p.file.entries) p.done p.state b so_far.within in
    let same : script ≡ record { steps = steps; end = Ok Done } = run_same once text table file state script (record { steps = steps; end = Ok Done }) is (last_ends sound table file state steps p so_far full) in
    ([], ap (λ (s : Script). s.steps) same ∙ sym (append-nil steps))
  where
    full_of : (count done : ℕ) (asked : Bool) → nat_lt count done ≡ true → done ≤ count + state_count asked → (count + state_count asked) - done ≡ 0
    full_of count done true h w = omega (arith, ltb-true count done h)
    full_of count done false h w = absurd (omega (arith, w, ltb-true count done h))
first_by sound once text false table file state steps p script b so_far is =
    let stepped : AllStep (schedule_of table file) (first_node file.genesis) (take p.done file.entries) so_far.results so_far.reaches.node =
    subst (λ (x : ScheduleSeen × FileSeen). AllStep x.0 (first_node x.1.genesis) (take p.done x.1.entries) so_far.results so_far.reaches.node) (λ i. (so_far.schedule_is i, so_far.file_is i)) so_far.reaches.steps
    in
    let first = first_steps once table file state script p.done so_far.results so_far.reaches.node stepped is in
    let none : so_far.state_steps ≡ [] = subst (λ (c : Bool). AreStateSteps c p.node.state so_far.state_steps) b so_far.are_state in
    let are : steps ≡ steps_from 0 (take p.done file.entries) so_far.results ++ so_far.state_steps =
    so_far.are ∙ ap (λ (f : FileSeen). steps_from 0 (take p.done f.entries) so_far.results ++ so_far.state_steps) so_far.file_is
    in
    (first.0, first.1 ∙ behind_none (steps_from 0 (take p.done file.entries) so_far.results) so_far.state_steps first.0 steps none are)

pub first_are_done : RunsAreSound → OneRun → OneStateText → (table : List CostFn) (file : FileSeen) (state : Bool) (steps : List Step) (p : Progress) (script : Script) → IsRunning table file state steps p → IsRun table file state script → (more : List Step) × (script.steps ≡ steps ++ more)
first_are_done sound once text table file state steps p script so_far is = first_by sound once text (nat_lt (length p.file.entries) p.done) table file state steps p script refl so_far is

-- ---- as the code goes

-- the next entry may follow
pub may_come : HeightIsLast → (p : Progress) (e : Entry) → p.done < length p.file.entries → e ≡ get_or p.file.entries p.done e → NeverFall 0 p.file.entries → (way : IsOnTheWay p) → p.node.height ≤ height_after p.node.height e
may_come law p e h is_next rises way = may_follow law p.schedule p.file.genesis p.file.entries way.running.results p.node p.done e h is_next rises way.running.reaches

pub fewer_left : (count asked done : ℕ) → done < count → suc ((count + asked) - (done + 1)) ≡ (count + asked) - done
fewer_left count asked done h = omega (arith, h)

pub less_left : (all done : ℕ) → 0 < all - done → suc (all - (done + 1)) ≡ all - done
less_left all done h = omega (arith, h)

pub ok_of_all : {A E : Type 0} (r : Result A E) (P : Type 0) → P → IfOk r (λ _. P)
ok_of_all (Ok x) P p = p
ok_of_all (Err e) P p = tt

-- ---- a step more fits

pub fits_here : (p : Progress) → p.done < length p.file.entries → length p.file.entries ≤ 100000 → Fits w64 (p.done + 1)
fits_here p h few = omega (arith, h, few)

one_at_most : (state : Bool) → state_count state ≤ 1
one_at_most true = omega arith
one_at_most false = omega arith

pub fits_behind : (p : Progress) → length p.file.entries ≤ p.done → 0 < left_of p → length p.file.entries ≤ 100000 → Fits w64 (p.done + 1)
fits_behind p h left few = omega (arith, h, left, few, one_at_most p.state)

-- The steps of a command while they are done.
use Rattle.std.proofs.Common.{◌≡◌, ℕ, suc, ◌+◌, ◌<◌, ◌≤◌, Bool, List, [], ◌∷◌, ◌++◌, Option, Some, None, Ok, Err, refl, sym, ap, subst, ◌∙◌, append-nil, arith}
use Rattle.std.specs.Prelude.{Result, IfErr, IfOk}
use Rattle.cl_ports.specs.Growth.{Grows, GrowsPart}
use Rattle.cl_listeners.specs.Laws.{MoreIsTold, NothingIsTold}
use Rattle.cl_app.proofs.Done.{all_first, all_next, part_in_front, part_within}
use Rattle.cl_shapes.specs.declared.function.CostFn.{CostFn}
use Rattle.cl_file.specs.Files.{FileSeen}
use Rattle.cl_listeners.specs.Hearing.{Both, Told}
use Rattle.cl_entries.specs.declared.status.Reply.{Reply}
use Rattle.cl_entries.specs.declared.status.Status.{Status}
use Rattle.cl_entries.specs.declared.status.Status.TheVariants.{Done}
use Rattle.cl_entries.specs.declared.status.Step.{Step}
use Rattle.cl_entries.specs.Scripts.{DoesAll, DoesPart, Script, script_of}
use Rattle.cl_entries.specs.Entries.{FirstAreDone, IsOnTheWay, IsRunning, LastEnds, Progress}
use Rattle.cl_replies.specs.Inputs.{Inputs, NoCommand, MissingFile, BadFile, BadArgument, CallInputs, RunInputs, CheckInputs, ValueInputs, WireInputs, GenInputs, TraceInputs, AuditInputs, RootInputs, ProveInputs, VerifyInputs}
use Rattle.cl_replies.specs.Reports.{IsReply, IsScript}
use Rattle.cl_traces.specs.Traces.{FirstTracesAreDone, IsTracing, LastTraceEnds, Tracing}
use Rattle.cl_app.specs.declared.steps.Steps.{Steps}
use Rattle.cl_app.specs.declared.steps.Steps.TheVariants.{Whole, Entries, Traces}
use Rattle.cl_app.specs.Top.{DoesInputs, IsAt, IsSomewhere, OneScriptOfInputs, left_of, status_of}

-- a reply is a script, whatever the inputs
pub replied : (inputs : Inputs) (reply : Reply) (script : Script) → IsReply inputs reply → script ≡ script_of reply → IsScript inputs script
replied NoCommand reply script is e = (reply, is, e)
replied MissingFile reply script is e = absurd is
replied (BadFile name fault) reply script is e = (reply, is, e)
replied (BadArgument outcome) reply script is e = (reply, is, e)
replied (CallInputs source function args) reply script is e = (reply, is, e)
replied (RunInputs table file state) reply script is e = absurd is
replied (CheckInputs table sources) reply script is e = (reply, is, e)
replied (ValueInputs word) reply script is e = (reply, is, e)
replied (WireInputs word) reply script is e = (reply, is, e)
replied (GenInputs seed count) reply script is e = (reply, is, e)
replied (TraceInputs table file) reply script is e = absurd is
replied (AuditInputs table file claims report) reply script is e = (reply, is, e)
replied (RootInputs table file) reply script is e = (reply, is, e)
replied (ProveInputs table file number) reply script is e = (reply, is, e)
replied (VerifyInputs root key value sides) reply script is e = (reply, is, e)

-- ---- the next step

-- of a reply
pub whole_next : (text : List ℕ) (status : Status) (step : Step) → step ≡ record { events = []; bytes = text } → (inputs : Inputs) (steps : List Step) → IsAt inputs steps (Whole (Some text) status) → IsAt inputs (steps ++ step ∷ []) (Whole None status)
whole_next text status step one inputs steps at =
    (record { text = text; status = status }, at.1, λ i. record { steps = (ap (λ (l : List Step). l ++ step ∷ []) at.0 ∙ ap (λ (s : Step). s ∷ []) one) i; end = Ok status })

-- one is left of a reply only where its text is
pub whole_left : (o : Option (List ℕ)) (status : Status) → 0 < left_of (Whole o status) → (text : List ℕ) × (o ≡ Some text)
whole_left None status left = absurd (omega (arith, left))
whole_left (Some text) status left = (text, refl)

-- of entries
pub entries_next : (p q : Progress) (step : Step) → ((table : List CostFn) (file : FileSeen) (state : Bool) (steps : List Step) → IsRunning table file state steps p → IsRunning table file state (steps ++ step ∷ []) q) → (inputs : Inputs) (steps : List Step) → IsAt inputs steps (Entries p) → IsAt inputs (steps ++ step ∷ []) (Entries q)
entries_next p q step next inputs steps at = (at.0, at.1, at.2, at.3, next at.0 at.1 at.2 steps at.4)

pub entries_next_so : {E : Type 0} (p q : Progress) (s : Steps) (r : Result Step E) → s ≡ Entries p → IfOk r (λ step. (table : List CostFn) (file : FileSeen) (state : Bool) (steps : List Step) → IsRunning table file state steps p → IsRunning table file state (steps ++ step ∷ []) q)
    → IfOk r (λ step. (inputs : Inputs) (steps : List Step) → IsAt inputs steps s → IsAt inputs (steps ++ step ∷ []) (Entries q))
entries_next_so p q s (Ok step) is next = λ inputs steps at. entries_next p q step next inputs steps (subst (IsAt inputs steps) is at)
entries_next_so p q s (Err e) is next = tt

pub on_the_way : (p : Progress) → IsSomewhere (Entries p) → IsOnTheWay p
on_the_way p there = record { table = there.2.0; file = there.2.1; state = there.2.2; steps = there.1; running = there.2.4 }

-- of traces
traces_next : (p q : Tracing) (step : Step) → ((table : List CostFn) (file : FileSeen) (steps : List Step) → IsTracing table file steps p → IsTracing table file (steps ++ step ∷ []) q) → (inputs : Inputs) (steps : List Step) → IsAt inputs steps (Traces p) → IsAt inputs (steps ++ step ∷ []) (Traces q)
traces_next p q step next inputs steps at = (at.0, at.1, at.2, next at.0 at.1 steps at.3)

pub traces_next_so : {E : Type 0} (p q : Tracing) (s : Steps) (r : Result Step E) → s ≡ Traces p → IfOk r (λ step. (table : List CostFn) (file : FileSeen) (steps : List Step) → IsTracing table file steps p → IsTracing table file (steps ++ step ∷ []) q)
    → IfOk r (λ step. (inputs : Inputs) (steps : List Step) → IsAt inputs steps s → IsAt inputs (steps ++ step ∷ []) (Traces q))
traces_next_so p q s (Ok step) is next = λ inputs steps at. traces_next p q step next inputs steps (subst (IsAt inputs steps) is at)
traces_next_so p q s (Err e) is next = tt

-- ---- the last, and the first ones

-- the laws of what is done entry by entry
pub record LastStepsEnd : Type 0 where
  pub run : LastEnds
  pub traces : LastTraceEnds

pub record FirstStepsAreDone : Type 0 where
  pub run : FirstAreDone
  pub traces : FirstTracesAreDone

pub at_end : LastStepsEnd → (inputs : Inputs) (steps : List Step) (s : Steps) → IsAt inputs steps s → left_of s ≡ 0 → IsScript inputs (record { steps = steps; end = Ok (status_of s) })
at_end last inputs steps (Whole (Some text) status) at left = absurd (omega (arith, left))
at_end last inputs steps (Whole None status) at left = replied inputs at.0 (record { steps = steps; end = Ok status }) at.1 at.2
at_end last inputs steps (Entries p) at left = subst (λ (x : Inputs). IsScript x (record { steps = steps; end = Ok Done })) (sym at.3) (last.run at.0 at.1 at.2 steps p at.4 left)
at_end last inputs steps (Traces p) at left = subst (λ (x : Inputs). IsScript x (record { steps = steps; end = Ok Done })) (sym at.2) (last.traces at.0 at.1 steps p at.3 left)

pub at_front : FirstStepsAreDone → OneScriptOfInputs → (inputs : Inputs) (steps : List Step) (s : Steps) (script : Script) → IsAt inputs steps s → IsScript inputs script → (more : List Step) × (script.steps ≡ steps ++ more)
at_front first one inputs steps (Whole (Some text) status) script at is = (script.steps, ap (λ (l : List Step). l ++ script.steps) (sym at.0))
at_front first one inputs steps (Whole None status) script at is =
    let same : script ≡ record { steps = steps; end = Ok status } = one inputs script (record { steps = steps; end = Ok status }) is (replied inputs at.0 (record { steps = steps; end = Ok status }) at.1 at.2) in
    ([], ap (λ (x : Script). x.steps) same ∙ sym (append-nil steps))
at_front first one inputs steps (Entries p) script at is = first.run at.0 at.1 at.2 steps p script at.4 (subst (λ (x : Inputs). IsScript x script) at.3 is)
at_front first one inputs steps (Traces p) script at is = first.traces at.0 at.1 steps p script at.3 (subst (λ (x : Inputs). IsScript x script) at.2 is)

-- ---- what the loop keeps

pub nothing_counted : (n : ℕ) → 0 + n ≡ n
nothing_counted n = omega arith

pub all_counted : (limit i left all : ℕ) → limit ≡ all → limit ≤ i → i + left ≡ all → left ≡ 0
all_counted limit i left all is passed so_far = omega (arith, is, passed, so_far)

pub one_counted : (i left more all : ℕ) → suc more ≡ left → i + left ≡ all → (i + 1) + more ≡ all
one_counted i left more all one so_far = omega (arith, one, so_far)

-- these steps are done, of whatever inputs
pub record Comes (from to : Steps) (before now : Option (List ℕ)) (were are : Both) : Type 0 where
  pub steps : List Step
  pub at : (inputs : Inputs) → IsAt inputs [] from → IsAt inputs steps to
  pub does : DoesAll steps before now were are

pub comes_first : NothingIsTold → (s : Steps) (before : Option (List ℕ)) (both : Both) → Comes s s before before both both
comes_first none s before both = record { steps = []; at = λ inputs is. is; does = all_first none before both }

pub comes_next : MoreIsTold → (from s t : Steps) (step : Step) (before between now : Option (List ℕ)) (were still are : Both) → Comes from s before between were still → ((inputs : Inputs) (steps : List Step) → IsAt inputs steps s → IsAt inputs (steps ++ step ∷ []) t)
    → Told step.events still are → Grows between now step.bytes → Comes from t before now were are
comes_next law from s t step before between now were still are so_far next told written = record {
  steps = so_far.steps ++ step ∷ [];
  at = λ inputs is. next inputs so_far.steps (so_far.at inputs is);
  does = all_next law so_far.steps step before between now were still are so_far.does told written;
}

-- it stops before the next step
pub stops_between : FirstStepsAreDone → OneScriptOfInputs → (from s : Steps) (before now : Option (List ℕ)) (were are : Both) → Comes from s before now were are → (inputs : Inputs) (script : Script) → IsAt inputs [] from → IsScript inputs script → DoesPart script.steps before now were are
stops_between first one from s before now were are so_far inputs script at is =
    let more = at_front first one inputs so_far.steps s script (so_far.at inputs at) is in
    part_in_front script.steps so_far.steps more.0 before now were are more.1 so_far.does

-- it stops within a step
pub stops_within : MoreIsTold → FirstStepsAreDone → OneScriptOfInputs → (from s t : Steps) (step : Step) (before between now : Option (List ℕ)) (were still are : Both) → Comes from s before between were still → ((inputs : Inputs) (steps : List Step) → IsAt inputs steps s → IsAt inputs (steps ++ step ∷ []) t)
    → Told step.events still are → GrowsPart between now step.bytes → (inputs : Inputs) (script : Script) → IsAt inputs [] from → IsScript inputs script → DoesPart script.steps before now were are
stops_within law first one from s t step before between now were still are so_far next told written inputs script at is =
    let more = at_front first one inputs (so_far.steps ++ step ∷ []) t script (next inputs so_far.steps (so_far.at inputs at)) is in
    part_within law script.steps so_far.steps step more.0 before between now were still are more.1 so_far.does told written

-- all steps are done
pub comes_to_end : LastStepsEnd → (from s : Steps) (status : Status) (before now : Option (List ℕ)) (were are : Both) → Comes from s before now were are → left_of s ≡ 0 → status ≡ status_of s → (inputs : Inputs) → IsAt inputs [] from → DoesInputs inputs status before now were are
comes_to_end last from s status before now were are so_far left ends inputs at = record {
  script = record { steps = so_far.steps; end = Ok (status_of s) };
  is_script = at_end last inputs so_far.steps s (so_far.at inputs at) left;
  ends = ap Ok (sym ends);
  does = so_far.does;
}

-- some inputs are there
pub somewhere : (from s : Steps) (before now : Option (List ℕ)) (were are : Both) → (inputs : Inputs) → IsAt inputs [] from → Comes from s before now were are → IsSomewhere s
somewhere from s before now were are inputs at so_far = (inputs, so_far.steps, so_far.at inputs at)

pub err_so : {T E : Type 0} (r : Result T E) (P : E → Type 0) → ((e : E) → P e) → IfErr r P
err_so (Ok x) P so = tt
err_so (Err e) P so = so e

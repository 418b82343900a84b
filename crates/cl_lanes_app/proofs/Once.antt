-- A request has one reply.
use Rattle.std.proofs.Common.{◌≡◌, ℕ, zero, suc, ◌*◌, List, [], ◌∷◌, ◌++◌, length, replicate, refl, sym, ap, subst, ◌∙◌, append-nil}
use Rattle.std.specs.Prelude.{false, Option, Some, None}
use Rattle.cl_ports.specs.Files.{Held}
use Rattle.cl_shapes.specs.declared.function.CostFn.{CostFn}
use Rattle.cl_costs.specs.Schedules.{ScheduleSeen}
use Rattle.cl_file.specs.declared.entry.Entry.{Entry}
use Rattle.cl_file.specs.Files.{FileSeen}
use Rattle.cl_tx.specs.declared.outcome.TxResult.{TxResult}
use Rattle.cl_tx.specs.Laws.{OneRun}
use Rattle.cl_tx.specs.Nodes.{NodeSeen}
use Rattle.cl_tx.specs.Step.{first_node, schedule_of}
use Rattle.cl_report.specs.Lines.{report_from}
use Rattle.cl_lanes.specs.declared.moves.Move.{Move}
use Rattle.cl_lanes.specs.Lanes.{AllMove, ProgressSeen, first_progress}
use Rattle.cl_lanes.specs.Laws.{MovesHaveOneResult}
use Rattle.cl_lanes.specs.Same.{SameLanes, SameProgress}
use Rattle.cl_entries.specs.declared.status.Reply.{Reply}
use Rattle.cl_entries.specs.declared.status.Status.TheVariants.{Done}
use Rattle.cl_entries.specs.Entries.{IsRun, RunWrites}
use Rattle.cl_entries.specs.declared.status.Step.{Step}
use Rattle.cl_entries.specs.Scripts.{Script, bytes_of}
use Rattle.cl_replies.specs.Inputs.{Inputs, BadFile, NoCommand, RunInputs}
use Rattle.cl_app.specs.Top.{OneInputs}
use Rattle.cl_lanes_app.specs.Draws.{drawn_moves}
use Rattle.cl_lanes_app.specs.Reports.{IsLanesReply, IsLanesReport, counts_line}
use Rattle.cl_lanes_app.specs.Top.{HasLanesReply}
use Rattle.cl_lanes_app.specs.Words.{Request, run_of}

-- ---- moves

empty_same : (lanes : ℕ) → SameLanes (replicate lanes None) (replicate lanes None)
empty_same zero = tt
empty_same (suc lanes) = (tt, empty_same lanes)

first_same : (first : NodeSeen) (lanes : ℕ) → SameProgress (first_progress first lanes) (first_progress first lanes)
first_same first lanes = record { node = refl; results = refl; wrote = tt; held = empty_same lanes; redone = refl; skipped = refl }

all_same : MovesHaveOneResult → (schedule : ScheduleSeen) (entries : List Entry) (moves : List Move) (P Q R S : ProgressSeen) → SameProgress P Q → AllMove schedule entries P moves R → AllMove schedule entries Q moves S → SameProgress R S
all_same law schedule entries [] P Q R S same p q = subst (λ (R : ProgressSeen). SameProgress R S) (sym p) (subst (SameProgress P) (sym q) same)
all_same law schedule entries (m ∷ moves) P Q R S same p q = all_same law schedule entries moves p.0 q.0 R S (law schedule entries P Q m p.0 q.0 same p.1 q.1) p.2 q.2

-- ---- replies

-- what both replies depend on is one
report_same : OneRun → MovesHaveOneResult → (request : Request) (table : List CostFn) (file : FileSeen) (a b : Reply) → IsLanesReport request table file a → IsLanesReport request table file b → a ≡ b
report_same once law request table file a b p q =
    let schedule = schedule_of table file in
    let first = first_progress (first_node file.genesis) request.lanes in
    let results : p.results ≡ q.results = (once schedule file p.results q.results p.node q.node p.runs q.runs).0 in
    let same = all_same law schedule file.entries (drawn_moves request.lanes request.seed (2 * length file.entries)) first first p.after q.after (first_same (first_node file.genesis) request.lanes) p.drawn.moved q.drawn.moved in
    p.is ∙ (λ i. record { text = report_from 0 file.entries (results i) ++ counts_line (same.redone i) (same.skipped i); status = Done }) ∙ sym q.is

reply_same : OneRun → MovesHaveOneResult → (request : Option Request) (inputs : Inputs) (a b : Reply) → IsLanesReply request inputs a → IsLanesReply request inputs b → a ≡ b
reply_same once law None NoCommand a b p q = p ∙ sym q
reply_same once law None inputs a b p q = absurd p
reply_same once law (Some request) (BadFile name fault) a b p q = p ∙ sym q
reply_same once law (Some request) (RunInputs table file state) a b p q = report_same once law request table file a b p q
reply_same once law (Some request) inputs a b p q = absurd p

pub one_reply : OneInputs → OneRun → MovesHaveOneResult → (request : Option Request) (files : Held) (a b : Reply) → HasLanesReply request (Some files) a → HasLanesReply request (Some files) b → a ≡ b
one_reply one once law request files a b p q =
    let here = p.are_inputs.gives.told files refl in
    let there = q.are_inputs.gives.told files refl in
    let inputs : p.inputs ≡ q.inputs = one (run_of request) files here.0 there.0 p.inputs q.inputs here.1 there.1 in
    reply_same once law request q.inputs a b (subst (λ (i : Inputs). IsLanesReply request i a) inputs p.is_reply) q.is_reply

-- ---- the report of `run`

pub as_run : OneRun → RunWrites → (request : Request) (table : List CostFn) (file : FileSeen) (script : Script) (reply : Reply) → IsRun table file false script → (is : IsLanesReport request table file reply) → reply.text ≡ bytes_of script.steps ++ counts_line is.after.redone is.after.skipped
as_run once writes request table file script reply run is =
    let line = counts_line is.after.redone is.after.skipped in
    let results : is.results ≡ run.results = (once (schedule_of table file) file is.results run.results is.node run.after is.runs run.runs).0 in
    let bytes : bytes_of script.steps ≡ report_from 0 file.entries run.results =
    writes table file false script run ∙ ap (λ (steps : List Step). report_from 0 file.entries run.results ++ bytes_of steps) run.are_state ∙ append-nil (report_from 0 file.entries run.results)
    in
    ap (λ (r : Reply). r.text) is.is ∙ ap (λ (rs : List TxResult). report_from 0 file.entries rs ++ line) results ∙ ap (λ (text : List ℕ). text ++ line) (sym bytes)

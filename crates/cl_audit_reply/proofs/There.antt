-- Each file has results and traces, and so a verdict on any claims and any report.
use Rattle.std.proofs.Common.{◌≡◌, ◌⊎◌, inl, inr, ℕ, zero, suc, ◌+◌, ◌<◌, ◌&&◌, Bool, true, false, List, [], ◌∷◌, length, Option, Some, None, refl, sym, ap, subst, ◌∙◌, arith}
use Rattle.std.specs.List.{All}
use Rattle.std.proofs.lemmas.List.Elements.{All-nil, All-cons, All-head, All-tail}
use Rattle.cl_shapes.specs.declared.function.CostFn.{CostFn}
use Rattle.cl_costs.specs.Schedules.{ScheduleSeen}
use Rattle.cl_forms.specs.Texts.{text_of}
use Rattle.cl_meaning.specs.Deploying.{deployment}
use Rattle.cl_meaning.specs.Limits.{Costs}
use Rattle.cl_meaning.specs.Trace.{Claim as Told, trace_of}
use Rattle.cl_file.specs.declared.entry.Entry.{Entry}
use Rattle.cl_file.specs.declared.entry.Entry.TheVariants.{Deploy, Call, Block}
use Rattle.cl_file.specs.Files.{FileSeen}
use Rattle.cl_tx.specs.declared.outcome.Outcome.{Outcome}
use Rattle.cl_tx.specs.declared.outcome.Outcome.TheVariants.{Moved, Done, Good, Bad, Plain, Aborted, Refused}
use Rattle.cl_tx.specs.declared.outcome.TxResult.{TxResult}
use Rattle.cl_tx.specs.Nodes.{NodeSeen, Stepped, contract_of, frame_of, purse_of}
use Rattle.cl_tx.specs.Step.{AllStep, name_taken, source_refused, evaluated, Steps, contract_with, costs_for, first_node, schedule_of}
use Rattle.cl_nodes.specs.Traces.{IsRunTraceAs, IsTrace, claims as shown}
use Rattle.cl_node_sound.specs.Sound.{FileHasParts}
use Rattle.cl_report.specs.Lines.{report_from}
use Rattle.cl_results.specs.Laws.{EachRuns}
use Rattle.cl_audit.specs.declared.trace.Trace.{Trace}
use Rattle.cl_audit_walk.specs.declared.cursor.Claim.{Claim}
use Rattle.cl_audit_walk.specs.Looking.{is_claim}
use Rattle.cl_audit.specs.Agrees.{DiffersBehind, FirstDifference, agree}
use Rattle.cl_audit_results.specs.Audits.{AllAgree, AreAudited, ClaimDiffers, FileTraced, FirstAt, IsRefusal, Traced, claims_of}
use Rattle.cl_audit_results.specs.declared.refusal.AuditRefusal.TheVariants.{Claim as AtClaim}
use Rattle.cl_audit_reply.specs.Laws.{EachHasAuditReply}
use Rattle.cl_audit_reply.specs.Verdicts.{AreThose, DifferAt, IsVerdict, first_apart, reply_of, report_verdict}
use Rattle.cl_audit_reply.specs.declared.reply.Verdict.{Verdict}
use Rattle.cl_audit_reply.specs.declared.reply.Verdict.TheVariants.{NoClaim}

-- ---- traces

-- an entry that could be run has a trace, whatever becomes of it
by_outcome : (costs : Costs) (node : NodeSeen) (entry : Entry) (found : List Told) → IsRunTraceAs shown costs node entry found → (o : Outcome) → (t : List Told) × IsTrace costs node entry o t
by_outcome costs node entry found run Moved = ([], refl)
by_outcome costs node entry found run Done = (found, run)
by_outcome costs node entry found run (Good v) = (found, run)
by_outcome costs node entry found run (Bad v) = (found, run)
by_outcome costs node entry found run (Plain v) = (found, run)
by_outcome costs node entry found run (Aborted why) = (found, run)
by_outcome costs node entry found run (Refused why) = ([], refl)

deployment_there : (schedule : ScheduleSeen) (node : NodeSeen) (entry : Entry) (s t : Stepped) → s ≡ t → IsTrace (costs_for schedule node) node entry t.result.outcome [] → (trace : List Told) × IsTrace (costs_for schedule node) node entry s.result.outcome trace
deployment_there schedule node entry s t is none = ([], subst (λ (x : Stepped). IsTrace (costs_for schedule node) node entry x.result.outcome []) (sym is) none)

trace_there : (schedule : ScheduleSeen) (node : NodeSeen) (e : Entry) (s : Stepped) → Steps schedule node e s → (t : List Told) × IsTrace (costs_for schedule node) node e s.result.outcome t
trace_there schedule node (Deploy common name source version) s (name_taken known there is) = deployment_there schedule node (Deploy common name source version) s _ is refl
trace_there schedule node (Deploy common name source version) s (source_refused rule span names new first is) = deployment_there schedule node (Deploy common name source version) s _ is refl
trace_there schedule node (Deploy common name source version) s (evaluated new accepted ended) =
    let principal = contract_of common.sender name in
    by_outcome (costs_for schedule node) node (Deploy common name source version)
    (trace_of (costs_for schedule node) (purse_of common) (deployment node.contracts (frame_of node common.sender principal) (contract_with principal (text_of source version) accepted.forms) node.state))
    (record { accepted = accepted; is = refl }) s.result.outcome
trace_there schedule node (Call common contract function args) s step = by_outcome (costs_for schedule node) node (Call common contract function args) _ refl s.result.outcome
trace_there schedule node (Block height) s step = by_outcome (costs_for schedule node) node (Block height) [] refl s.result.outcome

all_there : (schedule : ScheduleSeen) (node : NodeSeen) (es : List Entry) (rs : List TxResult) (m : NodeSeen) → AllStep schedule node es rs m → (ts : List (List Told)) × Traced schedule node es rs ts m
all_there schedule node [] rs m all = ([], (all.0, refl, all.1))
all_there schedule node (e ∷ es) rs m all =
    let here = trace_there schedule node e all.0 all.2 in
    let rest = all_there schedule all.0.node es all.1 m all.3 in
    (here.0 ∷ rest.0, (all.0, here.0, all.1, rest.0, all.2, here.1, rest.1, all.4, refl))

-- results and traces of a file
pub record IsTraced (table : List CostFn) (file : FileSeen) : Type 0 where
  pub results : List TxResult
  pub told : List (List Told)
  pub traced : FileTraced (schedule_of table file) file results told

pub traced_there : EachRuns → (table : List CostFn) (file : FileSeen) → FileHasParts file → IsTraced table file
traced_there runs table file parts =
    let run = runs (schedule_of table file) file parts in
    let all = all_there (schedule_of table file) (first_node file.genesis) file.entries run.0 run.1 run.2.steps in
    record { results = run.0; told = all.0; traced = record { after = run.1; entries = all.1 } }

-- ---- as many of each as entries

pub results_length : (schedule : ScheduleSeen) (node : NodeSeen) (es : List Entry) (rs : List TxResult) (ts : List (List Told)) (m : NodeSeen) → Traced schedule node es rs ts m → length rs ≡ length es
results_length schedule node [] rs ts m p = ap length p.0
results_length schedule node (e ∷ es) rs ts m p = ap length p.7 ∙ ap suc (results_length schedule p.0.node es p.2 p.3 m p.6)

pub told_length : (schedule : ScheduleSeen) (node : NodeSeen) (es : List Entry) (rs : List TxResult) (ts : List (List Told)) (m : NodeSeen) → Traced schedule node es rs ts m → length ts ≡ length es
told_length schedule node [] rs ts m p = ap length p.1
told_length schedule node (e ∷ es) rs ts m p = ap length p.8 ∙ ap suc (told_length schedule p.0.node es p.2 p.3 m p.6)

-- ---- comparing

difference_by : (b rest : Bool) (Rest : ℕ → Type 0) → (b && rest) ≡ false → (rest ≡ false → (n : ℕ) × Rest n) → (n : ℕ) × DiffersBehind b n Rest
difference_by true rest Rest h there = let d = there h in (d.0 + 1, (d.0, refl, d.1))
difference_by false rest Rest h there = (0, refl)

difference_there : (ts : List Told) (cs : List Claim) → agree ts cs ≡ false → (n : ℕ) × FirstDifference ts cs n
difference_there [] [] h = absurd cc
difference_there [] (c ∷ cs) h = (0, refl)
difference_there (t ∷ ts) [] h = (0, refl)
difference_there (t ∷ ts) (c ∷ cs) h = difference_by (is_claim t.span t.value c) (agree ts cs) (FirstDifference ts cs) h (difference_there ts cs)

-- they agree, or differ somewhere first
abbrev Compared : List TxResult → List (List Told) → List (List Claim) → Type 0
Compared rs ts cs = AllAgree ts cs ⊎ ((e : ℕ) × (n : ℕ) × FirstAt (ClaimDiffers n) rs ts rs cs e)

compared_next : (r : TxResult) (rs : List TxResult) (t : List Told) (ts : List (List Told)) (c : List Claim) (cs : List (List Claim)) → agree t c ≡ true → Compared rs ts cs → Compared (r ∷ rs) (t ∷ ts) (c ∷ cs)
compared_next r rs t ts c cs h (inl all) = inl (h, all)
compared_next r rs t ts c cs h (inr first) = inr (suc first.0, first.1, (refl, h, first.2))

compared_by : (r : TxResult) (rs : List TxResult) (t : List Told) (ts : List (List Told)) (c : List Claim) (cs : List (List Claim)) (b : Bool) → agree t c ≡ b → Compared rs ts cs → Compared (r ∷ rs) (t ∷ ts) (c ∷ cs)
compared_by r rs t ts c cs true h rest = compared_next r rs t ts c cs h rest
compared_by r rs t ts c cs false h rest = let d = difference_there t c h in inr (zero, d.0, d.1)

compare : (rs : List TxResult) (ts : List (List Told)) (cs : List (List Claim)) → length ts ≡ length rs → length cs ≡ length rs → Compared rs ts cs
compare [] [] [] h k = inl tt
compare [] (t ∷ ts) cs h k = absurd (omega (arith, h))
compare [] [] (c ∷ cs) h k = absurd (omega (arith, k))
compare (r ∷ rs) [] cs h k = absurd (omega (arith, h))
compare (r ∷ rs) (t ∷ ts) [] h k = absurd (omega (arith, k))
compare (r ∷ rs) (t ∷ ts) (c ∷ cs) h k = compared_by r rs t ts c cs (agree t c) refl (compare rs ts cs (omega (arith, h)) (omega (arith, k)))

-- ---- verdicts

pub those_verdict : (table : List CostFn) (file : FileSeen) (claims : List (List Claim)) (report : List ℕ) (o : Option ℕ) → AreThose table file claims report o → IsVerdict table file claims report (report_verdict o)
those_verdict table file claims report None h = h
those_verdict table file claims report (Some at) h = h

module _ (table : List CostFn) (file : FileSeen) (claims : List (List Claim)) (report : List ℕ) (t : IsTraced table file) where
  verdict_by : Compared t.results t.told claims → (v : Verdict) × IsVerdict table file claims report v
  verdict_by (inl all) =
      let apart : Option ℕ = first_apart (report_from 0 file.entries t.results) report in
      (report_verdict apart, those_verdict table file claims report apart (record { results = t.results; told = t.told; traced = t.traced; agree = all; compared = refl }))
  verdict_by (inr first) = (NoClaim first.0 first.1, record { results = t.results; told = t.told; traced = t.traced; first = first.2 })

pub each_has_reply : EachRuns → EachHasAuditReply
each_has_reply runs table file claims report parts count =
    let t = traced_there runs table file parts in
    let rs : length t.results ≡ length file.entries = results_length (schedule_of table file) (first_node file.genesis) file.entries t.results t.told t.traced.after t.traced.entries in
    let ts : length t.told ≡ length file.entries = told_length (schedule_of table file) (first_node file.genesis) file.entries t.results t.told t.traced.after t.traced.entries in
    let v = verdict_by table file claims report t (compare t.results t.told claims (ts ∙ sym rs) (count ∙ sym rs)) in
    (reply_of v.0, record { verdict = v.0; is_verdict = v.1; is = refl })

-- ---- what the code is given

-- as many results as entries
pub audited_length : (schedule : ScheduleSeen) (file : FileSeen) (traces : List Trace) (results : List TxResult) → AreAudited schedule file traces results → length results ≡ length file.entries
audited_length schedule file traces results h = results_length schedule (first_node file.genesis) file.entries results h.told h.traced.after h.traced.entries

pub few_of : (most : ℕ) (traces : List Trace) → All (λ c. length c < most) (claims_of traces) → All (λ (t : Trace). length t.claims.items < most) traces
few_of most [] h = All-nil (λ (t : Trace). length t.claims.items < most)
few_of most (t ∷ ts) h =
    All-cons (λ (s : Trace). length s.claims.items < most) t ts (All-head (λ (c : List Claim). length c < most) t.claims.items (claims_of ts) h)
    (few_of most ts (All-tail (λ (c : List Claim). length c < most) t.claims.items (claims_of ts) h))

-- the traces are those of the file
pub audited_verdict : (table : List CostFn) (file : FileSeen) (traces : List Trace) (results : List TxResult) (report : List ℕ) → AreAudited (schedule_of table file) file traces results → IsVerdict table file (claims_of traces) report (report_verdict (first_apart (report_from 0 file.entries results) report))
audited_verdict table file traces results report h =
    those_verdict table file (claims_of traces) report (first_apart (report_from 0 file.entries results) report) (record { results = results; told = h.told; traced = h.traced; agree = h.agree; compared = refl })

-- the auditor refuses a claim
pub refused_verdict : EachRuns → (table : List CostFn) (file : FileSeen) → FileHasParts file → (traces : List Trace) (schedule : ScheduleSeen) → schedule ≡ schedule_of table file → (entry claim : ℕ) → IsRefusal schedule file traces (AtClaim entry claim) → DifferAt table file (claims_of traces) entry claim
refused_verdict runs table file parts traces schedule is entry claim h =
    let t = traced_there runs table file parts in
    let refused = subst (λ (s : ScheduleSeen). IsRefusal s file traces (AtClaim entry claim)) is h in
    record { results = t.results; told = t.told; traced = t.traced; first = refused t.results t.told t.traced }

-- A file, claims and a report have one verdict.
use Rattle.std.proofs.Common.{◌≡◌, ℕ, zero, suc, ◌+◌, ◌&&◌, Bool, true, false, List, [], ◌∷◌, Option, Some, None, refl, sym, ap, subst, ◌∙◌}
use Rattle.cl_shapes.specs.declared.function.CostFn.{CostFn}
use Rattle.cl_costs.specs.Schedules.{ScheduleSeen}
use Rattle.cl_meaning.specs.Trace.{Claim as Told}
use Rattle.cl_file.specs.declared.entry.Entry.{Entry}
use Rattle.cl_file.specs.Files.{FileSeen}
use Rattle.cl_tx.specs.Laws.{OneStep}
use Rattle.cl_tx.specs.Nodes.{NodeSeen, Stepped}
use Rattle.cl_tx.specs.declared.outcome.TxResult.{TxResult}
use Rattle.cl_tx.specs.Step.{first_node, schedule_of}
use Rattle.cl_nodes.specs.Laws.{OneTrace}
use Rattle.cl_report.specs.Lines.{report_from}
use Rattle.cl_entries.specs.declared.status.Reply.{Reply}
use Rattle.cl_audit_walk.specs.declared.cursor.Claim.{Claim}
use Rattle.cl_audit_walk.specs.Looking.{is_claim}
use Rattle.cl_audit.specs.Agrees.{DiffersBehind, FirstDifference, agree}
use Rattle.cl_audit_results.specs.Audits.{AllAgree, ClaimDiffers, FileTraced, FirstAt, Traced}
use Rattle.cl_audit_results.proofs.Entries.{same_step}
use Rattle.cl_audit_reply.specs.Laws.{OneAuditReply}
use Rattle.cl_audit_reply.specs.Verdicts.{AreThose, DifferAt, IsVerdict, first_apart, reply_of}
use Rattle.cl_audit_reply.specs.declared.reply.Verdict.{Verdict}
use Rattle.cl_audit_reply.specs.declared.reply.Verdict.TheVariants.{Yes, NoClaim, NoReport}

-- ---- claims of one entry

behind_same : (b : Bool) (n m : ℕ) (Rest : ℕ → Type 0) → DiffersBehind b n Rest → DiffersBehind b m Rest → ((x y : ℕ) → Rest x → Rest y → x ≡ y) → n ≡ m
behind_same false n m Rest p q once = p ∙ sym q
behind_same true n m Rest p q once = p.1 ∙ ap (λ (k : ℕ). k + 1) (once p.0 q.0 p.2 q.2) ∙ sym q.1

difference_same : (ts : List Told) (cs : List Claim) (n m : ℕ) → FirstDifference ts cs n → FirstDifference ts cs m → n ≡ m
difference_same [] [] n m p q = absurd p
difference_same [] (c ∷ cs) n m p q = p ∙ sym q
difference_same (t ∷ ts) [] n m p q = p ∙ sym q
difference_same (t ∷ ts) (c ∷ cs) n m p q = behind_same (is_claim t.span t.value c) n m (FirstDifference ts cs) p q (difference_same ts cs)

agreed_behind : (b rest : Bool) (n : ℕ) (Rest : ℕ → Type 0) → (b && rest) ≡ true → DiffersBehind b n Rest → (rest ≡ true → (m : ℕ) → Rest m → ⊥) → ⊥
agreed_behind true rest n Rest h d none = none h d.0 d.2
agreed_behind false rest n Rest h d none = absurd cc

agree_or_differ : (ts : List Told) (cs : List Claim) (n : ℕ) → agree ts cs ≡ true → FirstDifference ts cs n → ⊥
agree_or_differ [] [] n h d = d
agree_or_differ [] (c ∷ cs) n h d = absurd cc
agree_or_differ (t ∷ ts) [] n h d = absurd cc
agree_or_differ (t ∷ ts) (c ∷ cs) n h d = agreed_behind (is_claim t.span t.value c) (agree ts cs) n (FirstDifference ts cs) h d (λ same m. agree_or_differ ts cs m same)

-- ---- claims of all entries

first_once : (ms : List TxResult) (ts : List (List Told)) (rs : List TxResult) (cs : List (List Claim)) (e f n k : ℕ) → FirstAt (ClaimDiffers n) ms ts rs cs e → FirstAt (ClaimDiffers k) ms ts rs cs f → (e ≡ f) × (n ≡ k)
first_once (m ∷ ms) (t ∷ ts) (r ∷ rs) (c ∷ cs) zero zero n k p q = (refl, difference_same t c n k p q)
first_once (m ∷ ms) (t ∷ ts) (r ∷ rs) (c ∷ cs) zero (suc f) n k p q = absurd (agree_or_differ t c n q.1 p)
first_once (m ∷ ms) (t ∷ ts) (r ∷ rs) (c ∷ cs) (suc e) zero n k p q = absurd (agree_or_differ t c k p.1 q)
first_once (m ∷ ms) (t ∷ ts) (r ∷ rs) (c ∷ cs) (suc e) (suc f) n k p q = let rest = first_once ms ts rs cs e f n k p.2 q.2 in (ap suc rest.0, rest.1)
first_once ms ts rs cs e f n k p q = absurd p

all_or_first : (ms : List TxResult) (ts : List (List Told)) (rs : List TxResult) (cs : List (List Claim)) (e n : ℕ) → AllAgree ts cs → FirstAt (ClaimDiffers n) ms ts rs cs e → ⊥
all_or_first (m ∷ ms) (t ∷ ts) (r ∷ rs) (c ∷ cs) zero n h d = agree_or_differ t c n h.0 d
all_or_first (m ∷ ms) (t ∷ ts) (r ∷ rs) (c ∷ cs) (suc e) n h d = all_or_first ms ts rs cs e n h.1 d.2
all_or_first ms ts rs cs e n h d = d

-- ---- files

module _ (one : OneStep) (each : OneTrace) where
  traced_same : (schedule : ScheduleSeen) (node : NodeSeen) (es : List Entry) (rs qs : List TxResult) (ts us : List (List Told)) (m k : NodeSeen) → Traced schedule node es rs ts m → Traced schedule node es qs us k → (rs ≡ qs) × (ts ≡ us)
  traced_same schedule node [] rs qs ts us m k p q = (p.0 ∙ sym q.0, p.1 ∙ sym q.1)
  traced_same schedule node (e ∷ es) rs qs ts us m k p q =
      let same = same_step one each schedule node e p.0 q.0 p.1 q.1 p.4 p.5 q.4 q.5 in
      let rest = traced_same schedule q.0.node es p.2 q.2 p.3 q.3 m k (subst (λ (s : Stepped). Traced schedule s.node es p.2 p.3 m) same.0 p.6) q.6 in
      (p.7 ∙ (λ i. (same.0 i).result ∷ rest.0 i) ∙ sym q.7, p.8 ∙ (λ i. same.1 i ∷ rest.1 i) ∙ sym q.8)

  module _ (table : List CostFn) (file : FileSeen) (claims : List (List Claim)) (report : List ℕ) where
    file_same : (rs qs : List TxResult) (ts us : List (List Told)) → FileTraced (schedule_of table file) file rs ts → FileTraced (schedule_of table file) file qs us → (rs ≡ qs) × (ts ≡ us)
    file_same rs qs ts us p q = traced_same (schedule_of table file) (first_node file.genesis) file.entries rs qs ts us p.after q.after p.entries q.entries

    those_same : (a b : Option ℕ) → AreThose table file claims report a → AreThose table file claims report b → a ≡ b
    those_same a b p q =
        sym p.compared
        ∙ ap (λ (rs : List TxResult). first_apart (report_from 0 file.entries rs) report) (file_same p.results q.results p.told q.told p.traced q.traced).0
        ∙ q.compared

    those_or_differ : (a : Option ℕ) (entry claim : ℕ) → AreThose table file claims report a → DifferAt table file claims entry claim → ⊥
    those_or_differ a entry claim p q =
        let same : p.told ≡ q.told = (file_same p.results q.results p.told q.told p.traced q.traced).1 in
        all_or_first q.results q.told q.results claims entry claim (subst (λ (ts : List (List Told)). AllAgree ts claims) same p.agree) q.first

    differ_same : (e f n k : ℕ) → DifferAt table file claims e n → DifferAt table file claims f k → (e ≡ f) × (n ≡ k)
    differ_same e f n k p q =
        let same = file_same p.results q.results p.told q.told p.traced q.traced in
        first_once q.results q.told q.results claims e f n k
        (subst (λ (x : List TxResult × List (List Told)). FirstAt (ClaimDiffers n) x.0 x.1 x.0 claims e) (λ i. (same.0 i, same.1 i)) p.first) q.first

    verdict_same : (v w : Verdict) → IsVerdict table file claims report v → IsVerdict table file claims report w → v ≡ w
    verdict_same Yes Yes p q = refl
    verdict_same Yes (NoReport at) p q =
        let same : None ≡ Some at = those_same None (Some at) p q in
        absurd cc
    verdict_same Yes (NoClaim e n) p q = absurd (those_or_differ None e n p q)
    verdict_same (NoReport at) Yes p q =
        let same : None ≡ Some at = those_same None (Some at) q p in
        absurd cc
    verdict_same (NoReport at) (NoReport bt) p q =
        let same : Some at ≡ Some bt = those_same (Some at) (Some bt) p q in
        let is : at ≡ bt = cc in
        ap NoReport is
    verdict_same (NoReport at) (NoClaim e n) p q = absurd (those_or_differ (Some at) e n p q)
    verdict_same (NoClaim e n) Yes p q = absurd (those_or_differ None e n q p)
    verdict_same (NoClaim e n) (NoReport at) p q = absurd (those_or_differ (Some at) e n q p)
    verdict_same (NoClaim e n) (NoClaim f k) p q = let same = differ_same e f n k p q in (λ i. NoClaim (same.0 i) (same.1 i))

  pub reply_once : OneAuditReply
  reply_once table file claims report a b p q = p.is ∙ ap reply_of (verdict_same table file claims report p.verdict q.verdict p.is_verdict q.is_verdict) ∙ sym q.is

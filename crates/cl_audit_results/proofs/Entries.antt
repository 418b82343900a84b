-- Entries audited one after another.
use Rattle.std.proofs.Common.{◌≡◌, ℕ, zero, suc, true, List, [], ◌∷◌, ◌++◌, length, refl, sym, ap, ◌∙◌, subst}
use Rattle.cl_costs.specs.Schedules.{ScheduleSeen}
use Rattle.cl_meaning.specs.Trace.{Claim as Told}
use Rattle.cl_file.specs.declared.entry.Entry.{Entry}
use Rattle.cl_tx.specs.declared.outcome.TxResult.{TxResult}
use Rattle.cl_tx.specs.Laws.{OneStep}
use Rattle.cl_tx.specs.Nodes.{NodeSeen, Stepped}
use Rattle.cl_tx.specs.Step.{AllStep, Steps, costs_for}
use Rattle.cl_nodes.specs.Laws.{OneTrace}
use Rattle.cl_nodes.specs.Traces.{IsTrace}
use Rattle.cl_audit_walk.specs.declared.cursor.Claim.{Claim}
use Rattle.cl_audit.specs.Agrees.{agree}
use Rattle.cl_audit_results.specs.Audits.{AllAgree, ClaimDiffers, FirstAt, Traced}

-- ---- one more

pub traced_push : (schedule : ScheduleSeen) (node : NodeSeen) (es : List Entry) (rs : List TxResult) (ts : List (List Told)) (mid : NodeSeen) (e : Entry) (s : Stepped) (t : List Told) → Traced schedule node es rs ts mid → Steps schedule mid e s → IsTrace (costs_for schedule mid) mid e s.result.outcome t →
    Traced schedule node (es ++ e ∷ []) (rs ++ s.result ∷ []) (ts ++ t ∷ []) s.node
traced_push schedule node [] rs ts mid e s t h steps is = (
  s,
  t,
  [],
  [],
  subst (λ n. Steps schedule n e s) h.2 steps,
  subst (λ n. IsTrace (costs_for schedule n) n e s.result.outcome t) h.2 is,
  (refl, refl, refl),
  ap (λ l. l ++ s.result ∷ []) h.0,
  ap (λ l. l ++ t ∷ []) h.1,
)
traced_push schedule node (f ∷ es) rs ts mid e s t h steps is = (
  h.0,
  h.1,
  h.2 ++ s.result ∷ [],
  h.3 ++ t ∷ [],
  h.4,
  h.5,
  traced_push schedule h.0.node es h.2 h.3 mid e s t h.6 steps is,
  ap (λ l. l ++ s.result ∷ []) h.7,
  ap (λ l. l ++ t ∷ []) h.8,
)

pub agree_push : (ts : List (List Told)) (cs : List (List Claim)) (t : List Told) (c : List Claim) → AllAgree ts cs → agree t c ≡ true → AllAgree (ts ++ t ∷ []) (cs ++ c ∷ [])
agree_push [] [] t c h k = (k, tt)
agree_push [] (d ∷ cs) t c h k = absurd h
agree_push (s ∷ ts) [] t c h k = absurd h
agree_push (s ∷ ts) (d ∷ cs) t c h k = (h.0, agree_push ts cs t c h.1 k)

-- without the traces
pub all_step : (schedule : ScheduleSeen) (node : NodeSeen) (es : List Entry) (rs : List TxResult) (ts : List (List Told)) (after : NodeSeen) → Traced schedule node es rs ts after → AllStep schedule node es rs after
all_step schedule node [] rs ts after h = (h.0, h.2)
all_step schedule node (e ∷ es) rs ts after h = (h.0, h.2, h.4, all_step schedule h.0.node es h.2 h.3 after h.6, h.7)

-- ---- the first that differs

module _ (one : OneStep) (each : OneTrace) (schedule : ScheduleSeen) where
  -- what an entry makes, and its trace, are one
  pub same_step : (node : NodeSeen) (e : Entry) (s z : Stepped) (t u : List Told) → Steps schedule node e s → IsTrace (costs_for schedule node) node e s.result.outcome t → Steps schedule node e z → IsTrace (costs_for schedule node) node e z.result.outcome u → (s ≡ z) × (t ≡ u)
  same_step node e s z t u a x b y =
      let same : s ≡ z = one schedule node e s z a b in
      (same, each schedule node e s t u a x (subst (λ (w : Stepped). IsTrace (costs_for schedule node) node e w.result.outcome u) (sym same) y))

  module _ (e : Entry) (s : Stepped) (t : List Told) (Here : TxResult → List Told → TxResult → List Claim → Type 0) (c : List Claim) (more : List Entry) (others : List (List Claim)) where
    -- Where something is so of the next entry, whose step and trace these are, it is so there first; the results before are one.
    pub first_at : (node : NodeSeen) (es : List Entry) (rs : List TxResult) (ts : List (List Told)) (mid : NodeSeen) (cs : List (List Claim)) (meant : List TxResult) (told : List (List Told)) (after : NodeSeen) (r : TxResult) (given : List TxResult) →
        Traced schedule node es rs ts mid → AllAgree ts cs → Steps schedule mid e s → IsTrace (costs_for schedule mid) mid e s.result.outcome t → Here s.result t r c →
        Traced schedule node (es ++ e ∷ more) meant told after → FirstAt Here meant told (rs ++ r ∷ given) (cs ++ c ∷ others) (length es)
    first_at node [] rs ts mid (d ∷ cs) meant told after r given h agrees steps is here k = absurd (subst (λ l. AllAgree l (d ∷ cs)) h.1 agrees)
    first_at node [] rs ts mid [] meant told after r given h agrees steps is here k =
        let same = same_step node e s k.0 t k.1 (subst (λ n. Steps schedule n e s) h.2 steps) (subst (λ n. IsTrace (costs_for schedule n) n e s.result.outcome t) h.2 is) k.4 k.5 in
        subst (λ (q : List TxResult × List (List Told) × List TxResult). FirstAt Here q.0 q.1 (q.2 ++ r ∷ given) (c ∷ others) zero) (λ i. (sym k.7 i, sym k.8 i, sym h.0 i))
        (subst (λ (q : TxResult × List Told). Here q.0 q.1 r c) (λ i. ((same.0 i).result, same.1 i)) here)
    first_at node (f ∷ es) rs ts mid [] meant told after r given h agrees steps is here k = absurd (subst (λ l. AllAgree l []) h.8 agrees)
    first_at node (f ∷ es) rs ts mid (d ∷ cs) meant told after r given h agrees steps is here k =
        let same = same_step node f h.0 k.0 h.1 k.1 h.4 h.5 k.4 k.5 in
        let agreed : AllAgree (h.1 ∷ h.3) (d ∷ cs) = subst (λ l. AllAgree l (d ∷ cs)) h.8 agrees in
        let rest = first_at h.0.node es h.2 h.3 mid cs k.2 k.3 after r given h.6 agreed.1 steps is here (subst (λ (z : Stepped). Traced schedule z.node (es ++ e ∷ more) k.2 k.3 after) (sym same.0) k.6) in
        subst (λ (q : List TxResult × List (List Told) × List TxResult). FirstAt Here q.0 q.1 (q.2 ++ r ∷ given) (d ∷ cs ++ c ∷ others) (suc (length es))) (λ i. (sym k.7 i, sym k.8 i, sym h.7 i))
        (sym (ap (λ (z : Stepped). z.result) same.0), subst (λ u. agree u d ≡ true) same.1 agreed.0, rest)

-- ---- claims alone

-- where claims differ first, whatever results are given
pub own : (place : ℕ) (ms : List TxResult) (ts : List (List Told)) (rs : List TxResult) (cs : List (List Claim)) (n : ℕ) → FirstAt (ClaimDiffers place) ms ts rs cs n → FirstAt (ClaimDiffers place) ms ts ms cs n
own place (m ∷ ms) (t ∷ ts) (r ∷ rs) (c ∷ cs) zero h = h
own place (m ∷ ms) (t ∷ ts) (r ∷ rs) (c ∷ cs) (suc n) h = (refl, h.1, own place ms ts rs cs n h.2)
own place ms ts rs cs n h = absurd h

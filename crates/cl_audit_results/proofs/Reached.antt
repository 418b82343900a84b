-- How far the audit of a file has come.
use Rattle.std.proofs.Common.{◌≡◌, ℕ, zero, suc, ◌+◌, ◌<◌, ◌≤◌, List, [], ◌∷◌, ◌++◌, length, take, get_or, refl, sym, ap, subst, ◌∙◌, arith}
use Rattle.cl_c32.specs.declared.principal.Principal.{Principal}
use Rattle.cl_costs.specs.Schedules.{ScheduleSeen}
use Rattle.cl_events.specs.State.{genesis}
use Rattle.cl_meaning.specs.Trace.{Claim as Told}
use Rattle.cl_file.specs.Entries.{height_after, height_of, NeverFall}
use Rattle.cl_file.specs.declared.entry.Entry.{Entry}
use Rattle.cl_tx.specs.Laws.{HeightIsLast, OneStep}
use Rattle.cl_tx.specs.declared.outcome.TxResult.{TxResult}
use Rattle.cl_tx.specs.Nodes.{NodeSeen}
use Rattle.cl_tx.specs.Step.{Steps, costs_for, first_node}
use Rattle.cl_nodes.specs.Known.{IsNodeOf}
use Rattle.cl_nodes.specs.Laws.{OneNode, OneTrace}
use Rattle.cl_nodes.specs.Seen.{Seen}
use Rattle.cl_nodes.specs.Steps.{Makes}
use Rattle.cl_nodes.specs.Traces.{IsTrace}
use Rattle.cl_audit_walk.specs.declared.cursor.Claim.{Claim}
use Rattle.cl_audit.specs.declared.agreeing.Agreement.{Agreement}
use Rattle.cl_audit.specs.declared.agreeing.Agreement.TheVariants.{Agrees, DiffersAt}
use Rattle.cl_audit_entries.specs.Agreeing.{AgreesWith}
use Rattle.cl_audit_results.specs.Audits.{AllAgree, ClaimDiffers, FirstAt, ResultDiffers, Traced}
use Rattle.cl_audit_results.specs.Turns.{IsAudited, DiffersFirst}
use Rattle.cl_audit_results.proofs.Entries.{agree_push, all_step, first_at, own, traced_push}

abbrev pub Holders : Type 0
Holders = List (Principal × ℕ)

-- after these entries, whose traces these claims are, the node is this one
pub record Reaches (schedule : ScheduleSeen) (holders : Holders) (es : List Entry) (cs : List (List Claim)) (rs : List TxResult) (n : Seen) : Type 0 where
  pub node : NodeSeen
  pub is_node : IsNodeOf n node
  pub told : List (List Told)
  pub traced : Traced schedule (first_node holders) es rs told node
  pub agrees : AllAgree told cs

pub reaches_first : (schedule : ScheduleSeen) (holders : Holders) (n : Seen) → n ≡ record { state = genesis holders; contracts = []; height = 0 } → Reaches schedule holders [] [] [] n
reaches_first schedule holders n is = subst (Reaches schedule holders [] [] []) (sym is) (record {
  node = first_node holders;
  is_node = record { known = refl; is = refl };
  told = [];
  traced = (refl, refl, refl);
  agrees = tt;
})

module _ (one : OneNode) (schedule : ScheduleSeen) (holders : Holders) (es : List Entry) (cs : List (List Claim)) (rs : List TxResult) (n : Seen) (so_far : Reaches schedule holders es cs rs n) (e : Entry) (c : List Claim) where
  -- an entry that was made, from the node where it began
  step_from : (r : TxResult) (m : Seen) (makes : Makes schedule n e r m) → Steps schedule so_far.node e (record { node = makes.to; result = r })
  step_from r m makes = subst (λ (x : NodeSeen). Steps schedule x e (record { node = makes.to; result = r })) (one n makes.from so_far.node makes.is_from so_far.is_node) makes.steps

  trace_from : (r : TxResult) (a : Agreement) (agrees : AgreesWith schedule n e r.outcome c a) → IsTrace (costs_for schedule so_far.node) so_far.node e r.outcome agrees.told
  trace_from r a agrees = subst (λ (x : NodeSeen). IsTrace (costs_for schedule x) x e r.outcome agrees.told) (one n agrees.from so_far.node agrees.is_from so_far.is_node) agrees.is_trace

  -- the claims of one more entry are its trace
  pub reaches_next : (r : TxResult) (m : Seen) → IsAudited schedule n e c r m → Reaches schedule holders (es ++ e ∷ []) (cs ++ c ∷ []) (rs ++ r ∷ []) m
  reaches_next r m audited =
      let makes = audited.makes in
      record {
        node = makes.to;
        is_node = makes.is_to;
        told = so_far.told ++ audited.agrees.told ∷ [];
        traced = traced_push schedule (first_node holders) es rs so_far.told so_far.node e (record { node = makes.to; result = r }) audited.agrees.told so_far.traced (step_from r m makes) (trace_from r Agrees audited.agrees);
        agrees = agree_push so_far.told cs audited.agrees.told c so_far.agrees audited.agrees.agrees;
      }

  module _ (steps : OneStep) (each : OneTrace) (more : List Entry) (others : List (List Claim)) (meant : List TxResult) (told : List (List Told)) (after : NodeSeen) (whole : Traced schedule (first_node holders) (es ++ e ∷ more) meant told after) where
    -- they differ
    pub differs_first : (place : ℕ) → DiffersFirst schedule n e c place → FirstAt (ClaimDiffers place) meant told meant (cs ++ c ∷ others) (length es)
    differs_first place differs =
        own place meant told (rs ++ differs.result ∷ []) (cs ++ c ∷ others) (length es)
        (first_at steps each schedule e (record { node = differs.makes.to; result = differs.result }) differs.agrees.told (ClaimDiffers place) c more others (first_node holders) es rs so_far.told so_far.node cs meant told after differs.result []
        so_far.traced so_far.agrees (step_from differs.result differs.after differs.makes) (trace_from differs.result (DiffersAt place) differs.agrees) differs.agrees.agrees whole)

    -- the same beside given results, of which these are the first
    pub differs_beside : (place : ℕ) (r : TxResult) (given : List TxResult) → DiffersFirst schedule n e c place → FirstAt (ClaimDiffers place) meant told (rs ++ r ∷ given) (cs ++ c ∷ others) (length es)
    differs_beside place r given differs =
        first_at steps each schedule e (record { node = differs.makes.to; result = differs.result }) differs.agrees.told (ClaimDiffers place) c more others (first_node holders) es rs so_far.told so_far.node cs meant told after r given
        so_far.traced so_far.agrees (step_from differs.result differs.after differs.makes) (trace_from differs.result (DiffersAt place) differs.agrees) differs.agrees.agrees whole

    -- the claims are the trace, and the given result is another
    pub result_first : (m : Seen) (r g : TxResult) (given : List TxResult) → IsAudited schedule n e c r m → (r ≡ g → ⊥) → FirstAt ResultDiffers meant told (rs ++ g ∷ given) (cs ++ c ∷ others) (length es)
    result_first m r g given audited other =
        first_at steps each schedule e (record { node = audited.makes.to; result = r }) audited.agrees.told ResultDiffers c more others (first_node holders) es rs so_far.told so_far.node cs meant told after g given
        so_far.traced so_far.agrees (step_from r m audited.makes) (trace_from r Agrees audited.agrees) (audited.agrees.agrees, other) whole

-- ---- heights

height_reached : HeightIsLast → (schedule : ScheduleSeen) (holders : Holders) (es : List Entry) (cs : List (List Claim)) (rs : List TxResult) (n : Seen) → Reaches schedule holders es cs rs n → n.height ≡ height_of 0 es
height_reached law schedule holders es cs rs n so_far =
    sym (ap (λ (m : NodeSeen). m.height) so_far.is_node.is)
    ∙ law schedule (record { genesis = holders; epochs = []; entries = es }) rs so_far.node (record { steps = all_step schedule (first_node holders) es rs so_far.told so_far.node so_far.traced })

never_falls_at : (height : ℕ) (es : List Entry) (i : ℕ) (d : Entry) → i < length es → NeverFall height es → height_of height (take i es) ≤ height_after (height_of height (take i es)) (get_or es i d)
never_falls_at height [] i d h rises = absurd (omega (arith, h))
never_falls_at height (e ∷ es) zero d h rises = rises.0
never_falls_at height (e ∷ es) (suc i) d h rises = never_falls_at (height_after height e) es i d (omega (arith, h)) rises.1

-- the next entry of a list whose heights never fall may follow
pub may_follow : HeightIsLast → (schedule : ScheduleSeen) (holders : Holders) (es : List Entry) (cs : List (List Claim)) (rs : List TxResult) (n : Seen) (i : ℕ) (e : Entry) → i < length es → e ≡ get_or es i e → NeverFall 0 es → Reaches schedule holders (take i es) cs rs n → n.height ≤ height_after n.height e
may_follow law schedule holders es cs rs n i e h is_next rises so_far =
    subst (λ (k : ℕ). k ≤ height_after k e) (sym (height_reached law schedule holders (take i es) cs rs n so_far))
    (subst (λ (x : Entry). height_of 0 (take i es) ≤ height_after (height_of 0 (take i es)) x) (sym is_next) (never_falls_at 0 es i e h rises))

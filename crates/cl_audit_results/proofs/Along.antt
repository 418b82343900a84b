-- The audit of a file, one entry after another.
use Rattle.std.specs.Prelude.{◌⊎◌}
use Rattle.std.proofs.Common.{◌≡◌, ℕ, suc, add-one, ◌+◌, ◌<◌, ◌≤◌, List, [], ◌∷◌, ◌++◌, length, take, drop, refl, sym, ap, subst, ◌∙◌, arith}
use Rattle.std.proofs.lemmas.List.{map_push}
use Rattle.cl_costs.specs.Schedules.{ScheduleSeen}
use Rattle.cl_meaning.specs.Trace.{Claim as Told}
use Rattle.cl_file.specs.Files.{FileSeen}
use Rattle.cl_file.specs.declared.entry.Entry.{Entry}
use Rattle.cl_tx.specs.Laws.{OneStep}
use Rattle.cl_tx.specs.declared.outcome.TxResult.{TxResult}
use Rattle.cl_tx.specs.Step.{first_node}
use Rattle.cl_nodes.specs.Laws.{OneNode, OneTrace}
use Rattle.cl_nodes.specs.Seen.{Seen}
use Rattle.cl_audit.specs.declared.trace.Trace.{Trace}
use Rattle.cl_audit_walk.specs.declared.cursor.Claim.{Claim}
use Rattle.cl_audit_results.specs.declared.refusal.AuditRefusal.{AuditRefusal}
use Rattle.cl_audit_results.specs.declared.refusal.AuditRefusal.TheVariants.{Count, Claim as AtClaim, Differs}
use Rattle.cl_audit_results.specs.Audits.{ClaimDiffers, FileTraced, FirstAt, IsAuditRefusal, IsRefusal, ResultDiffers, Traced, claims_of}
use Rattle.cl_audit_results.specs.Turns.{DiffersFirst, IsAudited, IsAuditedAt, IsRefusedFor}
use Rattle.cl_audit_results.proofs.Reached.{Reaches, differs_beside, differs_first, reaches_next, result_first}
use Rattle.cl_audit_results.proofs.Taken.{IsAt, claims_apart, is_at, length_taken}

module _ (one : OneNode) (schedule : ScheduleSeen) (file : FileSeen) (traces : List Trace) (at : ℕ) (here : at < length file.entries) (given : at < length traces) (rs : List TxResult) (n : Seen) (so_far : Reaches schedule file.genesis (take at file.entries) (claims_of (take at traces)) rs n) where
  abbrev e : IsAt file.entries at
  e = is_at file.entries at here

  abbrev t : IsAt traces at
  t = is_at traces at given

  entries_next : take (at + 1) file.entries ≡ take at file.entries ++ e.item ∷ []
  entries_next = rw (add-one, e.taken)

  claims_next : claims_of (take (at + 1) traces) ≡ claims_of (take at traces) ++ t.item.claims.items ∷ []
  claims_next = ap claims_of (rw (add-one, t.taken)) ∙ claims_apart (take at traces) t.item []

  -- the entry here was audited
  pub along_next : (r : TxResult) (m : Seen) → IsAuditedAt schedule n file.entries traces at r m → Reaches schedule file.genesis (take (at + 1) file.entries) (claims_of (take (at + 1) traces)) (rs ++ r ∷ []) m
  along_next r m audited =
      subst (λ (q : List Entry × List (List Claim)). Reaches schedule file.genesis q.0 q.1 (rs ++ r ∷ []) m) (λ i. (sym entries_next i, sym claims_next i))
      (reaches_next one schedule file.genesis (take at file.entries) (claims_of (take at traces)) rs n so_far e.item t.item.claims.items r m (audited e.item t.item e.there t.there))

  module _ (steps : OneStep) (each : OneTrace) where
    -- the file from its first entry, with this one in it
    whole_of : (meant : List TxResult) (told : List (List Told)) (f : FileTraced schedule file meant told) → Traced schedule (first_node file.genesis) (take at file.entries ++ e.item ∷ drop (suc at) file.entries) meant told f.after
    whole_of meant told f = subst (λ (es : List Entry). Traced schedule (first_node file.genesis) es meant told f.after) e.whole f.entries

    placed : (Here : TxResult → List Told → TxResult → List Claim → Type 0) (meant : List TxResult) (told : List (List Told)) (beside : List TxResult) → FirstAt Here meant told beside (claims_of (take at traces) ++ t.item.claims.items ∷ claims_of (drop (suc at) traces)) (length (take at file.entries)) → FirstAt Here meant told beside (claims_of traces) at
    placed Here meant told beside h =
        subst (λ (q : List (List Claim) × ℕ). FirstAt Here meant told beside q.0 q.1)
        (λ i. (sym (ap claims_of t.whole ∙ claims_apart (take at traces) t.item (drop (suc at) traces)) i, length_taken file.entries at (omega (arith, here)) i)) h

    -- its claims differ
    pub along_refused : (why : AuditRefusal) → IsRefusedFor schedule n file.entries traces at why → IsRefusal schedule file traces why
    along_refused Count h = absurd (h e.item t.item e.there t.there)
    along_refused (Differs entry) h = absurd (h e.item t.item e.there t.there)
    along_refused (AtClaim entry claim) h = λ meant told f.
        let refused = h e.item t.item e.there t.there in
        subst (λ (i : ℕ). FirstAt (ClaimDiffers claim) meant told meant (claims_of traces) i) (sym refused.0)
        (placed (ClaimDiffers claim) meant told meant
        (differs_first one schedule file.genesis (take at file.entries) (claims_of (take at traces)) rs n so_far e.item t.item.claims.items steps each (drop (suc at) file.entries) (claims_of (drop (suc at) traces)) meant told f.after (whole_of meant told f) claim refused.1))

    -- beside results that are given, of which these are the first
    module _ (results : List TxResult) (r : IsAt results at) (first : take at results ≡ rs) where
      given_whole : results ≡ rs ++ r.item ∷ drop (suc at) results
      given_whole = r.whole ∙ ap (λ (q : List TxResult). q ++ r.item ∷ drop (suc at) results) first

      pub beside_refused : (why : AuditRefusal) → IsRefusedFor schedule n file.entries traces at why → IsAuditRefusal schedule file traces results why
      beside_refused Count h = absurd (h e.item t.item e.there t.there)
      beside_refused (Differs entry) h = absurd (h e.item t.item e.there t.there)
      beside_refused (AtClaim entry claim) h = λ meant told f.
          let refused = h e.item t.item e.there t.there in
          subst (λ (i : ℕ). FirstAt (ClaimDiffers claim) meant told results (claims_of traces) i) (sym refused.0)
          (placed (ClaimDiffers claim) meant told results
          (subst (λ (q : List TxResult). FirstAt (ClaimDiffers claim) meant told q (claims_of (take at traces) ++ t.item.claims.items ∷ claims_of (drop (suc at) traces)) (length (take at file.entries))) (sym given_whole)
          (differs_beside one schedule file.genesis (take at file.entries) (claims_of (take at traces)) rs n so_far e.item t.item.claims.items steps each (drop (suc at) file.entries) (claims_of (drop (suc at) traces)) meant told f.after (whole_of meant told f) claim r.item (drop (suc at) results) refused.1)))

      -- the claims are the trace, and the result is another
      pub beside_differs : (m : Seen) (found : TxResult) → IsAuditedAt schedule n file.entries traces at found m → (found ≡ r.item → ⊥) → IsAuditRefusal schedule file traces results (Differs at)
      beside_differs m found audited other meant told f =
          placed ResultDiffers meant told results
          (subst (λ (q : List TxResult). FirstAt ResultDiffers meant told q (claims_of (take at traces) ++ t.item.claims.items ∷ claims_of (drop (suc at) traces)) (length (take at file.entries))) (sym given_whole)
          (result_first one schedule file.genesis (take at file.entries) (claims_of (take at traces)) rs n so_far e.item t.item.claims.items steps each (drop (suc at) file.entries) (claims_of (drop (suc at) traces)) meant told f.after (whole_of meant told f) m found r.item (drop (suc at) results) (audited e.item t.item e.there t.there) other))

-- Claims put to those of their entries, one after another.
use Rattle.std.specs.Prelude.{nat_eq, if◌then◌else◌, filter_map}
use Rattle.std.specs.List.{cons_option}
use Rattle.std.proofs.Common.{◌≡◌, ℕ, zero, suc, ◌+◌, ◌<◌, Bool, List, [], ◌∷◌, ◌++◌, set, get_or, Option, Some, None, refl, ap, ◌∙◌, arith}
use Rattle.cl_claims.specs.declared.spelled.ClaimLine.{ClaimLine}
use Rattle.cl_audit_walk.specs.declared.cursor.Claim.{Claim}
use Rattle.cl_audit_reply.specs.Grouped.{claim_at, claim_of, grouped, grouped_from}
use Rattle.cl_audit_reply.proofs.Apart.{eq_false, eq_true}

pushed : {A : Type 0} (o : Option A) (xs ys : List A) → cons_option o (xs ++ ys) ≡ cons_option o xs ++ ys
pushed None xs ys = refl
pushed (Some x) xs ys = refl

module _ (l : ClaimLine) where
  pub at_own : (k : ℕ) → l.entry ≡ k → claim_at k l ≡ Some (claim_of l)
  at_own k e = ap (λ (b : Bool). if b then Some (claim_of l) else None) (eq_true l.entry k e)

  pub at_other : (k : ℕ) → (l.entry ≡ k → ⊥) → claim_at k l ≡ None
  at_other k e = ap (λ (b : Bool). if b then Some (claim_of l) else None) (eq_false l.entry k e)

  -- the claims of its own entry have one more, those of others are as they were
  own : (ls : List ClaimLine) (k : ℕ) → l.entry ≡ k → filter_map (claim_at k) (ls ++ l ∷ []) ≡ filter_map (claim_at k) ls ++ claim_of l ∷ []
  own [] k e = ap (λ (o : Option Claim). cons_option o []) (at_own k e)
  own (m ∷ ms) k e = ap (cons_option (claim_at k m)) (own ms k e) ∙ pushed (claim_at k m) (filter_map (claim_at k) ms) (claim_of l ∷ [])

  other : (ls : List ClaimLine) (k : ℕ) → (l.entry ≡ k → ⊥) → filter_map (claim_at k) (ls ++ l ∷ []) ≡ filter_map (claim_at k) ls
  other [] k e = ap (λ (o : Option Claim). cons_option o []) (at_other k e)
  other (m ∷ ms) k e = ap (cons_option (claim_at k m)) (other ms k e)

  behind : (ls : List ClaimLine) (k n : ℕ) → l.entry < k → grouped_from (ls ++ l ∷ []) k n ≡ grouped_from ls k n
  behind ls k zero h = refl
  behind ls k (suc n) h = λ i. other ls k (λ e. omega (arith, e, h)) i ∷ behind ls (k + 1) n (omega (arith, h)) i

  put_from : (ls : List ClaimLine) (k n j : ℕ) → l.entry ≡ k + j → j < n → grouped_from (ls ++ l ∷ []) k n ≡ set (grouped_from ls k n) j (get_or (grouped_from ls k n) j [] ++ claim_of l ∷ [])
  put_from ls k zero j e h = absurd (omega (arith, h))
  put_from ls k (suc n) zero e h = λ i. own ls k (omega (arith, e)) i ∷ behind ls (k + 1) n (omega (arith, e)) i
  put_from ls k (suc n) (suc j) e h = λ i. other ls k (λ q. omega (arith, e, q)) i ∷ put_from ls (k + 1) n j (omega (arith, e)) (omega (arith, h)) i

  pub put_to : (ls : List ClaimLine) (count : ℕ) → l.entry < count → grouped (ls ++ l ∷ []) count ≡ set (grouped ls count) l.entry (get_or (grouped ls count) l.entry [] ++ claim_of l ∷ [])
  put_to ls count h = put_from ls 0 count l.entry (omega arith) h

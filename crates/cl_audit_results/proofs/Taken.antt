-- Lists cut at the entry that is audited.
use Rattle.std.proofs.Common.{◌≡◌, ℕ, zero, suc, ◌+◌, ◌<◌, ◌≤◌, List, [], ◌∷◌, ◌++◌, length, take, drop, get_or, refl, sym, ap, subst, ◌∙◌, arith, add-one}
use Rattle.cl_costs.specs.Schedules.{ScheduleSeen}
use Rattle.cl_file.specs.Files.{FileSeen}
use Rattle.cl_file.specs.declared.entry.Entry.{Entry}
use Rattle.cl_tx.specs.declared.outcome.TxResult.{TxResult}
use Rattle.cl_audit.specs.declared.trace.Trace.{Trace}
use Rattle.cl_audit_results.specs.Audits.{AreAudited, claims_of}
use Rattle.cl_audit_results.proofs.Entries.{all_step}
use Rattle.cl_audit_results.proofs.Reached.{Reaches}
use Rattle.cl_nodes.specs.Seen.{Seen}

-- what is at a place of a list, behind what is before it
pub record IsAt {A : Type 0} (xs : List A) (i : ℕ) : Type 0 where
  pub item : A
  pub there : item ≡ get_or xs i item
  pub taken : take (suc i) xs ≡ take i xs ++ item ∷ []
  pub whole : xs ≡ take i xs ++ item ∷ drop (suc i) xs

pub is_at : {A : Type 0} (xs : List A) (i : ℕ) → i < length xs → IsAt xs i
is_at [] i h = absurd (omega (arith, h))
is_at (x ∷ xs) zero h = record { item = x; there = refl; taken = refl; whole = refl }
is_at (x ∷ xs) (suc i) h =
    let rest = is_at xs i (omega (arith, h)) in
    record { item = rest.item; there = rest.there; taken = ap (λ ys. x ∷ ys) rest.taken; whole = ap (λ ys. x ∷ ys) rest.whole }

-- there is one there
pub items_same : {A : Type 0} (xs : List A) (i : ℕ) (a b : A) → i < length xs → a ≡ get_or xs i a → b ≡ get_or xs i b → a ≡ b
items_same [] i a b h p q = absurd (omega (arith, h))
items_same (x ∷ xs) zero a b h p q = p ∙ sym q
items_same (x ∷ xs) (suc i) a b h p q = items_same xs i a b (omega (arith, h)) p q

-- so many first ones, and it
pub taken_next : {A : Type 0} (xs : List A) (i : ℕ) (r : IsAt xs i) (x : A) → i < length xs → x ≡ r.item → take (i + 1) xs ≡ take i xs ++ x ∷ []
taken_next xs i r x h is = ap (λ (n : ℕ). take n xs) (add-one i) ∙ r.taken ∙ ap (λ y. take i xs ++ y ∷ []) (sym is)

pub length_taken : {A : Type 0} (xs : List A) (i : ℕ) → i ≤ length xs → length (take i xs) ≡ i
length_taken xs zero h = refl
length_taken [] (suc i) h = absurd (omega (arith, h))
length_taken (x ∷ xs) (suc i) h = ap suc (length_taken xs i (omega (arith, h)))

pub all_taken : {A : Type 0} (xs : List A) (i : ℕ) → length xs ≤ i → take i xs ≡ xs
all_taken [] zero h = refl
all_taken [] (suc i) h = refl
all_taken (x ∷ xs) zero h = absurd (omega (arith, h))
all_taken (x ∷ xs) (suc i) h = ap (λ ys. x ∷ ys) (all_taken xs i (omega (arith, h)))

-- the claims of traces before one, of it and of those behind it
pub claims_apart : (ts : List Trace) (t : Trace) (us : List Trace) → claims_of (ts ++ t ∷ us) ≡ claims_of ts ++ t.claims.items ∷ claims_of us
claims_apart [] t us = refl
claims_apart (s ∷ ts) t us = ap (λ cs. s.claims.items ∷ cs) (claims_apart ts t us)

pub claims_length : (traces : List Trace) → length (claims_of traces) ≡ length traces
claims_length [] = refl
claims_length (t ∷ ts) = ap suc (claims_length ts)

-- after all entries it is what the auditor says
pub audited_all : (schedule : ScheduleSeen) (file : FileSeen) (traces : List Trace) (results : List TxResult) (n : Seen) → Reaches schedule file.genesis file.entries (claims_of traces) results n → AreAudited schedule file traces results
audited_all schedule file traces results n reached = record {
  after = reached.node;
  runs = record { steps = all_step schedule _ file.entries results reached.told reached.node reached.traced };
  told = reached.told;
  traced = record { after = reached.node; entries = reached.traced };
  agree = reached.agrees;
}

-- the same where all were taken
pub audited_taken : (schedule : ScheduleSeen) (file : FileSeen) (traces : List Trace) (results rs : List TxResult) (n : Seen) (at : ℕ) → length file.entries ≤ at → length traces ≤ at → rs ≡ results → Reaches schedule file.genesis (take at file.entries) (claims_of (take at traces)) rs n → AreAudited schedule file traces results
audited_taken schedule file traces results rs n at past others is reached =
    audited_all schedule file traces results n
    (subst (λ (q : List Entry × List Trace × List TxResult). Reaches schedule file.genesis q.0 (claims_of q.1) q.2 n)
    (λ i. (all_taken file.entries at past i, all_taken traces at others i, is i)) reached)

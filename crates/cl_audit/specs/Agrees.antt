-- A trace as it is observed, and whether it agrees with claims.
use Rattle.std.specs.Prelude.{◌≡◌, ℕ, ◌+◌, ◌&&◌, Bool, true, false, List, [], ◌∷◌}
use Rattle.cl_meaning.specs.Limits.{Limited}
use Rattle.cl_meaning.specs.Limits as plain
use Rattle.cl_meaning.specs.Trace.{Claim as Told}
use Rattle.cl_walks.specs.Walked.{Rules, Walked, Gave, Threw, AbortedBy, Passed, Lost}
use Rattle.cl_audit_walk.specs.declared.cursor.Claim.{Claim}
use Rattle.cl_audit_walk.specs.declared.cursor.Cursor.{Cursor}
use Rattle.cl_audit_walk.specs.Looking.{is_claim, look}
use Rattle.cl_audit.specs.declared.agreeing.Agreement.{Agreement}
use Rattle.cl_audit.specs.declared.agreeing.Agreement.TheVariants.{Agrees, DiffersAt}

-- what an observer keeps after these nodes
abbrev pub looks : {K : Type 0} → Rules K → List Told → K → K
looks R [] k = k
looks R (c ∷ cs) k = looks R cs (R.look c.span c.value k)

abbrev pub with_kept : {K A : Type 0} → Limited A → K → Walked K A
with_kept (plain.Gave v s p) k = Gave v s (record { purse = p; kept = k })
with_kept (plain.Threw v s p) k = Threw v s (record { purse = p; kept = k })
with_kept (plain.AbortedBy why p) k = AbortedBy why (record { purse = p; kept = k })
with_kept (plain.Passed over p) k = Passed over (record { purse = p; kept = k })
with_kept (plain.Lost p) k = Lost (record { purse = p; kept = k })

-- a cursor after these nodes
abbrev pub follows : List Told → Cursor → Cursor
follows [] c = c
follows (t ∷ ts) c = follows ts (look t.span t.value c)

-- each node is the claim at its place, and there are as many
abbrev pub agree : List Told → List Claim → Bool
agree [] [] = true
agree [] (c ∷ cs) = false
agree (t ∷ ts) [] = false
agree (t ∷ ts) (c ∷ cs) = is_claim t.span t.value c && agree ts cs

abbrev pub DiffersBehind : Bool → ℕ → (ℕ → Type 0) → Type 0
DiffersBehind false n rest = n ≡ 0
DiffersBehind true n rest = (m : ℕ) × (n ≡ m + 1) × rest m

-- The first so many nodes are the claims at their places, and behind them the next node isn't the next claim, or just one of
-- the two has no more.
abbrev pub FirstDifference : List Told → List Claim → ℕ → Type 0
FirstDifference [] [] n = ⊥
FirstDifference [] (c ∷ cs) n = n ≡ 0
FirstDifference (t ∷ ts) [] n = n ≡ 0
FirstDifference (t ∷ ts) (c ∷ cs) n = DiffersBehind (is_claim t.span t.value c) n (FirstDifference ts cs)

abbrev pub IsAgreement : List Told → List Claim → Agreement → Type 0
IsAgreement ts cs Agrees = agree ts cs ≡ true
IsAgreement ts cs (DiffersAt n) = FirstDifference ts cs n

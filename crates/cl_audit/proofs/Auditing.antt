-- How far the claims of a call agree with its trace.
use Rattle.std.proofs.Common.{◌≡◌, ◌≢◌, Bool, true, false, List, [], ◌∷◌, Result, Ok, Err, refl, sym, ap, ◌∙◌}
use Rattle.std.specs.Prelude.{slice_get}
use Rattle.cl_events.specs.State.{State}
use Rattle.cl_meaning.specs.Limits.{Limited}
use Rattle.cl_meaning.specs.Limits as plain
use Rattle.cl_meaning.specs.Trace.{Claim as Told}
use Rattle.cl_walks.specs.declared.stop.Stop.{Stop}
use Rattle.cl_walks.specs.declared.stop.Stop.TheVariants as stops
use Rattle.cl_walks.specs.Walked.{Book, Walked, Gave, Threw, AbortedBy, Passed, Lost}
use Rattle.cl_walks.specs.Ends.{Ends}
use Rattle.cl_audit_steps.specs.declared.scope.Scope.{Scope}
use Rattle.cl_audit_walk.specs.declared.cursor.Cursor.{Cursor}
use Rattle.cl_audit_walk.specs.Looking.{agrees, stepped, looking, look}
use Rattle.cl_audit_walk.specs.Evaluates.{rules}
use Rattle.cl_audit.specs.Agrees.{looks, with_kept, follows}

abbrev kept_in : {K A : Type 0} → Walked K A → K
kept_in (Gave v s b) = b.kept
kept_in (Threw v s b) = b.kept
kept_in (AbortedBy why b) = b.kept
kept_in (Passed over b) = b.kept
kept_in (Lost b) = b.kept

kept_with : {K A : Type 0} (l : Limited A) (k : K) → kept_in (with_kept l k) ≡ k
kept_with (plain.Gave v s p) k = refl
kept_with (plain.Threw v s p) k = refl
kept_with (plain.AbortedBy why p) k = refl
kept_with (plain.Passed over p) k = refl
kept_with (plain.Lost p) k = refl

kept_at : {K A : Type 0} (w : Walked K A) (r : Result A Stop) (b : Book K) (s : State) → r ≢ Err stops.NoMemory → Ends w r b s → b.kept ≡ kept_in w
kept_at w (Ok v) b s n h = sym (ap kept_in h)
kept_at w (Err (stops.Thrown v)) b s n h = sym (ap kept_in h)
kept_at w (Err (stops.Aborted why)) b s n h = sym (ap kept_in h)
kept_at w (Err (stops.CostLimit over)) b s n h = sym (ap kept_in h)
kept_at w (Err stops.Stuck) b s n h = sym (ap kept_in h)
kept_at w (Err stops.NoMemory) b s n h = absurd (n refl)

looks_follow : (S : Scope) (ts : List Told) (c : Cursor) → looks (rules S) ts c ≡ follows ts c
looks_follow S [] c = refl
looks_follow S (t ∷ ts) c = looks_follow S ts (look t.span t.value c)

stepped_claims : (b : Bool) (c : Cursor) → (stepped b c).claims ≡ c.claims
stepped_claims true c = refl
stepped_claims false c = refl

look_claims : (b : Bool) (t : Told) (c : Cursor) → (looking b t.span t.value c).claims ≡ c.claims
look_claims true t c = refl
look_claims false t c = stepped_claims (agrees t.span t.value (slice_get c.claims.now c.at)) c

same_claims : (ts : List Told) (c : Cursor) → (follows ts c).claims ≡ c.claims
same_claims [] c = refl
same_claims (t ∷ ts) c = same_claims ts (look t.span t.value c) ∙ look_claims c.differs t c

-- the cursor behind a call that began at the first claim
pub behind_call : {A : Type 0} (S : Scope) (l : Limited A) (ts : List Told) (old : Cursor) (r : Result A Stop) (b : Book Cursor) (s : State) → r ≢ Err stops.NoMemory → old.at ≡ 0 → old.differs ≡ false → Ends (with_kept l (looks (rules S) ts old)) r b s → b.kept ≡ follows ts (record b.kept { at = 0; differs = false })
behind_call S l ts old r b s n at agreed h =
    is ∙ ap (follows ts) first
  where
    is : b.kept ≡ follows ts old
    is = kept_at (with_kept l (looks (rules S) ts old)) r b s n h ∙ kept_with l (looks (rules S) ts old) ∙ looks_follow S ts old

    claims : b.kept.claims ≡ old.claims
    claims = ap (λ (c : Cursor). c.claims) is ∙ same_claims ts old

    first : old ≡ record b.kept { at = 0; differs = false }
    first = λ i. record { claims = sym claims i; at = at i; differs = agreed i }

pub claims_of_call : {A : Type 0} (S : Scope) (l : Limited A) (ts : List Told) (old : Cursor) (r : Result A Stop) (b : Book Cursor) (s : State) → r ≢ Err stops.NoMemory → Ends (with_kept l (looks (rules S) ts old)) r b s → b.kept.claims ≡ old.claims
claims_of_call S l ts old r b s n h =
    ap (λ (c : Cursor). c.claims) (kept_at (with_kept l (looks (rules S) ts old)) r b s n h ∙ kept_with l (looks (rules S) ts old) ∙ looks_follow S ts old) ∙ same_claims ts old

-- How far a trace agrees with its claims.
use Rattle.std.proofs.Common.{◌≡◌, ◌≢◌, ◌⊎◌, inl, inr, ℕ, ◌+◌, ◌<◌, ◌≤◌, Bool, true, false, List, [], ◌∷◌, length, get_or, drop, Some, None, refl, sym, ap, ◌∙◌, subst, arith}
use Rattle.std.proofs.lemmas.List.{drop_all}
use Rattle.std.proofs.lemmas.Option.{slice_get_cases}
use Rattle.std.specs.Prelude.{slice_get, ◌&&◌}
use Rattle.cl_values.proofs.Lists.{next_part}
use Rattle.cl_meaning.specs.Trace.{Claim as Told}
use Rattle.cl_audit_walk.specs.declared.cursor.Claim.{Claim}
use Rattle.cl_audit_walk.specs.declared.cursor.Cursor.{Cursor}
use Rattle.cl_audit_walk.specs.Looking.{is_claim, agrees, stepped, looking, look}
use Rattle.cl_audit.specs.Agrees.{follows, agree, DiffersBehind, FirstDifference}

-- once it differs, it stays
stays : (ts : List Told) (c : Cursor) → c.differs ≡ true → follows ts c ≡ c
stays [] c h = refl
stays (t ∷ ts) c h = ap (follows ts) (ap (λ b. looking b t.span t.value c) h) ∙ stays ts c h

module _ (k : Cursor) where
  -- so many claims agree
  abbrev pub here : ℕ → Cursor
  here i = record k { at = i; differs = false }

  -- at the end all agree, or this is the first that doesn't
  pub data Out (ts : List Told) (i : ℕ) (f : Cursor) : Type 0 where
    All : f.differs ≡ false → f.at ≡ length k.claims.now → agree ts (drop i k.claims.now) ≡ true → Out ts i f
    First : (n : ℕ) → f.at ≡ i + n → (f.differs ≡ true) ⊎ (f.at ≢ length k.claims.now) → FirstDifference ts (drop i k.claims.now) n → Out ts i f

  -- a node that isn't the next claim
  other : (t : Told) (ts : List Told) (i : ℕ) → look t.span t.value (here i) ≡ record k { at = i; differs = true } → FirstDifference (t ∷ ts) (drop i k.claims.now) 0 → Out (t ∷ ts) i (follows (t ∷ ts) (here i))
  other t ts i h first =
      let same : follows (t ∷ ts) (here i) ≡ record k { at = i; differs = true } = ap (follows ts) h ∙ stays ts (record k { at = i; differs = true }) refl in
      let at : i ≡ i + 0 = omega arith in
      subst (λ f. Out (t ∷ ts) i f) (sym same) (First 0 at (inl refl) first)

  -- one that is
  agreed : (t : Told) (ts : List Told) (i : ℕ) (x : Claim) → drop i k.claims.now ≡ x ∷ drop (i + 1) k.claims.now → is_claim t.span t.value x ≡ true → look t.span t.value (here i) ≡ here (i + 1) → Out ts (i + 1) (follows ts (here (i + 1))) → Out (t ∷ ts) i (follows (t ∷ ts) (here i))
  agreed t ts i x left is h (All d a g) =
      subst (λ f. Out (t ∷ ts) i f) (sym (ap (follows ts) h)) (All d a (ap (agree (t ∷ ts)) left ∙ ap (λ b. b && agree ts (drop (i + 1) k.claims.now)) is ∙ g))
  agreed t ts i x left is h (First n a why first) =
      let at : (follows ts (here (i + 1))).at ≡ i + (n + 1) = omega (arith, a) in
      subst (λ f. Out (t ∷ ts) i f) (sym (ap (follows ts) h)) (First (n + 1) at why (subst (λ cs. FirstDifference (t ∷ ts) cs (n + 1)) (sym left) (subst (λ b. DiffersBehind b (n + 1) (FirstDifference ts (drop (i + 1) k.claims.now))) (sym is) (n, refl, first))))

  by_claim : (t : Told) (ts : List Told) (i : ℕ) (x : Claim) (b : Bool) → drop i k.claims.now ≡ x ∷ drop (i + 1) k.claims.now → slice_get k.claims.now i ≡ Some x → is_claim t.span t.value x ≡ b → Out ts (i + 1) (follows ts (here (i + 1))) → Out (t ∷ ts) i (follows (t ∷ ts) (here i))
  by_claim t ts i x true left got is out = agreed t ts i x left is (ap (λ o. stepped (agrees t.span t.value o) (here i)) got ∙ ap (λ b. stepped b (here i)) is) out
  by_claim t ts i x false left got is out =
      other t ts i (ap (λ o. stepped (agrees t.span t.value o) (here i)) got ∙ ap (λ b. stepped b (here i)) is)
      (subst (λ cs. FirstDifference (t ∷ ts) cs 0) (sym left) (subst (λ b. DiffersBehind b 0 (FirstDifference ts (drop (i + 1) k.claims.now))) (sym is) refl))

  pub compared : (ts : List Told) (i : ℕ) → i ≤ length k.claims.now → Out ts i (follows ts (here i))
  compared [] i within = at_end (slice_get_cases k.claims.now i).1
    where
      at_end : ((x : Claim) × (i < length k.claims.now) × (slice_get k.claims.now i ≡ Some x) × (get_or k.claims.now i x ≡ x)) ⊎ ((length k.claims.now ≤ i) × (slice_get k.claims.now i ≡ None)) → Out [] i (here i)
      at_end (inl e) =
          let at : i ≡ i + 0 = omega arith in
          let less : i < length k.claims.now = e.1 in
          let apart : i ≢ length k.claims.now = omega (arith, less) in
          First 0 at (inr apart) (subst (λ cs. FirstDifference [] cs 0) (sym (next_part k.claims.now i e.0 e.1 (sym e.3))) refl)
      at_end (inr e) =
          let past : length k.claims.now ≤ i = e.0 in
          let at : i ≡ length k.claims.now = omega (arith, past, within) in
          All refl at (ap (agree []) (drop_all i k.claims.now e.0))
  compared (t ∷ ts) i within = at (slice_get_cases k.claims.now i).1 (compared ts (i + 1))
    where
      at : ((x : Claim) × (i < length k.claims.now) × (slice_get k.claims.now i ≡ Some x) × (get_or k.claims.now i x ≡ x)) ⊎ ((length k.claims.now ≤ i) × (slice_get k.claims.now i ≡ None)) → (i + 1 ≤ length k.claims.now → Out ts (i + 1) (follows ts (here (i + 1)))) → Out (t ∷ ts) i (follows (t ∷ ts) (here i))
      at (inl e) on =
          let less : i < length k.claims.now = e.1 in
          let next : i + 1 ≤ length k.claims.now = omega (arith, less) in
          by_claim t ts i e.0 (is_claim t.span t.value e.0) (next_part k.claims.now i e.0 e.1 (sym e.3)) e.2 refl (on next)
      at (inr e) on = other t ts i (ap (λ o. stepped (agrees t.span t.value o) (here i)) e.1) (subst (λ cs. FirstDifference (t ∷ ts) cs 0) (sym (drop_all i k.claims.now e.0)) refl)

-- from the first claim on
pub from_first : (k : Cursor) (ts : List Told) → Out k ts 0 (follows ts (here k 0))
from_first k ts = compared k ts 0 (omega arith)

-- where no node differed and no claim is left
pub all_agree : (k f : Cursor) (ts : List Told) → f ≡ follows ts (here k 0) → f.differs ≡ false → f.at ≡ length k.claims.now → agree ts k.claims.now ≡ true
all_agree k f ts h d a = by (from_first k ts)
  where
    by : Out k ts 0 (follows ts (here k 0)) → agree ts k.claims.now ≡ true
    by (All d' a' g) = g
    by (First n at (inl e) first) = absurd (differ (follows ts (here k 0)).differs e (ap (λ (c : Cursor). c.differs) (sym h) ∙ d))
      where
        differ : (b : Bool) → b ≡ true → b ≡ false → ⊥
        differ b p q = cc
    by (First n at (inr e) first) = absurd (e (ap (λ (c : Cursor). c.at) (sym h) ∙ a))

-- where one did, or one is left
pub first_apart : (k f : Cursor) (ts : List Told) → f ≡ follows ts (here k 0) → (f.differs ≡ true) ⊎ (f.at ≢ length k.claims.now) → FirstDifference ts k.claims.now f.at
first_apart k f ts h why = by (from_first k ts)
  where
    by : Out k ts 0 (follows ts (here k 0)) → FirstDifference ts k.claims.now f.at
    by (First n at w first) =
        let place : f.at ≡ n = ap (λ (c : Cursor). c.at) h ∙ plain n at in
        subst (λ m. FirstDifference ts k.claims.now m) (sym place) first
      where
        plain : (n : ℕ) → (follows ts (here k 0)).at ≡ 0 + n → (follows ts (here k 0)).at ≡ n
        plain n e = omega (arith, e)
    by (All d a g) = absurd (not_so d a why)
      where
        not_so : (follows ts (here k 0)).differs ≡ false → (follows ts (here k 0)).at ≡ length k.claims.now → (f.differs ≡ true) ⊎ (f.at ≢ length k.claims.now) → ⊥
        not_so d a (inl e) = apart f.differs e (ap (λ (c : Cursor). c.differs) h ∙ d)
          where
            apart : (b : Bool) → b ≡ true → b ≡ false → ⊥
            apart b p q = cc
        not_so d a (inr e) = e (ap (λ (c : Cursor). c.at) h ∙ a)

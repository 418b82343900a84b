-- What a limit stops, and what it leaves as it is.
use Rattle.std.proofs.Common.{◌≡◌, ℕ, ◌+◌, ◌<◌, ◌≤◌, List, [], ◌∷◌, ◌++◌, Some, refl, arith, ap, sym, ◌∙◌, subst, append_assoc, append-nil}
use Rattle.std.specs.Prelude.{Err, find, nat_lt}
use Rattle.std.specs.List.{AllByRecursion as ByRecursion}
use Rattle.std.proofs.lemmas.Bool.{lt-ltb, le-ltb}
use Rattle.std.proofs.lemmas.List.Elements.{recursion_from_All}
use Rattle.cl_shapes.specs.declared.cost.Cost5.{Cost5}
use Rattle.cl_shapes.specs.declared.cost.Dimension.{Dimension}
use Rattle.cl_shapes.specs.declared.cost.Dimension.TheVariants.{Runtime, ReadCount, ReadLength, WriteCount, WriteLength}
use Rattle.cl_shapes.specs.declared.limit.Over.{Over}
use Rattle.cl_shapes.specs.declared.name.CostName.{CostName}
use Rattle.cl_shapes.specs.Costs.{plus, part, first_above, IsAtMost, IsFirstAbove}
use Rattle.cl_shapes.specs.Limits.{Purse, spend}
use Rattle.cl_shapes.proofs.Sums.{plus_assoc, plus_zero, zero_plus}
use Rattle.cl_events.specs.State.{State}
use Rattle.cl_meaning.specs.Answers.{Outcome, Given, Thrown, Aborted, Wrong, Deeper, Answer, Note, Charged, Ended}
use Rattle.cl_meaning.specs.Limits.{Costs, Charge, cost_of, charges_of, cost_sum, Paid, Within, Past, paid_by, pay, Limited, Passed, limit_on, limited}
use Rattle.cl_meaning.specs.Trace.{claims, trace_of}
use Rattle.cl_meaning.specs.Prefixes.{spent_after, IsWithin, IsFirstOver, claims_in}
use Rattle.cl_meaning.proofs.LimitLaws.{pay-append, claims-append}
use Rattle.cl_meaning.proofs.Prefixes.{paid_all, spend_found, IsPaid, paid_is}

-- ---- sums

pub charges_of-append : (log more : List Note) → charges_of (log ++ more) ≡ charges_of log ++ charges_of more
charges_of-append [] more = refl
charges_of-append (Charged name n ∷ log) more = ap (λ cs. (name, n) ∷ cs) (charges_of-append log more)
charges_of-append (Ended span v ∷ log) more = charges_of-append log more

pub cost_sum-append : (costs : Costs) (cs ds : List Charge) → cost_sum costs (cs ++ ds) ≡ plus (cost_sum costs cs) (cost_sum costs ds)
cost_sum-append costs [] ds = sym (zero_plus (cost_sum costs ds))
cost_sum-append costs (c ∷ cs) ds = ap (plus (cost_of costs c.0 c.1)) (cost_sum-append costs cs ds) ∙ sym (plus_assoc (cost_of costs c.0 c.1) (cost_sum costs cs) (cost_sum costs ds))

-- what is spent after two logs
pub spent_after-append : (costs : Costs) (p : Purse) (log more : List Note) → spent_after costs p (log ++ more) ≡ plus (spent_after costs p log) (cost_sum costs (charges_of more))
spent_after-append costs p log more =
    ap (λ cs. plus p.spent (cost_sum costs cs)) (charges_of-append log more)
    ∙ (ap (plus p.spent) (cost_sum-append costs (charges_of log) (charges_of more)) ∙ sym (plus_assoc p.spent (cost_sum costs (charges_of log)) (cost_sum costs (charges_of more))))

below_sum : (a b l : Cost5) → IsAtMost (plus a b) l → IsAtMost a l
below_sum a b l h = record {
  runtime = omega (arith, h.runtime);
  read_count = omega (arith, h.read_count);
  read_length = omega (arith, h.read_length);
  write_count = omega (arith, h.write_count);
  write_length = omega (arith, h.write_length);
}

-- a limit that the whole sum is within
pub enough_within : (costs : Costs) (p : Purse) (log : List Note) → IsAtMost (spent_after costs p log) p.limit → IsWithin costs p log
enough_within costs p log h = record {
  each = λ front back e.
      below_sum (spent_after costs p front) (cost_sum costs (charges_of back)) p.limit
      (subst (λ c. IsAtMost c p.limit) (ap (spent_after costs p) e ∙ spent_after-append costs p front back) h);
}

-- ---- dimensions

above_most : (a l : Cost5) (d : Dimension) → IsAtMost a l → part d l < part d a → ⊥
above_most a l Runtime h above = omega (arith, h.runtime, above)
above_most a l ReadCount h above = omega (arith, h.read_count, above)
above_most a l ReadLength h above = omega (arith, h.read_length, above)
above_most a l WriteCount h above = omega (arith, h.write_count, above)
above_most a l WriteLength h above = omega (arith, h.write_length, above)

find_past : (l a : Cost5) (d : Dimension) (before after : List Dimension) → ByRecursion (λ e. part e a ≤ part e l) before → part d l < part d a → find (λ e. nat_lt (part e l) (part e a)) (before ++ d ∷ after) ≡ Some d
find_past l a d [] after within above = rw (lt-ltb (part d l) (part d a) above) refl
find_past l a d (e ∷ before) after within above = rw (le-ltb (part e l) (part e a) within.0) (find_past l a d before after within.1 above)

pub first_is : (l a : Cost5) (d : Dimension) → IsFirstAbove l a d → first_above l a ≡ Some d
first_is l a d first =
    ap (find (λ e. nat_lt (part e l) (part e a))) first.order
    ∙ find_past l a d first.before first.after (recursion_from_All (λ e. part e a ≤ part e l) first.before first.within) first.above

-- ---- what is paid

one_behind : (front : List Note) (x : Note) (back : List Note) → front ++ x ∷ back ≡ (front ++ x ∷ []) ++ back
one_behind front x back = sym (append_assoc front (x ∷ []) back)

not_both : (costs : Costs) (p : Purse) (log : List Note) (over : Over) → IsWithin costs p log → IsFirstOver costs p log over → ⊥
not_both costs p log over within first =
    let most : IsAtMost (spent_after costs p (first.front ++ Charged first.name first.number ∷ [])) p.limit =
    within.each (first.front ++ Charged first.name first.number ∷ []) first.back (first.order ∙ one_behind first.front (Charged first.name first.number) first.back) in
    above_most over.attempted p.limit over.dimension (subst (λ c. IsAtMost c p.limit) (sym first.sum) most) first.first.above

within_paid : (costs : Costs) (p : Purse) (log : List Note) (r : Paid) → IsWithin costs p log → IsPaid costs p log r → r ≡ Within (paid_all costs p log)
within_paid costs p log (Within q) within paid = ap Within paid.0
within_paid costs p log (Past over q) within first = absurd (not_both costs p log over within first)

spent_first : (costs : Costs) (p : Purse) (log : List Note) → IsWithin costs p log → IsAtMost p.spent p.limit
spent_first costs p log within = subst (λ c. IsAtMost c p.limit) (plus_zero p.spent) (within.each [] log refl)

-- all of a log is paid
pub pays_within : (costs : Costs) (p : Purse) (log : List Note) → IsWithin costs p log → pay costs (Within p) log ≡ Within (paid_all costs p log)
pays_within costs p log within = within_paid costs p log (pay costs (Within p) log) within (paid_is costs p log (spent_first costs p log within))

-- the charge that is above the limit
over_is : (costs : Costs) (p : Purse) (log : List Note) (over : Over) (first : IsFirstOver costs p log over) → spend (paid_all costs p first.front) (cost_of costs first.name first.number) ≡ Err over
over_is costs p log over first =
    let q : Purse = paid_all costs p first.front in
    let cost : Cost5 = cost_of costs first.name first.number in
    let attempted : over.attempted ≡ plus q.spent cost = first.sum ∙ (spent_after-append costs p first.front (Charged first.name first.number ∷ []) ∙ ap (plus (spent_after costs p first.front)) (plus_zero cost)) in
    let above : first_above q.limit (plus q.spent cost) ≡ Some over.dimension = subst (λ c. first_above p.limit c ≡ Some over.dimension) attempted (first_is p.limit over.attempted over.dimension first.first) in
    spend_found q cost (Some over.dimension) above ∙ (λ i. Err (record { dimension = over.dimension; attempted = sym attempted i; limit = sym first.limit i }))

stop_at : (costs : Costs) (q : Purse) (over : Over) (name : CostName) (n : ℕ) (back : List Note) → spend q (cost_of costs name n) ≡ Err over → pay costs (Within q) (Charged name n ∷ back) ≡ Past over q
unfolding pay
stop_at costs q over name n back e = ap (λ r. pay costs (paid_by q r) back) e

pub pays_over : (costs : Costs) (p : Purse) (log : List Note) (over : Over) (first : IsFirstOver costs p log over) → pay costs (Within p) log ≡ Past over (paid_all costs p first.front)
pays_over costs p log over first =
    ap (pay costs (Within p)) first.order
    ∙ (pay-append costs (Within p) first.front (Charged first.name first.number ∷ first.back)
    ∙ (ap (λ r. pay costs r (Charged first.name first.number ∷ first.back)) (pays_within costs p first.front first.within)
    ∙ stop_at costs (paid_all costs p first.front) over first.name first.number first.back (over_is costs p log over first)))

-- ---- the limited outcome

pub limited_within : {A : Type 0} (costs : Costs) (p : Purse) (a : Answer A) → IsWithin costs p a.log → limited costs p a ≡ limit_on (Within (paid_all costs p a.log)) a.outcome a.state
unfolding limited
limited_within costs p a within = ap (λ r. limit_on r a.outcome a.state) (pays_within costs p a.log within)

pub limited_over : {A : Type 0} (costs : Costs) (p : Purse) (a : Answer A) (over : Over) (first : IsFirstOver costs p a.log over) → limited costs p a ≡ Passed over (paid_all costs p first.front)
unfolding limited
limited_over costs p a over first = ap (λ r. limit_on r a.outcome a.state) (pays_over costs p a.log over first)

over_same : {A : Type 0} (o p : Over) (q r : Purse) → ◌≡◌ {A = Limited A} (Passed o q) (Passed p r) → o ≡ p
over_same o p q r e = cc

passed_is : {A : Type 0} (costs : Costs) (p q : Purse) (log : List Note) (over : Over) (r : Paid) (o : Outcome A) (s : State) → limit_on r o s ≡ Passed over q → IsPaid costs p log r → IsFirstOver costs p log over
passed_is costs p q log over (Past x y) o s e first = subst (IsFirstOver costs p log) (over_same x over y q e) first
passed_is costs p q log over (Within y) (Given a) s e paid = absurd cc
passed_is costs p q log over (Within y) (Thrown v) s e paid = absurd cc
passed_is costs p q log over (Within y) (Aborted why) s e paid = absurd cc
passed_is costs p q log over (Within y) Wrong s e paid = absurd cc
passed_is costs p q log over (Within y) Deeper s e paid = absurd cc

pub over_limited : {A : Type 0} (costs : Costs) (p q : Purse) (a : Answer A) (over : Over) → IsAtMost p.spent p.limit → limited costs p a ≡ Passed over q → IsFirstOver costs p a.log over
unfolding limited
over_limited costs p q a over h e = passed_is costs p q a.log over (pay costs (Within p) a.log) a.outcome a.state e (paid_is costs p a.log h)

-- ---- the trace

paid_past : (over : Over) (p q : Purse) → Past over p ≡ Within q → ⊥
paid_past over p q e = cc

claims_paid : (costs : Costs) (r : Paid) (q : Purse) (log : List Note) → pay costs r log ≡ Within q → claims costs r log ≡ claims_in log
unfolding pay claims
claims_paid costs (Past over p) q log e = absurd (paid_past over p q e)
claims_paid costs (Within p) q [] e = refl
claims_paid costs (Within p) q (Charged name n ∷ log) e = claims_paid costs (paid_by p (spend p (cost_of costs name n))) q log e
claims_paid costs (Within p) q (Ended span v ∷ log) e = ap (λ cs. record { span = span; value = v } ∷ cs) (claims_paid costs (Within p) q log e)

pub trace_within : {A : Type 0} (costs : Costs) (p : Purse) (a : Answer A) → IsWithin costs p a.log → trace_of costs p a ≡ claims_in a.log
unfolding trace_of
trace_within costs p a within = claims_paid costs (Within p) (paid_all costs p a.log) a.log (pays_within costs p a.log within)

none_behind : (costs : Costs) (q : Purse) (over : Over) (name : CostName) (n : ℕ) (back : List Note) → spend q (cost_of costs name n) ≡ Err over → claims costs (Within q) (Charged name n ∷ back) ≡ []
unfolding claims
none_behind costs q over name n back e = ap (λ r. claims costs (paid_by q r) back) e

pub trace_over : {A : Type 0} (costs : Costs) (p : Purse) (a : Answer A) (over : Over) (first : IsFirstOver costs p a.log over) → trace_of costs p a ≡ claims_in first.front
unfolding trace_of
trace_over costs p a over first =
    let q : Purse = paid_all costs p first.front in
    let paid : pay costs (Within p) first.front ≡ Within q = pays_within costs p first.front first.within in
    ap (claims costs (Within p)) first.order
    ∙ (claims-append costs (Within p) first.front (Charged first.name first.number ∷ first.back)
    ∙ ((λ i. claims_paid costs (Within p) q first.front paid i ++ claims costs (paid i) (Charged first.name first.number ∷ first.back))
    ∙ (ap (λ cs. claims_in first.front ++ cs) (none_behind costs q over first.name first.number first.back (over_is costs p a.log over first)) ∙ append-nil (claims_in first.front))))

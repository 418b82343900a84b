-- What a limit leaves of sound answers.
use Rattle.std.proofs.Common.{◌≡◌, ℕ, List, [], ◌∷◌, ◌++◌, Option, Some, None, refl, sym, ap, subst, ◌∙◌, append_assoc}
use Rattle.cl_shapes.specs.declared.cost.Cost5.{Cost5}
use Rattle.cl_shapes.specs.declared.cost.Dimension.{Dimension}
use Rattle.cl_shapes.specs.declared.name.CostName.{CostName}
use Rattle.cl_shapes.specs.Costs.{plus, zero_cost, first_above, IsAtMost}
use Rattle.cl_shapes.specs.Limits.{Purse}
use Rattle.cl_shapes.proofs.Sums.{plus_assoc}
use Rattle.cl_values.specs.Tree.{Tree as Val}
use Rattle.cl_events.specs.State.{State}
use Rattle.cl_meaning.specs.Answers.{Outcome, Given, Thrown, Aborted, Wrong, Deeper, Answer, Note, Charged, Ended}
use Rattle.cl_meaning.specs.Deployed.{Contract}
use Rattle.cl_meaning.specs.Limits.{charges_of, cost_of, cost_sum, cost, Paid, Within, Past, paid_by, pay, Limited, Gave, Threw, AbortedBy, Passed, Lost, limit_on, limited}
use Rattle.cl_meaning.specs.Prefixes.{spent_after}
use Rattle.cl_meaning.proofs.Prefixes.{IsPaid, paid_is, spending, spend_by, spend_found}
use Rattle.cl_meaning.proofs.Stops.{enough_within, limited_within, spent_after-append}
use Rattle.cl_rules.specs.Context.{CostTable}
use Rattle.cl_expression_sound.specs.Sound.{World, IsKept, IsFine, IsSound, NoThrow}
use Rattle.cl_expression_sound.proofs.Costs.{same_cost, at_most, more_of_both, and_more, none_at_most, turned, and_nothing}
use Rattle.cl_contract_sound.specs.Laws.{IsFineUnder, spent_in}
use Rattle.cl_contract_sound.specs.Deployments.{IsFineEnd, IsFineEndUnder}

fine_on : (K : World) (Expected : Val → Type 0) (paid : Paid) (o : Outcome Val) (s : State) → IsFine Expected NoThrow o → IsKept K s → IsFineUnder Expected (IsKept K) (limit_on paid o s)
fine_on K Expected (Past over p) o s h k = tt
fine_on K Expected (Within p) (Given v) s h k = (h, k)
fine_on K Expected (Within p) (Thrown v) s h k = h
fine_on K Expected (Within p) (Aborted why) s h k = h
fine_on K Expected (Within p) Wrong s h k = h
fine_on K Expected (Within p) Deeper s h k = h

pub fine_under : (K : World) (Expected : Val → Type 0) (bound : Cost5) (a : Answer Val) → IsSound K Expected NoThrow bound a → (others : CostTable) (p : Purse) → IsFineUnder Expected (IsKept K) (limited others p a)
unfolding limited
fine_under K Expected bound a h others p = fine_on K Expected (pay others (Within p) a.log) a.outcome a.state h.outcome h.state

end_on : (Done : Contract → State → Type 0) (paid : Paid) (o : Outcome Contract) (s : State) → IsFineEnd Done o s → IsFineEndUnder Done (limit_on paid o s)
end_on Done (Past over p) o s h = tt
end_on Done (Within p) (Given c) s h = h
end_on Done (Within p) (Thrown v) s h = h
end_on Done (Within p) (Aborted why) s h = h
end_on Done (Within p) Wrong s h = h
end_on Done (Within p) Deeper s h = h

pub end_under : (Done : Contract → State → Type 0) (a : Answer Contract) → IsFineEnd Done a.outcome a.state → (others : CostTable) (p : Purse) → IsFineEndUnder Done (limited others p a)
unfolding limited
end_under Done a h others p = end_on Done (pay others (Within p) a.log) a.outcome a.state h

-- a limit that is no less than a bound and what is spent before cuts nothing off
pub enough : {A : Type 0} (costs : CostTable) (bound : Cost5) (a : Answer A) → IsAtMost (cost costs a) bound → (p : Purse) → IsAtMost (plus p.spent bound) p.limit → limited costs p a ≡ limit_on (Within (record { limit = p.limit; spent = plus p.spent (cost costs a) })) a.outcome a.state
unfolding cost
enough costs bound a within p low =
    limited_within costs p a
    (enough_within costs p a.log (at_most (plus p.spent (cost costs a)) (plus p.spent bound) p.limit (more_of_both p.spent p.spent (cost costs a) bound (same_cost p.spent) within) low))

-- ---- what is charged under a limit

-- what was spent, or the first sum that is above the limit
abbrev pub charged : {A : Type 0} → Limited A → Cost5
charged (Gave a s p) = p.spent
charged (Threw v s p) = p.spent
charged (AbortedBy why p) = p.spent
charged (Passed over p) = over.attempted
charged (Lost p) = p.spent

abbrev paid : Paid → Cost5
paid (Within p) = p.spent
paid (Past over p) = over.attempted

-- a first part of a log costs no more than the whole
paid_low : (costs : CostTable) (p : Purse) (log : List Note) (r : Paid) → IsPaid costs p log r → IsAtMost (paid r) (spent_after costs p log)
paid_low costs p log (Within q) h = subst (λ c. IsAtMost c (spent_after costs p log)) (ap (λ (q : Purse). q.spent) (sym h.0)) (same_cost (spent_after costs p log))
paid_low costs p log (Past over q) first =
    let front : List Note = first.front ++ Charged first.name first.number ∷ [] in
    let whole : spent_after costs p log ≡ plus (spent_after costs p front) (cost_sum costs (charges_of first.back)) =
    ap (spent_after costs p) (first.order ∙ sym (append_assoc first.front (Charged first.name first.number ∷ []) first.back)) ∙ spent_after-append costs p front first.back in
    subst (IsAtMost over.attempted) (sym whole)
    (subst (λ c. IsAtMost c (plus (spent_after costs p front) (cost_sum costs (charges_of first.back)))) (sym first.sum)
    (and_more (spent_after costs p front) (spent_after costs p front) (cost_sum costs (charges_of first.back)) (same_cost (spent_after costs p front))))

paid_on : {A : Type 0} (r : Paid) (o : Outcome A) (s : State) → paid r ≡ charged (limit_on r o s)
paid_on (Past over p) o s = refl
paid_on (Within p) (Given a) s = refl
paid_on (Within p) (Thrown v) s = refl
paid_on (Within p) (Aborted why) s = refl
paid_on (Within p) Wrong s = refl
paid_on (Within p) Deeper s = refl

-- what is charged is at most the whole cost, where nothing was spent before
pub charged_low : {A : Type 0} (costs : CostTable) (limit : Cost5) (a : Answer A) → IsAtMost (charged (limited costs (record { limit = limit; spent = zero_cost }) a)) (cost costs a)
unfolding limited cost
charged_low costs limit a =
    let p : Purse = record { limit = limit; spent = zero_cost } in
    let sum : Cost5 = cost_sum costs (charges_of a.log) in
    let r : Paid = pay costs (Within p) a.log in
    subst (λ c. IsAtMost c sum) (paid_on r a.outcome a.state)
    (at_most (paid r) (plus zero_cost sum) sum (paid_low costs p a.log r (paid_is costs p a.log (none_at_most limit)))
    (at_most (plus zero_cost sum) (plus sum zero_cost) sum (turned zero_cost sum) (and_nothing sum)))

-- ---- what is spent under a limit

abbrev left : Paid → Cost5
left (Within p) = p.spent
left (Past over p) = p.spent

left_on : {A : Type 0} (r : Paid) (o : Outcome A) (s : State) → left r ≡ spent_in (limit_on r o s)
left_on (Past over p) o s = refl
left_on (Within p) (Given a) s = refl
left_on (Within p) (Thrown v) s = refl
left_on (Within p) (Aborted why) s = refl
left_on (Within p) Wrong s = refl
left_on (Within p) Deeper s = refl

-- a charge is spent, or nothing more is
left_by : (costs : CostTable) (p : Purse) (name : CostName) (n : ℕ) (log : List Note) → ((q : Purse) → IsAtMost (left (pay costs (Within q) log)) (spent_after costs q log)) → (o : Option Dimension) →
    IsAtMost (left (pay costs (paid_by p (spend_by p (cost_of costs name n) o)) log)) (spent_after costs p (Charged name n ∷ log))
unfolding pay
left_by costs p name n log later None =
    subst (IsAtMost (left (pay costs (Within (spending p (cost_of costs name n))) log))) (plus_assoc p.spent (cost_of costs name n) (cost_sum costs (charges_of log))) (later (spending p (cost_of costs name n)))
left_by costs p name n log later (Some d) = and_more p.spent p.spent (cost_sum costs (charges_of (Charged name n ∷ log))) (same_cost p.spent)

-- what is spent of a log is no more than the whole
left_low : (costs : CostTable) (p : Purse) (log : List Note) → IsAtMost (left (pay costs (Within p) log)) (spent_after costs p log)
unfolding pay
left_low costs p [] = and_more p.spent p.spent zero_cost (same_cost p.spent)
left_low costs p (Charged name n ∷ log) =
    subst (λ r. IsAtMost (left (pay costs (paid_by p r) log)) (spent_after costs p (Charged name n ∷ log))) (sym (spend_found p (cost_of costs name n) (first_above p.limit (plus p.spent (cost_of costs name n))) refl))
    (left_by costs p name n log (λ q. left_low costs q log) (first_above p.limit (plus p.spent (cost_of costs name n))))
left_low costs p (Ended span v ∷ log) = left_low costs p log

-- what is spent under a limit is at most what was spent before and a bound of the cost
pub spent_low : {A : Type 0} (costs : CostTable) (bound : Cost5) (a : Answer A) → IsAtMost (cost costs a) bound → (p : Purse) → IsAtMost (spent_in (limited costs p a)) (plus p.spent bound)
unfolding limited cost
spent_low costs bound a within p =
    subst (λ c. IsAtMost c (plus p.spent bound)) (left_on (pay costs (Within p) a.log) a.outcome a.state)
    (at_most (left (pay costs (Within p) a.log)) (spent_after costs p a.log) (plus p.spent bound) (left_low costs p a.log)
    (more_of_both p.spent p.spent (cost_sum costs (charges_of a.log)) bound (same_cost p.spent) within))

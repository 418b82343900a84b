-- What is paid of a log: all of it, or up to the first charge whose sum is above the limit.
use Rattle.std.proofs.Common.{◌≡◌, ℕ, ◌+◌, List, [], ◌∷◌, ◌++◌, Option, Some, None, refl, ap, sym, ◌∙◌, subst}
use Rattle.std.specs.Prelude.{Result, Ok, Err}
use Rattle.cl_shapes.specs.declared.cost.Cost5.{Cost5}
use Rattle.cl_shapes.specs.declared.cost.Dimension.{Dimension}
use Rattle.cl_shapes.specs.declared.limit.Over.{Over}
use Rattle.cl_shapes.specs.declared.name.CostName.{CostName}
use Rattle.cl_shapes.specs.Costs.{plus, part, first_above, IsAtMost, IsFirstAbove}
use Rattle.cl_shapes.specs.Limits.{Purse, spend}
use Rattle.cl_shapes.proofs.FirstAbove.{first_above-some, first_above-none}
use Rattle.cl_shapes.proofs.Sums.{plus_assoc, plus_zero}
use Rattle.cl_sexpr.specs.declared.sexpr.Span.{Span}
use Rattle.cl_values.specs.Tree.{Tree as Val}
use Rattle.cl_meaning.specs.Answers.{Note, Charged, Ended}
use Rattle.cl_meaning.specs.Limits.{Costs, cost_of, charges_of, cost_sum, Paid, Within, Past, paid_by, pay}
use Rattle.cl_meaning.specs.Prefixes.{spent_after, IsWithin, IsFirstOver}

-- the purse after a cost, and one with another sum
abbrev pub spending : Purse → Cost5 → Purse
spending p cost = record { limit = p.limit; spent = plus p.spent cost }

abbrev pub paid_all : Costs → Purse → List Note → Purse
paid_all costs p log = record { limit = p.limit; spent = spent_after costs p log }

-- ---- one note in front

-- what a purse has spent after a note and a log, another has spent after the log alone
abbrev IsNext : Costs → Purse → Note → Purse → Type 0
IsNext costs p x q = (front : List Note) → spent_after costs q front ≡ spent_after costs p (x ∷ front)

after_charge : (costs : Costs) (p : Purse) (name : CostName) (n : ℕ) → IsNext costs p (Charged name n) (spending p (cost_of costs name n))
after_charge costs p name n front = plus_assoc p.spent (cost_of costs name n) (cost_sum costs (charges_of front))

after_end : (costs : Costs) (p : Purse) (span : Span) (v : Val) → IsNext costs p (Ended span v) p
after_end costs p span v front = refl

within_first : (costs : Costs) (p : Purse) → IsAtMost p.spent p.limit → IsAtMost (spent_after costs p []) p.limit
within_first costs p h = subst (λ c. IsAtMost c p.limit) (sym (plus_zero p.spent)) h

within_empty : (costs : Costs) (p : Purse) → IsAtMost p.spent p.limit → (front back : List Note) → [] ≡ front ++ back → IsAtMost (spent_after costs p front) p.limit
within_empty costs p h [] back e = within_first costs p h
within_empty costs p h (y ∷ front) back e = absurd cc

module _ (costs : Costs) (p q : Purse) (x : Note) (limit : q.limit ≡ p.limit) (next : IsNext costs p x q) where
  step_within : (log : List Note) → IsAtMost p.spent p.limit → IsWithin costs q log → (front back : List Note) → x ∷ log ≡ front ++ back → IsAtMost (spent_after costs p front) p.limit
  step_within log h within [] back e = within_first costs p h
  step_within log h within (y ∷ front) back e =
      let head : x ≡ y = cc in
      let tail : log ≡ front ++ back = cc in
      subst (λ z. IsAtMost (spent_after costs p (z ∷ front)) p.limit) head
      (subst (λ c. IsAtMost c p.limit) (next front) (subst (λ l. IsAtMost (spent_after costs q front) l) limit (within.each front back tail)))

  more_within : (log : List Note) → IsAtMost p.spent p.limit → IsWithin costs q log → IsWithin costs p (x ∷ log)
  more_within log h within = record { each = step_within log h within }

  more_over : (log : List Note) (over : Over) → IsAtMost p.spent p.limit → IsFirstOver costs q log over → IsFirstOver costs p (x ∷ log) over
  more_over log over h first = record {
    front = x ∷ first.front;
    name = first.name;
    number = first.number;
    back = first.back;
    order = ap (λ l. x ∷ l) first.order;
    within = more_within first.front h first.within;
    sum = first.sum ∙ next (first.front ++ Charged first.name first.number ∷ []);
    first = subst (λ l. IsFirstAbove l over.attempted over.dimension) limit first.first;
    limit = first.limit ∙ ap (part over.dimension) limit;
  }

  more_paid : (log : List Note) → paid_all costs q log ≡ paid_all costs p (x ∷ log)
  more_paid log = λ i. record { limit = limit i; spent = next log i }

-- ---- what is paid

-- with what was paid, all first parts of the log are within the limit; or it was stopped at the first that isn't
abbrev pub IsPaid : Costs → Purse → List Note → Paid → Type 0
IsPaid costs p log (Within q) = (q ≡ paid_all costs p log) × IsWithin costs p log
IsPaid costs p log (Past over q) = IsFirstOver costs p log over

module _ (costs : Costs) (p q : Purse) (x : Note) (limit : q.limit ≡ p.limit) (next : IsNext costs p x q) where
  one_more : (log : List Note) (r : Paid) → IsAtMost p.spent p.limit → IsPaid costs q log r → IsPaid costs p (x ∷ log) r
  one_more log (Within s) h paid = (paid.0 ∙ more_paid costs p q x limit next log, more_within costs p q x limit next log h paid.1)
  one_more log (Past over s) h first = more_over costs p q x limit next log over h first

-- a first charge that is above the limit
over_at_once : (costs : Costs) (p : Purse) (name : CostName) (n : ℕ) (log : List Note) (d : Dimension) → IsAtMost p.spent p.limit → first_above p.limit (plus p.spent (cost_of costs name n)) ≡ Some d → IsFirstOver costs p (Charged name n ∷ log) (record { dimension = d; attempted = plus p.spent (cost_of costs name n); limit = part d p.limit })
over_at_once costs p name n log d h above = record {
  front = [];
  name = name;
  number = n;
  back = log;
  order = refl;
  within = record { each = within_empty costs p h };
  sum = ap (plus p.spent) (sym (plus_zero (cost_of costs name n)));
  first = first_above-some p.limit (plus p.spent (cost_of costs name n)) d above;
  limit = refl;
}

-- what spending a cost comes to, by the first dimension in which the sum is above the limit
abbrev pub spend_by : Purse → Cost5 → Option Dimension → Result Purse Over
spend_by p cost None = Ok (spending p cost)
spend_by p cost (Some d) = Err (record { dimension = d; attempted = plus p.spent cost; limit = part d p.limit })

charge_is : (costs : Costs) (p : Purse) (name : CostName) (n : ℕ) (log : List Note) → IsAtMost p.spent p.limit → ((q : Purse) → IsAtMost q.spent q.limit → IsPaid costs q log (pay costs (Within q) log)) → (o : Option Dimension) → first_above p.limit (plus p.spent (cost_of costs name n)) ≡ o → IsPaid costs p (Charged name n ∷ log) (pay costs (paid_by p (spend_by p (cost_of costs name n) o)) log)
unfolding pay
charge_is costs p name n log h later None above =
    one_more costs p (spending p (cost_of costs name n)) (Charged name n) refl (after_charge costs p name n) log (pay costs (Within (spending p (cost_of costs name n))) log) h
    (later (spending p (cost_of costs name n)) ((first_above-none p.limit (plus p.spent (cost_of costs name n))).0 above))
charge_is costs p name n log h later (Some d) above = over_at_once costs p name n log d h above

pub spend_found : (p : Purse) (cost : Cost5) (o : Option Dimension) → first_above p.limit (plus p.spent cost) ≡ o → spend p cost ≡ spend_by p cost o
spend_found p cost None e = rw (e, spend) refl
spend_found p cost (Some d) e = rw (e, spend) refl

pub paid_is : (costs : Costs) (p : Purse) (log : List Note) → IsAtMost p.spent p.limit → IsPaid costs p log (pay costs (Within p) log)
unfolding pay
paid_is costs p [] h = (sym (λ i. record { limit = p.limit; spent = plus_zero p.spent i }), record { each = within_empty costs p h })
paid_is costs p (Charged name n ∷ log) h =
    subst (λ r. IsPaid costs p (Charged name n ∷ log) (pay costs (paid_by p r) log)) (sym (spend_found p (cost_of costs name n) (first_above p.limit (plus p.spent (cost_of costs name n))) refl))
    (charge_is costs p name n log h (λ q k. paid_is costs q log k) (first_above p.limit (plus p.spent (cost_of costs name n))) refl)
paid_is costs p (Ended span v ∷ log) h = one_more costs p p (Ended span v) refl (after_end costs p span v) log (pay costs (Within p) log) h (paid_is costs p log h)

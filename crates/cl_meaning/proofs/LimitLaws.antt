-- How a limit goes along with an answer that is put together.
use Rattle.std.proofs.Common.{◌≡◌, ℕ, List, [], ◌∷◌, ◌++◌, refl, ap, ◌∙◌}
use Rattle.std.specs.Prelude.{Ok, Err}
use Rattle.cl_shapes.specs.declared.limit.Over.{Over}
use Rattle.cl_shapes.specs.declared.name.CostName.{CostName}
use Rattle.cl_shapes.specs.Limits.{Purse, spend}
use Rattle.cl_sexpr.specs.declared.sexpr.Span.{Span}
use Rattle.cl_values.specs.Tree.{Tree as Val}
use Rattle.cl_events.specs.State.{State}
use Rattle.cl_meaning.specs.Answers.{Outcome, Given, Thrown, Aborted, Wrong, Deeper, Answer, Note, Charged, Ended, stop, charged, then_on, and_then, end_of, ending, returned_outcome, returning}
use Rattle.cl_meaning.specs.Limits.{Costs, cost_of, Paid, Within, Past, paid_by, pay, Limited, Gave, Passed, limit_on, limited, after, returned}
use Rattle.cl_meaning.specs.Trace.{claims}

-- charges one behind the other
pub pay-append : (costs : Costs) (q : Paid) (log more : List Note) → pay costs q (log ++ more) ≡ pay costs (pay costs q log) more
unfolding pay
pay-append costs (Past over p) log more = refl
pay-append costs (Within p) [] more = refl
pay-append costs (Within p) (Charged name n ∷ log) more = pay-append costs (paid_by p (spend p (cost_of costs name n))) log more
pay-append costs (Within p) (Ended span v ∷ log) more = pay-append costs (Within p) log more

gives_case : {A B : Type 0} (costs : Costs) (q : Paid) (v : A) (s : State) (go_on : A → State → Answer B) → limit_on (pay costs q (go_on v s).log) (go_on v s).outcome (go_on v s).state ≡ after (limit_on q (Given v) s) (λ w t r. limited costs r (go_on w t))
unfolding limited pay
gives_case costs (Past over p) v s go_on = refl
gives_case costs (Within p) v s go_on = refl

ends_case : {A B : Type 0} (q : Paid) (o : Outcome A) (o' : Outcome B) (s : State) (go_on : A → State → Purse → Limited B) → ((p : Purse) → limit_on (Within p) o' s ≡ after (limit_on (Within p) o s) go_on) → limit_on q o' s ≡ after (limit_on q o s) go_on
ends_case (Past over p) o o' s go_on h = refl
ends_case (Within p) o o' s go_on h = h p

then_case : {A B : Type 0} (costs : Costs) (p : Purse) (o : Outcome A) (s : State) (log : List Note) (go_on : A → State → Answer B) → limited costs p (then_on o s log go_on) ≡ after (limit_on (pay costs (Within p) log) o s) (λ v t q. limited costs q (go_on v t))
unfolding limited
then_case costs p (Given v) s log go_on =
    ap (λ q. limit_on q (go_on v s).outcome (go_on v s).state) (pay-append costs (Within p) log (go_on v s).log) ∙ gives_case costs (pay costs (Within p) log) v s go_on
then_case costs p (Thrown v) s log go_on = ends_case (pay costs (Within p) log) (Thrown v) (Thrown v) s _ (λ r. refl)
then_case costs p (Aborted why) s log go_on = ends_case (pay costs (Within p) log) (Aborted why) (Aborted why) s _ (λ r. refl)
then_case costs p Wrong s log go_on = ends_case (pay costs (Within p) log) Wrong Wrong s _ (λ r. refl)
then_case costs p Deeper s log go_on = ends_case (pay costs (Within p) log) Deeper Deeper s _ (λ r. refl)

-- of one answer behind another
pub limited-then : {A B : Type 0} (costs : Costs) (p : Purse) (a : Answer A) (go_on : A → State → Answer B) → limited costs p (and_then a go_on) ≡ after (limited costs p a) (λ v s q. limited costs q (go_on v s))
unfolding and_then limited
limited-then costs p a go_on = then_case costs p a.outcome a.state a.log go_on

pub limited-stop : {A : Type 0} (costs : Costs) (p : Purse) (o : Outcome A) (s : State) → limited costs p (stop o s) ≡ limit_on (Within p) o s
unfolding stop limited pay
limited-stop costs p o s = refl

-- a charge that the limit allows, and one that it doesn't
pub charge_within : {A : Type 0} (costs : Costs) (p q : Purse) (name : CostName) (n : ℕ) (a : Answer A) → spend p (cost_of costs name n) ≡ Ok q → limited costs p (charged name n a) ≡ limited costs q a
unfolding charged limited pay
charge_within costs p q name n a h = ap (λ r. limit_on (pay costs (paid_by p r) a.log) a.outcome a.state) h

pub charge_over : {A : Type 0} (costs : Costs) (p : Purse) (over : Over) (name : CostName) (n : ℕ) (a : Answer A) → spend p (cost_of costs name n) ≡ Err over → limited costs p (charged name n a) ≡ Passed over p
unfolding charged limited pay
charge_over costs p over name n a h = ap (λ r. limit_on (pay costs (paid_by p r) a.log) a.outcome a.state) h

-- what follows a value that was given
pub then_gave : {A B : Type 0} (costs : Costs) (p q : Purse) (a : Answer A) (go_on : A → State → Answer B) (v : A) (s : State) → limited costs p a ≡ Gave v s q → limited costs p (and_then a go_on) ≡ limited costs q (go_on v s)
then_gave costs p q a go_on v s h = limited-then costs p a go_on ∙ ap (λ l. after l (λ w t r. limited costs r (go_on w t))) h

-- that a node ended costs nothing
noted_end : (costs : Costs) (q : Paid) (span : Span) (o : Outcome Val) → pay costs q (end_of span o) ≡ q
unfolding pay
noted_end costs (Past over p) span o = refl
noted_end costs (Within p) span (Given v) = refl
noted_end costs (Within p) span (Thrown v) = refl
noted_end costs (Within p) span (Aborted why) = refl
noted_end costs (Within p) span Wrong = refl
noted_end costs (Within p) span Deeper = refl

pub limited-ending : (costs : Costs) (p : Purse) (span : Span) (a : Answer Val) → limited costs p (ending span a) ≡ limited costs p a
unfolding ending limited
limited-ending costs p span a =
    ap (λ q. limit_on q a.outcome a.state) (pay-append costs (Within p) a.log (end_of span a.outcome) ∙ noted_end costs (pay costs (Within p) a.log) span a.outcome)

returned_case : (q : Paid) (o : Outcome Val) (s : State) → limit_on q (returned_outcome o) s ≡ returned (limit_on q o s)
returned_case (Past over p) o s = refl
returned_case (Within p) (Given v) s = refl
returned_case (Within p) (Thrown v) s = refl
returned_case (Within p) (Aborted why) s = refl
returned_case (Within p) Wrong s = refl
returned_case (Within p) Deeper s = refl

pub limited-returning : (costs : Costs) (p : Purse) (a : Answer Val) → limited costs p (returning a) ≡ returned (limited costs p a)
unfolding limited returning
limited-returning costs p a = returned_case (pay costs (Within p) a.log) a.outcome a.state

-- the claims of one log behind another
pub claims-append : (costs : Costs) (q : Paid) (log more : List Note) → claims costs q (log ++ more) ≡ claims costs q log ++ claims costs (pay costs q log) more
unfolding pay claims
claims-append costs (Past over p) log more = refl
claims-append costs (Within p) [] more = refl
claims-append costs (Within p) (Charged name n ∷ log) more = claims-append costs (paid_by p (spend p (cost_of costs name n))) log more
claims-append costs (Within p) (Ended span v ∷ log) more = ap (λ cs. record { span = span; value = v } ∷ cs) (claims-append costs (Within p) log more)

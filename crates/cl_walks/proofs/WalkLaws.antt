-- How a walk goes along an answer that is put together.
use Rattle.std.proofs.Common.{◌≡◌, ℕ, List, [], ◌∷◌, ◌++◌, refl, ap, ◌∙◌}
use Rattle.std.specs.Prelude.{Ok, Err}
use Rattle.cl_shapes.specs.declared.limit.Over.{Over}
use Rattle.cl_shapes.specs.declared.name.CostName.{CostName}
use Rattle.cl_shapes.specs.Limits.{Purse, spend}
use Rattle.cl_sexpr.specs.declared.sexpr.Span.{Span}
use Rattle.cl_values.specs.Tree.{Tree as Val}
use Rattle.cl_events.specs.State.{State}
use Rattle.cl_meaning.specs.Answers.{Outcome, Given, Thrown, Aborted, Wrong, Deeper, Answer, Note, Charged, Ended, stop, charged, then_on, and_then, end_of, ending, returned_outcome, returning}
use Rattle.cl_meaning.specs.Limits.{cost_of}
use Rattle.cl_walks.specs.Walked.{Rules, Book, Followed, Going, Past, paid_by, looked, follow, Walked, Gave, Passed, ended_on, walked, after, returned}

-- one log behind the other
pub follow-append : {K : Type 0} (R : Rules K) (q : Followed K) (log more : List Note) → follow R q (log ++ more) ≡ follow R (follow R q log) more
unfolding follow
follow-append R (Past over b) log more = refl
follow-append R (Going b) [] more = refl
follow-append R (Going b) (Charged name n ∷ log) more = follow-append R (paid_by b (spend b.purse (cost_of R.costs name n))) log more
follow-append R (Going b) (Ended at v ∷ log) more = follow-append R (Going (looked R at v b)) log more

gives_case : {K A B : Type 0} (R : Rules K) (q : Followed K) (v : A) (s : State) (go_on : A → State → Answer B) → ended_on (follow R q (go_on v s).log) (go_on v s).outcome (go_on v s).state ≡ after (ended_on q (Given v) s) (λ w t c. walked R c (go_on w t))
unfolding walked follow
gives_case R (Past over b) v s go_on = refl
gives_case R (Going b) v s go_on = refl

ends_case : {K A B : Type 0} (q : Followed K) (o : Outcome A) (o' : Outcome B) (s : State) (go_on : A → State → Book K → Walked K B) → ((b : Book K) → ended_on (Going b) o' s ≡ after (ended_on (Going b) o s) go_on) → ended_on q o' s ≡ after (ended_on q o s) go_on
ends_case (Past over b) o o' s go_on h = refl
ends_case (Going b) o o' s go_on h = h b

then_case : {K A B : Type 0} (R : Rules K) (b : Book K) (o : Outcome A) (s : State) (log : List Note) (go_on : A → State → Answer B) → walked R b (then_on o s log go_on) ≡ after (ended_on (follow R (Going b) log) o s) (λ v t c. walked R c (go_on v t))
unfolding walked
then_case R b (Given v) s log go_on =
    ap (λ q. ended_on q (go_on v s).outcome (go_on v s).state) (follow-append R (Going b) log (go_on v s).log) ∙ gives_case R (follow R (Going b) log) v s go_on
then_case R b (Thrown v) s log go_on = ends_case (follow R (Going b) log) (Thrown v) (Thrown v) s _ (λ c. refl)
then_case R b (Aborted why) s log go_on = ends_case (follow R (Going b) log) (Aborted why) (Aborted why) s _ (λ c. refl)
then_case R b Wrong s log go_on = ends_case (follow R (Going b) log) Wrong Wrong s _ (λ c. refl)
then_case R b Deeper s log go_on = ends_case (follow R (Going b) log) Deeper Deeper s _ (λ c. refl)

-- of one answer behind another
pub walked-then : {K A B : Type 0} (R : Rules K) (b : Book K) (a : Answer A) (go_on : A → State → Answer B) → walked R b (and_then a go_on) ≡ after (walked R b a) (λ v s c. walked R c (go_on v s))
unfolding and_then walked
walked-then R b a go_on = then_case R b a.outcome a.state a.log go_on

pub walked-stop : {K A : Type 0} (R : Rules K) (b : Book K) (o : Outcome A) (s : State) → walked R b (stop o s) ≡ ended_on (Going b) o s
unfolding stop walked follow
walked-stop R b o s = refl

-- a charge that the limit allows, and one that it doesn't
pub charge_within : {K A : Type 0} (R : Rules K) (b : Book K) (p : Purse) (name : CostName) (n : ℕ) (a : Answer A) → spend b.purse (cost_of R.costs name n) ≡ Ok p → walked R b (charged name n a) ≡ walked R (record b { purse = p }) a
unfolding charged walked follow
charge_within R b p name n a h = ap (λ r. ended_on (follow R (paid_by b r) a.log) a.outcome a.state) h

pub charge_over : {K A : Type 0} (R : Rules K) (b : Book K) (over : Over) (name : CostName) (n : ℕ) (a : Answer A) → spend b.purse (cost_of R.costs name n) ≡ Err over → walked R b (charged name n a) ≡ Passed over b
unfolding charged walked follow
charge_over R b over name n a h = ap (λ r. ended_on (follow R (paid_by b r) a.log) a.outcome a.state) h

-- what follows a value that was given
pub then_gave : {K A B : Type 0} (R : Rules K) (b c : Book K) (a : Answer A) (go_on : A → State → Answer B) (v : A) (s : State) → walked R b a ≡ Gave v s c → walked R b (and_then a go_on) ≡ walked R c (go_on v s)
then_gave R b c a go_on v s h = walked-then R b a go_on ∙ ap (λ w. after w (λ x t d. walked R d (go_on x t))) h

-- a node that ends with a value is looked at
ended_case : {K : Type 0} (R : Rules K) (at : Span) (q : Followed K) (o : Outcome Val) (s : State) → ended_on (follow R q (end_of at o)) o s ≡ after (ended_on q o s) (λ v t c. Gave v t (looked R at v c))
unfolding follow
ended_case R at (Past over b) o s = refl
ended_case R at (Going b) (Given v) s = refl
ended_case R at (Going b) (Thrown v) s = refl
ended_case R at (Going b) (Aborted why) s = refl
ended_case R at (Going b) Wrong s = refl
ended_case R at (Going b) Deeper s = refl

pub walked-ending : {K : Type 0} (R : Rules K) (b : Book K) (at : Span) (a : Answer Val) → walked R b (ending at a) ≡ after (walked R b a) (λ v s c. Gave v s (looked R at v c))
unfolding ending walked
walked-ending R b at a =
    ap (λ q. ended_on q a.outcome a.state) (follow-append R (Going b) a.log (end_of at a.outcome)) ∙ ended_case R at (follow R (Going b) a.log) a.outcome a.state

return_case : {K : Type 0} (q : Followed K) (o : Outcome Val) (s : State) → ended_on q (returned_outcome o) s ≡ returned (ended_on q o s)
return_case (Past over b) o s = refl
return_case (Going b) (Given v) s = refl
return_case (Going b) (Thrown v) s = refl
return_case (Going b) (Aborted why) s = refl
return_case (Going b) Wrong s = refl
return_case (Going b) Deeper s = refl

pub walked-returning : {K : Type 0} (R : Rules K) (b : Book K) (a : Answer Val) → walked R b (returning a) ≡ returned (walked R b a)
unfolding returning walked
walked-returning R b a = return_case (follow R (Going b) a.log) a.outcome a.state

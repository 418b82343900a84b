-- What a walk comes to, in the words of the meaning.
use Rattle.std.proofs.Common.{◌≡◌, List, [], ◌∷◌, Result, Ok, Err, refl, ap, ◌∙◌}
use Rattle.cl_shapes.specs.declared.limit.Over.{Over}
use Rattle.cl_shapes.specs.Limits.{Purse, spend}
use Rattle.cl_events.specs.State.{State}
use Rattle.cl_meaning.specs.Answers.{Outcome, Given, Thrown, Aborted, Wrong, Deeper, Answer, Note, Charged, Ended}
use Rattle.cl_meaning.specs.Limits.{Costs, cost_of, Paid, Within, pay, limit_on, limited}
use Rattle.cl_meaning.specs.Limits as plain
use Rattle.cl_meaning.specs.Trace.{claims, trace_of}
use Rattle.cl_walks.specs.Walked.{Rules, Book, Followed, Going, Past, paid_by, looked, follow, ended_on, walked}
use Rattle.cl_audit.specs.Agrees.{looks, with_kept}

abbrev pub followed : {K : Type 0} → Paid → K → Followed K
followed (Within p) k = Going (record { purse = p; kept = k })
followed (plain.Past over p) k = Past over (record { purse = p; kept = k })

follow_is : {K : Type 0} (R : Rules K) (b : Book K) (log : List Note) → follow R (Going b) log ≡ followed (pay R.costs (Within b.purse) log) (looks R (claims R.costs (Within b.purse) log) b.kept)
unfolding follow pay claims
follow_is R b [] = refl
follow_is R b (Ended at v ∷ log) = follow_is R (looked R at v b) log
follow_is R b (Charged name n ∷ log) = paid (spend b.purse (cost_of R.costs name n)) (λ p. follow_is R (record b { purse = p }) log)
  where
    paid : (r : Result Purse Over) → ((p : Purse) → follow R (Going (record b { purse = p })) log ≡ followed (pay R.costs (Within p) log) (looks R (claims R.costs (Within p) log) b.kept)) → follow R (paid_by b r) log ≡ followed (pay R.costs (plain.paid_by b.purse r) log) (looks R (claims R.costs (plain.paid_by b.purse r) log) b.kept)
    paid (Ok p) on = on p
    paid (Err over) on = refl

ended_is : {K A : Type 0} (q : Paid) (k : K) (o : Outcome A) (s : State) → ended_on (followed q k) o s ≡ with_kept (limit_on q o s) k
ended_is (plain.Past over p) k o s = refl
ended_is (Within p) k (Given a) s = refl
ended_is (Within p) k (Thrown v) s = refl
ended_is (Within p) k (Aborted why) s = refl
ended_is (Within p) k Wrong s = refl
ended_is (Within p) k Deeper s = refl

pub walked_is : {K A : Type 0} (R : Rules K) (b : Book K) (a : Answer A) → walked R b a ≡ with_kept (limited R.costs b.purse a) (looks R (trace_of R.costs b.purse a) b.kept)
unfolding walked limited trace_of
walked_is R b a = ap (λ q. ended_on q a.outcome a.state) (follow_is R b a.log) ∙ ended_is (pay R.costs (Within b.purse) a.log) (looks R (claims R.costs (Within b.purse) a.log) b.kept) a.outcome a.state

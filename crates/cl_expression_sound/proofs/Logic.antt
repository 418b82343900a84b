-- Answers that are put together of sound ones are sound.
use Rattle.std.proofs.Common.{◌≡◌, ℕ, List, sym, subst, Option, Some}
use Rattle.cl_shapes.specs.declared.cost.Cost5.{Cost5}
use Rattle.cl_shapes.specs.declared.name.CostName.{CostName}
use Rattle.cl_shapes.specs.Costs.{plus, zero_cost, IsAtMost}
use Rattle.cl_sexpr.specs.declared.sexpr.Span.{Span}
use Rattle.cl_values.specs.Tree.{Tree as Val}
use Rattle.cl_events.specs.State.{State}
use Rattle.cl_meaning.specs.Answers.{Outcome, Given, Thrown, Aborted, Wrong, Deeper, Answer, Note, stop, charged, then_on, and_then, ending, returned_outcome, returning, with_known}
use Rattle.cl_meaning.specs.Limits.{charges_of, cost_sum, cost}
use Rattle.cl_rules.specs.Bills.{Charge, cost_under}
use Rattle.cl_expression_sound.specs.Sound.{World, IsFine, IsSound, IsKept}
use Rattle.cl_expression_sound.proofs.Costs.{same_cost, at_most, more_of_both, and_more, and_nothing, none_at_most, cost-after, cost-ending}

module _ (K : World) where
  -- ---- what is expected, and how much

  pub sound_more : {A : Type 0} {P : A → Type 0} {T : Val → Type 0} (c d : Cost5) (a : Answer A) → IsAtMost c d → IsSound K P T c a → IsSound K P T d a
  sound_more c d a h k = record { outcome = k.outcome; state = k.state; within = at_most (cost K.costs a) c d k.within h }

  fine_less : {A : Type 0} (P Q : A → Type 0) (T U : Val → Type 0) (o : Outcome A) → ((v : A) → P v → Q v) → ((v : Val) → T v → U v) → IsFine P T o → IsFine Q U o
  fine_less P Q T U (Given v) h k f = h v f
  fine_less P Q T U (Thrown v) h k f = k v f
  fine_less P Q T U (Aborted why) h k f = f
  fine_less P Q T U Wrong h k f = absurd f
  fine_less P Q T U Deeper h k f = absurd f

  -- less is said of the value and of what is thrown
  pub sound_less : {A : Type 0} {P Q : A → Type 0} {T U : Val → Type 0} (c : Cost5) (a : Answer A) → ((v : A) → P v → Q v) → ((v : Val) → T v → U v) → IsSound K P T c a → IsSound K Q U c a
  sound_less {P = P} {Q = Q} {T = T} {U = U} c a h k s = record { outcome = fine_less P Q T U a.outcome h k s.outcome; state = s.state; within = s.within }

  -- ---- each way of putting answers together

  pub sound_stop : {A : Type 0} (P : A → Type 0) (T : Val → Type 0) (c : Cost5) (o : Outcome A) (s : State) → IsFine P T o → IsKept K s → IsSound K P T c (stop o s)
  unfolding stop cost
  sound_stop P T c o s f n = record { outcome = f; state = n; within = none_at_most c }

  pub sound_charged : {A : Type 0} {P : A → Type 0} {T : Val → Type 0} (name : CostName) (n : ℕ) (c : Cost5) (a : Answer A) → IsSound K P T c a → IsSound K P T (plus (cost_under K.costs (Charge name n)) c) (charged name n a)
  unfolding charged cost
  sound_charged name n c a h = record {
    outcome = h.outcome;
    state = h.state;
    within = more_of_both (cost_under K.costs (Charge name n)) (cost_under K.costs (Charge name n)) (cost K.costs a) c (same_cost (cost_under K.costs (Charge name n))) h.within;
  }

  then_case : {A B : Type 0} (P : A → Type 0) (Q : B → Type 0) (T : Val → Type 0) (c d : Cost5) (o : Outcome A) (s : State) (log : List Note) (go_on : A → State → Answer B) → IsFine P T o → IsKept K s → IsAtMost (cost_sum K.costs (charges_of log)) c → ((v : A) (t : State) → P v → IsKept K t → IsSound K Q T d (go_on v t)) → IsSound K Q T (plus c d) (then_on o s log go_on)
  unfolding cost
  then_case P Q T c d (Given v) s log go_on f n low next =
      let r = next v s f n in
      record {
        outcome = r.outcome;
        state = r.state;
        within = subst (λ k. IsAtMost k (plus c d)) (sym (cost-after K.costs log (go_on v s))) (more_of_both (cost_sum K.costs (charges_of log)) c (cost K.costs (go_on v s)) d low r.within);
      }
  then_case P Q T c d (Thrown v) s log go_on f n low next = record { outcome = f; state = n; within = and_more (cost_sum K.costs (charges_of log)) c d low }
  then_case P Q T c d (Aborted why) s log go_on f n low next = record { outcome = f; state = n; within = and_more (cost_sum K.costs (charges_of log)) c d low }
  then_case P Q T c d Wrong s log go_on f n low next = absurd f
  then_case P Q T c d Deeper s log go_on f n low next = absurd f

  pub sound_then : {A B : Type 0} {P : A → Type 0} {Q : B → Type 0} {T : Val → Type 0} (c d : Cost5) (a : Answer A) (go_on : A → State → Answer B) → IsSound K P T c a → ((v : A) (t : State) → P v → IsKept K t → IsSound K Q T d (go_on v t)) → IsSound K Q T (plus c d) (and_then a go_on)
  unfolding and_then cost
  sound_then {P = P} {Q = Q} {T = T} c d a go_on h next = then_case P Q T c d a.outcome a.state a.log go_on h.outcome h.state h.within next

  -- with nothing more to pay
  pub sound_last : {A B : Type 0} {P : A → Type 0} {Q : B → Type 0} {T : Val → Type 0} (c : Cost5) (a : Answer A) (go_on : A → State → Answer B) → IsSound K P T c a → ((v : A) (t : State) → P v → IsKept K t → IsSound K Q T zero_cost (go_on v t)) → IsSound K Q T c (and_then a go_on)
  sound_last c a go_on h next = sound_more (plus c zero_cost) c (and_then a go_on) (and_nothing c) (sound_then c zero_cost a go_on h next)

  pub sound_ending : {P : Val → Type 0} {T : Val → Type 0} (c : Cost5) (span : Span) (a : Answer Val) → IsSound K P T c a → IsSound K P T c (ending span a)
  unfolding ending
  sound_ending c span a h = record { outcome = h.outcome; state = h.state; within = subst (λ k. IsAtMost k c) (sym (cost-ending K.costs span a)) h.within }

  returned_fine : (P U : Val → Type 0) (T : Val → Type 0) (o : Outcome Val) → ((v : Val) → T v → P v) → IsFine P T o → IsFine P U (returned_outcome o)
  returned_fine P U T (Given v) k h = h
  returned_fine P U T (Thrown v) k h = k v h
  returned_fine P U T (Aborted why) k h = h
  returned_fine P U T Wrong k h = absurd h
  returned_fine P U T Deeper k h = absurd h

  -- what may be thrown is expected: an early return is a return, and nothing is thrown
  pub sound_returning : {P T : Val → Type 0} (U : Val → Type 0) (c : Cost5) (a : Answer Val) → ((v : Val) → T v → P v) → IsSound K P T c a → IsSound K P U c (returning a)
  unfolding returning cost
  sound_returning {P = P} {T = T} U c a k h = record { outcome = returned_fine P U T a.outcome k h.outcome; state = h.state; within = h.within }

  -- what is there
  pub sound_known : {A B : Type 0} {Q : B → Type 0} {T : Val → Type 0} (c : Cost5) (o : Option A) (a : A) (go_on : A → State → Answer B) (s : State) → o ≡ Some a → IsSound K Q T c (go_on a s) → IsSound K Q T c (with_known o go_on s)
  sound_known {Q = Q} {T = T} c o a go_on s e h = subst (λ o. IsSound K Q T c (with_known o go_on s)) (sym e) h

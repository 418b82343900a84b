-- Answers that are the same as others, but for a depth that wasn't enough; and how that goes along with what answers are put
-- together by.
use Rattle.std.proofs.Common.{◌≡◌, ℕ, List, true, false, Option, Some, None, refl, ap, ◌∙◌}
use Rattle.cl_shapes.specs.declared.name.CostName.{CostName}
use Rattle.cl_sexpr.specs.declared.sexpr.Span.{Span}
use Rattle.cl_values.specs.Tree.{Tree as Val, IntV, UintV, BoolV, BuffV, AsciiV, Utf8V, PrincipalV, ListV, TupleV, NoneV, SomeV, ResponseV}
use Rattle.cl_events.specs.State.{State}
use Rattle.cl_meaning.specs.Answers.{Outcome, Given, Thrown, Aborted, Wrong, Deeper, Answer, Note, stop, charged, after_log, then_on, and_then, ending, returned_outcome, returning, with_known}
use Rattle.cl_meaning.specs.Control.{choice}

-- the second is the first, where that isn't Deeper
pub record Below {A : Type 0} (a b : Answer A) : Type 0 where
  pub same : (a.outcome ≡ Deeper → ⊥) → b ≡ a

pub below_same : {A : Type 0} (a : Answer A) → Below a a
below_same a = record { same = λ h. refl }

pub below_deeper : {A : Type 0} (s : State) (b : Answer A) → Below (stop Deeper s) b
unfolding stop
below_deeper s b = record { same = λ h. absurd (h refl) }

pub below_charged : {A : Type 0} {a b : Answer A} (name : CostName) (n : ℕ) → Below a b → Below (charged name n a) (charged name n b)
unfolding charged
below_charged name n h = record { same = λ k. ap (charged name n) (h.same k) }

pub below_ending : {a b : Answer Val} (span : Span) → Below a b → Below (ending span a) (ending span b)
unfolding ending
below_ending span h = record { same = λ k. ap (ending span) (h.same k) }

returned_deeper : (o : Outcome Val) → o ≡ Deeper → returned_outcome o ≡ Deeper
returned_deeper o e = ap returned_outcome e

pub below_returning : {a b : Answer Val} → Below a b → Below (returning a) (returning b)
unfolding returning
below_returning {a = a} h = record { same = λ k. ap returning (h.same (λ e. k (returned_deeper a.outcome e))) }

then_deeper : {A B : Type 0} (o : Outcome A) (s : State) (log : List Note) (f : A → State → Answer B) → o ≡ Deeper → (then_on o s log f).outcome ≡ Deeper
then_deeper o s log f e = ap (λ o. (then_on o s log f).outcome) e

then_same : {A B : Type 0} (o : Outcome A) (s : State) (log : List Note) (f g : A → State → Answer B) → ((v : A) (t : State) → Below (f v t) (g v t)) → ((then_on o s log f).outcome ≡ Deeper → ⊥) → then_on o s log g ≡ then_on o s log f
then_same (Given v) s log f g below h = ap (after_log log) ((below v s).same h)
then_same (Thrown v) s log f g below h = refl
then_same (Aborted why) s log f g below h = refl
then_same Wrong s log f g below h = refl
then_same Deeper s log f g below h = refl

pub below_then : {A B : Type 0} {a b : Answer A} {f g : A → State → Answer B} → Below a b → ((v : A) (t : State) → Below (f v t) (g v t)) → Below (and_then a f) (and_then b g)
unfolding and_then
below_then {a = a} {b = b} {f = f} {g = g} h below = record {
  same = λ k. ap (λ x. and_then x g) (h.same (λ e. k (then_deeper a.outcome a.state a.log f e))) ∙ then_same a.outcome a.state a.log f g below k;
}

pub below_known : {A B : Type 0} {f g : A → State → Answer B} (o : Option A) → ((v : A) (t : State) → Below (f v t) (g v t)) → (s : State) → Below (with_known o f s) (with_known o g s)
below_known None below s = below_same _
below_known (Some v) below s = below v s

pub below_choice : {f f' g g' : State → Answer Val} (v : Val) → ((s : State) → Below (f s) (f' s)) → ((s : State) → Below (g s) (g' s)) → (s : State) → Below (choice v f g s) (choice v f' g' s)
below_choice (BoolV true) yes_below no_below s = yes_below s
below_choice (BoolV false) yes_below no_below s = no_below s
below_choice (IntV z) yes_below no_below s = below_same _
below_choice (UintV n) yes_below no_below s = below_same _
below_choice (BuffV bs) yes_below no_below s = below_same _
below_choice (AsciiV bs) yes_below no_below s = below_same _
below_choice (Utf8V cs) yes_below no_below s = below_same _
below_choice (PrincipalV p) yes_below no_below s = below_same _
below_choice (ListV vs) yes_below no_below s = below_same _
below_choice (TupleV es) yes_below no_below s = below_same _
below_choice NoneV yes_below no_below s = below_same _
below_choice (SomeV v) yes_below no_below s = below_same _
below_choice (ResponseV good v) yes_below no_below s = below_same _

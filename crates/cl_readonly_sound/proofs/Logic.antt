-- Answers that are put together of answers which leave the state untouched leave it so.
use Rattle.std.proofs.Common.{◌≡◌, ℕ, List, [], ◌∷◌, ◌++◌, true, false, Option, Some, None, refl, sym, ap, ◌∙◌, append_assoc, append-nil}
use Rattle.cl_shapes.specs.declared.name.CostName.{CostName}
use Rattle.cl_sexpr.specs.declared.sexpr.Span.{Span}
use Rattle.cl_values.specs.Tree.{Tree as Val, BoolV}
use Rattle.cl_events.specs.State.{State, with_event}
use Rattle.cl_events.specs.declared.event.Event.{Event}
use Rattle.cl_events.specs.declared.event.EventKind.TheVariants.{Print}
use Rattle.cl_c32.specs.declared.principal.Principal.{Principal}
use Rattle.cl_meaning.specs.Answers.{Outcome, Given, Thrown, Aborted, Wrong, Deeper, Answer, Note, stop, charged, then_on, and_then, ending, returning, with_known}
use Rattle.cl_meaning.specs.Control.{choice}
use Rattle.cl_readonly_sound.specs.Untouched.{ArePrints, IsUntouched}

-- an answer from a state leaves it untouched
pub record Leaves {A : Type 0} (s : State) (a : Answer A) : Type 0 where
  pub untouched : IsUntouched s a.state

pub as_before : (s : State) → IsUntouched s s
as_before s = record { variables = refl; entries = refl; fungibles = refl; nonfungibles = refl; stx = refl; moves = refl; printed = []; prints = tt; events = sym (append-nil s.events) }

both_prints : (xs ys : List Event) → ArePrints xs → ArePrints ys → ArePrints (xs ++ ys)
both_prints [] ys h k = k
both_prints (x ∷ xs) ys h k = (h.0, both_prints xs ys h.1 k)

pub then_after : (s t u : State) → IsUntouched s t → IsUntouched t u → IsUntouched s u
then_after s t u h k = record {
  variables = k.variables ∙ h.variables;
  entries = k.entries ∙ h.entries;
  fungibles = k.fungibles ∙ h.fungibles;
  nonfungibles = k.nonfungibles ∙ h.nonfungibles;
  stx = k.stx ∙ h.stx;
  moves = k.moves ∙ h.moves;
  printed = h.printed ++ k.printed;
  prints = both_prints h.printed k.printed h.prints k.prints;
  events = k.events ∙ ap (λ es. es ++ k.printed) h.events ∙ append_assoc s.events h.printed k.printed;
}

pub one_printed : (p : Principal) (v : Val) (s : State) → IsUntouched s (with_event p (Print v) s)
one_printed p v s = record { variables = refl; entries = refl; fungibles = refl; nonfungibles = refl; stx = refl; moves = refl; printed = record { contract = p; kind = Print v } ∷ []; prints = (tt, tt); events = refl }

pub leaves_stop : {A : Type 0} (o : Outcome A) (s : State) → Leaves s (stop o s)
unfolding stop
leaves_stop o s = record { untouched = as_before s }

pub leaves_at : {A : Type 0} (o : Outcome A) (s t : State) → IsUntouched s t → Leaves s (stop o t)
unfolding stop
leaves_at o s t h = record { untouched = h }

pub leaves_charged : {A : Type 0} {s : State} {a : Answer A} (name : CostName) (n : ℕ) → Leaves s a → Leaves s (charged name n a)
unfolding charged
leaves_charged name n h = record { untouched = h.untouched }

then_case : {A B : Type 0} (s : State) (o : Outcome A) (t : State) (log : List Note) (go_on : A → State → Answer B) → IsUntouched s t → ((v : A) (u : State) → Leaves u (go_on v u)) → Leaves s (then_on o t log go_on)
then_case s (Given v) t log go_on h next = record { untouched = then_after s t (go_on v t).state h (next v t).untouched }
then_case s (Thrown v) t log go_on h next = record { untouched = h }
then_case s (Aborted why) t log go_on h next = record { untouched = h }
then_case s Wrong t log go_on h next = record { untouched = h }
then_case s Deeper t log go_on h next = record { untouched = h }

pub leaves_then : {A B : Type 0} {s : State} {a : Answer A} {go_on : A → State → Answer B} → Leaves s a → ((v : A) (u : State) → Leaves u (go_on v u)) → Leaves s (and_then a go_on)
unfolding and_then
leaves_then {s = s} {a = a} {go_on = go_on} h next = then_case s a.outcome a.state a.log go_on h.untouched next

pub leaves_ending : {s : State} {a : Answer Val} (span : Span) → Leaves s a → Leaves s (ending span a)
unfolding ending
leaves_ending span h = record { untouched = h.untouched }

pub leaves_returning : {s : State} {a : Answer Val} → Leaves s a → Leaves s (returning a)
unfolding returning
leaves_returning h = record { untouched = h.untouched }

pub leaves_known : {A B : Type 0} (o : Option A) {go_on : A → State → Answer B} → ((v : A) (u : State) → o ≡ Some v → Leaves u (go_on v u)) → (s : State) → Leaves s (with_known o go_on s)
leaves_known None next s = leaves_stop Wrong s
leaves_known (Some v) next s = next v s refl

pub leaves_choice : (v : Val) {holds fails : State → Answer Val} → ((u : State) → Leaves u (holds u)) → ((u : State) → Leaves u (fails u)) → (s : State) → Leaves s (choice v holds fails s)
leaves_choice (BoolV true) h k s = h s
leaves_choice (BoolV false) h k s = k s
leaves_choice v h k s = leaves_stop Wrong s

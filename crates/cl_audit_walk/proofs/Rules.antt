-- What a walk evaluates, put together from what its parts do: one rule for each way in which answers follow one another.
use Rattle.std.proofs.Common.{◌≡◌, Option, Result, Ok, Err, refl, sym, ap, ◌∙◌, subst}
use Rattle.cl_values.specs.Tree.{Tree as Val}
use Rattle.cl_events.specs.State.{State}
use Rattle.cl_state.specs.Stack.{Stack}
use Rattle.cl_meaning.specs.Answers.{Answer, Given, Thrown, Aborted, Wrong, stop, give, and_then}
use Rattle.cl_meaning.specs.Limits.{Charge}
use Rattle.cl_walks.specs.declared.stop.Stop.{Stop}
use Rattle.cl_walks.specs.declared.stop.Stop.TheVariants as stops
use Rattle.cl_walks.specs.declared.stop.Why.{Why}
use Rattle.cl_walks.specs.Walked.{Book, Walked, Gave, after, walked}
use Rattle.cl_walks.specs.Ends.{Stops, Ends, cause}
use Rattle.cl_walks.proofs.WalkLaws.{walked-then, walked-stop, then_gave}
use Rattle.cl_audit_steps.specs.declared.scope.Scope.{Scope}
use Rattle.cl_audit_steps.specs.Steps.{behind}
use Rattle.cl_audit_walk.specs.declared.run.Run.{Run}
use Rattle.cl_audit_walk.specs.Evaluates.{rules, book, Evaluates, Pays}

-- an error that is handed on
abbrev pub Handed : {A : Type 0} → Result A Stop → Stop → Type 0
Handed r e = (x : Stop) × (r ≡ Err x) × (x ≡ e)

pub ends_eq : {K A : Type 0} (w x : Walked K A) (r : Result A Stop) (b : Book K) (s : State) → w ≡ x → Ends x r b s → Ends w r b s
ends_eq w x r b s h e = subst (λ y. Ends y r b s) (sym h) e

pub hand : {K A : Type 0} (w : Walked K A) (r : Result A Stop) (e : Stop) (b : Book K) (s : State) → Handed r e → Stops w e b s → Ends w r b s
hand w r e b s h stops = subst (λ q. Ends w q b s) (sym h.1) (subst (λ y. Stops w y b s) (sym h.2) stops)

pub stops_after : {K A B : Type 0} (w : Walked K A) (go_on : A → State → Book K → Walked K B) (e : Stop) (b : Book K) (s : State) → Stops w e b s → Stops (after w go_on) e b s
stops_after w go_on (stops.Thrown v) b s h = ap (λ x. after x go_on) h
stops_after w go_on (stops.Aborted why) b s h = ap (λ x. after x go_on) h
stops_after w go_on (stops.CostLimit over) b s h = ap (λ x. after x go_on) h
stops_after w go_on stops.Stuck b s h = ap (λ x. after x go_on) h
stops_after w go_on stops.NoMemory b s h = tt

pub stops_eq : {K A : Type 0} (w x : Walked K A) (e : Stop) (b : Book K) (s : State) → w ≡ x → Stops x e b s → Stops w e b s
stops_eq w x e b s h stops = subst (λ y. Stops y e b s) (sym h) stops

module _ (S : Scope) where
  -- the same answer in other words
  pub so : {A : Type 0} (f g : State → Answer A) (old new : Run) (r : Result A Stop) → ((s : State) → f s ≡ g s) → Evaluates S g old r new → Evaluates S f old r new
  so f g old new r h e = record { ends = ends_eq _ _ r (book new) new.world.stack.top (ap (walked (rules S) (book old)) (h old.world.stack.top)) e.ends; below = e.below }

  -- after a part that gave a value
  pub goes_on : {A B : Type 0} (a : State → Answer A) (k : A → State → Answer B) (v : A) (old mid new : Run) (r : Result B Stop) → Evaluates S a old (Ok v) mid → Evaluates S (k v) mid r new → Evaluates S (λ s. and_then (a s) k) old r new
  goes_on a k v old mid new r e f = record {
    ends = ends_eq _ _ r (book new) new.world.stack.top (then_gave (rules S) (book old) (book mid) (a old.world.stack.top) k v mid.world.stack.top e.ends) f.ends;
    below = f.below ∙ e.below;
  }

  -- after one that gave none
  pub stopped : {A B : Type 0} (a : State → Answer A) (k : A → State → Answer B) (e : Stop) (old mid : Run) (r : Result B Stop) → Handed r e → Evaluates S a old (Err e) mid → Evaluates S (λ s. and_then (a s) k) old r mid
  stopped a k e old mid r h f = record {
    ends = hand _ r e (book mid) mid.world.stack.top h (stops_eq _ _ e (book mid) mid.world.stack.top (walked-then (rules S) (book old) (a old.world.stack.top) k) (stops_after (walked (rules S) (book old) (a old.world.stack.top)) (λ v s c. walked (rules S) c (k v s)) e (book mid) mid.world.stack.top f.ends));
    below = f.below;
  }

  -- behind a charge that was paid
  pub paid : (c : Option Charge) (f : State → Answer Val) (u : Unit {0}) (old mid new : Run) (r : Result Val Stop) → Pays S c old (Ok u) mid → Evaluates S f mid r new → Evaluates S (λ s. behind c (f s)) old r new
  paid c f u old mid new r p e = record {
    ends = ends_eq _ _ r (book new) new.world.stack.top (ap (λ (t : Stack). walked (rules S) (book old) (behind c (f t.top))) (sym p.world) ∙ p.charged (f mid.world.stack.top)) e.ends;
    below = e.below ∙ ap (λ (t : Stack). t.below) p.world;
  }

  -- behind one that was not
  pub unpaid : (c : Option Charge) (f : State → Answer Val) (e : Stop) (old mid : Run) (r : Result Val Stop) → Handed r e → Pays S c old (Err e) mid → Evaluates S (λ s. behind c (f s)) old r mid
  unpaid c f e old mid r h p = record {
    ends = hand _ r e (book mid) mid.world.stack.top h (p.charged (f old.world.stack.top) mid.world.stack.top);
    below = ap (λ (t : Stack). t.below) p.world;
  }

  -- at the end
  pub gives : {A : Type 0} (v w : A) (old : Run) → w ≡ v → Evaluates S (give v) old (Ok w) old
  gives v w old h = record { ends = walked-stop (rules S) (book old) (Given v) old.world.stack.top ∙ ap (λ x. Gave x old.world.stack.top (book old)) (sym h); below = refl }

  pub throws : {A : Type 0} (v : Val) (old : Run) → Evaluates {A = A} S (stop (Thrown v)) old (Err (stops.Thrown v)) old
  throws v old = record { ends = walked-stop (rules S) (book old) (Thrown v) old.world.stack.top; below = refl }

  pub aborts : {A : Type 0} (why : Why) (old : Run) → Evaluates {A = A} S (stop (Aborted (cause why))) old (Err (stops.Aborted why)) old
  aborts why old = record { ends = walked-stop (rules S) (book old) (Aborted (cause why)) old.world.stack.top; below = refl }

  pub is_wrong : {A : Type 0} (old : Run) → Evaluates {A = A} S (stop Wrong) old (Err stops.Stuck) old
  is_wrong old = record { ends = walked-stop (rules S) (book old) Wrong old.world.stack.top; below = refl }

  -- for want of memory
  pub forgets : {A : Type 0} (f : State → Answer A) (old new : Run) (r : Result A Stop) → Handed r stops.NoMemory → new.world.stack.below ≡ old.world.stack.below → Evaluates S f old r new
  forgets f old new r h below = record { ends = hand _ r stops.NoMemory (book new) new.world.stack.top h tt; below = below }

  -- what was to come is what is to come on another state
  pub does : (f g : State → Answer Val) (old mid new : Run) (r : Result Val Stop) → f old.world.stack.top ≡ g mid.world.stack.top → book mid ≡ book old → mid.world.stack.below ≡ old.world.stack.below → Evaluates S g mid r new → Evaluates S f old r new
  does f g old mid new r h same below e = record {
    ends = ends_eq _ _ r (book new) new.world.stack.top ((λ i. walked (rules S) (sym same i) (h i))) e.ends;
    below = e.below ∙ below;
  }

-- How a run goes along the parts of an answer.
use Rattle.std.proofs.Common.{◌≡◌, ℕ, Option, Some, None, Result, Ok, Err, sym, ap, ◌∙◌, subst}
use Rattle.cl_shapes.specs.Limits.{Purse, spend}
use Rattle.cl_shapes.specs.declared.name.CostName.{CostName}
use Rattle.cl_values.specs.Tree.{Tree as Val}
use Rattle.cl_events.specs.State.{State}
use Rattle.cl_meaning.specs.Answers.{Outcome, Given, Aborted, Wrong, ByArithmetic, ByPanic, Answer, stop, charged, and_then, with_known}
use Rattle.cl_meaning.specs.Limits.{Costs, cost_of, Limited, Gave, Passed, Lost, limited, after}
use Rattle.cl_meaning.proofs.LimitLaws.{limited-then, limited-stop, charge_within, charge_over}
use Rattle.cl_frames.specs.declared.stop.Stop.{Stop}
use Rattle.cl_frames.specs.declared.stop.Stop.TheVariants.{Thrown, Arithmetic, Panic, Supply, CostLimit, Stuck, NoMemory}
use Rattle.cl_frames.specs.Runs.{Stops, Ends, Pays, Computes}

pub stops_eq : {A : Type 0} (l m : Limited A) (e : Stop) (q : Purse) (s : State) → l ≡ m → Stops m e q s → Stops l e q s
stops_eq l m e q s h k = subst (λ x. Stops x e q s) (sym h) k

-- what stops the first stops the whole
pub stops_after : {A B : Type 0} (l : Limited A) (go_on : A → State → Purse → Limited B) (e : Stop) (q : Purse) (s : State) → Stops l e q s → Stops (after l go_on) e q s
stops_after l go_on (Thrown v) q s h = ap (λ m. after m go_on) h
stops_after l go_on (Arithmetic why) q s h = ap (λ m. after m go_on) h
stops_after l go_on Panic q s h = ap (λ m. after m go_on) h
stops_after l go_on Supply q s h = ap (λ m. after m go_on) h
stops_after l go_on (CostLimit over) q s h = ap (λ m. after m go_on) h
stops_after l go_on Stuck q s h = ap (λ m. after m go_on) h
stops_after l go_on NoMemory q s h = tt

pub stops_then : {A B : Type 0} (costs : Costs) (p q : Purse) (a : Answer A) (go_on : A → State → Answer B) (e : Stop) (t : State) → Stops (limited costs p a) e q t → Stops (limited costs p (and_then a go_on)) e q t
stops_then costs p q a go_on e t h =
    stops_eq (limited costs p (and_then a go_on)) (after (limited costs p a) (λ v s r. limited costs r (go_on v s))) e q t (limited-then costs p a go_on)
    (stops_after (limited costs p a) (λ v s r. limited costs r (go_on v s)) e q t h)

-- a charge that isn't spent
pub charge_stops : {A : Type 0} (costs : Costs) (p q : Purse) (name : CostName) (n : ℕ) (a : Answer A) (e : Stop) (s : State) → Pays costs p name n (Err e) q → Stops (limited costs p (charged name n a)) e q s
charge_stops costs p q name n a (CostLimit over) s h = charge_over costs p over name n a h.0 ∙ ap (Passed over) (sym h.1)
charge_stops costs p q name n a (Thrown v) s h = absurd h
charge_stops costs p q name n a (Arithmetic why) s h = absurd h
charge_stops costs p q name n a Panic s h = absurd h
charge_stops costs p q name n a Supply s h = absurd h
charge_stops costs p q name n a Stuck s h = absurd h
charge_stops costs p q name n a NoMemory s h = absurd h

-- what `?` hands on
abbrev pub Handed : {A : Type 0} → Result A Stop → Stop → Type 0
Handed r e = (x : Stop) × (r ≡ Err x) × (x ≡ e)

pub hands_on : {A : Type 0} (l : Limited A) (r : Result A Stop) (e : Stop) (q : Purse) (s : State) → Handed r e → Stops l e q s → Ends l r q s
hands_on l r e q s p h = subst (λ x. Ends l x q s) (sym (p.1 ∙ ap Err p.2)) h

-- a charge that isn't spent ends a run
pub pay_fails : {A : Type 0} (l : Limited A) (r : Result A Stop) (e : Stop) (costs : Costs) (p q : Purse) (s : State) (name : CostName) (n : ℕ) (a : Answer A) → Handed r e → l ≡ limited costs p (charged name n a) → Pays costs p name n (Err e) q → Ends l r q s
pay_fails l r e costs p q s name n a h k pays = hands_on l r e q s h (stops_eq l (limited costs p (charged name n a)) e q s k (charge_stops costs p q name n a e s pays))

-- the same, the number worked out by the code
pub pay_fails_at : {A : Type 0} (l : Limited A) (r : Result A Stop) (e : Stop) (costs : Costs) (p q : Purse) (s : State) (name : CostName) (m n : ℕ) (a : Answer A) → Handed r e → m ≡ n → l ≡ limited costs p (charged name n a) → Pays costs p name m (Err e) q → Ends l r q s
pay_fails_at l r e costs p q s name m n a h same k pays = pay_fails l r e costs p q s name n a h k (subst (λ i. Pays costs p name i (Err e) q) same pays)

-- a part that stops ends a run
pub part_fails : {A B : Type 0} (l : Limited B) (r : Result B Stop) (e : Stop) (costs : Costs) (p q : Purse) (s : State) (a : Answer A) (go_on : A → State → Answer B) → Handed r e → l ≡ limited costs p (and_then a go_on) → Stops (limited costs p a) e q s → Ends l r q s
part_fails l r e costs p q s a go_on h k stops = hands_on l r e q s h (stops_eq l (limited costs p (and_then a go_on)) e q s k (stops_then costs p q a go_on e s stops))

pub ends_so : {A : Type 0} (l m : Limited A) (r : Result A Stop) (q : Purse) (s : State) → l ≡ m → Ends m r q s → Ends l r q s
ends_so l m r q s h e = subst (λ x. Ends x r q s) (sym h) e

-- what a native computes ends a run
pub native_ends : (costs : Costs) (p : Purse) (o : Outcome Val) (r : Result Val Stop) (s : State) → Computes o r → Ends (limited costs p (stop o s)) r p s
native_ends costs p o (Ok v) s h = ap (λ x. limited costs p (stop x s)) h ∙ limited-stop costs p (Given v) s
native_ends costs p o (Err (Arithmetic why)) s h = ap (λ x. limited costs p (stop x s)) h ∙ limited-stop costs p (Aborted (ByArithmetic why)) s
native_ends costs p o (Err Panic) s h = ap (λ x. limited costs p (stop x s)) h ∙ limited-stop costs p (Aborted ByPanic) s
native_ends costs p o (Err Supply) s h = absurd h
native_ends costs p o (Err Stuck) s h = ap (λ x. limited costs p (stop x s)) h ∙ limited-stop costs p Wrong s
native_ends costs p o (Err NoMemory) s h = tt
native_ends costs p o (Err (CostLimit over)) s h = absurd h
native_ends costs p o (Err (Thrown v)) s h = absurd h

-- a value is given where the code gives one that is equal
pub gives : {A : Type 0} (costs : Costs) (p : Purse) (v w : A) (s t : State) → w ≡ v → t ≡ s → limited costs p (stop (Given v) s) ≡ Gave w t p
gives costs p v w s t h k = limited-stop costs p (Given v) s ∙ ap (λ x. Gave x s p) (sym h) ∙ ap (λ x. Gave w x p) (sym k)

-- a charge whose number the code has worked out
pub charge_spent : {A : Type 0} (costs : Costs) (p q : Purse) (name : CostName) (m n : ℕ) (a : Answer A) → m ≡ n → spend p (cost_of costs name m) ≡ Ok q → limited costs p (charged name n a) ≡ limited costs q a
charge_spent costs p q name m n a h k = charge_within costs p q name n a (ap (λ k. spend p (cost_of costs name k)) (sym h) ∙ k)

pub charge_refused : {A : Type 0} (costs : Costs) (p q : Purse) (name : CostName) (m n : ℕ) (a : Answer A) (e : Stop) (s : State) → m ≡ n → Pays costs p name m (Err e) q → Stops (limited costs p (charged name n a)) e q s
charge_refused costs p q name m n a e s h k = charge_stops costs p q name n a e s (subst (λ l. Pays costs p name l (Err e) q) h k)

-- goes on with what is known to be there, and is lost where it isn't
pub known_some : {A B : Type 0} (costs : Costs) (p : Purse) (o : Option A) (v : A) (go_on : A → State → Answer B) (s : State) → o ≡ Some v → limited costs p (with_known o go_on s) ≡ limited costs p (go_on v s)
known_some costs p o v go_on s h = ap (λ x. limited costs p (with_known x go_on s)) h

pub known_none : {A B : Type 0} (costs : Costs) (p : Purse) (o : Option A) (go_on : A → State → Answer B) (s : State) → o ≡ None → limited costs p (with_known o go_on s) ≡ Lost p
known_none costs p o go_on s h = ap (λ x. limited costs p (with_known x go_on s)) h ∙ limited-stop costs p Wrong s

pub known_same : {A : Type 0} (costs : Costs) (p : Purse) (o u : Option A) (go_on : A → State → Answer Val) (s : State) → o ≡ u → limited costs p (with_known o go_on s) ≡ limited costs p (with_known u go_on s)
known_same costs p o u go_on s h = ap (λ x. limited costs p (with_known x go_on s)) h

-- What a call that comes to something answers.
use Rattle.std.proofs.Common.{◌≡◌, ℕ, List, Some, None, Result, Ok, Err, refl, sym, ap, ◌∙◌, subst}
use Rattle.cl_types.specs.declared.fault.Fault.{Fault}
use Rattle.cl_types.specs.declared.fault.Fault.TheVariants.{Refused, NoMemory as OutOfMemory}
use Rattle.cl_types.specs.declared.sized.Access.{Access}
use Rattle.cl_shapes.specs.Limits.{Purse}
use Rattle.cl_values.specs.Tree.{Tree}
use Rattle.cl_events.specs.State.{State}
use Rattle.cl_meaning.specs.Answers.{with_known}
use Rattle.cl_meaning.specs.Deployed.{Deployed, Function, contract_at, function_of}
use Rattle.cl_meaning.specs.Limits.{Costs, Limited, Gave, Threw, AbortedBy, Passed, Lost, limited}
use Rattle.cl_meaning.specs.Scope.{Frame}
use Rattle.cl_meaning.specs.Top.{call_from}
use Rattle.cl_frames.specs.declared.abort.Abort.{Abort}
use Rattle.cl_frames.specs.declared.abort.Abort.TheVariants.{Overflow, Underflow, DivideByZero, NegativeArgument, Panic, SupplyOverflow, EarlyTop, CostLimit}
use Rattle.cl_frames.specs.Aborts.{AbortsBy, Answers, IsEarly}
use Rattle.cl_file.specs.declared.entry.Common.{Common}
use Rattle.cl_tx.specs.Nodes.{NodeSeen, call_ended}
use Rattle.cl_nodes.specs.Calling.{Comes}
use Rattle.cl_nodes.proofs.Ends.{response}
use Rattle.cl_engine.specs.Ends.{AbortsCall, MayAnswer}

-- ---- what comes to something

-- nothing comes of a call out of which a value is thrown
early : (common : Common) (access : Access) (node : NodeSeen) (l : Limited Tree) (q : Purse) → IsEarly l q → call_ended common access node l ≡ None
early common access node (Threw v s p) q h = refl
early common access node (Gave v s p) q h = absurd h
early common access node (AbortedBy why p) q h = absurd h
early common access node (Passed over p) q h = absurd h
early common access node (Lost p) q h = absurd h

-- so no value is thrown out of one that comes to something
aborts_call : (common : Common) (access : Access) (l : Limited Tree) (abort : Abort) (q : Purse) → Comes common access l → AbortsBy l abort q → AbortsCall abort
aborts_call common access l EarlyTop q comes h = none (sym (early common access comes.node l q h) ∙ comes.ended)
  where
    none : None ≡ Some comes.stepped → ⊥
    none e = cc
aborts_call common access l Overflow q comes h = tt
aborts_call common access l Underflow q comes h = tt
aborts_call common access l DivideByZero q comes h = tt
aborts_call common access l NegativeArgument q comes h = tt
aborts_call common access l Panic q comes h = tt
aborts_call common access l SupplyOverflow q comes h = tt
aborts_call common access l (CostLimit over) q comes h = tt

pub may_answer : (common : Common) (access : Access) (l : Limited Tree) (answer : Result Tree (Fault Abort)) (q : Purse) (s : State) → Comes common access l → Answers l answer q s → MayAnswer access answer
may_answer common access l (Ok v) q s comes h = response common access v comes.node q.spent s comes.stepped (sym (ap (call_ended common access comes.node) h) ∙ comes.ended)
may_answer common access l (Err (Refused abort)) q s comes h = aborts_call common access l abort q comes h
may_answer common access l (Err OutOfMemory) q s comes h = tt

-- ---- what a run answers

pub run_answers :
    (costs : Costs) (p full : Purse) (W : Deployed) (F : Frame) (x : List ℕ) (f : Function) (args values : List Tree) (s u : State) (answer : Result Tree (Fault Abort)) (q : Purse) (t : State) →
    p ≡ full → function_of x (contract_at F.contract W) ≡ Some f → values ≡ args → u ≡ s →
    Answers (limited costs p (with_known (function_of x (contract_at F.contract W)) (λ g. call_from W F g values) u)) answer q t →
    Answers (limited costs full (call_from W F f args s)) answer q t
run_answers costs p full W F x f args values s u answer q t ep ef ev es h =
    let same : limited costs p (with_known (function_of x (contract_at F.contract W)) (λ g. call_from W F g values) u) ≡ limited costs full (call_from W F f args s) =
    λ i. limited costs (ep i) (with_known (ef i) (λ g. call_from W F g (ev i)) (es i)) in
    subst (λ (l : Limited Tree). Answers l answer q t) same h

-- How walks leave what a limit leaves, and how calls may end.
use Rattle.std.proofs.Common.{◌≡◌, Some, None, Result, Ok, Err, refl, sym, ap, ◌∙◌}
use Rattle.cl_types.specs.declared.sized.Access.{Access}
use Rattle.cl_shapes.specs.Limits.{Purse}
use Rattle.cl_values.specs.Tree.{Tree}
use Rattle.cl_events.specs.State.{State}
use Rattle.cl_meaning.specs.Deployed.{Contract}
use Rattle.cl_meaning.specs.Limits.{Limited, Gave, Threw, AbortedBy, Passed, Lost}
use Rattle.cl_walks.specs.declared.stop.Stop.{Stop}
use Rattle.cl_walks.specs.declared.stop.Stop.TheVariants as stops
use Rattle.cl_walks.specs.Ends.{Ends, cause}
use Rattle.cl_walks.specs.Walked.{Book, Walked}
use Rattle.cl_walks.specs.Walked as walked
use Rattle.cl_file.specs.declared.entry.Common.{Common}
use Rattle.cl_tx.specs.Nodes.{call_ended, deployment_ended}
use Rattle.cl_audit_steps.specs.declared.scope.Contract.{Contract as ContractOfCode}
use Rattle.cl_audit.specs.Agrees.{with_kept}
use Rattle.cl_audit_deploy.specs.Deploying.{opened}
use Rattle.cl_nodes.specs.Calling.{Comes}
use Rattle.cl_nodes.proofs.Ends.{response}
use Rattle.cl_audit_entries.specs.Deploying.{DeploymentComes, MayStop}
use Rattle.cl_audit_entries.specs.Ending.{Leaves, MayEnd}

-- ---- what a walk leaves

-- what a walk under a limit ended as, without what an observer keeps
abbrev without_kept : {K A : Type 0} → Walked K A → Limited A
without_kept (walked.Gave v s b) = Gave v s b.purse
without_kept (walked.Threw v s b) = Threw v s b.purse
without_kept (walked.AbortedBy why b) = AbortedBy why b.purse
without_kept (walked.Passed over b) = Passed over b.purse
without_kept (walked.Lost b) = Lost b.purse

limit_again : {K A : Type 0} (l : Limited A) (k : K) → without_kept (with_kept l k) ≡ l
limit_again (Gave v s p) k = refl
limit_again (Threw v s p) k = refl
limit_again (AbortedBy why p) k = refl
limit_again (Passed over p) k = refl
limit_again (Lost p) k = refl

limit_is : {K A : Type 0} (l : Limited A) (k : K) (w : Walked K A) → with_kept l k ≡ w → l ≡ without_kept w
limit_is l k w h = sym (limit_again l k) ∙ ap without_kept h

pub leaves : {K A : Type 0} (l : Limited A) (k : K) (end : Result A Stop) (b : Book K) (s : State) → Ends (with_kept l k) end b s → Leaves l end b.purse s
leaves l k (Ok v) b s h = limit_is l k (walked.Gave v s b) h
leaves l k (Err (stops.Thrown v)) b s h = limit_is l k (walked.Threw v s b) h
leaves l k (Err (stops.Aborted why)) b s h = limit_is l k (walked.AbortedBy (cause why) b) h
leaves l k (Err (stops.CostLimit over)) b s h = limit_is l k (walked.Passed over b) h
leaves l k (Err stops.Stuck) b s h = limit_is l k (walked.Lost b) h
leaves l k (Err stops.NoMemory) b s h = tt

-- ---- calls that come to something

pub may_end : (common : Common) (access : Access) (l : Limited Tree) (end : Result Tree Stop) (q : Purse) (s : State) → Comes common access l → Leaves l end q s → MayEnd access end
may_end common access l (Ok v) q s comes h = response common access v comes.node q.spent s comes.stepped (sym (ap (call_ended common access comes.node) h) ∙ comes.ended)
may_end common access l (Err (stops.Thrown v)) q s comes h = absurd (none (sym (ap (call_ended common access comes.node) h) ∙ comes.ended))
  where
    none : None ≡ Some comes.stepped → ⊥
    none e = cc
may_end common access l (Err (stops.Aborted why)) q s comes h = tt
may_end common access l (Err (stops.CostLimit over)) q s comes h = tt
may_end common access l (Err stops.Stuck) q s comes h = absurd (none (sym (ap (call_ended common access comes.node) h) ∙ comes.ended))
  where
    none : None ≡ Some comes.stepped → ⊥
    none e = cc
may_end common access l (Err stops.NoMemory) q s comes h = tt

-- ---- deployments that come to something

pub may_stop : (common : Common) (l : Limited Contract) (K : ContractOfCode) (end : Result (Unit {0}) Stop) (q : Purse) (s : State) → DeploymentComes common l → Leaves l (opened end K) q s → MayStop end
may_stop common l K (Ok u) q s comes h = tt
may_stop common l K (Err (stops.Thrown v)) q s comes h = tt
may_stop common l K (Err (stops.Aborted why)) q s comes h = tt
may_stop common l K (Err (stops.CostLimit over)) q s comes h = tt
may_stop common l K (Err stops.Stuck) q s comes h = absurd (none (sym (ap (deployment_ended common comes.node comes.told comes.known) h) ∙ comes.ended))
  where
    none : None ≡ Some comes.stepped → ⊥
    none e = cc
may_stop common l K (Err stops.NoMemory) q s comes h = tt

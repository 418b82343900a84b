-- What a limit leaves of a deployment, by how its evaluation ended.
use Rattle.std.proofs.Common.{◌≡◌, ℕ, [], ◌∷◌, Some, None, sym, ap, subst, ◌∙◌}
use Rattle.std.specs.Prelude.{IfOk, Option, Result, Ok, Err}
use Rattle.cl_types.specs.declared.fault.Fault.{Fault}
use Rattle.cl_types.specs.declared.fault.Fault.TheVariants.{Refused, NoMemory as OutOfMemory}
use Rattle.cl_types.specs.declared.fault.NoMemory.{NoMemory as NoMemoryError}
use Rattle.cl_shapes.specs.declared.cost.Cost5.{Cost5}
use Rattle.cl_shapes.specs.Limits.{Purse}
use Rattle.cl_events.specs.State.{State}
use Rattle.cl_state.specs.Stack.{Stack}
use Rattle.cl_meaning.specs.Answers.{Answer}
use Rattle.cl_meaning.specs.Deployed.{Contract}
use Rattle.cl_meaning.specs.Limits.{Costs, Limited, Gave, Threw, AbortedBy, Passed, Lost, limited}
use Rattle.cl_contracts.specs.declared.checked.Checked.{Checked}
use Rattle.cl_frames.specs.declared.abort.Abort.{Abort}
use Rattle.cl_frames.specs.declared.abort.Abort.TheVariants as abort
use Rattle.cl_frames.specs.Aborts.{AbortsBy, IsEarly}
use Rattle.cl_frames.specs.Deploys.{Deploys, contract_with}
use Rattle.cl_rules.specs.Context.{Known}
use Rattle.cl_tx.specs.declared.outcome.Stop.TheVariants as stops
use Rattle.cl_tx.specs.declared.outcome.Outcome.TheVariants as outcomes
use Rattle.cl_post.specs.Post.{holds}
use Rattle.cl_file.specs.declared.entry.Common.{Common}
use Rattle.cl_tx.specs.Nodes.{NodeSeen, Told, deployment_ended, settled_by, with_contract, aborted}
use Rattle.cl_engine.specs.Ends.{stop_by, cost_by}
use Rattle.cl_frames.specs.Watching.{Tells}
use Rattle.cl_frames.specs.Watching as watching
use Rattle.cl_engine.specs.Traces.{SeesAll, Trace}
use Rattle.cl_engine.specs.Deploying.{Constants, EndsAs, Runs}
use Rattle.cl_engine.proofs.Tracing.{start_all}
use Rattle.cl_engine.specs.declared.deployment.Ran.{Ran}
use Rattle.cl_engine.specs.declared.deployment.Ran.TheVariants.{Done, Stopped}

-- a deployment that throws a value at the top stops so
early : (common : Common) (node : NodeSeen) (told : Told) (known : Known) (l : Limited Contract) (q : Purse) → IsEarly l q → deployment_ended common node told known l ≡ Some (aborted node told stops.EarlyTop q.spent)
early common node told known (Threw v s p) q e = ap (λ (r : Purse). Some (aborted node told stops.EarlyTop r.spent)) e
early common node told known (Gave c s p) q e = absurd e
early common node told known (AbortedBy why p) q e = absurd e
early common node told known (Passed over p) q e = absurd e
early common node told known (Lost p) q e = absurd e

module _ (common : Common) (node : NodeSeen) (told : Told) (known : Known) (l : Limited Contract) where
  ends : (why : Abort) (q : Purse) → AbortsBy l why q → deployment_ended common node told known l ≡ Some (aborted node told (stop_by why) (cost_by why q.spent))
  ends abort.Overflow q a = ap (deployment_ended common node told known) a
  ends abort.Underflow q a = ap (deployment_ended common node told known) a
  ends abort.DivideByZero q a = ap (deployment_ended common node told known) a
  ends abort.NegativeArgument q a = ap (deployment_ended common node told known) a
  ends abort.Panic q a = ap (deployment_ended common node told known) a
  ends abort.SupplyOverflow q a = ap (deployment_ended common node told known) a
  ends abort.EarlyTop q a = early common node told known l q a
  ends (abort.CostLimit over) q a = ap (deployment_ended common node told known) a

head_is : {A : Type 0} (x y : A) → x ∷ [] ≡ y ∷ [] → x ≡ y
head_is x y e = cc

-- an evaluation ends, and so the deployment runs
pub runs : (common : Common) (l : Limited Contract) (c : Checked) (s : State) (q : Purse) (layer : Stack) (ended : Result Constants (Fault Abort)) (failing : Option ℕ) (ran : Ran) (after : State) (spent : Cost5) →
    layer.below ≡ s ∷ [] → spent ≡ q.spent → holds layer.top.moves common.mode common.conditions ≡ failing → Deploys l c ended q layer.top → EndsAs ended failing spent ran layer after → Runs common l c ran s after
runs common l c s q layer (Ok given) None (Done cost constants events) after spent below is first defines e = record {
  state = layer.top;
  purse = q;
  gave = defines ∙ ap (λ (k : Constants). Gave (contract_with c k.entries) layer.top q) (sym e.0);
  spent = sym is ∙ sym e.1;
  passes = first;
  told = e.2;
  rests = e.3;
}
runs common l c s q layer (Ok given) None (Stopped why cost) after spent below is first defines e = absurd e
runs common l c s q layer (Ok given) (Some index) (Done cost constants events) after spent below is first defines e = absurd e
runs common l c s q layer (Ok given) (Some index) (Stopped stop cost) after spent below is first defines e = record {
  ended = λ node told known.
      ap (deployment_ended common node told known) defines
      ∙ (λ i. Some (settled_by (first i) node (with_contract node (contract_with c given.entries) known) told outcomes.Done q.spent layer.top))
      ∙ (λ i. Some (aborted node told (sym e.0 i) (sym (e.1 ∙ is) i)));
  undone = head_is after s (e.2 ∙ below);
}
runs common l c s q layer (Err (Refused why)) failing (Stopped stop cost) after spent below is first defines e = record {
  ended = λ node told known. ends common node told known l why q defines ∙ (λ i. Some (aborted node told (sym e.0 i) (sym (e.1 ∙ ap (cost_by why) is) i)));
  undone = head_is after s (e.2 ∙ below);
}
runs common l c s q layer (Err (Refused why)) failing (Done cost constants events) after spent below is first defines e = absurd e
runs common l c s q layer (Err OutOfMemory) failing ran after spent below is first defines e = absurd e

-- what the evaluation shows, of the deployment from the state below the layer, under a limit of which nothing is spent
pub shown : (costs : Costs) (purse full : Purse) (a : State → Answer Contract) (c : Checked) (t s : State) (ended : Result Constants (Fault Abort)) (q : Purse) (top : State) →
    purse ≡ full → t ≡ s → Deploys (limited costs purse (a t)) c ended q top → Deploys (limited costs full (a s)) c ended q top
shown costs purse full a c t s ended q top unspent is defines = subst (λ (l : Limited Contract). Deploys l c ended q top) (λ i. limited costs (unspent i) (a (is i))) defines

-- ---- what is seen of it

-- what a watch has seen of an evaluation, by how the deployment ran
pub tells_ran : (ended : Result Constants (Fault Abort)) (failing : Option ℕ) (spent : Cost5) (layer : Stack) (after : State) (result : Result Ran NoMemoryError) (seen now : watching.Seen) (all : Trace) →
    Tells seen now all ended → IfOk result (λ ran. EndsAs ended failing spent ran layer after) → SeesAll seen now all result
tells_ran (Ok given) failing spent layer after (Ok ran) seen now all tells ends = tells
tells_ran (Err (Refused why)) failing spent layer after (Ok ran) seen now all tells ends = tells
tells_ran (Err OutOfMemory) failing spent layer after (Ok ran) seen now all tells ends = absurd ends
tells_ran (Ok given) failing spent layer after (Err e) seen now all tells ends = start_all seen now all tells
tells_ran (Err (Refused why)) failing spent layer after (Err e) seen now all tells ends = start_all seen now all tells
tells_ran (Err OutOfMemory) failing spent layer after (Err e) seen now all tells ends = tells

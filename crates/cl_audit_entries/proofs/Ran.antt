-- What the deployment of an accepted contract makes of a sound node, by how it ran.
use Rattle.std.proofs.Common.{◌≡◌, ℕ, List, [], ◌∷◌, ◌++◌, map, Option, Some, None, Result, Ok, Err, refl, sym, ap, subst, ◌∙◌}
use Rattle.std.proofs.lemmas.List.{map_push}
use Rattle.cl_shapes.specs.declared.cost.Cost5.{Cost5}
use Rattle.cl_shapes.specs.Limits.{Purse}
use Rattle.cl_events.specs.State.{State}
use Rattle.cl_state.specs.Stack.{Stack}
use Rattle.cl_meaning.specs.Deployed.{Contract, Deployed}
use Rattle.cl_meaning.specs.Deploying.{deployment}
use Rattle.cl_meaning.specs.Limits.{Limited, limited}
use Rattle.cl_meaning.specs.Trace.{Claim as Told, trace_of}
use Rattle.cl_rules.specs.Context.{Known}
use Rattle.cl_contracts.specs.declared.deployed.Deployed.{Deployed as DeployedOfCode}
use Rattle.cl_contracts.specs.Contents.{with_constants}
use Rattle.cl_contracts.specs.Known.{DefinedAsKept}
use Rattle.cl_contracts.specs.Seen.{contract_seen as checked_seen}
use Rattle.cl_post.specs.Post.{holds}
use Rattle.cl_file.specs.declared.entry.Common.{Common}
use Rattle.cl_tx.specs.declared.outcome.Outcome.{Outcome}
use Rattle.cl_tx.specs.declared.outcome.Outcome.TheVariants as outcome
use Rattle.cl_tx.specs.Nodes.{Told as ToldOf, aborted, deployment_ended, purse_of, result_of, settled_by, with_contract}
use Rattle.cl_node_sound.specs.Laws.{DeploymentsStep}
use Rattle.cl_node_sound.specs.Sound.{HasParts}
use Rattle.cl_rules.specs.Laws.{AcceptedIsClean, OneOrder}
use Rattle.cl_nodes.specs.declared.admitting.Accepted.{Accepted}
use Rattle.cl_nodes.specs.declared.asked.Deployment.{Deployment}
use Rattle.cl_nodes.specs.declared.asked.Moment.{Moment}
use Rattle.cl_nodes.specs.declared.contracts.Contracts.{Contracts as ContractsOfCode}
use Rattle.cl_nodes.specs.Accepting.{IsAccepted, told_seen, told_with}
use Rattle.cl_nodes.specs.Asked.{deployment_entry, frame_for}
use Rattle.cl_nodes.specs.Bounded.{costs_of, entries_of}
use Rattle.cl_nodes.specs.Seen.{Seen, node_with, seen}
use Rattle.cl_nodes.specs.Sound.{Contracts, IsSoundWith}
use Rattle.cl_nodes.specs.Steps.{MakesWith}
use Rattle.cl_nodes.specs.Traces.{IsTrace, claims}
use Rattle.cl_nodes.proofs.Tracing.{IsRun, as_run}
use Rattle.cl_walks.specs.declared.stop.Stop.{Stop}
use Rattle.cl_walks.specs.declared.stop.Stop.TheVariants as stops
use Rattle.cl_audit_steps.specs.declared.scope.Contract.{Contract as ContractOfCode}
use Rattle.cl_audit_steps.specs.Seen.{contract_seen, contracts_seen}
use Rattle.cl_audit_walk.specs.declared.run.Run.{Run}
use Rattle.cl_audit_deploy.specs.Deploying.{opened, without_values}
use Rattle.cl_audit_entries.specs.declared.deployment.Ran.{Ran}
use Rattle.cl_audit_entries.specs.declared.deployment.Ran.TheVariants.{Done, Stopped}
use Rattle.cl_audit_entries.specs.Deploying.{DeploymentComes, EndsAs, IsCheckedAfter, RunsSo, evaluation_of, opened_of, result_after, texts_after}
use Rattle.cl_audit_entries.specs.Ending.{Leaves}
use Rattle.cl_audit_entries.specs.Seen.{AreThose}
use Rattle.cl_audit_entries.proofs.Deployments.{accepted, comes, makes_done, makes_stopped, same_answer, same_left}

-- ---- how it ran

head_is : {A : Type 0} (x y : A) → x ∷ [] ≡ y ∷ [] → x ≡ y
head_is x y e = cc

-- an evaluation ends, and so the deployment runs
pub runs : (common : Common) (l : Limited Contract) (K : ContractOfCode) (s : State) (q : Purse) (layer : Stack) (end : Result (Unit {0}) Stop) (failing : Option ℕ) (ran : Ran) (after : State) (spent : Cost5) →
    layer.below ≡ s ∷ [] → spent ≡ q.spent → holds layer.top.moves common.mode common.conditions ≡ failing → Leaves l (opened end K) q layer.top → EndsAs end failing spent ran layer after → RunsSo common l (contract_seen K) ran s after
runs common l K s q layer (Ok u) None (Done cost events) after spent below is first leaves e = record {
  state = layer.top;
  purse = q;
  gave = leaves;
  spent = sym is ∙ sym e.0;
  passes = first;
  told = e.1;
  rests = e.2;
}
runs common l K s q layer (Ok u) None (Stopped why cost) after spent below is first leaves e = absurd e
runs common l K s q layer (Ok u) (Some index) (Done cost events) after spent below is first leaves e = absurd e
runs common l K s q layer (Ok u) (Some index) (Stopped why cost) after spent below is first leaves e = record {
  ended = λ node told known.
      ap (deployment_ended common node told known) leaves
      ∙ (λ i. Some (settled_by (first i) node (with_contract node (contract_seen K) known) told outcome.Done q.spent layer.top))
      ∙ (λ i. Some (aborted node told (sym e.0 i) (sym (e.1 ∙ is) i)));
  undone = head_is after s (e.2 ∙ below);
}
runs common l K s q layer (Err (stops.Thrown v)) failing (Stopped why cost) after spent below is first leaves e = record {
  ended = λ node told known. ap (deployment_ended common node told known) leaves ∙ (λ i. Some (aborted node told (sym e.0 i) (sym (e.1 ∙ is) i)));
  undone = head_is after s (e.2 ∙ below);
}
runs common l K s q layer (Err (stops.Aborted y)) failing (Stopped why cost) after spent below is first leaves e = record {
  ended = λ node told known. ap (deployment_ended common node told known) leaves ∙ (λ i. Some (aborted node told (sym e.0 i) (sym (e.1 ∙ is) i)));
  undone = head_is after s (e.2 ∙ below);
}
runs common l K s q layer (Err (stops.CostLimit over)) failing (Stopped why cost) after spent below is first leaves e = record {
  ended = λ node told known. ap (deployment_ended common node told known) leaves ∙ (λ i. Some (aborted node told (sym e.0 i) (sym e.1 i)));
  undone = head_is after s (e.2 ∙ below);
}
runs common l K s q layer (Err stops.Stuck) failing ran after spent below is first leaves e = absurd e
runs common l K s q layer (Err stops.NoMemory) failing ran after spent below is first leaves e = absurd e
runs common l K s q layer (Err (stops.Thrown v)) failing (Done cost events) after spent below is first leaves e = absurd e
runs common l K s q layer (Err (stops.Aborted y)) failing (Done cost events) after spent below is first leaves e = absurd e
runs common l K s q layer (Err (stops.CostLimit over)) failing (Done cost events) after spent below is first leaves e = absurd e

-- it didn't want memory
pub ends_well : (end : Result (Unit {0}) Stop) (failing : Option ℕ) (spent : Cost5) (ran : Ran) (layer : Stack) (after : State) → EndsAs end failing spent ran layer after → end ≡ Err stops.NoMemory → ⊥
ends_well end failing spent ran layer after e none = subst (λ (x : Result (Unit {0}) Stop). EndsAs x failing spent ran layer after) none e

-- ---- what it makes of a node

module _ (d : Deployment) (m : Moment) (cs : ContractsOfCode) (texts : List ContractOfCode) (run : Run) (a : Accepted) (is : IsAccepted d cs a) where
  abbrev es : Contracts
  es = entries_of cs

  abbrev s : State
  s = run.world.stack.top

  abbrev W : Deployed
  W = contracts_seen texts

  abbrev before : Seen
  before = seen s W m.height

  told_is : told_seen a.told ≡ told_with a.told.bounds a.checked.definitions.items
  told_is = λ i. record { bounds = Some a.told.bounds; types = is.types i }

  -- what the limit leaves of the evaluation
  abbrev left : Limited Contract
  left = limited (costs_of cs) (purse_of d.common.now) (evaluation_of texts (frame_for d m) a run)

  module _ (known : List Known) (sound : IsSoundWith es before known) where
    left_is : left ≡ limited (costs_of cs) (purse_of d.common.now) (deployment W (frame_for d m) (opened_of a.checked) s)
    left_is = refl

    pub makes_as : (ran : Ran) (K : ContractOfCode) → without_values (contract_seen K) ≡ opened_of a.checked → DefinedAsKept → (after : State) → RunsSo d.common.now left (contract_seen K) ran s after → (fs : Contracts) → IsCheckedAfter es a ran fs →
        MakesWith (costs_of cs) known before (deployment_entry d) (result_after a ran) fs (seen after (contracts_seen (texts_after texts K ran)) m.height)
    makes_as (Done cost events) K bare law after ran fs added =
        subst (λ (n : Contracts × Deployed). MakesWith (costs_of cs) known before (deployment_entry d) (result_after a (Done cost events)) n.0 (seen after n.1 m.height))
        (λ i. (sym added i, sym (map_push contract_seen texts K) i))
        (makes_done cs.table es W s m.height d.common.now d.name.now d.source.now d.version known sound a.checked is.checked a.told.bounds is.bounded (contract_seen K) bare law (is.new.none_known known sound.trees) cost events.items after (result_after a (Done cost events))
        (subst (λ l. RunsSo d.common.now l (contract_seen K) (Done cost events) s after) (same_left cs.table es W s m.height d.common.now d.name.now d.source.now d.version known sound a.checked is.checked a.told.bounds is.bounded (frame_for d m) refl) ran)
        (ap (λ (t : ToldOf). result_of t outcome.Done (Some cost) events.items) told_is))
    makes_as (Stopped why cost) K bare law after ran fs same =
        subst (λ (gs : Contracts). MakesWith (costs_of cs) known before (deployment_entry d) (result_after a (Stopped why cost)) gs (seen after W m.height)) (sym same)
        (makes_stopped cs.table es W s m.height d.common.now d.name.now d.source.now d.version known sound a.checked is.checked a.told.bounds is.bounded law (is.new.none_known known sound.trees) why cost after (result_after a (Stopped why cost))
        (subst (λ l. RunsSo d.common.now l (contract_seen K) (Stopped why cost) s after) (same_left cs.table es W s m.height d.common.now d.name.now d.source.now d.version known sound a.checked is.checked a.told.bounds is.bounded (frame_for d m) refl) ran)
        (ap (λ (t : ToldOf). result_of t (outcome.Aborted why) (Some cost) []) told_is))

    -- something comes of it
    pub comes_as : DeploymentsStep → AcceptedIsClean → OneOrder → HasParts (deployment_entry d) → DeploymentComes d.common.now left
    comes_as law clean order parts =
        comes cs.table es W s m.height d.common.now d.name.now d.source.now d.version known sound a.checked is.checked a.told.bounds is.bounded law clean order parts (is.new.none_known known sound.trees) (frame_for d m) refl

    -- its trace
    abbrev all : List Told
    all = trace_of (costs_of cs) (purse_of d.common.now) (evaluation_of texts (frame_for d m) a run)

    ran_out : (ran : Ran) → IsRun (result_after a ran).outcome
    ran_out (Done cost events) = tt
    ran_out (Stopped why cost) = tt

    pub traced : (ran : Ran) (o : Outcome) → o ≡ (result_after a ran).outcome → IsTrace (costs_of cs) (node_with known before) (deployment_entry d) o all
    traced ran o at = subst (λ o. IsTrace (costs_of cs) (node_with known before) (deployment_entry d) o all) (sym at)
        (as_run claims (costs_of cs) (node_with known before) (deployment_entry d) all (result_after a ran).outcome (ran_out ran) (record {
          accepted = accepted cs.table es W s m.height d.common.now d.name.now d.source.now d.version known sound a.checked is.checked a.told.bounds is.bounded;
          is = ap (trace_of (costs_of cs) (purse_of d.common.now)) (same_answer cs.table es W s m.height d.common.now d.name.now d.source.now d.version known sound a.checked is.checked a.told.bounds is.bounded (frame_for d m) refl);
        }))

-- ---- the contracts then

pub those_after : (texts : List ContractOfCode) (old new : DeployedOfCode) (a : Accepted) (ran : Ran) (K : ContractOfCode) → without_values (contract_seen K) ≡ opened_of a.checked → AreThose texts old → IsCheckedAfter old.contracts a ran new.contracts → AreThose (texts_after texts K ran) new
those_after texts old new a (Done cost events) K bare those added = record {
  same =
      ap (map without_values) (map_push contract_seen texts K) ∙ map_push without_values (contracts_seen texts) (contract_seen K)
      ∙ (λ i. those.same i ++ bare i ∷ [])
      ∙ sym (ap (map checked_seen) added ∙ map_push checked_seen old.contracts (a.checked.principal, with_constants a.checked []));
}
those_after texts old new a (Stopped why cost) K bare those same = record { same = those.same ∙ sym (ap (map checked_seen) same) }

-- What the deployment of an accepted contract makes of a sound node, by how it ran.
use Rattle.std.proofs.Common.{◌≡◌, List, [], Some, None, sym, ap, subst, ◌∙◌}
use Rattle.cl_events.specs.State.{State}
use Rattle.cl_state.specs.Stack.{Seen as World}
use Rattle.cl_meaning.specs.Deployed.{Contract}
use Rattle.cl_meaning.specs.Limits.{Limited, limited}
use Rattle.cl_rules.specs.Context.{Known}
use Rattle.cl_rules.specs.Laws.{AcceptedIsClean, OneOrder}
use Rattle.cl_contracts.specs.Seen.{contract_under}
use Rattle.cl_contracts.specs.Known.{ConstantsAsKept, DefinedAsKept}
use Rattle.cl_frames.specs.Homes.{frame_seen}
use Rattle.cl_newness.specs.Newness.{HasNoTokens}
use Rattle.cl_frames.specs.Sound.{IsAcceptedAfter}
use Rattle.cl_frames.specs.Watching.{GrewByStart, trace}
use Rattle.cl_frames.specs.Watching as watching
use Rattle.cl_code.specs.Watched.{GrewBy}
use Rattle.cl_node_sound.specs.Laws.{DeployedHaveConstants, NewHaveNoTokens}
use Rattle.cl_node_sound.specs.Sound.{HasParts}
use Rattle.cl_tx.specs.declared.outcome.Outcome.{Outcome}
use Rattle.cl_tx.specs.declared.outcome.Outcome.TheVariants as outcome
use Rattle.cl_tx.specs.declared.outcome.TxResult.{TxResult}
use Rattle.cl_tx.specs.Nodes.{NodeSeen, Told, purse_of, result_of}
use Rattle.cl_nodes.specs.declared.admitting.Accepted.{Accepted as AcceptedOfCode}
use Rattle.cl_nodes.specs.declared.asked.Deployment.{Deployment}
use Rattle.cl_nodes.specs.declared.asked.Moment.{Moment}
use Rattle.cl_engine.specs.declared.prepare.Prepared.{Prepared}
use Rattle.cl_engine.specs.declared.deployment.Ran.{Ran}
use Rattle.cl_engine.specs.declared.deployment.Ran.TheVariants.{Done, Stopped}
use Rattle.cl_nodes.specs.Seen.{Seen, node_with, seen}
use Rattle.cl_nodes.specs.Sound.{Contracts, IsSound, IsSoundWith, contracts_seen}
use Rattle.cl_engine.specs.Traces.{Trace, IsTrace, shown}
use Rattle.cl_nodes.specs.Steps.{MakesSound, MakesWith}
use Rattle.cl_nodes.specs.Asked.{deployment_entry, principal_of, seen_at, text_in}
use Rattle.cl_engine.specs.Asked.{SeesPartUnder, SeesTraceUnder}
use Rattle.cl_nodes.specs.Bounded.{costs_of, entries_of}
use Rattle.cl_nodes.specs.declared.contracts.Contracts.{Contracts as ContractsOfCode}
use Rattle.cl_nodes.specs.Accepting.{IsAccepted, told_seen, told_with}
use Rattle.cl_engine.specs.Deploying.{IsAddable, IsDone, IsPrepared, IsStopped, Runs, entries_after, evaluation_of, result_after}
use Rattle.cl_engine.proofs.Deployments.{accepted, constants_so, is_accepted, makes_done, makes_stopped, same_answer, same_left}
use Rattle.cl_nodes.proofs.Tracing.{IsRun, as_run}
use Rattle.cl_engine.proofs.Tracing.{one_trace}

module _ (d : Deployment) (m : Moment) (cs : ContractsOfCode) (world : World) (p : Prepared) (ready : IsPrepared d m cs p) where
  abbrev a : AcceptedOfCode
  a = p.accepted

  abbrev is : IsAccepted d cs a
  is = ready.accepted

  abbrev es : Contracts
  es = entries_of cs

  abbrev s : State
  s = world.stack.top

  abbrev before : Seen
  before = seen_at world cs.deployed m

  told_is : told_seen a.told ≡ told_with a.told.bounds a.checked.definitions.items
  told_is = λ i. record { bounds = Some a.told.bounds; types = is.types i }

  -- what the limit leaves of the evaluation
  abbrev left : Limited Contract
  left = limited (costs_of cs) (purse_of d.common.now) (evaluation_of cs p world)

  module _ (known : List Known) (sound : IsSoundWith es before known) where
    pub after_accepted : IsAcceptedAfter (contracts_seen es) s a.checked
    after_accepted = is_accepted cs.table es s m.height d.common.now d.name.now d.source.now d.version known sound a.checked is.checked a.told.bounds is.bounded (is.new.none_known known sound.trees)

    addable_as : (ran : Ran) → DeployedHaveConstants → ConstantsAsKept → HasParts (deployment_entry d) → (after : State) → Runs d.common.now left a.checked ran s after → IsAddable cs a ran
    addable_as (Done cost constants events) law kept parts after runs = (
      subst (λ q. contract_under q es ≡ None) (sym is.checked.principal_is) is.new.none,
      λ known standing. (
        (is.checked.found known standing).0,
        (is.checked.found known standing).3,
      ),
      constants_so cs.table es s m.height d.common.now d.name.now d.source.now d.version known sound a.checked is.checked a.told.bounds is.bounded law kept parts (is.new.none_known known sound.trees) cost constants events.items after
          (subst (λ l. IsDone d.common.now l a.checked cost constants.entries events.items after) (same_left cs.table es s m.height d.common.now d.name.now d.source.now d.version known sound a.checked is.checked a.told.bounds is.bounded (frame_seen p.frame) ready.frame) runs),
      is.bounds,
    )
    addable_as (Stopped why cost) law kept parts after runs = tt

    makes_as : (ran : Ran) → DefinedAsKept → (after : State) → Runs d.common.now left a.checked ran s after → MakesWith (costs_of cs) known before (deployment_entry d) (result_after a ran) (entries_after es a ran) (seen after (contracts_seen (entries_after es a ran)) m.height)
    makes_as (Done cost constants events) law after runs =
        makes_done cs.table es s m.height d.common.now d.name.now d.source.now d.version known sound a.checked is.checked a.told.bounds is.bounded law (is.new.none_known known sound.trees) cost constants events.items after (result_after a (Done cost constants events))
        (subst (λ l. IsDone d.common.now l a.checked cost constants.entries events.items after) (same_left cs.table es s m.height d.common.now d.name.now d.source.now d.version known sound a.checked is.checked a.told.bounds is.bounded (frame_seen p.frame) ready.frame) runs)
        (ap (λ (t : Told). result_of t outcome.Done (Some cost) events.items) told_is)
    makes_as (Stopped why cost) law after runs =
        makes_stopped cs.table es s m.height d.common.now d.name.now d.source.now d.version known sound a.checked is.checked a.told.bounds is.bounded law (is.new.none_known known sound.trees) why cost after (result_after a (Stopped why cost))
        (subst (λ l. IsStopped d.common.now l why cost s after) (same_left cs.table es s m.height d.common.now d.name.now d.source.now d.version known sound a.checked is.checked a.told.bounds is.bounded (frame_seen p.frame) ready.frame) runs)
        (ap (λ (t : Told). result_of t (outcome.Aborted why) (Some cost) []) told_is)

    -- what the evaluation shows is the trace of the entry
    abbrev all : Trace
    all = trace (costs_of cs) (purse_of d.common.now) (evaluation_of cs p world)

    abbrev node : NodeSeen
    node = node_with known before

    ran_out : (ran : Ran) → IsRun (result_after a ran).outcome
    ran_out (Done cost constants events) = tt
    ran_out (Stopped why cost) = tt

    pub sees_all : (ran : Ran) (o : Outcome) → o ≡ (result_after a ran).outcome → IsTrace (costs_of cs) node (deployment_entry d) o all
    sees_all ran o at = subst (λ o. IsTrace (costs_of cs) node (deployment_entry d) o all) (sym at)
        (as_run shown (costs_of cs) node (deployment_entry d) all (result_after a ran).outcome (ran_out ran) (record {
          accepted = accepted cs.table es s m.height d.common.now d.name.now d.source.now d.version known sound a.checked is.checked a.told.bounds is.bounded;
          is = ap (trace (costs_of cs) (purse_of d.common.now)) (same_answer cs.table es s m.height d.common.now d.name.now d.source.now d.version known sound a.checked is.checked a.told.bounds is.bounded (frame_seen p.frame) ready.frame);
        }))

  -- the contract can be added
  pub addable : IsSound es before → DeployedHaveConstants → ConstantsAsKept → HasParts (deployment_entry d) → (ran : Ran) (after : State) → Runs d.common.now left a.checked ran s after → IsAddable cs a ran
  addable sound law kept parts ran after runs = addable_as sound.known sound.is_sound ran law kept parts after runs

  -- no token of its principal is there
  pub no_tokens : IsSound es before → NewHaveNoTokens → HasParts (deployment_entry d) → HasNoTokens (principal_of d) s
  no_tokens sound law parts =
      let none = law (node_with sound.known before) sound.is_sound.sound (principal_of d) (parts.0, parts.1) is.new.none_seen in
      record { fungibles = λ x. (none x).0; nonfungibles = λ x. (none x).1 }

  pub makes : DefinedAsKept → (ran : Ran) (after : State) → Runs d.common.now left a.checked ran s after → (r : TxResult) → r ≡ result_after a ran → (fs : Contracts) → fs ≡ entries_after es a ran →
      MakesSound (costs_of cs) es before (deployment_entry d) r fs (seen after (contracts_seen fs) m.height)
  makes law ran after runs r result_is fs added known sound =
      subst (λ (n : TxResult × Contracts). MakesWith (costs_of cs) known before (deployment_entry d) n.0 n.1 (seen after (contracts_seen n.1) m.height)) (λ i. (sym result_is i, sym added i)) (makes_as known sound ran law after runs)

  pub sees : (ran : Ran) (o : Outcome) → o ≡ (result_after a ran).outcome → (seen now : watching.Seen) → GrewBy seen now (trace (costs_of cs) (purse_of d.common.now) (evaluation_of cs p world)) → SeesTraceUnder (costs_of cs) es before (deployment_entry d) o seen now
  sees ran o at seen now grew known sound = (trace (costs_of cs) (purse_of d.common.now) (evaluation_of cs p world), sees_all known sound ran o at, grew)

  pub sees_part : AcceptedIsClean → OneOrder → (seen now : watching.Seen) → GrewByStart seen now (trace (costs_of cs) (purse_of d.common.now) (evaluation_of cs p world)) → SeesPartUnder (costs_of cs) es before (deployment_entry d) seen now
  sees_part clean order seen now grew known sound t steps found is_trace =
      let b = accepted cs.table es s m.height d.common.now d.name.now d.source.now d.version known sound a.checked is.checked a.told.bounds is.bounded in
      let same = ap (trace (costs_of cs) (purse_of d.common.now)) (same_answer cs.table es s m.height d.common.now d.name.now d.source.now d.version known sound a.checked is.checked a.told.bounds is.bounded (frame_seen p.frame) ready.frame) in
      let one = one_trace (costs_of cs) (node_with known before) d.common.now (principal_of d) (text_in d) clean order b (is.new.none_known known sound.trees) (deployment_entry d) (λ f r. (r.accepted, r.is)) t steps found is_trace in
      subst (GrewByStart seen now) (same ∙ sym one) grew

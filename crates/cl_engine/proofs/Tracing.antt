-- What a watch has seen of an entry.
use Rattle.std.specs.Prelude.{IfOk, IsErrAnd}
use Rattle.std.proofs.Common.{◌≡◌, ℕ, List, [], Some, None, Result, Ok, Err, refl, sym, ap, subst, ◌∙◌, append-nil}
use Rattle.cl_types.specs.declared.fault.NoMemory.{NoMemory}
use Rattle.cl_c32.specs.declared.principal.Principal.{Principal}
use Rattle.cl_forms.specs.Texts.{Text}
use Rattle.cl_forms.specs.Forms.{Form}
use Rattle.cl_costs.specs.Schedules.{ScheduleSeen, costs_at}
use Rattle.cl_code.specs.Watched.{GrewBy}
use Rattle.cl_meaning.specs.Limits.{Costs}
use Rattle.cl_rules.specs.Context.{Known, known_at}
use Rattle.cl_rules.specs.Acceptance.{Accepted}
use Rattle.cl_rules.specs.Laws.{AcceptedIsClean, OneOrder}
use Rattle.cl_frames.specs.Watching.{GrewByStart}
use Rattle.cl_frames.specs.Watching as watching
use Rattle.cl_file.specs.declared.entry.Common.{Common}
use Rattle.cl_file.specs.declared.entry.Entry.{Entry}
use Rattle.cl_file.specs.declared.entry.Entry.TheVariants.{Block}
use Rattle.cl_tx.specs.declared.outcome.Outcome.TheVariants.{Moved}
use Rattle.cl_tx.specs.declared.outcome.TxResult.{TxResult}
use Rattle.cl_tx.specs.Nodes.{NodeSeen, Stepped}
use Rattle.cl_tx.specs.Step.{DeploySteps, Steps, run_deployment, name_taken, source_refused, evaluated}
use Rattle.cl_nodes.specs.Seen.{Seen, node_with}
use Rattle.cl_nodes.specs.Known.{IsNodeOf}
use Rattle.cl_nodes.specs.Laws.{OneNode}
use Rattle.cl_nodes.specs.Sound.{Contracts, IsSound}
use Rattle.cl_engine.specs.Traces.{Trace, IsRunTrace, IsTrace, Sees, shown}
use Rattle.cl_engine.specs.Asked.{SeesPartUnder, SeesUnder}
use Rattle.cl_nodes.proofs.Nodes.{steps_down}
use Rattle.cl_nodes.proofs.Tracing.{deployment_runs, of_run, trace_with}

-- ---- what is seen grows

pub grew_none : (k : watching.Seen) → GrewBy k k []
grew_none None = refl
grew_none (Some xs) = ap Some (sym (append-nil xs))

-- nothing more is a prefix of whatever comes
pub start_none : (k : watching.Seen) (all : Trace) → GrewByStart k k all
start_none k all = ([], all, refl, grew_none k)

-- and all of it is one
pub start_all : (k now : watching.Seen) (all : Trace) → GrewBy k now all → GrewByStart k now all
start_all k now all grew = (all, [], sym (append-nil all), grew)

-- ---- the trace of a deployment

module _ (costs : Costs) (node : NodeSeen) (common : Common) (principal : Principal) (source : Text) where
  abbrev shown_with : List Form → Trace
  shown_with forms = shown (trace_with costs node common principal source forms)

  -- a deployment whose source is accepted has one trace, whatever comes of it
  pub one_trace : AcceptedIsClean → OneOrder → (a : Accepted node.known principal costs source) → known_at principal node.known ≡ None → (entry : Entry) →
      ((found : Trace) → IsRunTrace costs node entry found → (b : Accepted node.known principal costs source) × (found ≡ shown_with b.forms)) →
      (s : Stepped) → DeploySteps costs node common principal source s → (found : Trace) → IsTrace costs node entry s.result.outcome found → found ≡ shown_with a.forms
  unfolding run_deployment
  one_trace clean order a new entry of s (name_taken k there is) found t = absurd (none_some k there)
    where
      none_some : (k : Known) → known_at principal node.known ≡ Some k → ⊥
      none_some k e = some_none k (sym new ∙ e)
        where
          some_none : (k : Known) → None ≡ Some k → ⊥
          some_none k e = cc
  one_trace clean order a new entry of s (source_refused rule span names none first is) found t = absurd (clean node.known principal costs source rule span names a first)
  one_trace clean order a new entry of s (evaluated none b ended) found t =
      let c = of found (of_run shown costs node entry found s.result.outcome (deployment_runs common node _ _ _ s ended) t) in
      c.1 ∙ ap shown_with (order source c.0.forms a.forms c.0.order a.order c.0.typed.is_ordered a.typed.is_ordered).0

-- ---- under a schedule

module _ (schedule : ScheduleSeen) (es : Contracts) (before : Seen) (entry : Entry) (sound : IsSound es before) where
  abbrev node : NodeSeen
  node = node_with sound.known before

  is_node : IsNodeOf before node
  is_node = record { known = sound.is_sound.forms; is = refl }

  pub sees_up : (costs : Costs) → costs ≡ costs_at schedule before.height → OneNode → ((height : ℕ) → entry ≡ Block height → ⊥) → (result : Result TxResult NoMemory) (seen now : watching.Seen) →
      SeesUnder costs es before entry result seen now → Sees schedule before entry result seen now
  sees_up costs is one none (Ok r) seen now h =
      let t = h sound.known sound.is_sound in
      record { from = node; is_from = is_node; found = t.0; is_trace = subst (λ c. IsTrace c node entry r.outcome t.0) is t.1; grew = t.2 }
  sees_up costs is one none (Err e) seen now h = λ from is_from s steps found is_trace.
      let same : from ≡ node = one before from node is_from is_node in
      h sound.known sound.is_sound s (steps_down schedule costs node entry s is none (subst (λ n. Steps schedule n entry s) same steps)) found
      (subst (λ c. IsTrace c node entry s.result.outcome found) (sym is) (subst (λ (n : NodeSeen). IsTrace (costs_at schedule n.height) n entry s.result.outcome found) same is_trace))

  -- a block has the empty trace
  pub sees_block : (height : ℕ) → entry ≡ Block height → (result : Result TxResult NoMemory) → IfOk result (λ r. r.outcome ≡ Moved) → (seen : watching.Seen) → Sees schedule before entry result seen seen
  sees_block height is (Ok r) moved seen = record {
    from = node;
    is_from = is_node;
    found = [];
    is_trace = subst (λ o. IsTrace (costs_at schedule before.height) node entry o []) (sym moved) refl;
    grew = grew_none seen;
  }
  sees_block height is (Err e) moved seen = λ from is_from s steps found is_trace. start_none seen found

-- where memory ran out a part was seen
pub sees_refused : (P : NoMemory → Type 0) (costs : Costs) (es : Contracts) (before : Seen) (entry : Entry) (result : Result TxResult NoMemory) (seen now : watching.Seen) → IsErrAnd result P → SeesPartUnder costs es before entry seen now → SeesUnder costs es before entry result seen now
sees_refused P costs es before entry (Ok r) seen now h part = absurd h
sees_refused P costs es before entry (Err e) seen now h part = part

-- What fails changes nothing, a node stays one, and where bounds are told.
use Rattle.std.proofs.Common.{◌≡◌, ℕ, Bool, eq-eqb, ne_eqb, if◌then◌else◌, List, [], ◌∷◌, ◌++◌, length, map, Option, Some, None, IsSome, true≢false, refl, sym, ap, ◌∙◌, subst}
use Rattle.std.proofs.lemmas.List.{map-append}
use Rattle.cl_c32.specs.declared.principal.Principal.{Principal}
use Rattle.cl_values.specs.Tree.{Tree}
use Rattle.cl_forms.specs.Texts.{Text, text_of}
use Rattle.cl_costs.specs.Tables.{function_of}
use Rattle.cl_costs.specs.Schedules.{ScheduleSeen, OneTableAnEpoch, epoch_at, costs_at}
use Rattle.cl_meaning.specs.Deployed.{Contract}
use Rattle.cl_meaning.specs.Limits.{Costs, Limited, Gave, Threw, AbortedBy, Passed, Lost}
use Rattle.cl_rules.specs.Context.{Known, known_at}
use Rattle.cl_rules.specs.Acceptance.{Accepted, none_yet, and_one, known_of}
use Rattle.cl_rules.specs.Laws.{AcceptedIsClean}
use Rattle.cl_file.specs.declared.entry.Common.{Common}
use Rattle.cl_file.specs.declared.entry.Entry.{Entry}
use Rattle.cl_file.specs.declared.entry.Entry.TheVariants.{Deploy, Call, Block}
use Rattle.cl_shapes.specs.declared.cost.Cost5.{Cost5}
use Rattle.cl_events.specs.State.{State}
use Rattle.cl_tx.specs.declared.outcome.Outcome.{Outcome}
use Rattle.cl_tx.specs.declared.outcome.Outcome.TheVariants.{Done}
use Rattle.cl_tx.specs.declared.outcome.TxResult.{TxResult}
use Rattle.cl_file.specs.Files.{FileSeen}
use Rattle.cl_file.specs.Entries.{height_after, height_of}
use Rattle.cl_post.specs.Post.{holds as first_failed}
use Rattle.cl_tx.specs.Nodes.{NodeSeen, Stepped, Told, contract_of, with_contract, settled_by, deployment_ended}
use Rattle.cl_tx.specs.Step.{call_step, run_deployment, DeploySteps, name_taken, source_refused, evaluated, Steps, AllStep, Runs, costs_for, first_node}
use Rattle.cl_tx.specs.Rebounds.{rebounds, rebounds_at}
use Rattle.cl_tx.specs.Laws.{IsKept, IsNode, IsBlock}
use Rattle.cl_tx.proofs.StepCases.{some_same, none_some, call_holds, deploy_holds, step_holds}

-- ---- what fails

abbrev Leaves : NodeSeen → Stepped → Type 0
Leaves node s = (s.node ≡ node) × (s.result.events ≡ [])

abbrev LeavesIfFails : NodeSeen → Stepped → Type 0
LeavesIfFails node s = (IsKept s.result.outcome → ⊥) → Leaves node s

pub failed_leave : (schedule : ScheduleSeen) (node : NodeSeen) (entry : Entry) (s : Stepped) → Steps schedule node entry s → LeavesIfFails node s
failed_leave schedule node entry s x =
    step_holds (LeavesIfFails node) node (λ told outcome cost fails. (refl, refl)) schedule (λ principal source a e told c is cost t fails. absurd (fails tt))
    (λ outcome kept cost t fails. absurd (fails kept)) (λ height fails. absurd (fails tt)) entry s x

-- ---- nodes

abbrev EndsInNode : Stepped → Type 0
EndsInNode s = IsNode s.node

one_more : (costs : Costs) (node : NodeSeen) (principal : Principal) (source : Text) (a : Accepted node.known principal costs source) (c : Contract) → c.principal ≡ principal
    → map (λ (d : Contract). d.principal) node.contracts ≡ map (λ (k : Known). k.principal) node.known
    → map (λ (d : Contract). d.principal) (node.contracts ++ c ∷ []) ≡ map (λ (k : Known). k.principal) (node.known ++ known_of principal (length source.bytes) a.defined ∷ [])
one_more costs node principal source a c is same =
    map-append (λ (d : Contract). d.principal) node.contracts (c ∷ [])
    ∙ (λ i. same i ++ is i ∷ [])
    ∙ sym (map-append (λ (k : Known). k.principal) node.known (known_of principal (length source.bytes) a.defined ∷ []))

pub node_stays : (schedule : ScheduleSeen) (node : NodeSeen) (entry : Entry) (s : Stepped) → IsNode node → Steps schedule node entry s → IsNode s.node
node_stays schedule node entry s is x =
    step_holds EndsInNode node (λ told outcome cost. is) schedule
    (λ principal source a e told c principal_is cost t. record {
      accepted = and_one principal (costs_for schedule node) source a is.accepted e refl;
      same = one_more (costs_for schedule node) node principal source a c principal_is is.same;
      no_events = refl;
      no_moves = refl;
    })
    (λ outcome kept cost t. record { accepted = is.accepted; same = is.same; no_events = refl; no_moves = refl })
    (λ height. record { accepted = is.accepted; same = is.same; no_events = is.no_events; no_moves = is.no_moves })
    entry s x

pub first_is : (holders : List (Principal × ℕ)) → IsNode (first_node holders)
first_is holders = record { accepted = none_yet refl; same = refl; no_events = refl; no_moves = refl }

all_end : (schedule : ScheduleSeen) (es : List Entry) (node : NodeSeen) (results : List TxResult) (after : NodeSeen) → IsNode node → AllStep schedule node es results after → IsNode after
all_end schedule [] node results after is x = subst (λ n. IsNode n) (sym x.1) is
all_end schedule (e ∷ es) node results after is x = all_end schedule es x.0.node x.1 after (node_stays schedule node e x.0 is x.2) x.3

pub runs_end : (schedule : ScheduleSeen) (file : FileSeen) (results : List TxResult) (after : NodeSeen) → Runs schedule file results after → IsNode after
runs_end schedule file results after x = all_end schedule file.entries (first_node file.genesis) results after (first_is file.genesis) x.steps

-- ---- bounds

pub told_accepted : (costs : Costs) (node : NodeSeen) (common : Common) (principal : Principal) (source : Text) (s : Stepped) → DeploySteps costs node common principal source s → IsSome s.result.bounds → Accepted node.known principal costs source
told_accepted costs node common principal source s (name_taken known e p) h = absurd (true≢false (sym (subst (λ z. IsSome z.result.bounds) p h)))
told_accepted costs node common principal source s (source_refused rule span names e b p) h = absurd (true≢false (sym (subst (λ z. IsSome z.result.bounds) p h)))
told_accepted costs node common principal source s (evaluated e a p) h = a

settled_tells : (failing : Option ℕ) (before after : NodeSeen) (told : Told) (outcome : Outcome) (cost : Cost5) (s : State) → (settled_by failing before after told outcome cost s).result.bounds ≡ told.bounds
settled_tells None before after told outcome cost s = refl
settled_tells (Some index) before after told outcome cost s = refl

tells : (common : Common) (node : NodeSeen) (told : Told) (known : Known) (l : Limited Contract) (s : Stepped) → deployment_ended common node told known l ≡ Some s → s.result.bounds ≡ told.bounds
tells common node told known (Gave c t purse) s e = ap (λ z. z.result.bounds) (sym (some_same _ s e)) ∙ settled_tells (first_failed t.moves common.mode common.conditions) node (with_contract node c known) told Done purse.spent t
tells common node told known (Threw v t purse) s e = ap (λ z. z.result.bounds) (sym (some_same _ s e))
tells common node told known (AbortedBy why purse) s e = ap (λ z. z.result.bounds) (sym (some_same _ s e))
tells common node told known (Passed over purse) s e = ap (λ z. z.result.bounds) (sym (some_same _ s e))
tells common node told known (Lost purse) s e = absurd (none_some s None refl e)

pub accepted_told : AcceptedIsClean → (costs : Costs) (node : NodeSeen) (common : Common) (principal : Principal) (source : Text) (s : Stepped) → DeploySteps costs node common principal source s → known_at principal node.known ≡ None → Accepted node.known principal costs source → IsSome s.result.bounds
unfolding run_deployment
accepted_told clean costs node common principal source s (name_taken known e p) none a = absurd (none_some known _ none e)
accepted_told clean costs node common principal source s (source_refused rule span names e b p) none a = absurd (clean node.known principal costs source rule span names a b)
accepted_told clean costs node common principal source s (evaluated e b p) none a = subst (λ o. IsSome o) (sym (tells common node _ _ _ s p)) refl

abbrev TellsNone : Stepped → Type 0
TellsNone s = (s.result.bounds ≡ None) × (s.result.types ≡ [])

pub call_tells_none : (costs : Costs) (node : NodeSeen) (common : Common) (contract : Principal) (function : List ℕ) (args : List Tree) (s : Stepped) → call_step costs node common contract function args ≡ Some s → TellsNone s
call_tells_none costs node common contract function args s x =
    call_holds TellsNone node (λ outcome cost. (refl, refl)) (λ outcome kept cost t. (refl, refl)) costs common contract args function s x

-- ---- heights

abbrev HasHeight : ℕ → Stepped → Type 0
HasHeight height s = s.node.height ≡ height

height_next : (schedule : ScheduleSeen) (node : NodeSeen) (entry : Entry) (s : Stepped) → Steps schedule node entry s → s.node.height ≡ height_after node.height entry
height_next schedule node (Deploy common name source version) s x =
    deploy_holds (HasHeight node.height) node (λ told outcome cost. refl) (costs_for schedule node) (λ principal text a e told c is cost t. refl) common (contract_of common.sender name) (text_of source version) s x
height_next schedule node (Call common contract function args) s x =
    call_holds (HasHeight node.height) node (λ outcome cost. refl) (λ outcome kept cost t. refl) (costs_for schedule node) common contract args function s x
height_next schedule node (Block height) s x = ap (λ (z : Stepped). z.node.height) x

heights_end : (schedule : ScheduleSeen) (es : List Entry) (node : NodeSeen) (results : List TxResult) (after : NodeSeen) → AllStep schedule node es results after → after.height ≡ height_of node.height es
heights_end schedule [] node results after x = ap (λ (n : NodeSeen). n.height) x.1
heights_end schedule (e ∷ es) node results after x =
    heights_end schedule es x.0.node x.1 after x.3 ∙ ap (λ (h : ℕ). height_of h es) (height_next schedule node e x.0 x.2)

pub height_is_last : (schedule : ScheduleSeen) (file : FileSeen) (results : List TxResult) (after : NodeSeen) → Runs schedule file results after → after.height ≡ height_of 0 file.entries
height_is_last schedule file results after x = heights_end schedule file.entries (first_node file.genesis) results after x.steps

pub block_tells_none : (schedule : ScheduleSeen) (node : NodeSeen) (height : ℕ) (s : Stepped) → Steps schedule node (Block height) s → TellsNone s
block_tells_none schedule node height s x = subst TellsNone (sym x) (refl, refl)

-- ---- bounds of deployed functions

abbrev ReboundsNone : Stepped → Type 0
ReboundsNone s = s.result.rebounds ≡ []

pub others_rebound_none : (schedule : ScheduleSeen) (node : NodeSeen) (entry : Entry) (s : Stepped) → Steps schedule node entry s → (IsBlock entry → ⊥) → s.result.rebounds ≡ []
others_rebound_none schedule node (Deploy common name source version) s x other =
    deploy_holds ReboundsNone node (λ told outcome cost. refl) (costs_for schedule node) (λ principal text a e told c is cost t. refl) common (contract_of common.sender name) (text_of source version) s x
others_rebound_none schedule node (Call common contract function args) s x other =
    call_holds ReboundsNone node (λ outcome cost. refl) (λ outcome kept cost t. refl) (costs_for schedule node) common contract args function s x
others_rebound_none schedule node (Block height) s x other = absurd (other tt)

pub same_rebounds_none : OneTableAnEpoch → (schedule : ScheduleSeen) (node : NodeSeen) (height : ℕ) (s : Stepped) → Steps schedule node (Block height) s → epoch_at schedule node.height ≡ epoch_at schedule height → (s.result.rebounds ≡ []) × (costs_for schedule s.node ≡ costs_for schedule node)
unfolding rebounds_at
same_rebounds_none one schedule node height s x same = (
  ap (λ (z : Stepped). z.result.rebounds) x ∙ ap (λ (b : Bool). if b then [] else rebounds (costs_at schedule height) node) (eq-eqb (epoch_at schedule node.height) (epoch_at schedule height) same),
  ap (λ (z : Stepped). costs_for schedule z.node) x ∙ ap function_of (sym (one schedule node.height height same)),
)

pub other_rebounds : (schedule : ScheduleSeen) (node : NodeSeen) (height : ℕ) (s : Stepped) → Steps schedule node (Block height) s → (epoch_at schedule node.height ≡ epoch_at schedule height → ⊥) → s.result.rebounds ≡ rebounds (costs_at schedule height) node
unfolding rebounds_at
other_rebounds schedule node height s x other =
    ap (λ (z : Stepped). z.result.rebounds) x ∙ ap (λ (b : Bool). if b then [] else rebounds (costs_at schedule height) node) (ne_eqb (epoch_at schedule node.height) (epoch_at schedule height) other)

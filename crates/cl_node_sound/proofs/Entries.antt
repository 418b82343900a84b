-- Nodes stay sound from entry to entry.
use Rattle.std.proofs.Common.{◌≡◌, ℕ, List, [], ◌∷◌, Option, Some, None, refl, sym, ap, subst, ◌∙◌, arith}
use Rattle.std.specs.List.{All}
use Rattle.std.proofs.lemmas.List.Elements.{All-head, All-tail}
use Rattle.cl_forms.specs.declared.version.Version.{Version}
use Rattle.cl_forms.specs.Texts.{text_of}
use Rattle.cl_c32.specs.declared.principal.Principal.{Principal}
use Rattle.cl_shapes.specs.declared.cost.Cost5.{Cost5}
use Rattle.cl_shapes.specs.Costs.{IsAtMost}
use Rattle.cl_shapes.specs.Limits.{limit_of}
use Rattle.cl_values.specs.Tree.{Tree}
use Rattle.cl_values.specs.Valid.{IsPrincipal}
use Rattle.cl_costs.specs.Schedules.{ScheduleSeen}
use Rattle.cl_rules.specs.Bills.{cost_under}
use Rattle.cl_rules.specs.Context.{Known, Signature, known_at, signature_in}
use Rattle.cl_rules.specs.Acceptance.{Accepted}
use Rattle.cl_contract_sound.proofs.NextNode.{first_node as first_is_node}
use Rattle.cl_file.specs.declared.entry.Common.{Common}
use Rattle.cl_file.specs.declared.entry.Entry.{Entry}
use Rattle.cl_file.specs.declared.entry.Entry.TheVariants.{Deploy, Call, Block}
use Rattle.cl_file.specs.Files.{FileSeen}
use Rattle.cl_tx.specs.declared.outcome.Bounds.{Bounds}
use Rattle.cl_tx.specs.declared.outcome.TxResult.{TxResult}
use Rattle.cl_tx.specs.Nodes.{NodeSeen, Stepped, contract_of}
use Rattle.cl_tx.specs.Step.{Steps, name_taken, source_refused, evaluated, AllStep, Runs, costs_for, first_node, told_of, run_deployment}
use Rattle.cl_node_sound.specs.Sound.{IsSoundNode, IsWithinBound, IsTypedAnswer, HasParts, FileHasParts, given_by}
use Rattle.cl_node_sound.specs.Told.{IsStopped}
use Rattle.cl_node_sound.specs.Laws.{DeployedHaveConstants}
use Rattle.cl_node_sound.proofs.Calling.{call_comes, IsBoundAbove}
use Rattle.cl_node_sound.proofs.Constants.{typed_under}
use Rattle.cl_node_sound.proofs.Deploying.{deployment_comes, constants_bound}

some_same : (s t : Stepped) → Some s ≡ Some t → s ≡ t
some_same s t e = cc

pub first_sound : (holders : List (Principal × ℕ)) → All (λ (h : Principal × ℕ). IsPrincipal h.0) holders → IsSoundNode (first_node holders)
first_sound holders are =
    let n = first_is_node holders are in
    record { contracts = n.contracts; kept = n.kept; height = omega arith; no_events = refl; no_moves = refl }

pub sound_stays : (schedule : ScheduleSeen) (node : NodeSeen) (entry : Entry) (s : Stepped) → HasParts entry → IsSoundNode node → Steps schedule node entry s → IsSoundNode s.node
sound_stays schedule node (Call common contract function args) s parts N x =
    let c = call_comes (costs_for schedule node) node N common parts.0 contract parts.1 function args parts.2 in
    subst (λ (s : Stepped). IsSoundNode s.node) (some_same c.step s (sym c.is ∙ x)) c.sound
sound_stays schedule node (Deploy common name source version) s parts N (name_taken known e is) = subst (λ (s : Stepped). IsSoundNode s.node) (sym is) N
sound_stays schedule node (Deploy common name source version) s parts N (source_refused rule span names e b is) = subst (λ (s : Stepped). IsSoundNode s.node) (sym is) N
sound_stays schedule node (Deploy common name source version) s parts N (evaluated new accepted is) =
    let c = deployment_comes (costs_for schedule node) node N common parts.0 (contract_of common.sender name) (parts.0, parts.1) new (text_of source version) accepted in
    subst (λ (s : Stepped). IsSoundNode s.node) (some_same c.step s (sym c.is ∙ is)) c.sound
sound_stays schedule node (Block height) s parts N x =
    subst (λ (s : Stepped). IsSoundNode s.node) (sym x) (record { contracts = N.contracts; kept = N.kept; height = omega (arith, parts); no_events = N.no_events; no_moves = N.no_moves })

all_stay : (schedule : ScheduleSeen) (entries : List Entry) (node : NodeSeen) (results : List TxResult) (after : NodeSeen) → All HasParts entries → IsSoundNode node → AllStep schedule node entries results after → IsSoundNode after
all_stay schedule [] node results after parts N x = subst (λ n. IsSoundNode n) (sym x.1) N
all_stay schedule (e ∷ es) node results after parts N x = all_stay schedule es x.0.node x.1 after (All-tail HasParts e es parts) (sound_stays schedule node e x.0 (All-head HasParts e es parts) N x.2) x.3

pub runs_end_sound : (schedule : ScheduleSeen) (file : FileSeen) (results : List TxResult) (after : NodeSeen) → FileHasParts file → Runs schedule file results after → IsSoundNode after
runs_end_sound schedule file results after parts x = all_stay schedule file.entries (first_node file.genesis) results after parts.entries (first_sound file.genesis parts.holders) x.steps

pub calls_step : (schedule : ScheduleSeen) (node : NodeSeen) (common : Common) (contract : Principal) (function : List ℕ) (args : List Tree) → HasParts (Call common contract function args) → IsSoundNode node → (s : Stepped) × Steps schedule node (Call common contract function args) s
calls_step schedule node common contract function args parts N =
    let c = call_comes (costs_for schedule node) node N common parts.0 contract parts.1 function args parts.2 in
    (c.step, c.is)

pub deployments_step : (schedule : ScheduleSeen) (node : NodeSeen) (common : Common) (name source : List ℕ) (version : Version) → HasParts (Deploy common name source version) → IsSoundNode node → known_at (contract_of common.sender name) node.known ≡ None → Accepted node.known (contract_of common.sender name) (costs_for schedule node) (text_of source version) → (s : Stepped) × Steps schedule node (Deploy common name source version) s
deployments_step schedule node common name source version parts N new accepted =
    let c = deployment_comes (costs_for schedule node) node N common parts.0 (contract_of common.sender name) (parts.0, parts.1) new (text_of source version) accepted in
    (c.step, evaluated new accepted c.is)

pub deployed_constants : DeployedHaveConstants
deployed_constants schedule node common name source version parts N new accepted c s purse is x v =
    typed_under accepted.defined.context.constants c.constants x v (constants_bound (costs_for schedule node) node N common parts.0 (contract_of common.sender name) (parts.0, parts.1) new (text_of source version) accepted c s purse is)

-- ---- costs and limits

module _ (schedule : ScheduleSeen) (node : NodeSeen) (common : Common) (contract : Principal) (function : List ℕ) (args : List Tree) (s : Stepped) (parts : HasParts (Call common contract function args)) (N : IsSoundNode node) where
  pub calls_within : Steps schedule node (Call common contract function args) s → (cost : Cost5) → s.result.cost ≡ Some cost → IsWithinBound (costs_for schedule node) node.known contract function cost
  calls_within x cost e =
      let c = call_comes (costs_for schedule node) node N common parts.0 contract parts.1 function args parts.2 in
      c.low cost (ap (λ (s : Stepped). s.result.cost) (some_same c.step s (sym c.is ∙ x)) ∙ e)

  pub calls_typed : Steps schedule node (Call common contract function args) s → (v : Tree) → given_by s.result.outcome ≡ Some v → IsTypedAnswer node.known contract function v
  calls_typed x v e =
      let c = call_comes (costs_for schedule node) node N common parts.0 contract parts.1 function args parts.2 in
      c.typed v (ap (λ (s : Stepped). given_by s.result.outcome) (some_same c.step s (sym c.is ∙ x)) ∙ e)

  -- a call that is stopped by its limit has a bound above it
  pub bound_above : Steps schedule node (Call common contract function args) s → IsStopped s.result.outcome → IsBoundAbove (costs_for schedule node) node.known contract function (limit_of common.limit)
  bound_above x h =
      let c = call_comes (costs_for schedule node) node N common parts.0 contract parts.1 function args parts.2 in
      c.stopped (subst (λ (s : Stepped). IsStopped s.result.outcome) (sym (some_same c.step s (sym c.is ∙ x))) h)

  pub calls_not_stopped : (known : Known) (signature : Signature) → known_at contract node.known ≡ Some known → signature_in function known.functions ≡ Some signature → IsAtMost (cost_under (costs_for schedule node) signature.bound) (limit_of common.limit) → Steps schedule node (Call common contract function args) s → IsStopped s.result.outcome → ⊥
  calls_not_stopped known signature there told low x h =
      let b = bound_above x h in
      let one : b.known ≡ known = same_known b.known known (sym b.there ∙ there) in
      let same : b.signature ≡ signature = same_signature b.signature signature (sym b.told ∙ ap (λ (k : Known). signature_in function k.functions) one ∙ told) in
      b.above (subst (λ (g : Signature). IsAtMost (cost_under (costs_for schedule node) g.bound) (limit_of common.limit)) (sym same) low)
    where
      same_known : (k l : Known) → Some k ≡ Some l → k ≡ l
      same_known k l e = cc

      same_signature : (f g : Signature) → Some f ≡ Some g → f ≡ g
      same_signature f g e = cc

no_bounds : (o : Option Bounds) (b : Bounds) (P : Type 0) → o ≡ None → o ≡ Some b → P
no_bounds o b P e h = let f : None ≡ Some b = sym e ∙ h in absurd cc

pub same_bounds : (a b : Bounds) → Some a ≡ Some b → a ≡ b
same_bounds a b e = cc

-- what a deployment comes to that tells bounds
pub record TellsBounds (limit : Cost5) (bounds : Bounds) (s : Stepped) : Type 0 where
  pub charged : (cost : Cost5) → s.result.cost ≡ Some cost → IsAtMost cost bounds.deploy
  pub stopped : IsStopped s.result.outcome → IsAtMost bounds.deploy limit → ⊥

module _ (schedule : ScheduleSeen) (node : NodeSeen) (common : Common) (name source : List ℕ) (version : Version) (s : Stepped) (parts : HasParts (Deploy common name source version)) (N : IsSoundNode node) where
  -- of an accepted source
  pub evaluated_tells : (new : known_at (contract_of common.sender name) node.known ≡ None) (accepted : Accepted node.known (contract_of common.sender name) (costs_for schedule node) (text_of source version)) → run_deployment (costs_for schedule node) node common (contract_of common.sender name) (text_of source version) accepted.forms accepted.defined ≡ Some s →
      s.result.bounds ≡ (told_of (costs_for schedule node) accepted.defined accepted.forms).bounds
  evaluated_tells new accepted is =
      let d = deployment_comes (costs_for schedule node) node N common parts.0 (contract_of common.sender name) (parts.0, parts.1) new (text_of source version) accepted in
      ap (λ (s : Stepped). s.result.bounds) (some_same s d.step (sym is ∙ d.is)) ∙ d.tells

  tells : Steps schedule node (Deploy common name source version) s → (bounds : Bounds) → s.result.bounds ≡ Some bounds → TellsBounds (limit_of common.limit) bounds s
  tells (name_taken known e is) bounds b = no_bounds s.result.bounds bounds (TellsBounds (limit_of common.limit) bounds s) (ap (λ (s : Stepped). s.result.bounds) is) b
  tells (source_refused rule span names e f is) bounds b = no_bounds s.result.bounds bounds (TellsBounds (limit_of common.limit) bounds s) (ap (λ (s : Stepped). s.result.bounds) is) b
  tells (evaluated new accepted is) bounds b =
      let d = deployment_comes (costs_for schedule node) node N common parts.0 (contract_of common.sender name) (parts.0, parts.1) new (text_of source version) accepted in
      let same : d.step ≡ s = some_same d.step s (sym d.is ∙ is) in
      let bound : cost_under (costs_for schedule node) accepted.defined.deploy ≡ bounds.deploy = ap (λ (b : Bounds). b.deploy) (same_bounds _ bounds (sym (evaluated_tells new accepted is) ∙ b)) in
      record {
        charged = λ cost c. subst (IsAtMost cost) bound (d.low cost (ap (λ (s : Stepped). s.result.cost) same ∙ c));
        stopped = λ h low. d.stopped (subst (λ (s : Stepped). IsStopped s.result.outcome) (sym same) h) (subst (λ b. IsAtMost b (limit_of common.limit)) (sym bound) low);
      }

  pub deployments_within : Steps schedule node (Deploy common name source version) s → (cost : Cost5) (bounds : Bounds) → s.result.cost ≡ Some cost → s.result.bounds ≡ Some bounds → IsAtMost cost bounds.deploy
  deployments_within x cost bounds c b = (tells x bounds b).charged cost c

  pub deployments_not_stopped : Steps schedule node (Deploy common name source version) s → (bounds : Bounds) → s.result.bounds ≡ Some bounds → IsAtMost bounds.deploy (limit_of common.limit) → IsStopped s.result.outcome → ⊥
  deployments_not_stopped x bounds b low h = (tells x bounds b).stopped h low

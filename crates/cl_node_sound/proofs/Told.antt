-- What is charged is within the bounds that were printed last, they suffice as limits, and what is given is of the types that were.
use Rattle.std.proofs.Common.{◌≡◌, ◌⊎◌, inl, inr, ℕ, nat_eq, eqb-true, Bool, true, false, List, [], ◌∷◌, ◌++◌, length, Option, Some, None, refl, sym, ap, subst, ◌∙◌}
use Rattle.std.specs.Prelude.{if◌then◌else◌, filter_map}
use Rattle.std.specs.Option.{option_or}
use Rattle.std.specs.List.{All}
use Rattle.std.proofs.lemmas.List.Elements.{All-head, All-tail}
use Rattle.cl_forms.specs.declared.version.Version.{Version}
use Rattle.cl_forms.specs.Texts.{Text, text_of}
use Rattle.cl_types.specs.Types.{PlainType}
use Rattle.cl_c32.specs.declared.principal.Principal.{Principal}
use Rattle.cl_c32.proofs.Principals.{principals_equal, principal_itself}
use Rattle.cl_shapes.specs.declared.cost.Cost5.{Cost5}
use Rattle.cl_shapes.specs.declared.cost.Dimension.{Dimension}
use Rattle.cl_shapes.specs.Costs.{first_above, IsAtMost}
use Rattle.cl_shapes.specs.Limits.{limit_of}
use Rattle.cl_forms.specs.Forms.{Form}
use Rattle.cl_values.proofs.OfTypes.{no_larger}
use Rattle.cl_costs.specs.Tables.{function_of}
use Rattle.cl_costs.specs.Schedules.{ScheduleSeen, epoch_at, costs_at}
use Rattle.cl_costs.proofs.Schedules.{one_table}
use Rattle.cl_events.specs.State.{State}
use Rattle.cl_meaning.specs.Deployed.{Contract}
use Rattle.cl_meaning.specs.Limits.{Costs, Limited, Gave, Threw, AbortedBy, Passed, Lost}
use Rattle.cl_rules.specs.Bills.{cost_under}
use Rattle.cl_rules.specs.Context.{Known, Signature, known_at, signature_in, same_principal}
use Rattle.cl_rules.specs.FormRules.{Defined}
use Rattle.cl_rules.specs.Acceptance.{Accepted, most_cost, known_of}
use Rattle.cl_contract_sound.proofs.Serving.{known_split}
use Rattle.cl_file.specs.declared.entry.Common.{Common}
use Rattle.cl_file.specs.declared.entry.Entry.{Entry}
use Rattle.cl_file.specs.declared.entry.Entry.TheVariants.{Deploy, Call, Block}
use Rattle.cl_file.specs.Files.{FileSeen}
use Rattle.cl_post.specs.Post.{holds}
use Rattle.cl_tx.specs.declared.outcome.Bounds.{Bounds}
use Rattle.cl_tx.specs.declared.outcome.Reach.TheVariants.{Bound}
use Rattle.cl_tx.specs.declared.outcome.Outcome.TheVariants.{Done}
use Rattle.cl_tx.specs.declared.outcome.TxResult.{TxResult}
use Rattle.cl_tx.specs.Nodes.{NodeSeen, Stepped, Told, contract_of, with_contract, settled_by, deployment_ended}
use Rattle.cl_tx.specs.Rebounds.{reach_of, rebounds, rebounds_at}
use Rattle.cl_tx.specs.Step.{Steps, costs_for, DeploySteps, name_taken, source_refused, evaluated, AllStep, Runs, first_node, bound_line, return_of, told_of, run_deployment}
use Rattle.cl_node_sound.specs.Sound.{IsSoundNode, HasParts, FileHasParts}
use Rattle.cl_node_sound.specs.Told.{FunctionLine, line_under, ToldLast, none_told, line_in, rebound_in, told_after, told_by, EachAfter, IsWithinOwn, IsChargedWithin, AreChargedWithin, IsStopped, IsNotStopped, AreNotStopped, IsTyped, AreTyped}
use Rattle.cl_node_sound.proofs.Entries.{first_sound, sound_stays, calls_within, bound_above, calls_typed, evaluated_tells, deployments_within, deployments_not_stopped}
use Rattle.cl_node_sound.proofs.KnownStay.{one_step, call_keeps}
use Rattle.cl_node_sound.proofs.BoundsSeen.{accepted_lines, accepted_bounded}
use Rattle.cl_node_sound.proofs.Rebounds.{rebounds_right}

-- ---- lines of what callers know

-- the bounds of an accepted text
abbrev bounds_of : Costs → Defined → List Form → Bounds
bounds_of costs defined forms = record { deploy = cost_under costs defined.deploy; functions = filter_map (bound_line costs defined) forms }

-- these bounds and types have the line of each function that callers see
abbrev IsToldOf : Costs → Known → Option Bounds → List PlainType → Type 0
IsToldOf costs k o types = (x : List ℕ) (g : Signature) → signature_in x k.functions ≡ Some g → line_in o types x ≡ Some (line_under costs g)

-- the line that was printed last of each known function is its own
record AreTold (costs : Costs) (ks : List Known) (told : ToldLast) : Type 0 where
  pub each : (p : Principal) (k : Known) → known_at p ks ≡ Some k → (x : List ℕ) (g : Signature) → signature_in x k.functions ≡ Some g → told p x ≡ Some (line_under costs g)

none_known : (p : Principal) (ks : List Known) (k : Known) → known_at p ks ≡ None → known_at p ks ≡ Some k → ⊥
none_known p ks k new h = none (sym new ∙ h)
  where
    none : None ≡ Some k → ⊥
    none e = cc

-- behind a deployment with these bounds and types
abbrev with_told : Principal → Option Bounds → List PlainType → ToldLast → ToldLast
with_told p o types told q x = if same_principal p q then option_or (line_in o types x) (told q x) else told q x

module _ (costs : Costs) (ks : List Known) (told : ToldLast) (T : AreTold costs ks told) (p : Principal) where
  -- a deployment without lines
  nothing_more : AreTold costs ks (with_told p None [] told)
  nothing_more = record { each = λ q k h x g s. by q k h x g s (same_principal p q) }
    where
      by : (q : Principal) (k : Known) → known_at q ks ≡ Some k → (x : List ℕ) (g : Signature) → signature_in x k.functions ≡ Some g → (b : Bool) → (if b then option_or None (told q x) else told q x) ≡ Some (line_under costs g)
      by q k h x g s true = T.each q k h x g s
      by q k h x g s false = T.each q k h x g s

  module _ (o : Option Bounds) (types : List PlainType) (new : known_at p ks ≡ None) where
    -- the lines of another contract leave a known one's
    of_known : (q : Principal) (k : Known) → known_at q ks ≡ Some k → (x : List ℕ) (g : Signature) → signature_in x k.functions ≡ Some g → with_told p o types told q x ≡ Some (line_under costs g)
    of_known q k h x g s = by (same_principal p q) refl
      where
        by : (b : Bool) → same_principal p q ≡ b → (if b then option_or (line_in o types x) (told q x) else told q x) ≡ Some (line_under costs g)
        by true e = absurd (none_known p ks k new (ap (λ r. known_at r ks) (principals_equal p q e) ∙ h))
        by false e = T.each q k h x g s

    -- a deployment that deploys nothing
    none_deployed : AreTold costs ks (with_told p o types told)
    none_deployed = record { each = of_known }

  -- a deployment that is done
  one_deployed : (n : Known) (bounds : Bounds) (types : List PlainType) → n.principal ≡ p → known_at p ks ≡ None → IsToldOf costs n (Some bounds) types → AreTold costs (ks ++ n ∷ []) (with_told p (Some bounds) types told)
  one_deployed n bounds types named new own = record { each = λ q k h x g s. by q k x g s (known_split q ks n k h) }
    where
      here : (x : List ℕ) (g : Signature) → signature_in x n.functions ≡ Some g → with_told p (Some bounds) types told p x ≡ Some (line_under costs g)
      here x g s =
          ap (λ (b : Bool). if b then option_or (line_in (Some bounds) types x) (told p x) else told p x) (principal_itself p)
          ∙ ap (λ o. option_or o (told p x)) (own x g s)

      by : (q : Principal) (k : Known) (x : List ℕ) (g : Signature) → signature_in x k.functions ≡ Some g → (known_at q ks ≡ Some k) ⊎ ((n.principal ≡ q) × (n ≡ k)) → with_told p (Some bounds) types told q x ≡ Some (line_under costs g)
      by q k x g s (inl h) = of_known (Some bounds) types new q k h x g s
      by q k x g s (inr h) = ap (λ r. with_told p (Some bounds) types told r x) (sym h.0 ∙ named) ∙ here x g (ap (λ (k : Known). signature_in x k.functions) h.1 ∙ s)

-- ---- entry by entry

module _ (schedule : ScheduleSeen) where
  -- what was printed last, at a node
  abbrev AreToldAt : NodeSeen → ToldLast → Type 0
  AreToldAt node told = AreTold (costs_for schedule node) node.known told

  -- after a deployment
  abbrev Stays : ToldLast → Principal → Stepped → Type 0
  Stays told p z = AreToldAt z.node (with_told p z.result.bounds z.result.types told)

  module _ (node : NodeSeen) (told : ToldLast) (T : AreToldAt node told) (p : Principal) (new : known_at p node.known ≡ None) (now : Told) (n : Known) (named : n.principal ≡ p) (bounds : Bounds) (is : now.bounds ≡ Some bounds) (own : IsToldOf (costs_for schedule node) n (Some bounds) now.types) where
    then_told : (t s : Stepped) → Stays told p t → Some t ≡ Some s → Stays told p s
    then_told t s h e = subst (Stays told p) (one_step t s e) h

    done : (o : Option Bounds) → o ≡ Some bounds → AreTold (costs_for schedule node) (node.known ++ n ∷ []) (with_told p o now.types told)
    done o e = subst (λ o. AreTold (costs_for schedule node) (node.known ++ n ∷ []) (with_told p o now.types told)) (sym e) (one_deployed (costs_for schedule node) node.known told T p n bounds now.types named new own)

    none_done : (o : Option Bounds) → AreTold (costs_for schedule node) node.known (with_told p o now.types told)
    none_done o = none_deployed (costs_for schedule node) node.known told T p o now.types new

    settled_stays : (failing : Option ℕ) (c : Contract) (cost : Cost5) (t : State) → Stays told p (settled_by failing node (with_contract node c n) now Done cost t)
    settled_stays None c cost t = done now.bounds is
    settled_stays (Some index) c cost t = none_done now.bounds

    ended_stays : (common : Common) (l : Limited Contract) (s : Stepped) → deployment_ended common node now n l ≡ Some s → Stays told p s
    ended_stays common (Gave c t purse) s e = then_told _ s (settled_stays (holds t.moves common.mode common.conditions) c purse.spent t) e
    ended_stays common (Threw v t purse) s e = then_told _ s (none_done now.bounds) e
    ended_stays common (AbortedBy why purse) s e = then_told _ s (none_done now.bounds) e
    ended_stays common (Passed over purse) s e = then_told _ s (none_done now.bounds) e
    ended_stays common (Lost purse) s e = absurd cc

  -- the lines of an accepted text are its functions' own
  accepted_told : (costs : Costs) (ks : List Known) (p : Principal) (source : Text) (a : Accepted ks p costs source) → IsToldOf costs (known_of p (length source.bytes) a.defined) (Some (bounds_of costs a.defined a.forms)) (filter_map (return_of a.defined) a.forms)
  accepted_told costs ks p source a x g s =
      accepted_lines costs ks p source a x g s
      ∙ ap {B = Option FunctionLine} (λ o. Some (record { reach = reach_of (cost_under costs g.bound) o; returns = g.returns })) (sym (accepted_bounded costs ks p source a x g s))

  deployed_stay : (node : NodeSeen) (common : Common) (p : Principal) (source : Text) (s : Stepped) (told : ToldLast) → AreToldAt node told → DeploySteps (costs_for schedule node) node common p source s → Stays told p s
  unfolding run_deployment
  deployed_stay node common p source s told T (name_taken known e is) = subst (Stays told p) (sym is) (nothing_more (costs_for schedule node) node.known told T p)
  deployed_stay node common p source s told T (source_refused rule span names e b is) = subst (Stays told p) (sym is) (nothing_more (costs_for schedule node) node.known told T p)
  deployed_stay node common p source s told T (evaluated new accepted is) =
      let costs = costs_for schedule node in
      ended_stays node told T p new (told_of costs accepted.defined accepted.forms) (known_of p (length source.bytes) accepted.defined) refl (bounds_of costs accepted.defined accepted.forms) refl
      (accepted_told costs node.known p source accepted) common _ s is

  -- a block prints all lines anew, or leaves the table
  block_stays : (node : NodeSeen) (height : ℕ) (told : ToldLast) → IsSoundNode node → AreToldAt node told → AreTold (costs_at schedule height) node.known (λ p x. option_or (rebound_in (rebounds_at schedule node height) p x) (told p x))
  unfolding rebounds_at
  block_stays node height told N T = by (nat_eq (epoch_at schedule node.height) (epoch_at schedule height)) refl
    where
      by : (b : Bool) → nat_eq (epoch_at schedule node.height) (epoch_at schedule height) ≡ b → AreTold (costs_at schedule height) node.known (λ p x. option_or (rebound_in (if b then [] else rebounds (costs_at schedule height) node) p x) (told p x))
      by true e = subst (λ t. AreTold (function_of t) node.known told) (one_table schedule node.height height (eqb-true (epoch_at schedule node.height) (epoch_at schedule height) e)) T
      by false e = record {
        each = λ p k there x g s. ap (λ o. option_or o (told p x)) (rebounds_right (costs_at schedule height) p x g node.known k there s node.contracts N.contracts.texts);
      }

  told_stay : (node : NodeSeen) (entry : Entry) (s : Stepped) (told : ToldLast) → IsSoundNode node → AreToldAt node told → Steps schedule node entry s → AreToldAt s.node (told_after told entry s.result)
  told_stay node (Deploy common name source version) s told N T x = deployed_stay node common (contract_of common.sender name) (text_of source version) s told T x
  told_stay node (Call common contract function args) s told N T x =
      let same = call_keeps node (costs_for schedule node) common contract args function s x in
      subst (λ (z : List Known × ℕ). AreTold (costs_at schedule z.1) z.0 told) (λ i. (sym same.0 i, sym same.1 i)) T
  told_stay node (Block height) s told N T x = subst (λ (z : Stepped). AreToldAt z.node (λ p x. option_or (rebound_in z.result.rebounds p x) (told p x))) (sym x) (block_stays node height told N T)

  -- ---- charges

  no_cost : (o : Option Cost5) (cost : Cost5) (P : Type 0) → o ≡ None → o ≡ Some cost → P
  no_cost o cost P e h = let f : None ≡ Some cost = sym e ∙ h in absurd cc

  within_own : (node : NodeSeen) (common : Common) (name source : List ℕ) (version : Version) (s : Stepped) → HasParts (Deploy common name source version) → IsSoundNode node → Steps schedule node (Deploy common name source version) s → (cost : Cost5) → s.result.cost ≡ Some cost → IsWithinOwn s.result cost
  within_own node common name source version s parts N (name_taken known e is) cost c = no_cost s.result.cost cost (IsWithinOwn s.result cost) (ap (λ (z : Stepped). z.result.cost) is) c
  within_own node common name source version s parts N (source_refused rule span names e b is) cost c = no_cost s.result.cost cost (IsWithinOwn s.result cost) (ap (λ (z : Stepped). z.result.cost) is) c
  within_own node common name source version s parts N (evaluated new accepted is) cost c =
      let told = evaluated_tells schedule node common name source version s parts N new accepted is in
      let bounds = bounds_of (costs_for schedule node) accepted.defined accepted.forms in
      record { bounds = bounds; are_told = told; low = deployments_within schedule node common name source version s parts N (evaluated new accepted is) cost bounds c told }

  within : (node : NodeSeen) (entry : Entry) (s : Stepped) (told : ToldLast) → HasParts entry → IsSoundNode node → AreToldAt node told → Steps schedule node entry s → IsChargedWithin told entry s.result
  within node (Deploy common name source version) s told parts N T x = λ cost e. within_own node common name source version s parts N x cost e
  within node (Call common contract function args) s told parts N T x = λ cost e.
      let w = calls_within schedule node common contract function args s parts N x cost e in
      let own = T.each contract w.known w.there function w.signature w.told in
      let cost_is = cost_under (costs_for schedule node) w.signature.bound in
      record {
        bound = cost_is;
        returns = w.signature.returns;
        is_told = own ∙ ap {B = Option FunctionLine} (λ o. Some (record { reach = reach_of cost_is o; returns = w.signature.returns })) w.bounded;
        low = w.low;
      }
  within node (Block height) s told parts N T x = ap (λ (z : Stepped). z.result.cost) x

  -- ---- limits

  told_cost : (cost bound : Cost5) (o : Option Dimension) → reach_of cost o ≡ Bound bound → cost ≡ bound
  told_cost cost bound None e = cc
  told_cost cost bound (Some dimension) e = absurd cc

  same_line : (a b : FunctionLine) → Some a ≡ Some b → a ≡ b
  same_line a b e = cc

  not_stopped : (node : NodeSeen) (entry : Entry) (s : Stepped) (told : ToldLast) → HasParts entry → IsSoundNode node → AreToldAt node told → Steps schedule node entry s → IsNotStopped told entry s.result
  not_stopped node (Deploy common name source version) s told parts N T x = deployments_not_stopped schedule node common name source version s parts N x
  not_stopped node (Call common contract function args) s told parts N T x = λ bound returns is_told low h.
      let above = bound_above schedule node common contract function args s parts N x h in
      let own = T.each contract above.known above.there function above.signature above.told in
      let reached = cost_under (costs_for schedule node) above.signature.bound in
      above.above (subst (λ b. IsAtMost b (limit_of common.limit)) (sym (told_cost reached bound (first_above most_cost reached) (ap (λ (l : FunctionLine). l.reach) (same_line _ _ (sym own ∙ is_told))))) low)
  not_stopped node (Block height) s told parts N T x = λ h. subst (λ (z : Stepped). IsStopped z.result.outcome) x h

  -- ---- answers

  typed : (node : NodeSeen) (entry : Entry) (s : Stepped) (told : ToldLast) → HasParts entry → IsSoundNode node → AreToldAt node told → Steps schedule node entry s → IsTyped told entry s.result
  typed node (Deploy common name source version) s told parts N T x = tt
  typed node (Call common contract function args) s told parts N T x = λ v e.
      let a = calls_typed schedule node common contract function args s parts N x v e in
      record {
        line = line_under (costs_for schedule node) a.signature;
        is_told = T.each contract a.known a.there function a.signature a.told;
        typed = a.typed;
        small = no_larger v a.signature.returns a.typed;
      }
  typed node (Block height) s told parts N T x = tt

  -- ---- files

  all_told : (entries : List Entry) (node : NodeSeen) (results : List TxResult) (after : NodeSeen) (told : ToldLast) → All HasParts entries → IsSoundNode node → AreToldAt node told → AllStep schedule node entries results after → AreToldAt after (told_by told entries results)
  all_told [] node results after told parts N T x = subst (λ n. AreToldAt n told) (sym x.1) T
  all_told (e ∷ es) node results after told parts N T x =
      let here = All-head HasParts e es parts in
      subst (λ rs. AreToldAt after (told_by told (e ∷ es) rs)) (sym x.4)
      (all_told es x.0.node x.1 after (told_after told e x.0.result) (All-tail HasParts e es parts) (sound_stays schedule node e x.0 here N x.2) (told_stay node e x.0 told N T x.2) x.3)

  module _ (Holds : ToldLast → Entry → TxResult → Type 0)
      (each : (node : NodeSeen) (entry : Entry) (s : Stepped) (told : ToldLast) → HasParts entry → IsSoundNode node → AreToldAt node told → Steps schedule node entry s → Holds told entry s.result) where
    all_hold : (entries : List Entry) (node : NodeSeen) (results : List TxResult) (after : NodeSeen) (told : ToldLast) → All HasParts entries → IsSoundNode node → AreToldAt node told → AllStep schedule node entries results after → EachAfter Holds told entries results
    all_hold [] node results after told parts N T x = subst (EachAfter Holds told []) (sym x.0) tt
    all_hold (e ∷ es) node results after told parts N T x =
        let here = All-head HasParts e es parts in
        subst (EachAfter Holds told (e ∷ es)) (sym x.4) (
          each node e x.0 told here N T x.2,
          all_hold es x.0.node x.1 after (told_after told e x.0.result) (All-tail HasParts e es parts) (sound_stays schedule node e x.0 here N x.2) (told_stay node e x.0 told N T x.2) x.3,
        )

    run_holds : (file : FileSeen) (results : List TxResult) (after : NodeSeen) → FileHasParts file → Runs schedule file results after → EachAfter Holds none_told file.entries results
    run_holds file results after parts x =
        all_hold file.entries (first_node file.genesis) results after none_told parts.entries (first_sound file.genesis parts.holders) (record { each = λ p k h. absurd cc }) x.steps

pub runs_within : (schedule : ScheduleSeen) (file : FileSeen) (results : List TxResult) (after : NodeSeen) → FileHasParts file → Runs schedule file results after → AreChargedWithin none_told file.entries results
runs_within schedule = run_holds schedule IsChargedWithin (within schedule)

pub runs_not_stopped : (schedule : ScheduleSeen) (file : FileSeen) (results : List TxResult) (after : NodeSeen) → FileHasParts file → Runs schedule file results after → AreNotStopped none_told file.entries results
runs_not_stopped schedule = run_holds schedule IsNotStopped (not_stopped schedule)

pub runs_typed : (schedule : ScheduleSeen) (file : FileSeen) (results : List TxResult) (after : NodeSeen) → FileHasParts file → Runs schedule file results after → AreTyped none_told file.entries results
runs_typed schedule = run_holds schedule IsTyped (typed schedule)

pub runs_tell : (schedule : ScheduleSeen) (file : FileSeen) (results : List TxResult) (after : NodeSeen) → FileHasParts file → Runs schedule file results after →
    (p : Principal) (k : Known) → known_at p after.known ≡ Some k → (x : List ℕ) (g : Signature) → signature_in x k.functions ≡ Some g → told_by none_told file.entries results p x ≡ Some (line_under (costs_for schedule after) g)
runs_tell schedule file results after parts x =
    (all_told schedule file.entries (first_node file.genesis) results after none_told parts.entries (first_sound file.genesis parts.holders) (record { each = λ p k h. absurd cc }) x.steps).each

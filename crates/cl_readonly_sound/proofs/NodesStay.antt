-- A call of a function that doesn't write leaves a node as it was.
use Rattle.std.proofs.Common.{◌≡◌, ℕ, Bool, true, false, List, [], ◌++◌, length, Option, Some, None, refl, sym, ap, subst, ◌∙◌}
use Rattle.std.specs.Prelude.{nat_eq}
use Rattle.cl_types.specs.declared.sized.Access.{Access}
use Rattle.cl_types.specs.declared.sized.Access.TheVariants.{Public, ReadOnly, Private}
use Rattle.cl_c32.specs.declared.principal.Principal.{Principal}
use Rattle.cl_shapes.specs.declared.cost.Cost5.{Cost5}
use Rattle.cl_shapes.specs.declared.cost.Dimension.{Dimension}
use Rattle.cl_costs.specs.Schedules.{ScheduleSeen}
use Rattle.cl_shapes.specs.Limits.{Purse}
use Rattle.cl_values.specs.Tree.{Tree, ResponseV}
use Rattle.cl_events.specs.State.{State, at_rest}
use Rattle.cl_meaning.specs.Answers.{Outcome, Given, Thrown, Aborted, Wrong, Deeper, Answer}
use Rattle.cl_meaning.specs.Deployed.{Contract, Function, contract_at, function_in}
use Rattle.cl_meaning.specs.Limits.{Costs, Paid, Within, Past, pay, Limited, Gave, Threw, AbortedBy, Passed, Lost, limit_on, limited}
use Rattle.cl_file.specs.declared.entry.Common.{Common}
use Rattle.cl_file.specs.declared.entry.Entry.TheVariants.{Call}
use Rattle.cl_tx.specs.declared.outcome.Outcome.{Outcome as TxOutcome}
use Rattle.cl_tx.specs.declared.outcome.Outcome.TheVariants.{Good, Plain}
use Rattle.cl_post.specs.Post.{holds}
use Rattle.cl_tx.specs.Nodes.{NodeSeen, Stepped, Told, nothing_told, stays, frame_of, purse_of, moves_on, settled_by, settled, answered, call_ended}
use Rattle.cl_tx.specs.Rebounds.{first_over}
use Rattle.cl_tx.specs.Step.{Steps, costs_for, first_misfit, run_call, if_bounded, if_fitting, if_as_many, if_open, if_function, if_deployed, call_step}
use Rattle.cl_node_sound.specs.Sound.{IsSoundNode, HasParts}
use Rattle.cl_readonly_sound.specs.Untouched.{ArePrints, IsUntouched}
use Rattle.cl_readonly_sound.specs.Laws.{DoesNotWrite}
use Rattle.cl_readonly_sound.proofs.CallsLeave.{call_untouched, read_only_does_not_write}

same_step : (s t : Stepped) → Some s ≡ Some t → s ≡ t
same_step s t e = cc

-- a state that is at rest, left untouched, is itself again at rest
rests : (s t : State) → s.events ≡ [] → s.moves ≡ [] → IsUntouched s t → at_rest t ≡ s
rests s t events moves h =
    λ i. record { variables = h.variables i; entries = h.entries i; fungibles = h.fungibles i; nonfungibles = h.nonfungibles i; stx = h.stx i; events = sym events i; moves = sym moves i }

-- what a limit leaves of a value that is given has a state that is untouched
abbrev LeavesUnder : State → Limited Tree → Type 0
LeavesUnder s (Gave v t purse) = IsUntouched s t
LeavesUnder s other = Unit {0}

leaves_under : (costs : Costs) (purse : Purse) (s : State) (a : Answer Tree) → IsUntouched s a.state → LeavesUnder s (limited costs purse a)
unfolding limited
leaves_under costs purse s a h = by (pay costs (Within purse) a.log) a.outcome
  where
    by : (paid : Paid) (o : Outcome Tree) → LeavesUnder s (limit_on paid o a.state)
    by (Past over p) o = tt
    by (Within p) (Given v) = h
    by (Within p) (Thrown v) = tt
    by (Within p) (Aborted why) = tt
    by (Within p) Wrong = tt
    by (Within p) Deeper = tt

module _ (costs : Costs) (node : NodeSeen) (N : IsSoundNode node) (common : Common) (p : Principal) (function : List ℕ) (args : List Tree) (d : DoesNotWrite node.contracts p function) where
  -- the node is as it was, and prints are handed out
  record IsAsBefore (s : Stepped) : Type 0 where
    same : s.node ≡ node
    prints : ArePrints s.result.events

  abbrev Stays : Option Stepped → Type 0
  Stays o = (s : Stepped) → o ≡ Some s → IsAsBefore s

  stays_so : (t : Stepped) → IsAsBefore t → Stays (Some t)
  stays_so t h s e = subst IsAsBefore (same_step t s e) h

  stays_itself : (told : Told) (outcome : TxOutcome) (cost : Option Cost5) → Stays (Some (stays node told outcome cost))
  stays_itself told outcome cost = stays_so (stays node told outcome cost) (record { same = refl; prints = tt })

  moved : (told : Told) (outcome : TxOutcome) (cost : Cost5) (t : State) → IsUntouched node.state t → Stays (Some (moves_on node told outcome cost t))
  moved told outcome cost t h = stays_so (moves_on node told outcome cost t) (record {
    same = ap (λ (s : State). record node { state = s }) (rests node.state t N.no_events N.no_moves h);
    prints = subst ArePrints (sym (h.events ∙ ap (λ es. es ++ h.printed) N.no_events)) h.prints;
  })

  -- whether its conditions hold or not
  settles : (failing : Option ℕ) (outcome : TxOutcome) (cost : Cost5) (t : State) → IsUntouched node.state t → Stays (Some (settled_by failing node node nothing_told outcome cost t))
  settles None outcome cost t h = moved nothing_told outcome cost t h
  settles (Some index) outcome cost t h = stays_itself _ _ _

  settled_stays : (outcome : TxOutcome) (cost : Cost5) (t : State) → IsUntouched node.state t → Stays (Some (settled common node node nothing_told outcome cost t))
  settled_stays outcome cost t h = settles (holds t.moves common.mode common.conditions) outcome cost t h

  answer_stays : (access : Access) (v : Tree) (cost : Cost5) (t : State) → IsUntouched node.state t → Stays (answered common access v node cost t)
  answer_stays ReadOnly v cost t h = settled_stays (Plain v) cost t h
  answer_stays Private v cost t h = settled_stays (Plain v) cost t h
  answer_stays Public (ResponseV true v) cost t h = settled_stays (Good v) cost t h
  answer_stays Public (ResponseV false v) cost t h = stays_itself _ _ _
  answer_stays Public v cost t h = λ s e. absurd cc

  ended_stays : (access : Access) (l : Limited Tree) → LeavesUnder node.state l → Stays (call_ended common access node l)
  ended_stays access (Gave v t purse) h = answer_stays access v purse.spent t h
  ended_stays access (Threw v t purse) h = λ s e. absurd cc
  ended_stays access (AbortedBy why purse) h = stays_itself _ _ _
  ended_stays access (Passed over purse) h = stays_itself _ _ _
  ended_stays access (Lost purse) h = λ s e. absurd cc

  run_stays : (c : Contract) (f : Function) → contract_at p node.contracts ≡ Some c → function_in function c.forms ≡ Some f → Stays (run_call costs node common p f args)
  unfolding run_call
  run_stays c f at is = ended_stays f.access _ (leaves_under costs (purse_of common) node.state _ (call_untouched node.contracts p function d c at f is (frame_of node common.sender p) refl args node.state))

  bounded_stays : (c : Contract) (f : Function) → contract_at p node.contracts ≡ Some c → function_in function c.forms ≡ Some f → (o : Option Dimension) → Stays (if_bounded costs node common p f args o)
  bounded_stays c f at is (Some dimension) = stays_itself _ _ _
  bounded_stays c f at is None = run_stays c f at is

  fitting_stays : (c : Contract) (f : Function) → contract_at p node.contracts ≡ Some c → function_in function c.forms ≡ Some f → (o : Option ℕ) → Stays (if_fitting costs node common p f args o)
  fitting_stays c f at is None = bounded_stays c f at is (first_over costs node.known p f.name)
  fitting_stays c f at is (Some index) = stays_itself _ _ _

  count_stays : (c : Contract) (f : Function) → contract_at p node.contracts ≡ Some c → function_in function c.forms ≡ Some f → (b : Bool) → Stays (if_as_many costs node common p f args b)
  count_stays c f at is true = fitting_stays c f at is (first_misfit 0 f.params args)
  count_stays c f at is false = stays_itself _ _ _

  open_stays : (c : Contract) (f : Function) → contract_at p node.contracts ≡ Some c → function_in function c.forms ≡ Some f → (access : Access) → Stays (if_open costs node common p f args access)
  open_stays c f at is Private = stays_itself _ _ _
  open_stays c f at is Public = count_stays c f at is (nat_eq (length args) (length f.params))
  open_stays c f at is ReadOnly = count_stays c f at is (nat_eq (length args) (length f.params))

  function_stays : (c : Contract) → contract_at p node.contracts ≡ Some c → (o : Option Function) → function_in function c.forms ≡ o → Stays (if_function costs node common p args o)
  function_stays c at None is = stays_itself _ _ _
  function_stays c at (Some f) is = open_stays c f at is f.access

  contract_stays : (o : Option Contract) → contract_at p node.contracts ≡ o → Stays (if_deployed costs node common p function args o)
  contract_stays None at = stays_itself _ _ _
  contract_stays (Some c) at = function_stays c at (function_in function c.forms) refl

  call_stays : Stays (call_step costs node common p function args)
  unfolding call_step
  call_stays = contract_stays (contract_at p node.contracts) refl

module _ (schedule : ScheduleSeen) (node : NodeSeen) (common : Common) (contract : Principal) (function : List ℕ) (args : List Tree) (s : Stepped) (parts : HasParts (Call common contract function args)) (N : IsSoundNode node) where
  pub calls_keep_nodes : DoesNotWrite node.contracts contract function → Steps schedule node (Call common contract function args) s → s.node ≡ node
  calls_keep_nodes d step = (call_stays (costs_for schedule node) node N common contract function args d s step).same

  pub calls_hand_out_prints : DoesNotWrite node.contracts contract function → Steps schedule node (Call common contract function args) s → ArePrints s.result.events
  calls_hand_out_prints d step = (call_stays (costs_for schedule node) node N common contract function args d s step).prints

  pub read_only_keep_nodes : (c : Contract) → contract_at contract node.contracts ≡ Some c → (f : Function) → function_in function c.forms ≡ Some f → f.access ≡ ReadOnly → Steps schedule node (Call common contract function args) s → s.node ≡ node
  read_only_keep_nodes c at f is access step = calls_keep_nodes (read_only_does_not_write node.contracts node.known N.contracts contract parts.1 c at function f is access) step

-- Two nodes that agree at the touched spots of a call step alike.
use Rattle.std.proofs.Common.{◌≡◌, ℕ, Bool, true, false, List, ◌++◌, length, Option, Some, None, refl, sym, ap, subst, ◌∙◌}
use Rattle.std.specs.Prelude.{nat_eq}
use Rattle.cl_types.specs.declared.sized.Access.{Access}
use Rattle.cl_types.specs.declared.sized.Access.TheVariants.{Public, ReadOnly, Private}
use Rattle.cl_c32.specs.declared.principal.Principal.{Principal}
use Rattle.cl_shapes.specs.declared.cost.Cost5.{Cost5}
use Rattle.cl_shapes.specs.declared.cost.Dimension.{Dimension}
use Rattle.cl_shapes.specs.Limits.{Purse}
use Rattle.cl_values.specs.Tree.{Tree, ResponseV}
use Rattle.cl_events.specs.State.{State, at_rest}
use Rattle.cl_events.specs.declared.event.Event.{Event}
use Rattle.cl_events.specs.declared.event.Move.{Move}
use Rattle.cl_costs.specs.Schedules.{ScheduleSeen}
use Rattle.cl_meaning.specs.Answers.{Outcome, Given, Thrown, Aborted, Wrong, Deeper, Answer, Note}
use Rattle.cl_meaning.specs.Deployed.{Contract, Deployed, Function, contract_at, function_in, function_of}
use Rattle.cl_meaning.specs.Limits.{Costs, Paid, Within, Past, pay, limit_on, limited}
use Rattle.cl_rules.specs.Context.{Known}
use Rattle.cl_file.specs.declared.entry.Common.{Common}
use Rattle.cl_file.specs.declared.entry.Entry.{Entry}
use Rattle.cl_file.specs.declared.entry.Entry.TheVariants.{Call, Deploy, Block}
use Rattle.cl_tx.specs.declared.outcome.Outcome.{Outcome as TxOutcome}
use Rattle.cl_tx.specs.declared.outcome.Outcome.TheVariants.{Good, Plain}
use Rattle.cl_post.specs.Post.{holds}
use Rattle.cl_tx.specs.Nodes.{NodeSeen, Stepped, Told, nothing_told, result_of, stays, frame_of, purse_of, moves_on, settled_by, settled, answered, call_ended}
use Rattle.cl_tx.specs.Rebounds.{first_over}
use Rattle.cl_tx.specs.Step.{Steps, costs_for, first_misfit, run_call, if_bounded, if_fitting, if_as_many, if_open, if_function, if_deployed, call_step}
use Rattle.cl_tables.specs.declared.spot.Spot.{Spot}
use Rattle.cl_spots.specs.Spots.{AgreeAt, Agree, IsChangedAt}
use Rattle.cl_tables.specs.declared.spot.Spot.TheVariants.{Variable, MapOf, Token, Stx}
use Rattle.cl_spots.proofs.Grafts.{agree_itself, unchanged, wider}
use Rattle.cl_touch.specs.Touches.{Touched, Written}
use Rattle.cl_touch.specs.Frames.{AreFramed, AnswerAlike}
use Rattle.cl_touch.proofs.Functions.{calls_alike}
use Rattle.cl_touch.specs.CallSpots.{may_be_called, IsCallable, TouchedByCall, WrittenByCall}
use Rattle.cl_touch_sound.specs.Calls.{TouchedBy, WrittenBy, IsAtRest, StepAlike}
use Rattle.cl_touch_sound.specs.Laws.{NodesStepAlike, CallsChangeNodes}

-- ---- a state at rest

at_rest_agrees : (u w : State) (x : Spot) → AgreeAt u w x → AgreeAt (at_rest u) (at_rest w) x
at_rest_agrees u w (Variable at) h = h
at_rest_agrees u w (MapOf at) h = h
at_rest_agrees u w (Token at) h = h
at_rest_agrees u w Stx h = h

module _ (costs : Costs) (W : Deployed) (height : ℕ) (s t : State) (known : List Known) (calm_s : IsAtRest s) (calm_t : IsAtRest t) (common : Common) (p : Principal) (f : List ℕ) (args : List Tree) (agree : Agree (TouchedByCall W p f) s t) where
  abbrev N : NodeSeen
  N = record { state = s; contracts = W; known = known; height = height }

  abbrev M : NodeSeen
  M = record { state = t; contracts = W; known = known; height = height }

  abbrev Both : Stepped → Stepped → Type 0
  Both a b = StepAlike (TouchedByCall W p f) (WrittenByCall W p f) N M a b

  -- neither steps, or they step alike
  abbrev BothStep : Option Stepped → Option Stepped → Type 0
  BothStep None None = Unit {0}
  BothStep (Some a) (Some b) = Both a b
  BothStep a b = ⊥

  both_stay : (told : Told) (outcome : TxOutcome) (cost : Option Cost5) → BothStep (Some (stays N told outcome cost)) (Some (stays M told outcome cost))
  both_stay told outcome cost = record {
    result = refl;
    agree = agree;
    first = record { rest = refl; state = unchanged (WrittenByCall W p f) s; events = refl; moves = refl };
    second = record { rest = refl; state = unchanged (WrittenByCall W p f) t; events = refl; moves = refl };
  }

  module _ (callable : IsCallable W p f) where
    abbrev Framed : State → State → Type 0
    Framed u w = AreFramed (Touched W p f) (Written W p f) s t u w

    -- events and moves are the same
    same_events : (u w : State) → Framed u w → u.events ≡ w.events
    same_events u w r = r.first_events ∙ ap (λ (es : List Event). es ++ r.emitted) (calm_s.0 ∙ sym calm_t.0) ∙ sym r.second_events

    same_moves : (u w : State) → Framed u w → u.moves ≡ w.moves
    same_moves u w r = r.first_moves ∙ ap (λ (ms : List Move). ms ++ r.moved) (calm_s.1 ∙ sym calm_t.1) ∙ sym r.second_moves

    written_more : (x : Spot) → Written W p f x → WrittenByCall W p f x
    written_more x w = (callable, w)

    changed_at_rest : (s u : State) → IsChangedAt (Written W p f) s u → IsChangedAt (WrittenByCall W p f) s (at_rest u)
    changed_at_rest s u h = let more = wider (Written W p f) (WrittenByCall W p f) written_more s u h in record { variables = more.variables; entries = more.entries; fungibles = more.fungibles; nonfungibles = more.nonfungibles; stx = more.stx }

    both_move : (told : Told) (outcome : TxOutcome) (cost : Cost5) (u w : State) → Framed u w → BothStep (Some (moves_on N told outcome cost u)) (Some (moves_on M told outcome cost w))
    both_move told outcome cost u w r = record {
      result = ap (λ (es : List Event). result_of told outcome (Some cost) es) (same_events u w r);
      agree = λ x h. at_rest_agrees u w x (r.agree x h.1);
      first = record { rest = refl; state = changed_at_rest s u r.first; events = sym calm_s.0; moves = sym calm_s.1 };
      second = record { rest = refl; state = changed_at_rest t w r.second; events = sym calm_t.0; moves = sym calm_t.1 };
    }

    both_settle_by : (failing : Option ℕ) (outcome : TxOutcome) (cost : Cost5) (u w : State) → Framed u w → BothStep (Some (settled_by failing N N nothing_told outcome cost u)) (Some (settled_by failing M M nothing_told outcome cost w))
    both_settle_by None outcome cost u w r = both_move nothing_told outcome cost u w r
    both_settle_by (Some index) outcome cost u w r = both_stay _ _ _

    both_settle : (outcome : TxOutcome) (cost : Cost5) (u w : State) → Framed u w → BothStep (Some (settled common N N nothing_told outcome cost u)) (Some (settled common M M nothing_told outcome cost w))
    both_settle outcome cost u w r =
        subst (λ (ms : List Move). BothStep (Some (settled common N N nothing_told outcome cost u)) (Some (settled_by (holds ms common.mode common.conditions) M M nothing_told outcome cost w))) (same_moves u w r)
        (both_settle_by (holds u.moves common.mode common.conditions) outcome cost u w r)

    both_answer : (access : Access) (v : Tree) (cost : Cost5) (u w : State) → Framed u w → BothStep (answered common access v N cost u) (answered common access v M cost w)
    both_answer ReadOnly v cost u w r = both_settle (Plain v) cost u w r
    both_answer Private v cost u w r = both_settle (Plain v) cost u w r
    both_answer Public (ResponseV true v) cost u w r = both_settle (Good v) cost u w r
    both_answer Public (ResponseV false v) cost u w r = both_stay _ _ _
    both_answer Public v cost u w r = tt

    both_end_on : (access : Access) (paid : Paid) (o : Outcome Tree) (u w : State) → Framed u w → BothStep (call_ended common access N (limit_on paid o u)) (call_ended common access M (limit_on paid o w))
    both_end_on access (Past over purse) o u w r = both_stay _ _ _
    both_end_on access (Within purse) (Given v) u w r = both_answer access v purse.spent u w r
    both_end_on access (Within purse) (Thrown v) u w r = tt
    both_end_on access (Within purse) (Aborted why) u w r = both_stay _ _ _
    both_end_on access (Within purse) Wrong u w r = tt
    both_end_on access (Within purse) Deeper u w r = tt

    both_end : (access : Access) (purse : Purse) (a b : Answer Tree) → AnswerAlike (Touched W p f) (Written W p f) s t a b → BothStep (call_ended common access N (limited costs purse a)) (call_ended common access M (limited costs purse b))
    unfolding limited
    both_end access purse a b h =
        subst (λ (o : Outcome Tree). BothStep (call_ended common access N (limit_on (pay costs (Within purse) a.log) a.outcome a.state)) (call_ended common access M (limit_on (pay costs (Within purse) b.log) o b.state))) h.outcome
        (subst (λ (log : List Note). BothStep (call_ended common access N (limit_on (pay costs (Within purse) a.log) a.outcome a.state)) (call_ended common access M (limit_on (pay costs (Within purse) log) a.outcome b.state))) h.log
        (both_end_on access (pay costs (Within purse) a.log) a.outcome a.state b.state h.framed))

    both_run : (function : Function) → function_of f (contract_at p W) ≡ Some function → BothStep (run_call costs N common p function args) (run_call costs M common p function args)
    unfolding run_call
    both_run function there = both_end function.access (purse_of common) _ _ (calls_alike W (frame_of N common.sender p) f function there args s t (λ x h. agree x (callable, h)))

    both_bound : (function : Function) → function_of f (contract_at p W) ≡ Some function → (o : Option Dimension) → BothStep (if_bounded costs N common p function args o) (if_bounded costs M common p function args o)
    both_bound function there None = both_run function there
    both_bound function there (Some dimension) = both_stay _ _ _

    both_fit : (function : Function) → function_of f (contract_at p W) ≡ Some function → (o : Option ℕ) → BothStep (if_fitting costs N common p function args o) (if_fitting costs M common p function args o)
    both_fit function there None = both_bound function there (first_over costs known p function.name)
    both_fit function there (Some index) = both_stay _ _ _

    both_count : (function : Function) → function_of f (contract_at p W) ≡ Some function → (b : Bool) → BothStep (if_as_many costs N common p function args b) (if_as_many costs M common p function args b)
    both_count function there true = both_fit function there (first_misfit 0 function.params args)
    both_count function there false = both_stay _ _ _

  both_open : (function : Function) → function_of f (contract_at p W) ≡ Some function → (access : Access) → function.access ≡ access → BothStep (if_open costs N common p function args access) (if_open costs M common p function args access)
  both_open function there Private is = both_stay _ _ _
  both_open function there Public is = both_count (record { function = function; there = there; callable = ap may_be_called is }) function there (nat_eq (length args) (length function.params))
  both_open function there ReadOnly is = both_count (record { function = function; there = there; callable = ap may_be_called is }) function there (nat_eq (length args) (length function.params))

  both_function : (o : Option Function) → function_of f (contract_at p W) ≡ o → BothStep (if_function costs N common p args o) (if_function costs M common p args o)
  both_function None is = both_stay _ _ _
  both_function (Some function) is = both_open function is function.access refl

  both_deployed : (o : Option Contract) → contract_at p W ≡ o → BothStep (if_deployed costs N common p f args o) (if_deployed costs M common p f args o)
  both_deployed None is = both_stay _ _ _
  both_deployed (Some c) is = both_function (function_in f c.forms) (ap (function_of f) is)

  both_call : BothStep (call_step costs N common p f args) (call_step costs M common p f args)
  unfolding call_step
  both_call = both_deployed (contract_at p W) refl

  -- where one steps, so does the other
  second_steps : (x y : Option Stepped) → BothStep x y → (a : Stepped) → x ≡ Some a → (b : Stepped) × (y ≡ Some b) × Both a b
  second_steps (Some c) (Some b) h a is = (b, refl, subst (λ c. Both c b) (same_step c a is) h)
    where
      same_step : (c a : Stepped) → Some c ≡ Some a → c ≡ a
      same_step c a e = cc
  second_steps None y h a is = absurd cc
  second_steps (Some c) None h a is = absurd h

  pub calls_alike_at : (a : Stepped) → call_step costs N common p f args ≡ Some a → (b : Stepped) × (call_step costs M common p f args ≡ Some b) × Both a b
  calls_alike_at a step = second_steps (call_step costs N common p f args) (call_step costs M common p f args) both_call a step

abbrev Alike : ScheduleSeen → NodeSeen → Entry → Stepped → NodeSeen → Type 0
Alike schedule n e a m = (b : Stepped) × Steps schedule m e b × StepAlike (TouchedBy n.contracts e) (WrittenBy n.contracts e) n m a b

pub nodes_step_alike : NodesStepAlike
nodes_step_alike schedule n m (Call common p f args) a call differ calm_n calm_m agree step =
    subst (Alike schedule n (Call common p f args) a) (sym differ)
    (calls_alike_at (costs_for schedule n) n.contracts n.height n.state m.state n.known calm_n calm_m common p f args agree a step)
nodes_step_alike schedule n m (Deploy common name source version) a call differ calm_n calm_m agree step = absurd call
nodes_step_alike schedule n m (Block height) a call differ calm_n calm_m agree step = absurd call

pub calls_change_nodes : CallsChangeNodes
calls_change_nodes schedule n e a call calm step =
    (nodes_step_alike schedule n n e a call refl calm calm (λ x h. agree_itself n.state x) step).2.first

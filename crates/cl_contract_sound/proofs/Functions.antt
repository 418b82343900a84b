-- Each function of each deployed contract is sound, and so is each typed expression in its code.
use Rattle.std.proofs.Common.{◌≡◌, ℕ, ◌<◌, ◌≤◌, ◌^◌, true, List, [], Some, sym, ap, subst, ◌∙◌}
use Rattle.cl_types.specs.Types.{PlainType}
use Rattle.cl_types.specs.declared.sized.Access.{Access}
use Rattle.cl_types.specs.declared.sized.Access.TheVariants.{Public, ReadOnly, Private}
use Rattle.cl_c32.specs.declared.principal.Principal.{Principal}
use Rattle.cl_values.specs.Tree.{Tree as Val}
use Rattle.cl_values.specs.Valid.{IsPrincipal}
use Rattle.cl_events.specs.State.{State}
use Rattle.cl_meaning.specs.Deployed.{Deployed, Function, contract_at, function_of}
use Rattle.cl_meaning.specs.Scope.{Frame, BoundValues}
use Rattle.cl_meaning.specs.Meaning.{means}
use Rattle.cl_meaning.specs.Top.{most_depth, call_from}
use Rattle.cl_meaning.specs.Kept.{Stage, Whole, Kept}
use Rattle.cl_rules.specs.Bills.{cost_under}
use Rattle.cl_rules.specs.Context.{CostTable, Context, Names, Known, Signature, known_at, signature_in}
use Rattle.cl_rules.specs.Verdicts.{Found}
use Rattle.cl_rules.specs.FormRules.{may_answer}
use Rattle.cl_rules.specs.Typing.{Typed}
use Rattle.cl_sexpr.specs.Tree.{Tree}
use Rattle.cl_sexpr.specs.Fits.{Fits}
use Rattle.cl_expression_sound.proofs.Fitting.{is_fitted}
use Rattle.cl_expression_sound.specs.Sound.{World, IsWorld, IsSound, IsAsFound, IsFrame, IsServed, AreBound, scope, NoThrow, types_of_params, deployed_world}
use Rattle.cl_expression_sound.specs.Stages.{AreDistinct, IsContext}
use Rattle.cl_contract_sound.specs.Nodes.{AreContracts}
use Rattle.cl_contract_sound.specs.Laws.{Answers, IsSoundFunction}
use Rattle.cl_expression_sound.proofs.Calls.{is_return}
use Rattle.cl_expression_sound.proofs.Depth.{each_depth}
use Rattle.cl_contract_sound.proofs.Contexts.{stands_in}
use Rattle.cl_contract_sound.proofs.OfTexts.{are_known}
use Rattle.cl_contract_sound.proofs.Serving.{known_there, whole_context, as_served, constants_serve, natives_serve, functions_serve, across_serve}
use Rattle.cl_contract_sound.proofs.States.{variables_serve, set_variable_serves, maps_serve, entries_serve, put_entry_serves, remove_entry_serves, events_serve}
use Rattle.cl_contract_sound.proofs.Holdings.{fungibles_serve, stx_serves, nonfungibles_serve, acts_serve}
use Rattle.cl_values.specs.Typed.{IsOf, AreOf}

-- the world of deployed contracts serves
pub is_world : (costs : CostTable) (W : Deployed) (stage : Stage) → AreDistinct W → IsWorld (deployed_world costs W stage)
is_world costs W stage A = record {
  constants = constants_serve costs W stage;
  natives = natives_serve costs W stage;
  functions = functions_serve costs W stage;
  variables = variables_serve W stage A;
  set_variable = set_variable_serves W stage A;
  maps = maps_serve W stage A;
  entries = entries_serve W stage A;
  put_entry = put_entry_serves W stage A;
  remove_entry = remove_entry_serves W stage A;
  fungibles = fungibles_serve W stage A;
  stx = stx_serves W stage A;
  nonfungibles = nonfungibles_serve W stage A;
  events = events_serve W stage A;
  acts = acts_serve W stage A costs;
  across = across_serve costs W stage;
}

called_sound : (costs : CostTable) (W : Deployed) (stage : Stage) → AreDistinct W → (G : Context) (p : Principal) → G.principal ≡ p → (g : Signature) (fn : Function) → IsServed (deployed_world costs W stage) p g fn → (F : Frame) → F.contract ≡ p → IsPrincipal F.contract → IsPrincipal F.sender → IsPrincipal F.caller → F.height < 2 ^ 128 → (vs : List Val) → AreOf vs (types_of_params g) → (s : State) → Kept W stage s →
    IsSound (deployed_world costs W stage) (λ v. IsOf v g.returns) NoThrow (cost_under costs g.bound) (call_from W F fn vs s)
unfolding call_from
called_sound costs W stage A G p at g fn served F home contract sender caller height vs i s n =
    (each_depth (deployed_world costs W stage) (is_world costs W stage A) most_depth).1.each G g fn (subst (λ q. IsServed (deployed_world costs W stage) q g fn) (sym at) served) F
    (record { home = home ∙ sym at; contract = contract; sender = sender; caller = caller; height = height })
    [] (subst (λ (g : Signature). g.height ≤ most_depth) served.signature (is_return fn.access served.found served.sound).low) vs i s n

answers_by : (access : Access) (t : PlainType) → may_answer access t ≡ true → Answers access t
answers_by Public t h = h
answers_by ReadOnly t h = tt
answers_by Private t h = tt

-- a public function has the type of a response
answers_of : (K : World) (p : Principal) (g : Signature) (fn : Function) → IsServed K p g fn → Answers g.access g.returns
answers_of K p g fn served = subst (λ (g : Signature). Answers g.access g.returns) served.signature (answers_by fn.access _ (is_return fn.access served.found served.sound).answers)

pub function_is_sound : (W : Deployed) (ks : List Known) → AreContracts W ks → (table : CostTable) → (p : Principal) (k : Known) → known_at p ks ≡ Some k → (x : List ℕ) (g : Signature) → signature_in x k.functions ≡ Some g → IsSoundFunction table W p x g
function_is_sound W ks contracts table p k at x g told =
    let a = known_there W Whole ks (are_known W ks contracts.texts) p k at in
    let T = stands_in W Whole a.defined.context (whole_context W Whole p k a) in
    let f = as_served table W Whole a.contract x g (T.functions x g (ap (λ (k : Known). signature_in x k.functions) a.is ∙ told)) in
    record {
      function = f.0;
      there = ap (λ q. function_of x (contract_at q W)) (sym a.at) ∙ ap (function_of x) a.there ∙ f.1;
      access = ap (λ (g : Signature). g.access) f.2.signature;
      params = ap (λ (g : Signature). g.params) f.2.signature;
      answers = answers_of (deployed_world table W Whole) a.contract.principal g f.0 f.2;
      sound = λ F home sender caller height vs i s n.
          called_sound table W Whole contracts.distinct a.defined.context a.contract.principal T.home g f.0 f.2 F (home ∙ sym a.at) (subst IsPrincipal (a.at ∙ sym home) a.accepted.valid) sender caller height vs i s n;
    }

pub expression_is_sound : (costs : CostTable) (W : Deployed) (stage : Stage) → AreDistinct W → (G : Context) → IsContext W stage G → (F : Frame) → IsFrame G F → (B : Names) (E : BoundValues) → AreBound B E → (e : Tree) (f : Found) → Typed G B e f → Fits e → (depth : ℕ) → f.height ≤ depth → (s : State) → Kept W stage s → IsAsFound (deployed_world costs W stage) f (means depth (scope (deployed_world costs W stage) F E) e s)
expression_is_sound costs W stage A G good F framed B E are e f t fit depth low s n =
    (each_depth (deployed_world costs W stage) (is_world costs W stage A) depth).0.each G good F framed B E are e f (is_fitted G t fit) low s n

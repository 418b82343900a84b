-- What a call comes to.
use Rattle.std.proofs.Common.{◌≡◌, ℕ, true, List, length, Some, None, refl, sym, ap, ◌∙◌, arith}
use Rattle.std.specs.Prelude.{nat_eq}
use Rattle.std.proofs.lemmas.Bool.Decides.{nat_tests}
use Rattle.cl_types.specs.declared.sized.Access.{Access}
use Rattle.cl_types.specs.declared.sized.Access.TheVariants.{Public, ReadOnly, Private}
use Rattle.cl_c32.specs.declared.principal.Principal.{Principal}
use Rattle.cl_shapes.specs.declared.cost.Dimension.{Dimension}
use Rattle.cl_values.specs.Tree.{Tree}
use Rattle.cl_meaning.specs.Deployed.{Contract, Function, contract_at, function_in}
use Rattle.cl_meaning.specs.Limits.{Costs, limited}
use Rattle.cl_meaning.specs.Scope.{Frame}
use Rattle.cl_meaning.specs.Top.{call_from}
use Rattle.cl_file.specs.declared.entry.Common.{Common}
use Rattle.cl_tx.specs.Rebounds.{first_over}
use Rattle.cl_tx.specs.declared.outcome.EntryRefusal.TheVariants.{NoContract, NoFunction, NoBound}
use Rattle.cl_tx.specs.Nodes.{NodeSeen, Stepped, frame_of, purse_of, refused, call_ended}
use Rattle.cl_tx.specs.Step.{first_misfit, run_call, if_bounded, if_fitting, if_as_many, if_open, if_function, if_deployed, call_step}
use Rattle.cl_nodes.specs.Calling.{Comes, MayBeCalled}

-- ---- applications

module _ (costs : Costs) (node : NodeSeen) (common : Common) (contract : Principal) (f : Function) (args : List Tree) where
  opened : (access : Access) → (access ≡ Private → ⊥) → if_open costs node common contract f args access ≡ if_as_many costs node common contract f args (nat_eq (length args) (length f.params))
  opened Public h = refl
  opened ReadOnly h = refl
  opened Private h = absurd (h refl)

  same_count : length args ≡ length f.params → nat_eq (length args) (length f.params) ≡ true
  same_count e = grind (arith, nat_tests)

  fitted : (f.access ≡ Private → ⊥) → length args ≡ length f.params → if_open costs node common contract f args f.access ≡ if_fitting costs node common contract f args (first_misfit 0 f.params args)
  fitted outside e = opened f.access outside ∙ ap (if_as_many costs node common contract f args) (same_count e)

  may_run : MayBeCalled f args → if_open costs node common contract f args f.access ≡ if_bounded costs node common contract f args (first_over costs node.known contract f.name)
  may_run m = fitted m.not_private m.as_many ∙ ap (if_fitting costs node common contract f args) m.fitting

-- ---- steps

module _ (costs : Costs) (node : NodeSeen) (common : Common) (contract : Principal) (function : List ℕ) (args : List Tree) where
  pub no_contract : contract_at contract node.contracts ≡ None → call_step costs node common contract function args ≡ Some (refused node NoContract)
  unfolding call_step
  no_contract h = ap (if_deployed costs node common contract function args) h

  in_contract : (c : Contract) → contract_at contract node.contracts ≡ Some c → call_step costs node common contract function args ≡ if_function costs node common contract args (function_in function c.forms)
  unfolding call_step
  in_contract c h = ap (if_deployed costs node common contract function args) h

  pub no_function : (c : Contract) → contract_at contract node.contracts ≡ Some c → function_in function c.forms ≡ None → call_step costs node common contract function args ≡ Some (refused node NoFunction)
  no_function c there h = in_contract c there ∙ ap (if_function costs node common contract args) h

  pub in_function : (c : Contract) (f : Function) → contract_at contract node.contracts ≡ Some c → function_in function c.forms ≡ Some f → call_step costs node common contract function args ≡ if_open costs node common contract f args f.access
  in_function c f there h = in_contract c there ∙ ap (if_function costs node common contract args) h

  -- a function whose bound is above the limit
  pub no_bound : (c : Contract) (f : Function) (dimension : Dimension) → contract_at contract node.contracts ≡ Some c → function_in function c.forms ≡ Some f → MayBeCalled f args → first_over costs node.known contract f.name ≡ Some dimension →
      call_step costs node common contract function args ≡ Some (refused node (NoBound dimension))
  no_bound c f dimension there h may over = in_function c f there h ∙ may_run costs node common contract f args may ∙ ap (if_bounded costs node common contract f args) over

  pub ended_so : (c : Contract) (f : Function) (F : Frame) → contract_at contract node.contracts ≡ Some c → function_in function c.forms ≡ Some f → MayBeCalled f args → first_over costs node.known contract f.name ≡ None → F ≡ frame_of node common.sender contract →
      call_step costs node common contract function args ≡ call_ended common f.access node (limited costs (purse_of common) (call_from node.contracts F f args node.state))
  unfolding run_call
  ended_so c f F there h may within is =
      in_function c f there h ∙ may_run costs node common contract f args may ∙ ap (if_bounded costs node common contract f args) within
      ∙ ap (λ (G : Frame). call_ended common f.access node (limited costs (purse_of common) (call_from node.contracts G f args node.state))) (sym is)

  -- a call that steps comes to something
  pub comes_so : (c : Contract) (f : Function) (F : Frame) → contract_at contract node.contracts ≡ Some c → function_in function c.forms ≡ Some f → MayBeCalled f args → first_over costs node.known contract f.name ≡ None → F ≡ frame_of node common.sender contract →
      (s : Stepped) × (call_step costs node common contract function args ≡ Some s) → Comes common f.access (limited costs (purse_of common) (call_from node.contracts F f args node.state))
  comes_so c f F there h may within is step = record { node = node; stepped = step.0; ended = sym (ended_so c f F there h may within is) ∙ step.1 }

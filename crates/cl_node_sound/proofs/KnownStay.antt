-- A call leaves what callers know, and the height.
use Rattle.std.proofs.Common.{◌≡◌, ℕ, Bool, true, false, List, nat_eq, length, Option, Some, None, refl, sym, ap, ◌∙◌}
use Rattle.cl_types.specs.declared.sized.Access.{Access}
use Rattle.cl_types.specs.declared.sized.Access.TheVariants.{Public, ReadOnly, Private}
use Rattle.cl_c32.specs.declared.principal.Principal.{Principal}
use Rattle.cl_shapes.specs.declared.cost.Cost5.{Cost5}
use Rattle.cl_shapes.specs.declared.cost.Dimension.{Dimension}
use Rattle.cl_values.specs.Tree.{Tree, ResponseV}
use Rattle.cl_events.specs.State.{State}
use Rattle.cl_meaning.specs.Deployed.{Contract, Function, contract_at, function_in}
use Rattle.cl_meaning.specs.Limits.{Costs, Limited, Gave, Threw, AbortedBy, Passed, Lost}
use Rattle.cl_file.specs.declared.entry.Common.{Common}
use Rattle.cl_post.specs.Post.{holds}
use Rattle.cl_tx.specs.declared.outcome.Outcome.{Outcome}
use Rattle.cl_tx.specs.declared.outcome.Outcome.TheVariants.{Good, Plain}
use Rattle.cl_tx.specs.Nodes.{NodeSeen, Stepped, nothing_told, settled_by, settled, answered, call_ended}
use Rattle.cl_tx.specs.Rebounds.{first_over}
use Rattle.cl_tx.specs.Step.{first_misfit, run_call, if_bounded, if_fitting, if_as_many, if_open, if_function, if_deployed, call_step}

pub one_step : (s t : Stepped) → Some s ≡ Some t → s ≡ t
one_step s t e = cc

module _ (node : NodeSeen) where
  -- callers know the same after what comes of it, and the height is the same
  abbrev Keeps : Option Stepped → Type 0
  Keeps o = (s : Stepped) → o ≡ Some s → (s.node.known ≡ node.known) × (s.node.height ≡ node.height)

  same : (t : Stepped) → t.node.known ≡ node.known → t.node.height ≡ node.height → Keeps (Some t)
  same t k h s e = (sym (ap (λ (z : Stepped). z.node.known) (one_step t s e)) ∙ k, sym (ap (λ (z : Stepped). z.node.height) (one_step t s e)) ∙ h)

  nothing : Keeps None
  nothing s e = absurd cc

  -- whether its conditions hold or not
  settles : (failing : Option ℕ) (outcome : Outcome) (cost : Cost5) (s : State) → Keeps (Some (settled_by failing node node nothing_told outcome cost s))
  settles None outcome cost s = same _ refl refl
  settles (Some index) outcome cost s = same _ refl refl

  settled_keeps : (common : Common) (outcome : Outcome) (cost : Cost5) (s : State) → Keeps (Some (settled common node node nothing_told outcome cost s))
  settled_keeps common outcome cost s = settles (holds s.moves common.mode common.conditions) outcome cost s

  answer : (common : Common) (access : Access) (v : Tree) (cost : Cost5) (s : State) → Keeps (answered common access v node cost s)
  answer common Public (ResponseV true v) cost s = settled_keeps common (Good v) cost s
  answer common Public (ResponseV false v) cost s = same _ refl refl
  answer common Public v cost s = nothing
  answer common ReadOnly v cost s = settled_keeps common (Plain v) cost s
  answer common Private v cost s = settled_keeps common (Plain v) cost s

  ended : (common : Common) (access : Access) (l : Limited Tree) → Keeps (call_ended common access node l)
  ended common access (Gave v s purse) = answer common access v purse.spent s
  ended common access (Threw v s purse) = nothing
  ended common access (AbortedBy why purse) = same _ refl refl
  ended common access (Passed over purse) = same _ refl refl
  ended common access (Lost purse) = nothing

  module _ (costs : Costs) (common : Common) (contract : Principal) (args : List Tree) where
    run : (f : Function) → Keeps (run_call costs node common contract f args)
    unfolding run_call
    run f = ended common f.access _

    bounded : (f : Function) (over : Option Dimension) → Keeps (if_bounded costs node common contract f args over)
    bounded f (Some dimension) = same _ refl refl
    bounded f None = run f

    fitting : (f : Function) (misfit : Option ℕ) → Keeps (if_fitting costs node common contract f args misfit)
    fitting f (Some index) = same _ refl refl
    fitting f None = bounded f (first_over costs node.known contract f.name)

    as_many : (f : Function) (many : Bool) → Keeps (if_as_many costs node common contract f args many)
    as_many f false = same _ refl refl
    as_many f true = fitting f (first_misfit 0 f.params args)

    opened : (f : Function) (access : Access) → Keeps (if_open costs node common contract f args access)
    opened f Private = same _ refl refl
    opened f Public = as_many f (nat_eq (length args) (length f.params))
    opened f ReadOnly = as_many f (nat_eq (length args) (length f.params))

    called : (f : Option Function) → Keeps (if_function costs node common contract args f)
    called None = same _ refl refl
    called (Some f) = opened f f.access

    found : (function : List ℕ) (c : Option Contract) → Keeps (if_deployed costs node common contract function args c)
    found function None = same _ refl refl
    found function (Some c) = called (function_in function c.forms)

    pub call_keeps : (function : List ℕ) → Keeps (call_step costs node common contract function args)
    unfolding call_step
    call_keeps function = found function (contract_at contract node.contracts)

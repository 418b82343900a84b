-- Calls of functions that are found are calls by name.
use Rattle.std.proofs.Common.{◌≡◌, ℕ, List, Option, Some, None, Result, ap, sym, subst, ◌∙◌}
use Rattle.std.specs.Prelude.{option_and_then}
use Rattle.cl_shapes.specs.Limits.{Purse}
use Rattle.cl_values.specs.Tree.{Tree as Val}
use Rattle.cl_values.specs.Typed.{AreOf}
use Rattle.cl_events.specs.State.{State}
use Rattle.cl_contracts.specs.Seen.{deployed_seen, function_seen}
use Rattle.cl_meaning.specs.Answers.{Answer, with_known}
use Rattle.cl_forms.specs.Forms.{Form, FormKind, ConstantForm, VariableForm, MapForm, FungibleForm, NonFungibleForm, FunctionForm, ExpressionForm}
use Rattle.cl_meaning.specs.Deployed.{Function, as_function, contract_at, form_of, function_in, function_of}
use Rattle.cl_meaning.specs.Limits.{Costs, Limited, limited}
use Rattle.cl_meaning.specs.Top.{call_from}
use Rattle.cl_frames.specs.declared.stop.Stop.{Stop}
use Rattle.cl_frames.specs.Homes.{frame_seen}
use Rattle.cl_frames.specs.Runs.{Ends}
use Rattle.cl_frames.specs.Sound.{IsFittingCall}
use Rattle.cl_runs.specs.declared.call.Called.{Called}
use Rattle.cl_runs.specs.Called.{IsCalled, types_of}

module _ (c : Called) (called : IsCalled c) where
  -- the function is found by its name
  pub found : function_of c.function.now.name (contract_at c.frame.now.contract (deployed_seen c.deployed.now)) ≡ Some (function_seen c.function.now)
  found = ap (function_of c.function.now.name) called.there ∙ called.function

  pub fits : (vs : List Val) → AreOf vs (types_of c) → IsFittingCall (deployed_seen c.deployed.now) c.frame.now.contract c.function.now.name vs
  fits vs fitting = record { function = function_seen c.function.now; there = found; fitting = fitting }

  module _ (costs : Costs) (p : Purse) (vs : List Val) (s : State) where
    abbrev pub by_name : Limited Val
    by_name = limited costs p (with_known (function_of c.function.now.name (contract_at c.frame.now.contract (deployed_seen c.deployed.now))) (λ f. call_from (deployed_seen c.deployed.now) (frame_seen c.frame.now) f vs) s)

    pub same : by_name ≡ limited costs p (call_from (deployed_seen c.deployed.now) (frame_seen c.frame.now) (function_seen c.function.now) vs s)
    same = ap (λ o. limited costs p (with_known o (λ f. call_from (deployed_seen c.deployed.now) (frame_seen c.frame.now) f vs) s)) found

    -- what it shows of the function it shows of the name
    pub named : (r : Result Val Stop) (q : Purse) (t : State) → Ends (limited costs p (call_from (deployed_seen c.deployed.now) (frame_seen c.frame.now) (function_seen c.function.now) vs s)) r q t → Ends by_name r q t
    named r q t ends = subst (λ (l : Limited Val). Ends l r q t) (sym same) ends

-- a function that is found has the name by which it was looked for
pub named_so : (x : List ℕ) (forms : List Form) (f : Function) → function_in x forms ≡ Some f → f.name ≡ x
named_so x forms f = by (form_of x forms)
  where
    one : (a b : Function) → Some a ≡ Some b → a ≡ b
    one a b e = cc

    by : (o : Option FormKind) → option_and_then (as_function x) o ≡ Some f → f.name ≡ x
    by None h = absurd cc
    by (Some (FunctionForm access params body)) h = sym (ap (λ (g : Function). g.name) (one (record { name = x; access = access; params = params; body = body }) f h))
    by (Some (ConstantForm e)) h = absurd cc
    by (Some (VariableForm t e)) h = absurd cc
    by (Some (MapForm k v)) h = absurd cc
    by (Some (FungibleForm s)) h = absurd cc
    by (Some (NonFungibleForm t)) h = absurd cc
    by (Some (ExpressionForm e)) h = absurd cc

-- where no function is found none is there
pub no_function : (o : Option Function) (f : Function) → o ≡ None → o ≡ Some f → ⊥
no_function o f none e = absent (sym none ∙ e)
  where
    absent : None ≡ Some f → ⊥
    absent k = cc

-- one function is found
pub one_function : (f g : Function) → Some f ≡ Some g → f ≡ g
one_function f g e = cc

-- what is found means what is looked for
pub by_function : {A : Type 0} (o : Option Function) (f : Function) (go_on : Function → State → Answer A) (s : State) → o ≡ Some f → with_known o go_on s ≡ go_on f s
by_function o f go_on s e = ap (λ k. with_known k go_on s) e

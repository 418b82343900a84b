-- Calls of functions of other contracts.
use Rattle.std.proofs.Common.{◌≡◌, ℕ, suc, ◌≤◌, Bool, true, false, List, [], ◌∷◌, Option, Some, None, refl, sym, ap, subst, ◌∙◌, arith}
use Rattle.std.specs.Prelude.{◌||◌, if◌then◌else◌, option_and_then}
use Rattle.cl_c32.specs.declared.principal.Principal.{Principal}
use Rattle.cl_shapes.specs.declared.name.CostName.TheVariants.{ContractCall as ContractCallCost}
use Rattle.cl_shapes.specs.Costs.{plus}
use Rattle.cl_sexpr.specs.declared.sexpr.Span.{Span}
use Rattle.cl_sexpr.specs.Tree.{Tree, LeafAt, Leaf, Named, Standing, Local}
use Rattle.cl_forms.specs.declared.head.Head.TheVariants.{ContractCall}
use Rattle.cl_forms.specs.Shapes.{beside}
use Rattle.cl_events.specs.State.{State, is_principal}
use Rattle.cl_meaning.specs.Deployed.{Contract, contract_at}
use Rattle.cl_meaning.specs.Scope.{called}
use Rattle.cl_meaning.specs.Calls.{target_of, other_contract, enter_there, contract_call_form}
use Rattle.cl_rules.specs.Faults.{type_rules, sound_shape}
use Rattle.cl_rules.specs.NativeTypes.{Ruled}
use Rattle.cl_rules.specs.Bills.{Charge, Both, cost_under}
use Rattle.cl_rules.specs.Context.{Signature, Known, signature_in, if_callable, target_at}
use Rattle.cl_rules.specs.Verdicts.{Found, types_of, highest, sum_of}
use Rattle.cl_rules.specs.Shapes.{Shape, parts as all_parts, First, There, NoName, NoSuch, Absent, there_or_not, first_named, is_no_name, is_no_such, is_miscounted, at_first}
use Rattle.cl_rules.specs.CallShapes.{call_row, call_verdict, contract_literal, target_or_not, function_of, is_unlike_function, length_at, contract_call_shape}
use Rattle.cl_rules.specs.Table.{head_shape}
use Rattle.cl_expression_sound.specs.Fitted.{Follows}
use Rattle.cl_expression_sound.specs.Sound.{World, IsSound, IsAsFound, IsFrame, IsKept}
use Rattle.cl_expression_sound.proofs.Logic.{sound_less, sound_charged, sound_known}
use Rattle.cl_expression_sound.proofs.Rules.{fine_shape}
use Rattle.cl_expression_sound.proofs.Thrown.{MayThrow, ruling_fine}
use Rattle.cl_expression_sound.proofs.Calls.{params_fit}
use Rattle.cl_expression_sound.proofs.Strict.{strict_sound}
use Rattle.cl_expression_sound.proofs.Stands.{Stands, here, IsSoundShape}
use Rattle.cl_values.specs.Typed.{IsOf}
use Rattle.cl_forms.specs.Heads.{row_of}

if_other : (b : Bool) (o : Option Contract) (c : Contract) → b ≡ false → o ≡ Some c → (if b then None else o) ≡ Some c
if_other true o c h k = absurd cc
if_other false o c h k = k

-- the shape at a target and at what stands behind it
abbrev pub shape_at : First Known → First Signature → List Tree → List Tree → (List Tree → Shape) → Shape
shape_at target function es rest plan = record {
  faults = record sound_shape {
    argument_count = is_miscounted (row_of ContractCall) es || is_unlike_function function rest;
    no_such_contract = is_no_such target;
    no_such_function = is_no_such function;
    literal_expected = is_no_name target;
    bad_binding = is_no_name function;
  };
  plan = (plan rest).plan;
  verdict = at_first function (λ f. call_verdict f (Both (Charge ContractCallCost (length_at target)) f.bound));
}

module _ (K : World) (N : Stands K) where
  across_each : (c : Tree) (p : Principal) → target_of (here K N) c ≡ Some p → (x : List ℕ) (at : Span) (es : List Tree) (k : Known) → target_at N.context p ≡ Some k → (g : Signature) → if_callable (signature_in x k.functions) ≡ Some g →
      (fs : List Found) → Follows N.context (all_parts N.names es) fs → type_rules (call_verdict g (Both (Charge ContractCallCost k.length) g.bound) fs).faults ≡ [] → (call_verdict g (Both (Charge ContractCallCost k.length) g.bound) fs).found.height ≤ suc N.depth →
      (s : State) → IsKept K s → IsAsFound K (call_verdict g (Both (Charge ContractCallCost k.length) g.bound) fs).found (contract_call_form N.take N.enter (here K N) (c ∷ LeafAt (Named x) at ∷ es) s)
  unfolding contract_call_form
  across_each c p is x at es k told g callable_told fs follows types low s n =
      let a = N.world.across N.context N.good p k told x g callable_told in
      let r : Ruled = call_row g (types_of fs) in
      let own = Both (Charge ContractCallCost k.length) g.bound in
      let low_g : g.height ≤ N.depth = omega (arith, low) in
      let low_fs : highest fs ≤ N.depth = omega (arith, low) in
      let there : option_and_then (other_contract (here K N)) (target_of (here K N) c) ≡ Some a.contract =
      ap (λ o. option_and_then (other_contract (here K N)) o) is
      ∙ if_other (is_principal p N.frame.contract) (contract_at p K.deployed) a.contract (subst (λ q. is_principal p q ≡ false) (sym N.framed.home) a.another) a.there in
      let framed : IsFrame a.inner (called a.contract.principal N.frame) =
      record { home = sym a.home; contract = a.valid; sender = N.framed.sender; caller = N.framed.contract; height = N.framed.height } in
      strict_sound K N es fs r g.height own _ follows types low_fs
      (λ vs u i m.
      let fit = params_fit g (types_of fs) vs (ruling_fine r g.height (Both own (sum_of fs)) fs types) i in
      sound_known K (cost_under K.costs own) _ a.contract _ u there
      (subst (λ l. IsSound K (λ v. IsOf v r.type) (MayThrow fs r.throws) (plus (cost_under K.costs (Charge ContractCallCost l)) (cost_under K.costs g.bound)) (enter_there N.enter (here K N) x vs a.contract u)) a.length
      (sound_charged K ContractCallCost a.contract.source_length (cost_under K.costs g.bound) _
      (sound_known K (cost_under K.costs g.bound) _ a.function _ u a.callable_there
      (sound_less K (cost_under K.costs g.bound) _ (λ v h. h) (λ v h. absurd h) (N.enters.each a.inner g a.function a.served (called a.contract.principal N.frame) framed N.bound low_g vs fit u m)))))) s n

  function_case : (c : Tree) (p : Principal) → target_of (here K N) c ≡ Some p → (x : List ℕ) (at : Span) (es : List Tree) (k : Known) → target_at N.context p ≡ Some k → (o : Option Signature) → if_callable (signature_in x k.functions) ≡ o →
      IsSoundShape K N (shape_at (There k) (there_or_not o) (c ∷ LeafAt (Named x) at ∷ es) es (λ es. record { faults = sound_shape; plan = all_parts N.names es; verdict = at_first {A = Signature} Absent (λ g. call_verdict g g.bound) })) (contract_call_form N.take N.enter (here K N) (c ∷ LeafAt (Named x) at ∷ es))
  function_case c p is x at es k told (Some g) callable_told = record { each = λ fs shape follows types low s n. across_each c p is x at es k told g callable_told fs follows types low s n }
  function_case c p is x at es k told None callable_told = record {
    each = λ fs shape follows types low s n.
        let h = (fine_shape (shape_at (There k) NoSuch (c ∷ LeafAt (Named x) at ∷ es) es (λ es. record { faults = sound_shape; plan = all_parts N.names es; verdict = at_first {A = Signature} Absent (λ g. call_verdict g g.bound) })).faults shape).no_such_function in absurd cc;
  }

  name_case : (c : Tree) (p : Principal) → target_of (here K N) c ≡ Some p → (d : Tree) (es : List Tree) (k : Known) → target_at N.context p ≡ Some k →
      IsSoundShape K N (shape_at (There k) (first_named (λ x. if_callable (signature_in x k.functions)) (d ∷ es)) (c ∷ d ∷ es) es (λ es. record { faults = sound_shape; plan = all_parts N.names es; verdict = at_first {A = Signature} Absent (λ g. call_verdict g g.bound) })) (contract_call_form N.take N.enter (here K N) (c ∷ d ∷ es))
  name_case c p is (LeafAt (Named x) at) es k told = function_case c p is x at es k told (if_callable (signature_in x k.functions)) refl
  name_case c p is d es k told = record {
    each = λ fs shape follows types low s n.
        let h = (fine_shape (shape_at (There k) NoName (c ∷ d ∷ es) es (λ es. record { faults = sound_shape; plan = all_parts N.names es; verdict = at_first {A = Signature} Absent (λ g. call_verdict g g.bound) })).faults shape).bad_binding in absurd cc;
  }

  target_case : (c : Tree) (p : Principal) → target_of (here K N) c ≡ Some p → (d : Tree) (es : List Tree) (o : Option Known) → target_at N.context p ≡ o →
      IsSoundShape K N (shape_at (there_or_not o) (function_of (there_or_not o) (c ∷ d ∷ es)) (c ∷ d ∷ es) es (λ es. record { faults = sound_shape; plan = all_parts N.names es; verdict = at_first {A = Signature} Absent (λ g. call_verdict g g.bound) })) (contract_call_form N.take N.enter (here K N) (c ∷ d ∷ es))
  target_case c p is d es (Some k) told = name_case c p is d es k told
  target_case c p is d es None told = record {
    each = λ fs shape follows types low s n.
        let h = (fine_shape (shape_at NoSuch (function_of NoSuch (c ∷ d ∷ es)) (c ∷ d ∷ es) es (λ es. record { faults = sound_shape; plan = all_parts N.names es; verdict = at_first {A = Signature} Absent (λ g. call_verdict g g.bound) })).faults shape).no_such_contract in absurd cc;
  }

  literal_case : (leaf : Leaf) (at : Span) (d : Tree) (es : List Tree) (o : Option Principal) → contract_literal N.context.principal leaf ≡ o → ((p : Principal) → o ≡ Some p → target_of (here K N) (LeafAt leaf at) ≡ Some p) →
      IsSoundShape K N (shape_at (target_or_not N.context o) (function_of (target_or_not N.context o) (LeafAt leaf at ∷ d ∷ es)) (LeafAt leaf at ∷ d ∷ es) es (λ es. record { faults = sound_shape; plan = all_parts N.names es; verdict = at_first {A = Signature} Absent (λ g. call_verdict g g.bound) })) (contract_call_form N.take N.enter (here K N) (LeafAt leaf at ∷ d ∷ es))
  literal_case leaf at d es (Some p) is k = target_case (LeafAt leaf at) p (k p refl) d es (target_at N.context p) refl
  literal_case leaf at d es None is k = record {
    each = λ fs shape follows types low s n.
        let h = (fine_shape (shape_at NoName (function_of NoName (LeafAt leaf at ∷ d ∷ es)) (LeafAt leaf at ∷ d ∷ es) es (λ es. record { faults = sound_shape; plan = all_parts N.names es; verdict = at_first {A = Signature} Absent (λ g. call_verdict g g.bound) })).faults shape).literal_expected in absurd cc;
  }

  -- a literal is the same principal in both
  literal_is : (leaf : Leaf) (at : Span) (p : Principal) → contract_literal N.context.principal leaf ≡ Some p → target_of (here K N) (LeafAt leaf at) ≡ Some p
  literal_is (Standing q) at p h = by q.contract h
    where
      by : (o : Option (List ℕ)) → elim o [ None ↦ None | Some name ↦ Some q ] ≡ Some p → Some q ≡ Some p
      by (Some name) h = h
      by None h = absurd cc
  literal_is (Local name) at p h = ap (λ q. Some (beside q name)) N.framed.home ∙ h
  literal_is leaf at p h = absurd cc

  pub contract_call_sound : (es : List Tree) → IsSoundShape K N (head_shape ContractCall (row_of ContractCall) N.context N.names es) (contract_call_form N.take N.enter (here K N) es)
  unfolding head_shape
  contract_call_sound [] = record {
    each = λ fs shape follows types low s n. let h = (fine_shape (contract_call_shape (row_of ContractCall) N.context N.names []).faults shape).argument_count in absurd cc;
  }
  contract_call_sound (c ∷ []) = record {
    each = λ fs shape follows types low s n. let h = (fine_shape (contract_call_shape (row_of ContractCall) N.context N.names (c ∷ [])).faults shape).argument_count in absurd cc;
  }
  contract_call_sound (LeafAt leaf at ∷ d ∷ es) = literal_case leaf at d es (contract_literal N.context.principal leaf) refl (literal_is leaf at)
  contract_call_sound (c ∷ d ∷ es) = record {
    each = λ fs shape follows types low s n. let h = (fine_shape (contract_call_shape (row_of ContractCall) N.context N.names (c ∷ d ∷ es)).faults shape).literal_expected in absurd cc;
  }

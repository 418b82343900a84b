-- Calls of functions, of the contract and of others, and their applications.
use Rattle.std.proofs.Common.{◌≡◌, inl, inr, ℕ, suc, ◌≤◌, true, false, List, [], ◌∷◌, ◌++◌, map, length, Option, Some, None, Result, Ok, Err, refl, sym, subst, ◌∙◌, arith, append_assoc, append-nil}
use Rattle.std.proofs.lemmas.List.{length-map}
use Rattle.std.specs.Prelude.{unwrap_or}
use Rattle.std.proofs.lemmas.Bool.{ltb-false}
use Rattle.cl_types.specs.Types.{PlainType, NoType, ResponseType, size_of as type_size}
use Rattle.cl_types.specs.Lattice.{least_supertype}
use Rattle.cl_types.specs.declared.sized.Access.{Access}
use Rattle.cl_types.specs.declared.sized.Access.TheVariants.{Public, ReadOnly, Private}
use Rattle.cl_types.specs.declared.sized.TyRefusal.{TyRefusal}
use Rattle.cl_types.specs.declared.sized.TyRefusal.TheVariants.{Differ, TooLarge, TooDeep, EmptyTuple, KeyTwice}
use Rattle.cl_shapes.specs.declared.cost.Cost5.{Cost5}
use Rattle.cl_shapes.specs.declared.name.CostName.TheVariants.{Call, Bind}
use Rattle.cl_shapes.specs.Costs.{plus, zero_cost, IsAtMost}
use Rattle.cl_sexpr.specs.Tree.{Tree}
use Rattle.cl_values.specs.Tree.{Tree as Val, ResponseV}
use Rattle.cl_values.specs.Wire.{size_of}
use Rattle.cl_forms.specs.Heads.{native}
use Rattle.cl_events.specs.State.{State}
use Rattle.cl_meaning.specs.Answers.{Answer, Given, charged}
use Rattle.cl_meaning.specs.Deployed.{Function, contract_at, native_of, function_of}
use Rattle.cl_meaning.specs.Scope.{Frame, BoundValues as Values, Take}
use Rattle.cl_meaning.specs.Calls.{call_form, closing, bound_to, body_in, function_form}
use Rattle.cl_rules.specs.Faults.{type_rules, form_rules}
use Rattle.cl_rules.specs.NativeTypes.{Ruled}
use Rattle.cl_rules.specs.Bills.{Charge, Both, cost_under}
use Rattle.cl_rules.specs.Context.{Names, Context, Signature, signature_in}
use Rattle.cl_rules.specs.Verdicts.{Found, types_of, highest, sum_of, thrown_after, and_throws}
use Rattle.cl_rules.specs.Shapes.{parts as all_parts, Admitted}
use Rattle.cl_rules.specs.ControlShapes.{binds}
use Rattle.cl_rules.specs.CallShapes.{param_types, all_admit, call_row, call_verdict, call_shape}
use Rattle.cl_rules.specs.FormRules.{most_height, return_of, may_answer, answer_faults, function_faults, application}
use Rattle.cl_expression_sound.specs.Fitted.{Fitted, Follows}
use Rattle.cl_expression_sound.specs.Sound.{World, IsSound, IsThrown, IsAsFound, AreBound, IsFrame, IsServed, IsServedThere, TakesSound, NoThrow, scope, types_of_params, IsKept, IsGood}
use Rattle.cl_expression_sound.proofs.Costs.{more_of_both, same_cost, less_charged, grouped, at_most}
use Rattle.cl_expression_sound.proofs.Logic.{sound_more, sound_less, sound_stop, sound_charged, sound_last, sound_known, sound_returning}
use Rattle.cl_expression_sound.proofs.Rules.{AreFineTypes, fine_form, not_false}
use Rattle.cl_expression_sound.proofs.Thrown.{ruling_fine, covered, IsFineThrown}
use Rattle.cl_expression_sound.proofs.Values.{IsResponse, is_ok, is_err, response_of}
use Rattle.cl_expression_sound.proofs.Wanted.{AreWantedValues, wanted_values}
use Rattle.cl_expression_sound.proofs.Strict.{strict_sound}
use Rattle.cl_expression_sound.proofs.Stands.{Stands, here, IsSoundShape, bound_more}
use Rattle.cl_values.specs.Typed.{IsOf, AreOf}
use Rattle.cl_values.proofs.OfTypes.{no_larger}
use Rattle.cl_native_sound.proofs.Charges.{as_many}

-- ---- values of parameters

admitted_values : (ps : List PlainType) (vs : List Val) → AreWantedValues (map Admitted ps) vs → AreOf vs ps
admitted_values [] [] i = tt
admitted_values [] (v ∷ vs) i = absurd i
admitted_values (p ∷ ps) [] i = absurd i
admitted_values (p ∷ ps) (v ∷ vs) i = (i.0, admitted_values ps vs i.1)

pub params_fit : (g : Signature) (ts : List PlainType) (vs : List Val) → AreFineTypes (call_row g ts).faults → AreOf vs ts → AreOf vs (types_of_params g)
params_fit g ts vs h i = admitted_values (param_types g) vs (wanted_values (map Admitted (param_types g)) ts vs (not_false (all_admit (param_types g) ts) h.argument_kind) i)

module _ (K : World) (N : Stands K) where
  -- a native of the version of the contract's text
  pub native_there : (x : List ℕ) → native_of x (contract_at N.frame.contract K.deployed) ≡ native N.context.version x
  native_there x = subst (λ p. native_of x (contract_at p K.deployed) ≡ native N.context.version x) (sym N.framed.home) (N.world.natives N.context N.good x)

  -- ---- calls

  pub function_there : (x : List ℕ) (g : Signature) → signature_in x N.context.functions ≡ Some g → (f : IsServedThere K N.context.principal x g) × (function_of x (contract_at N.frame.contract K.deployed) ≡ Some f.function)
  function_there x g h =
      let f = N.world.functions N.context N.good x g h in
      (f, subst (λ p. function_of x (contract_at p K.deployed) ≡ Some f.function) (sym N.framed.home) f.there)

  call_each : (x : List ℕ) (g : Signature) → signature_in x N.context.functions ≡ Some g → (es : List Tree) (fs : List Found) → Follows N.context (all_parts N.names es) fs → type_rules (call_verdict g g.bound fs).faults ≡ [] → (call_verdict g g.bound fs).found.height ≤ suc N.depth → (s : State) → IsKept K s → IsAsFound K (call_verdict g g.bound fs).found (call_form x N.take N.enter (here K N) es s)
  unfolding call_form
  call_each x g h es fs follows types low s n =
      let r : Ruled = call_row g (types_of fs) in
      let f = function_there x g h in
      let low_g : g.height ≤ N.depth = omega (arith, low) in
      let low_fs : highest fs ≤ N.depth = omega (arith, low) in
      strict_sound K N es fs r g.height g.bound _ follows types low_fs
      (λ vs u i m.
      let fit = params_fit g (types_of fs) vs (ruling_fine r g.height (Both g.bound (sum_of fs)) fs types) i in
      sound_known K (cost_under K.costs g.bound) _ f.0.function _ u f.1
      (sound_less K (cost_under K.costs g.bound) _ (λ v k. k) (λ v k. absurd k) (N.enters.each N.context g f.0.function f.0.served N.frame N.framed N.bound low_g vs fit u m))) s n

  -- a name that is no function's breaks a rule
  pub call_sound : (x : List ℕ) (es : List Tree) → IsSoundShape K N (call_shape (signature_in x N.context.functions) N.names es) (call_form x N.take N.enter (here K N) es)
  call_sound x es = by (signature_in x N.context.functions) refl
    where
      by : (o : Option Signature) → signature_in x N.context.functions ≡ o → IsSoundShape K N (call_shape o N.names es) (call_form x N.take N.enter (here K N) es)
      by (Some g) h = record { each = λ fs shape follows types low s n. call_each x g h es fs follows types low s n }
      by None h = record { each = λ fs shape follows types low s n. absurd cc }

-- ---- return types

-- the return type is there, and a value that the body gives or throws is one of it
pub record IsReturn (access : Access) (f : Found) (g : PlainType) : Type 0 where
  pub given : (v : Val) → IsOf v f.type → IsOf v g
  pub thrown : (v : Val) → IsThrown f.thrown v → IsOf v g
  pub answers : may_answer access g ≡ true
  pub low : suc f.height ≤ most_height

made_some : (r : Result PlainType TyRefusal) → IsFineThrown (and_throws r (λ c. thrown_after (Some c) [])) → (and_throws r (λ c. thrown_after (Some c) [])).type ≡ None → ⊥
made_some (Ok c) fine e = cc
made_some (Err Differ) fine e = let h = fine.0 in absurd cc
made_some (Err TooLarge) fine e = let h = fine.1 in absurd cc
made_some (Err TooDeep) fine e = let h = fine.1 in absurd cc
made_some (Err EmptyTuple) fine e = let h = fine.1 in absurd cc
made_some (Err KeyTwice) fine e = let h = fine.1 in absurd cc

is_some_return : (t : PlainType) (o : Option PlainType) → IsFineThrown (thrown_after (Some t) (o ∷ [])) → (thrown_after (Some t) (o ∷ [])).type ≡ None → ⊥
is_some_return t None fine e = cc
is_some_return t (Some u) fine e = made_some (least_supertype t u) fine e

is_return_by : (access : Access) (f : Found) (o : Option PlainType) → (return_of f).type ≡ o → form_rules (answer_faults access (suc f.height) (return_of f) o) ≡ [] → IsFineThrown (return_of f) → IsReturn access f (unwrap_or o NoType)
is_return_by access f (Some t) e h fine =
    let rules = fine_form (answer_faults access (suc f.height) (return_of f) (Some t)) h in
    record {
      given = λ v i. subst (λ o. IsThrown o v) e (covered (Some f.type) (f.thrown ∷ []) v fine (inl i));
      thrown = λ v k. subst (λ o. IsThrown o v) e (covered (Some f.type) (f.thrown ∷ []) v fine (inr (inl k)));
      answers = not_false (may_answer access t) rules.not_response;
      low = ltb-false most_height (suc f.height) rules.too_deep_calls;
    }
is_return_by access f None e h fine = absurd (is_some_return f.type f.thrown fine e)

fine_thrown_by : (access : Access) (n : ℕ) (r : Result PlainType TyRefusal) → form_rules (answer_faults access n (and_throws r (λ c. thrown_after (Some c) [])) (and_throws r (λ c. thrown_after (Some c) [])).type) ≡ [] → IsFineThrown (and_throws r (λ c. thrown_after (Some c) []))
fine_thrown_by access n (Ok c) h = (refl, refl)
fine_thrown_by access n (Err Differ) h = absurd cc
fine_thrown_by access n (Err TooLarge) h = absurd cc
fine_thrown_by access n (Err TooDeep) h = absurd cc
fine_thrown_by access n (Err EmptyTuple) h = absurd cc
fine_thrown_by access n (Err KeyTwice) h = absurd cc

pub is_return : (access : Access) (f : Found) → form_rules (function_faults access f) ≡ [] → IsReturn access f (unwrap_or (return_of f).type NoType)
is_return access f h = is_return_by access f (return_of f).type refl h (by f.thrown h)
  where
    by : (o : Option PlainType) → form_rules (answer_faults access (suc f.height) (thrown_after (Some f.type) (o ∷ [])) (thrown_after (Some f.type) (o ∷ [])).type) ≡ [] → IsFineThrown (thrown_after (Some f.type) (o ∷ []))
    by None h = (refl, refl)
    by (Some u) h = fine_thrown_by access (suc f.height) (least_supertype f.type u) h

-- ---- applications

opened_form : (K : World) (take : Take) (F : Frame) (B : Values) (fn : Function) (vs : List Val) (s : State) (P : Val → Type 0) (c : Cost5) → IsSound K P NoThrow c (charged Call (length vs) (bound_to (body_in take (scope K F B) fn) [] fn.params vs s)) → IsSound K P NoThrow c (function_form take (scope K F B) fn vs s)
unfolding function_form
opened_form K take F B fn vs s P c h = h

module _ (K : World) (take : Take) (depth : ℕ) (T : TakesSound K take depth) where
  -- the parameters are bound, each charged by its size
  bound_sound : {P U : Val → Type 0} (body : Values → State → Answer Val) (c : Cost5) (s : State) (ps : Names) (vs : List Val) (done : Names) (bound : Values) → AreBound done bound → AreOf vs (map (λ (p : List ℕ × PlainType). p.1) ps) → ((E : Values) → AreBound (done ++ ps) E → IsSound K P U c (body E s)) → IsSound K P U (plus (cost_under K.costs (binds (map (λ (p : List ℕ × PlainType). p.1) ps))) c) (bound_to body bound ps vs s)
  unfolding bound_to
  bound_sound body c s [] [] done bound are i k = sound_more K c (plus zero_cost c) _ (before c) (k bound (subst (λ B. AreBound B bound) (sym (append-nil done)) are))
    where
      before : (c : Cost5) → IsAtMost c (plus zero_cost c)
      before c = record { runtime = omega arith; read_count = omega arith; read_length = omega arith; write_count = omega arith; write_length = omega arith }
  bound_sound body c s [] (v ∷ vs) done bound are i k = absurd i
  bound_sound body c s (p ∷ ps) [] done bound are i k = absurd i
  bound_sound body c s (p ∷ ps) (v ∷ vs) done bound are i k =
      let later : Cost5 = cost_under K.costs (binds (map (λ (p : List ℕ × PlainType). p.1) ps)) in
      let one : Cost5 = cost_under K.costs (Charge Bind (type_size p.1)) in
      let less : Cost5 = cost_under K.costs (Charge Bind (size_of v)) in
      sound_more K (plus less (plus later c)) (plus (plus one later) c) _
      (at_most (plus less (plus later c)) (plus one (plus later c)) (plus (plus one later) c) (more_of_both less one (plus later c) (plus later c) (less_charged K.costs Bind (size_of v) (type_size p.1) (no_larger v p.1 i.0)) (same_cost (plus later c))) (grouped one later c))
      (sound_charged K Bind (size_of v) (plus later c) _
      (bound_sound body c s ps vs (done ++ p ∷ []) (bound ++ (p.0, v) ∷ []) (bound_more done bound p.0 p.1 v are i.0) i.1
      (λ E are. k E (subst (λ B. AreBound B E) (append_assoc done (p ∷ []) ps) are))))

  -- a public function answers ok, or err and undoes what it changed
  closing_sound : {U : Val → Type 0} (access : Access) (t : PlainType) (before after : State) (v : Val) → may_answer access t ≡ true → IsOf v t → IsKept K before → IsKept K after → IsSound K (λ v. IsOf v t) U zero_cost (closing access before v after)
  closing_sound {U = U} ReadOnly t before after v h i n m = sound_stop K (λ v. IsOf v t) U zero_cost (Given v) after i m
  closing_sound {U = U} Private t before after v h i n m = sound_stop K (λ v. IsOf v t) U zero_cost (Given v) after i m
  closing_sound {U = U} Public (ResponseType t e) before after v h i n m = by (response_of v t e i)
    where
      by : IsResponse v t e → IsSound K (λ v. IsOf v (ResponseType t e)) U zero_cost (closing Public before v after)
      by (is_ok w is j) = subst (λ v. IsSound K (λ v. IsOf v (ResponseType t e)) U zero_cost (closing Public before v after)) (sym is) (sound_stop K (λ v. IsOf v (ResponseType t e)) U zero_cost (Given (ResponseV true w)) after (subst (λ v. IsOf v (ResponseType t e)) is i) m)
      by (is_err w is j) = subst (λ v. IsSound K (λ v. IsOf v (ResponseType t e)) U zero_cost (closing Public before v after)) (sym is) (sound_stop K (λ v. IsOf v (ResponseType t e)) U zero_cost (Given (ResponseV false w)) before (subst (λ v. IsOf v (ResponseType t e)) is i) n)
  closing_sound Public t before after v h i n m = absurd cc

  body_sound : (G : Context) (fn : Function) (f : Found) → IsGood K G → Fitted G fn.params fn.body f → form_rules (function_faults fn.access f) ≡ [] → f.height ≤ depth → (F : Frame) → IsFrame G F → (E B : Values) → AreBound fn.params E → (s : State) → IsKept K s → IsSound K (λ v. IsOf v (unwrap_or (return_of f).type NoType)) NoThrow (cost_under K.costs f.bound) (body_in take (scope K F B) fn E s)
  body_sound G fn f good fit rules low F framed E B are s n =
      let r = is_return fn.access f rules in
      let t : PlainType = unwrap_or (return_of f).type NoType in
      sound_last K (cost_under K.costs f.bound) _ _
      (sound_returning K NoThrow (cost_under K.costs f.bound) _ r.thrown
      (sound_less K (cost_under K.costs f.bound) _ r.given (λ v k. k) (T.each G good F framed fn.params E are fn.body f fit low s n)))
      (λ v u i m. closing_sound fn.access t s u v r.answers i n m)

  pub function_sound : (G : Context) (g : Signature) (fn : Function) → IsServed K G.principal g fn → (F : Frame) → IsFrame G F → (B : Values) → g.height ≤ suc depth → (vs : List Val) → AreOf vs (types_of_params g) → (s : State) → IsKept K s → IsSound K (λ v. IsOf v g.returns) NoThrow (cost_under K.costs g.bound) (function_form take (scope K F B) fn vs s)
  function_sound G g fn served F framed B low vs i s n =
      subst (λ (g : Signature). g.height ≤ suc depth → AreOf vs (types_of_params g) → IsSound K (λ v. IsOf v g.returns) NoThrow (cost_under K.costs g.bound) (function_form take (scope K F B) fn vs s)) served.signature by low i
    where
      inside : IsFrame served.inner F
      inside = record { home = framed.home ∙ sym served.home; contract = framed.contract; sender = framed.sender; caller = framed.caller; height = framed.height }

      called_sound : served.found.height ≤ depth → AreOf vs (map (λ (p : List ℕ × PlainType). p.1) fn.params) → IsSound K (λ v. IsOf v (unwrap_or (return_of served.found).type NoType)) NoThrow (cost_under K.costs (application fn.params served.found)) (charged Call (length vs) (bound_to (body_in take (scope K F B) fn) [] fn.params vs s))
      called_sound low i =
          subst (λ m. IsSound K (λ v. IsOf v (unwrap_or (return_of served.found).type NoType)) NoThrow (plus (cost_under K.costs (Charge Call m)) (plus (cost_under K.costs (binds (map (λ (p : List ℕ × PlainType). p.1) fn.params))) (cost_under K.costs served.found.bound))) (charged Call (length vs) (bound_to (body_in take (scope K F B) fn) [] fn.params vs s)))
          (as_many (map (λ (p : List ℕ × PlainType). p.1) fn.params) vs i ∙ length-map fn.params (λ (p : List ℕ × PlainType). p.1))
          (sound_charged K Call (length vs) _ _
          (bound_sound (body_in take (scope K F B) fn) (cost_under K.costs served.found.bound) s fn.params vs [] [] tt i
          (λ E are. body_sound served.inner fn served.found served.good served.typed served.sound low F inside E B are s n)))

      by : suc served.found.height ≤ suc depth → AreOf vs (map (λ (p : List ℕ × PlainType). p.1) fn.params) → IsSound K (λ v. IsOf v (unwrap_or (return_of served.found).type NoType)) NoThrow (cost_under K.costs (application fn.params served.found)) (function_form take (scope K F B) fn vs s)
      by low i = opened_form K take F B fn vs s (λ v. IsOf v (unwrap_or (return_of served.found).type NoType)) (cost_under K.costs (application fn.params served.found)) (called_sound (omega (arith, low)) i)

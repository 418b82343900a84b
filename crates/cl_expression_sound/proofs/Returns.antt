-- asserts!, unwrap!, unwrap-err! and try!; and, or; as-contract.
use Rattle.std.proofs.Common.{◌≡◌, inl, inr, suc, ◌≤◌, Bool, true, false, List, [], ◌∷◌, length, Some, None, refl, subst, arith}
use Rattle.std.specs.Prelude.{◌&&◌}
use Rattle.std.specs.List.{list_all}
use Rattle.cl_types.specs.Types.{BoolType}
use Rattle.cl_shapes.specs.declared.name.CostName.TheVariants.{Control}
use Rattle.cl_shapes.specs.Costs.{plus, zero_cost}
use Rattle.cl_sexpr.specs.Tree.{Tree}
use Rattle.cl_values.specs.Tree.{Tree as Val, BoolV}
use Rattle.cl_forms.specs.declared.head.Head.TheVariants.{Asserts, Unwrap, UnwrapErr, Try, And, Or, AsContract}
use Rattle.cl_events.specs.State.{State}
use Rattle.cl_meaning.specs.Answers.{Given, Thrown, charged}
use Rattle.cl_meaning.specs.Scope.{as_contract}
use Rattle.cl_meaning.specs.Control.{throwing, asserts_form, unwrap_form, unwrap_err_form, try_form, and_on, or_on, and_form, or_form, as_contract_form}
use Rattle.cl_rules.specs.Faults.{type_rules}
use Rattle.cl_rules.specs.NativeTypes.{Ruled, one, two, fine}
use Rattle.cl_rules.specs.Bills.{Bill, Charge, Both, cost_under}
use Rattle.cl_rules.specs.Verdicts.{Found, types_of, highest, sum_of}
use Rattle.cl_rules.specs.Shapes.{parts as all_parts, evaluated}
use Rattle.cl_rules.specs.ControlShapes.{asserts_row, unwrap_row, unwrap_err_row, try_row, truth_row}
use Rattle.cl_rules.specs.Table.{head_shape}
use Rattle.cl_expression_sound.specs.Fitted.{Fitted, Follows, ends, part}
use Rattle.cl_expression_sound.specs.Sound.{World, IsSound, IsThrown, IsAsFound, IsFrame, IsKept}
use Rattle.cl_expression_sound.proofs.Costs.{alone}
use Rattle.cl_expression_sound.proofs.Logic.{sound_more, sound_less, sound_stop, sound_charged, sound_then}
use Rattle.cl_expression_sound.proofs.Thrown.{ThrownIn, MayThrow, ruling_fine}
use Rattle.cl_expression_sound.proofs.Values.{truth_of, true_typed}
use Rattle.cl_expression_sound.proofs.Choices.{choice_sound, wanted_sound, err_sound, tried_sound}
use Rattle.cl_expression_sound.proofs.Stands.{Stands, here, part_sound, IsSoundShape, concluded_sound, by_one, by_two, counted, as_many_found}
use Rattle.cl_values.specs.Typed.{IsOf}
use Rattle.cl_forms.specs.Heads.{row_of}
use Rattle.cl_expression_sound.proofs.Rules.{not_false}
use Rattle.cl_types.specs.TypeKinds.{is_bool}

left_true : (a b : Bool) → (a && b) ≡ true → a ≡ true
left_true true b h = refl
left_true false b h = absurd cc

right_true : (a b : Bool) → (a && b) ≡ true → b ≡ true
right_true true b h = h
right_true false b h = absurd cc

module _ (K : World) (N : Stands K) where
  -- a thrown part
  throwing_sound : {P T : Val → Type 0} (e : Tree) (f : Found) → Fitted N.context N.names e f → f.height ≤ N.depth → ((v : Val) → IsThrown f.thrown v → T v) → ((v : Val) → IsOf v f.type → T v) → (s : State) → IsKept K s → IsSound K P T (plus (cost_under K.costs f.bound) zero_cost) (throwing N.take (here K N) e s)
  throwing_sound {P = P} {T = T} e f t low more own s n =
      sound_then K (cost_under K.costs f.bound) zero_cost _ _ (part_sound K N e f t low more s n) (λ v u i m. sound_stop K P T zero_cost (Thrown v) u (own v i) m)

  asserts_each : (b x : Tree) (fs : List Found) → Follows N.context (all_parts N.names (b ∷ x ∷ [])) fs → type_rules (evaluated (row_of Asserts) (two asserts_row) fs).faults ≡ [] → (evaluated (row_of Asserts) (two asserts_row) fs).found.height ≤ suc N.depth → (s : State) → IsKept K s → IsAsFound K (evaluated (row_of Asserts) (two asserts_row) fs).found (asserts_form N.take (here K N) (b ∷ x ∷ []) s)
  unfolding asserts_form
  asserts_each b x _ (part {f = c} tc (part {f = f} tf ends)) types low s n =
      let fs : List Found = c ∷ f ∷ [] in
      let r : Ruled = asserts_row c.type f.type in
      let w : Bill = Both (Charge Control 2) (sum_of fs) in
      let fine_r = ruling_fine r 0 w fs types in
      let low_c : c.height ≤ N.depth = omega (arith, low) in
      let low_f : f.height ≤ N.depth = omega (arith, low) in
      concluded_sound K N r 0 w fs _ types
      (sound_charged K Control 2 (cost_under K.costs (sum_of fs)) _
      (sound_then K (cost_under K.costs c.bound) (plus (cost_under K.costs f.bound) zero_cost) _ _ (part_sound K N b c tc low_c (λ v k. inl (inl k)) s n)
      (λ v t i m. choice_sound K (plus (cost_under K.costs f.bound) zero_cost) v _ _ t (truth_of v c.type (not_false (is_bool c.type) fine_r.argument_kind) i)
      (sound_stop K (λ v. IsOf v BoolType) (MayThrow fs (Some f.type)) (plus (cost_under K.costs f.bound) zero_cost) (Given (BoolV true)) t (true_typed true) m)
      (throwing_sound x f tf low_f (λ v k. inl (inr (inl k))) (λ v k. inr k) t m))))

  pub asserts_sound : (es : List Tree) → IsSoundShape K N (head_shape Asserts (row_of Asserts) N.context N.names es) (asserts_form N.take (here K N) es)
  unfolding head_shape
  asserts_sound =
      by_two K N (head_shape Asserts (row_of Asserts) N.context N.names) (asserts_form N.take (here K N)) (λ es h. counted es 2 h.argument_count)
      (λ b x. record { each = λ fs shape follows types low s n. asserts_each b x fs follows types low s n })

  unwrap_each : (b x : Tree) (fs : List Found) → Follows N.context (all_parts N.names (b ∷ x ∷ [])) fs → type_rules (evaluated (row_of Unwrap) (two unwrap_row) fs).faults ≡ [] → (evaluated (row_of Unwrap) (two unwrap_row) fs).found.height ≤ suc N.depth → (s : State) → IsKept K s → IsAsFound K (evaluated (row_of Unwrap) (two unwrap_row) fs).found (unwrap_form N.take (here K N) (b ∷ x ∷ []) s)
  unfolding unwrap_form
  unwrap_each b x _ (part {f = c} tc (part {f = f} tf ends)) types low s n =
      let fs : List Found = c ∷ f ∷ [] in
      let r : Ruled = unwrap_row c.type f.type in
      let w : Bill = Both (Charge Control 2) (sum_of fs) in
      let fine_r = ruling_fine r 0 w fs types in
      let low_c : c.height ≤ N.depth = omega (arith, low) in
      let low_f : f.height ≤ N.depth = omega (arith, low) in
      concluded_sound K N r 0 w fs _ types
      (sound_charged K Control 2 (cost_under K.costs (sum_of fs)) _
      (sound_then K (cost_under K.costs c.bound) (plus (cost_under K.costs f.bound) zero_cost) _ _ (part_sound K N b c tc low_c (λ v k. inl (inl k)) s n)
      (λ v t i m. wanted_sound K (plus (cost_under K.costs f.bound) zero_cost) c.type v _ t fine_r i m
      (throwing_sound x f tf low_f (λ v k. inl (inr (inl k))) (λ v k. inr k) t m))))

  pub unwrap_sound : (es : List Tree) → IsSoundShape K N (head_shape Unwrap (row_of Unwrap) N.context N.names es) (unwrap_form N.take (here K N) es)
  unfolding head_shape
  unwrap_sound =
      by_two K N (head_shape Unwrap (row_of Unwrap) N.context N.names) (unwrap_form N.take (here K N)) (λ es h. counted es 2 h.argument_count)
      (λ b x. record { each = λ fs shape follows types low s n. unwrap_each b x fs follows types low s n })

  unwrap_err_each : (b x : Tree) (fs : List Found) → Follows N.context (all_parts N.names (b ∷ x ∷ [])) fs → type_rules (evaluated (row_of UnwrapErr) (two unwrap_err_row) fs).faults ≡ [] → (evaluated (row_of UnwrapErr) (two unwrap_err_row) fs).found.height ≤ suc N.depth → (s : State) → IsKept K s → IsAsFound K (evaluated (row_of UnwrapErr) (two unwrap_err_row) fs).found (unwrap_err_form N.take (here K N) (b ∷ x ∷ []) s)
  unfolding unwrap_err_form
  unwrap_err_each b x _ (part {f = c} tc (part {f = f} tf ends)) types low s n =
      let fs : List Found = c ∷ f ∷ [] in
      let r : Ruled = unwrap_err_row c.type f.type in
      let w : Bill = Both (Charge Control 2) (sum_of fs) in
      let fine_r = ruling_fine r 0 w fs types in
      let low_c : c.height ≤ N.depth = omega (arith, low) in
      let low_f : f.height ≤ N.depth = omega (arith, low) in
      concluded_sound K N r 0 w fs _ types
      (sound_charged K Control 2 (cost_under K.costs (sum_of fs)) _
      (sound_then K (cost_under K.costs c.bound) (plus (cost_under K.costs f.bound) zero_cost) _ _ (part_sound K N b c tc low_c (λ v k. inl (inl k)) s n)
      (λ v t i m. err_sound K (plus (cost_under K.costs f.bound) zero_cost) c.type v _ t fine_r i m
      (throwing_sound x f tf low_f (λ v k. inl (inr (inl k))) (λ v k. inr k) t m))))

  pub unwrap_err_sound : (es : List Tree) → IsSoundShape K N (head_shape UnwrapErr (row_of UnwrapErr) N.context N.names es) (unwrap_err_form N.take (here K N) es)
  unfolding head_shape
  unwrap_err_sound =
      by_two K N (head_shape UnwrapErr (row_of UnwrapErr) N.context N.names) (unwrap_err_form N.take (here K N)) (λ es h. counted es 2 h.argument_count)
      (λ b x. record { each = λ fs shape follows types low s n. unwrap_err_each b x fs follows types low s n })

  try_each : (e : Tree) (fs : List Found) → Follows N.context (all_parts N.names (e ∷ [])) fs → type_rules (evaluated (row_of Try) (one try_row) fs).faults ≡ [] → (evaluated (row_of Try) (one try_row) fs).found.height ≤ suc N.depth → (s : State) → IsKept K s → IsAsFound K (evaluated (row_of Try) (one try_row) fs).found (try_form N.take (here K N) (e ∷ []) s)
  unfolding try_form
  try_each e _ (part {f = f} t ends) types low s n =
      let fs : List Found = f ∷ [] in
      let r : Ruled = try_row f.type in
      let w : Bill = Both (Charge Control 1) (sum_of fs) in
      let low_f : f.height ≤ N.depth = omega (arith, low) in
      concluded_sound K N r 0 w fs _ types
      (sound_charged K Control 1 (cost_under K.costs (sum_of fs)) _
      (sound_then K (cost_under K.costs f.bound) zero_cost _ _ (part_sound K N e f t low_f (λ v k. inl (inl k)) s n)
      (λ v u i m. tried_sound K f.type v u (ruling_fine r 0 w fs types) i m (λ x k. inr k))))

  pub try_sound : (es : List Tree) → IsSoundShape K N (head_shape Try (row_of Try) N.context N.names es) (try_form N.take (here K N) es)
  unfolding head_shape
  try_sound =
      by_one K N (head_shape Try (row_of Try) N.context N.names) (try_form N.take (here K N)) (λ es h. counted es 1 h.argument_count)
      (λ e. record { each = λ fs shape follows types low s n. try_each e fs follows types low s n })

  -- ---- and, or

  and_on_sound : (es : List Tree) (fs : List Found) → Follows N.context (all_parts N.names es) fs → list_all is_bool (types_of fs) ≡ true → highest fs ≤ N.depth → (s : State) → IsKept K s → IsSound K (λ v. IsOf v BoolType) (ThrownIn fs) (cost_under K.costs (sum_of fs)) (and_on N.take (here K N) es s)
  unfolding and_on
  and_on_sound [] _ ends bools low s n = sound_stop K (λ v. IsOf v BoolType) (ThrownIn []) zero_cost (Given (BoolV true)) s (true_typed true) n
  and_on_sound (e ∷ es) _ (part {f = f} {fs = fs} t ts) bools low s n =
      let low_f : f.height ≤ N.depth = omega (arith, low) in
      let low_fs : highest fs ≤ N.depth = omega (arith, low) in
      sound_then K (cost_under K.costs f.bound) (cost_under K.costs (sum_of fs)) _ _ (part_sound K N e f t low_f (λ v k. inl k) s n)
      (λ v u i m. choice_sound K (cost_under K.costs (sum_of fs)) v _ _ u (truth_of v f.type (left_true (is_bool f.type) _ bools) i)
      (sound_less K (cost_under K.costs (sum_of fs)) _ (λ v k. k) (λ v k. inr k) (and_on_sound es fs ts (right_true (is_bool f.type) _ bools) low_fs u m))
      (sound_stop K (λ v. IsOf v BoolType) (ThrownIn (f ∷ fs)) (cost_under K.costs (sum_of fs)) (Given (BoolV false)) u (true_typed false) m))

  or_on_sound : (es : List Tree) (fs : List Found) → Follows N.context (all_parts N.names es) fs → list_all is_bool (types_of fs) ≡ true → highest fs ≤ N.depth → (s : State) → IsKept K s → IsSound K (λ v. IsOf v BoolType) (ThrownIn fs) (cost_under K.costs (sum_of fs)) (or_on N.take (here K N) es s)
  unfolding or_on
  or_on_sound [] _ ends bools low s n = sound_stop K (λ v. IsOf v BoolType) (ThrownIn []) zero_cost (Given (BoolV false)) s (true_typed false) n
  or_on_sound (e ∷ es) _ (part {f = f} {fs = fs} t ts) bools low s n =
      let low_f : f.height ≤ N.depth = omega (arith, low) in
      let low_fs : highest fs ≤ N.depth = omega (arith, low) in
      sound_then K (cost_under K.costs f.bound) (cost_under K.costs (sum_of fs)) _ _ (part_sound K N e f t low_f (λ v k. inl k) s n)
      (λ v u i m. choice_sound K (cost_under K.costs (sum_of fs)) v _ _ u (truth_of v f.type (left_true (is_bool f.type) _ bools) i)
      (sound_stop K (λ v. IsOf v BoolType) (ThrownIn (f ∷ fs)) (cost_under K.costs (sum_of fs)) (Given (BoolV true)) u (true_typed true) m)
      (sound_less K (cost_under K.costs (sum_of fs)) _ (λ v k. k) (λ v k. inr k) (or_on_sound es fs ts (right_true (is_bool f.type) _ bools) low_fs u m)))

  and_each : (e : Tree) (es : List Tree) (fs : List Found) → Follows N.context (all_parts N.names (e ∷ es)) fs → type_rules (evaluated (row_of And) truth_row fs).faults ≡ [] → (evaluated (row_of And) truth_row fs).found.height ≤ suc N.depth → (s : State) → IsKept K s → IsAsFound K (evaluated (row_of And) truth_row fs).found (and_form N.take (here K N) (e ∷ es) s)
  unfolding and_form
  and_each e es fs follows types low s n =
      let r : Ruled = truth_row (types_of fs) in
      let w : Bill = Both (Charge Control (length (types_of fs))) (sum_of fs) in
      let fine_r = ruling_fine r 0 w fs types in
      let low_fs : highest fs ≤ N.depth = omega (arith, low) in
      concluded_sound K N r 0 w fs _ types
      (subst (λ m. IsSound K (λ v. IsOf v BoolType) (MayThrow fs None) (plus (cost_under K.costs (Charge Control (length (types_of fs)))) (cost_under K.costs (sum_of fs))) (charged Control m (and_on N.take (here K N) (e ∷ es) s))) (as_many_found K N (e ∷ es) fs follows)
      (sound_charged K Control (length (types_of fs)) (cost_under K.costs (sum_of fs)) _
      (sound_less K (cost_under K.costs (sum_of fs)) _ (λ v k. k) (λ v k. inl k) (and_on_sound (e ∷ es) fs follows (not_false _ fine_r.argument_kind) low_fs s n))))

  or_each : (e : Tree) (es : List Tree) (fs : List Found) → Follows N.context (all_parts N.names (e ∷ es)) fs → type_rules (evaluated (row_of Or) truth_row fs).faults ≡ [] → (evaluated (row_of Or) truth_row fs).found.height ≤ suc N.depth → (s : State) → IsKept K s → IsAsFound K (evaluated (row_of Or) truth_row fs).found (or_form N.take (here K N) (e ∷ es) s)
  unfolding or_form
  or_each e es fs follows types low s n =
      let r : Ruled = truth_row (types_of fs) in
      let w : Bill = Both (Charge Control (length (types_of fs))) (sum_of fs) in
      let fine_r = ruling_fine r 0 w fs types in
      let low_fs : highest fs ≤ N.depth = omega (arith, low) in
      concluded_sound K N r 0 w fs _ types
      (subst (λ m. IsSound K (λ v. IsOf v BoolType) (MayThrow fs None) (plus (cost_under K.costs (Charge Control (length (types_of fs)))) (cost_under K.costs (sum_of fs))) (charged Control m (or_on N.take (here K N) (e ∷ es) s))) (as_many_found K N (e ∷ es) fs follows)
      (sound_charged K Control (length (types_of fs)) (cost_under K.costs (sum_of fs)) _
      (sound_less K (cost_under K.costs (sum_of fs)) _ (λ v k. k) (λ v k. inl k) (or_on_sound (e ∷ es) fs follows (not_false _ fine_r.argument_kind) low_fs s n))))

  pub and_sound : (es : List Tree) → IsSoundShape K N (head_shape And (row_of And) N.context N.names es) (and_form N.take (here K N) es)
  unfolding head_shape
  and_sound [] = record { each = λ fs shape follows types low s n. absurd cc }
  and_sound (e ∷ es) = record { each = λ fs shape follows types low s n. and_each e es fs follows types low s n }

  pub or_sound : (es : List Tree) → IsSoundShape K N (head_shape Or (row_of Or) N.context N.names es) (or_form N.take (here K N) es)
  unfolding head_shape
  or_sound [] = record { each = λ fs shape follows types low s n. absurd cc }
  or_sound (e ∷ es) = record { each = λ fs shape follows types low s n. or_each e es fs follows types low s n }

  -- ---- as-contract

  itself : IsFrame N.context (as_contract N.frame)
  itself = record { home = N.framed.home; contract = N.framed.contract; sender = N.framed.contract; caller = N.framed.contract; height = N.framed.height }

  as_contract_each : (e : Tree) (fs : List Found) → Follows N.context (all_parts N.names (e ∷ [])) fs → type_rules (evaluated (row_of AsContract) (one fine) fs).faults ≡ [] → (evaluated (row_of AsContract) (one fine) fs).found.height ≤ suc N.depth → (s : State) → IsKept K s → IsAsFound K (evaluated (row_of AsContract) (one fine) fs).found (as_contract_form N.take (here K N) (e ∷ []) s)
  unfolding as_contract_form
  as_contract_each e _ (part {f = f} t ends) types low s n =
      let fs : List Found = f ∷ [] in
      let r : Ruled = fine f.type in
      let w : Bill = Both (Charge Control 1) (sum_of fs) in
      let low_f : f.height ≤ N.depth = omega (arith, low) in
      concluded_sound K N r 0 w fs _ types
      (sound_charged K Control 1 (cost_under K.costs (sum_of fs)) _
      (sound_more K (cost_under K.costs f.bound) (cost_under K.costs (sum_of fs)) _ (alone (cost_under K.costs f.bound))
      (sound_less K (cost_under K.costs f.bound) _ (λ v k. k) (λ v k. inl (inl k))
      (N.takes.each N.context N.good (as_contract N.frame) itself N.names N.bound N.are e f t low_f s n))))

  pub as_contract_sound : (es : List Tree) → IsSoundShape K N (head_shape AsContract (row_of AsContract) N.context N.names es) (as_contract_form N.take (here K N) es)
  unfolding head_shape
  as_contract_sound =
      by_one K N (head_shape AsContract (row_of AsContract) N.context N.names) (as_contract_form N.take (here K N)) (λ es h. counted es 1 h.argument_count)
      (λ e. record { each = λ fs shape follows types low s n. as_contract_each e fs follows types low s n })

-- map, filter and fold.
use Rattle.std.proofs.Common.{◌≡◌, inl, inr, ℕ, suc, ◌<◌, ◌≤◌, true, List, [], ◌∷◌, map, length, Option, Some, refl, sym, ap, subst, arith}
use Rattle.std.proofs.lemmas.Bool.{leb-true}
use Rattle.cl_types.specs.Types.{PlainType, ListType}
use Rattle.cl_types.specs.Sized.{length_of}
use Rattle.cl_shapes.specs.declared.cost.Cost5.{Cost5}
use Rattle.cl_shapes.specs.declared.name.CostName.{CostName}
use Rattle.cl_shapes.specs.declared.name.CostName.TheVariants.{Iterate}
use Rattle.cl_shapes.specs.Costs.{plus, times}
use Rattle.cl_sexpr.specs.declared.sexpr.Span.{Span}
use Rattle.cl_sexpr.specs.Tree.{Tree, LeafAt, Named}
use Rattle.cl_values.specs.Tree.{Tree as Val, ListV, items_of}
use Rattle.cl_values.specs.Wire.{size_of}
use Rattle.cl_values.specs.Computed.{Gives}
use Rattle.cl_values.specs.Sequences.{entries_of, like}
use Rattle.cl_forms.specs.declared.head.Head.TheVariants.{Map, Filter, Fold}
use Rattle.cl_events.specs.State.{State}
use Rattle.cl_meaning.specs.Answers.{Answer, charged}
use Rattle.cl_meaning.specs.Scope.{Callee, sizes}
use Rattle.cl_meaning.specs.Sequences.{callee_of, side_by_side, all_entries, rows_of, mapped, map_form, filtered, filter_form, fold_of, fold_form}
use Rattle.cl_rules.specs.Faults.{type_rules}
use Rattle.cl_rules.specs.NativeTypes.{Ruled, made}
use Rattle.cl_rules.specs.Bills.{Bill, Charge, Both, cost_under}
use Rattle.cl_rules.specs.Verdicts.{Found, types_of, sizes_of, highest, sum_of}
use Rattle.cl_rules.specs.Shapes.{parts as all_parts}
use Rattle.cl_rules.specs.CallShapes.{Usable, takes_values, use_row, use_bound, use_height, iterating, least_length, map_row, map_verdict, filter_row, filter_verdict, fold_row, fold_verdict}
use Rattle.cl_rules.specs.Table.{head_shape}
use Rattle.cl_expression_sound.specs.Fitted.{Follows, ends, part}
use Rattle.cl_expression_sound.specs.Sound.{World, IsSound, IsAsFound, NoThrow, IsKept}
use Rattle.cl_expression_sound.proofs.Costs.{two_behind, more_of_both, same_cost, less_charged, more_times}
use Rattle.cl_expression_sound.proofs.Logic.{sound_more, sound_less, sound_charged, sound_then, sound_last, sound_known}
use Rattle.cl_expression_sound.proofs.Thrown.{ruling_unbroken}
use Rattle.cl_expression_sound.proofs.Strict.{computed_sound, strict_sound, single_sound}
use Rattle.cl_expression_sound.proofs.Natives.{one_low}
use Rattle.cl_expression_sound.proofs.Sides.{AreRowsOf, NoneShorter, sides, entries_there}
use Rattle.cl_expression_sound.proofs.Uses.{IsUsed, OfUse, using_sound, each_sound, sifted_sound, folded_sound}
use Rattle.cl_expression_sound.proofs.Sequences.{is_mapped, is_filtered, is_fold, same_map_length}
use Rattle.cl_expression_sound.proofs.Stands.{Stands, here, IsSoundShape, concluded_sound, part_sound, counted, as_many_found}
use Rattle.cl_values.specs.Typed.{IsOf, AreOf}
use Rattle.cl_forms.specs.Heads.{row_of}
use Rattle.cl_native_sound.proofs.Charges.{sizes_within}
use Rattle.cl_native_sound.proofs.ValuesFit.{values_fit}
use Rattle.cl_expression_sound.proofs.Rules.{not_false}
use Rattle.cl_types.specs.TypeKinds.{entry_of}

module _ (K : World) where
  -- a charge at no more than a number, before something more
  charged_more : {P T : Val → Type 0} (name : CostName) (m n : ℕ) (c : Cost5) (a : Answer Val) → m ≤ n → IsSound K P T c a → IsSound K P T (plus (cost_under K.costs (Charge name n)) c) (charged name m a)
  charged_more name m n c a low h =
      sound_more K (plus (cost_under K.costs (Charge name m)) c) (plus (cost_under K.costs (Charge name n)) c) _ (more_of_both (cost_under K.costs (Charge name m)) (cost_under K.costs (Charge name n)) c c (less_charged K.costs name m n low) (same_cost c))
      (sound_charged K name m c a h)

module _ (K : World) (N : Stands K) where
  -- ---- map

  mapped_rows : {T : Val → Type 0} (u : Usable) (f : Callee) (t : PlainType) (us : List PlainType) → ((vs : List Val) (s : State) → AreOf vs (map entry_of (t ∷ us)) → IsKept K s → IsSound K (λ v. IsOf v (use_row u (map entry_of (t ∷ us))).type) NoThrow (cost_under K.costs (use_bound u (map entry_of (t ∷ us)))) (N.enter (here K N) f vs s)) →
      type_rules (made (ListType (least_length (t ∷ us)) (use_row u (map entry_of (t ∷ us))).type)).faults ≡ [] → (vs : List Val) (rows : List (List Val)) → all_entries vs ≡ Some rows → AreRowsOf (map entry_of (t ∷ us)) rows → ((n : ℕ) → NoneShorter n rows → n ≤ least_length (t ∷ us)) → (s : State) → IsKept K s →
      IsSound K (λ v. IsOf v (ListType (least_length (t ∷ us)) (use_row u (map entry_of (t ∷ us))).type)) T (times (cost_under K.costs (use_bound u (map entry_of (t ∷ us)))) (least_length (t ∷ us))) (mapped N.enter (here K N) vs f s)
  mapped_rows u f t us app small vs [] there typed least s n = absurd typed
  mapped_rows {T = T} u f t us app small vs (xs ∷ rows) there typed least s n =
      let c : Cost5 = cost_under K.costs (use_bound u (map entry_of (t ∷ us))) in
      let ty : PlainType = (use_row u (map entry_of (t ∷ us))).type in
      let rs = side_by_side xs rows in
      let sd = sides (entry_of t) (map entry_of us) xs rows typed.0 typed.1 in
      let few : length rs ≤ least_length (t ∷ us) = least (length rs) sd.1 in
      sound_known K (times c (least_length (t ∷ us))) (rows_of (all_entries vs)) rs _ s (ap rows_of there)
      (sound_more K (times c (length rs)) (times c (least_length (t ∷ us))) _ (more_times c (length rs) (least_length (t ∷ us)) few)
      (sound_last K (times c (length rs)) _ _ (each_sound K N f c (map entry_of (t ∷ us)) ty app rs sd.0 s n)
      (λ ws w k l.
      let many = k.1 in
      let fit : length ws ≤ least_length (t ∷ us) = omega (arith, many, few) in
      computed_sound K (ListType (least_length (t ∷ us)) ty) (Gives (ListV (items_of ws))) w (values_fit.lists (least_length (t ∷ us)) ty ws k.0 fit small) l)))

  mapped_sound : {T : Val → Type 0} (u : Usable) (o : Option Callee) (used : IsUsed K N u o) (ts : List PlainType) (vs : List Val) → AreOf vs ts → type_rules (map_row u ts).faults ≡ [] → takes_values u (length ts) ≡ true → use_height u ≤ N.depth → 0 < length ts → (s : State) → IsKept K s → IsSound K (λ v. IsOf v (map_row u ts).type) T (times (cost_under K.costs (use_bound u (map entry_of ts))) (least_length ts)) (mapped N.enter (here K N) vs used.callee s)
  mapped_sound u o used [] vs i rules count low some s n = absurd (omega (arith, some))
  mapped_sound {T = T} u o used (t ∷ us) vs i rules count low some s n =
      let m = is_mapped u (t ∷ us) rules in
      let e = entries_there (t ∷ us) vs m.sequences i in
      let takes = subst (λ k. takes_values u k ≡ true) (sym (same_map_length (t ∷ us))) count in
      subst (λ ty. IsSound K (λ v. IsOf v ty) T (times (cost_under K.costs (use_bound u (map entry_of (t ∷ us)))) (least_length (t ∷ us))) (mapped N.enter (here K N) vs used.callee s)) (sym m.type)
      (mapped_rows u used.callee t us (λ vs s i n. used.sound (map entry_of (t ∷ us)) vs takes i m.rules low s n) m.small vs e.rows e.there e.typed (λ k h. e.least k h t us refl) s n)

  map_use : OfUse K N (row_of Map) (map_verdict (row_of Map)) (map_form N.take N.enter (here K N))
  unfolding map_form
  map_use x at es u used count takes fs follows types low s n =
      let ts = types_of fs in
      let r : Ruled = map_row u ts in
      let c : Cost5 = cost_under K.costs (use_bound u (map entry_of ts)) in
      let own : Bill = iterating (row_of Map) u ts (least_length ts) (map entry_of ts) in
      let many = as_many_found K N es fs follows in
      let two : 2 ≤ length (LeafAt (Named x) at ∷ es) = leb-true 2 (length (LeafAt (Named x) at ∷ es)) (not_false _ count) in
      let some : 0 < length ts = omega (arith, many, two) in
      let low_u : use_height u ≤ N.depth = omega (arith, low) in
      let low_fs : highest fs ≤ N.depth = omega (arith, low) in
      strict_sound K N es fs r (use_height u) own _ follows types low_fs
      (λ vs t i m. charged_more K Iterate (sizes vs) (sizes_of ts) (times c (least_length ts)) _ (sizes_within ts vs i)
      (sound_known K (times c (least_length ts)) _ used.callee _ t used.there
      (mapped_sound u _ used ts vs i (ruling_unbroken r (use_height u) (Both own (sum_of fs)) fs types) (subst (λ k. takes_values u k ≡ true) (sym many) takes) low_u some t m))) s n

  pub map_sound : (es : List Tree) → IsSoundShape K N (head_shape Map (row_of Map) N.context N.names es) (map_form N.take N.enter (here K N) es)
  unfolding head_shape
  map_sound = using_sound K N (row_of Map) (map_verdict (row_of Map)) (map_form N.take N.enter (here K N)) refl map_use

  -- ---- filter

  filtered_sound : {T : Val → Type 0} (u : Usable) (o : Option Callee) (used : IsUsed K N u o) (t : PlainType) (v : Val) → IsOf v t → type_rules (filter_row u t).faults ≡ [] → takes_values u 1 ≡ true → use_height u ≤ N.depth → (s : State) → IsKept K s → IsSound K (λ v. IsOf v (filter_row u t).type) T (times (cost_under K.costs (use_bound u (entry_of t ∷ []))) (length_of t)) (filtered N.enter (here K N) v used.callee s)
  filtered_sound {T = T} u o used t v i rules count low s n =
      let m = is_filtered u t rules in
      let e = values_fit.entries t v i m.sequence in
      let c : Cost5 = cost_under K.costs (use_bound u (entry_of t ∷ [])) in
      subst (λ ty. IsSound K (λ v. IsOf v ty) T (times c (length_of t)) (filtered N.enter (here K N) v used.callee s)) (sym m.type)
      (sound_known K (times c (length_of t)) (entries_of v) e.entries _ s e.there
      (sound_more K (times c (length e.entries)) (times c (length_of t)) _ (more_times c (length e.entries) (length_of t) e.few)
      (sound_last K (times c (length e.entries)) _ _ (sifted_sound K N used.callee c (entry_of t) (use_row u (entry_of t ∷ [])).type m.bool (λ x s j k. used.sound (entry_of t ∷ []) (x ∷ []) count (j, tt) m.rules low s k) e.entries e.typed s n)
      (λ ys w k l. computed_sound K t (Gives (like v ys)) w (values_fit.likes t v e.entries ys i m.sequence e.there k) l))))

  filter_each : (x : List ℕ) (at : Span) (u : Usable) → IsUsed K N u (callee_of (here K N) x at) → takes_values u 1 ≡ true → (e : Tree) (fs : List Found) → Follows N.context (all_parts N.names (e ∷ [])) fs → type_rules (filter_verdict (row_of Filter) u fs).faults ≡ [] → (filter_verdict (row_of Filter) u fs).found.height ≤ suc N.depth → (s : State) → IsKept K s → IsAsFound K (filter_verdict (row_of Filter) u fs).found (filter_form N.take N.enter (here K N) (LeafAt (Named x) at ∷ e ∷ []) s)
  unfolding filter_form
  filter_each x at u used takes e _ (part {f = f} te ends) types low s n =
      let r : Ruled = filter_row u f.type in
      let c : Cost5 = cost_under K.costs (use_bound u (entry_of f.type ∷ [])) in
      let own : Bill = iterating (row_of Filter) u (f.type ∷ []) (length_of f.type) (entry_of f.type ∷ []) in
      let low_u : use_height u ≤ N.depth = omega (arith, low) in
      let low_f : f.height ≤ N.depth = omega (arith, low) in
      single_sound K N e f r (use_height u) own _ te types low_f
      (λ v t i m. charged_more K Iterate (size_of v) (sizes_of (f.type ∷ [])) (times c (length_of f.type)) _ (one_low f.type v i)
      (sound_known K (times c (length_of f.type)) _ used.callee _ t used.there
      (filtered_sound u _ used f.type v i (ruling_unbroken r (use_height u) (Both own (sum_of (f ∷ []))) (f ∷ []) types) takes low_u t m))) s n

  filter_use : OfUse K N (row_of Filter) (filter_verdict (row_of Filter)) (filter_form N.take N.enter (here K N))
  filter_use x at (e ∷ []) u used count takes fs follows types low s n = filter_each x at u used takes e fs follows types low s n
  filter_use x at [] u used count takes fs follows types low s n = let h = counted (LeafAt (Named x) at ∷ []) 2 count in absurd (omega (arith, h))
  filter_use x at (e ∷ d ∷ es) u used count takes fs follows types low s n = let h = counted (LeafAt (Named x) at ∷ e ∷ d ∷ es) 2 count in absurd (omega (arith, h))

  pub filter_sound : (es : List Tree) → IsSoundShape K N (head_shape Filter (row_of Filter) N.context N.names es) (filter_form N.take N.enter (here K N) es)
  unfolding head_shape
  filter_sound = using_sound K N (row_of Filter) (filter_verdict (row_of Filter)) (filter_form N.take N.enter (here K N)) refl filter_use

  -- ---- fold

  fold_sound_of : {T : Val → Type 0} (u : Usable) (o : Option Callee) (used : IsUsed K N u o) (t i : PlainType) (v w : Val) → IsOf v t → IsOf w i → type_rules (fold_row u t i).faults ≡ [] → takes_values u 2 ≡ true → use_height u ≤ N.depth → (s : State) → IsKept K s → IsSound K (λ v. IsOf v (fold_row u t i).type) T (times (cost_under K.costs (use_bound u (entry_of t ∷ (fold_row u t i).type ∷ []))) (length_of t)) (fold_of N.enter (here K N) v w used.callee s)
  fold_sound_of {T = T} u o used t i v w j k rules count low s n =
      let m = is_fold u t i used.named count rules in
      let e = values_fit.entries t v j m.sequence in
      let ty : PlainType = (fold_row u t i).type in
      let c : Cost5 = cost_under K.costs (use_bound u (entry_of t ∷ ty ∷ [])) in
      sound_known K (times c (length_of t)) (entries_of v) e.entries _ s e.there
      (sound_more K (times c (length e.entries)) (times c (length_of t)) _ (more_times c (length e.entries) (length_of t) e.few)
      (folded_sound K N used.callee c (entry_of t) ty
      (λ x r s a b l. sound_less K c _ m.back (λ v h. h) (used.sound (entry_of t ∷ ty ∷ []) (x ∷ r ∷ []) count (a, (b, tt)) m.rules low s l))
      e.entries e.typed w (m.start w k) s n))

  fold_each : (x : List ℕ) (at : Span) (u : Usable) → IsUsed K N u (callee_of (here K N) x at) → takes_values u 2 ≡ true → (e i : Tree) (fs : List Found) → Follows N.context (all_parts N.names (e ∷ i ∷ [])) fs → type_rules (fold_verdict (row_of Fold) u fs).faults ≡ [] → (fold_verdict (row_of Fold) u fs).found.height ≤ suc N.depth → (s : State) → IsKept K s → IsAsFound K (fold_verdict (row_of Fold) u fs).found (fold_form N.take N.enter (here K N) (LeafAt (Named x) at ∷ e ∷ i ∷ []) s)
  unfolding fold_form
  fold_each x at u used takes e i _ (part {f = f} te (part {f = g} tg ends)) types low s n =
      let fs : List Found = f ∷ g ∷ [] in
      let r : Ruled = fold_row u f.type g.type in
      let c : Cost5 = cost_under K.costs (use_bound u (entry_of f.type ∷ r.type ∷ [])) in
      let own : Bill = iterating (row_of Fold) u (f.type ∷ g.type ∷ []) (length_of f.type) (entry_of f.type ∷ r.type ∷ []) in
      let low_u : use_height u ≤ N.depth = omega (arith, low) in
      let low_f : f.height ≤ N.depth = omega (arith, low) in
      let low_g : g.height ≤ N.depth = omega (arith, low) in
      concluded_sound K N r (use_height u) (Both own (sum_of fs)) fs _ types
      (sound_more K (plus (cost_under K.costs f.bound) (plus (cost_under K.costs g.bound) (cost_under K.costs own))) (plus (cost_under K.costs own) (cost_under K.costs (sum_of fs))) _ (two_behind (cost_under K.costs f.bound) (cost_under K.costs g.bound) (cost_under K.costs own))
      (sound_then K (cost_under K.costs f.bound) (plus (cost_under K.costs g.bound) (cost_under K.costs own)) _ _ (part_sound K N e f te low_f (λ v k. inl (inl k)) s n)
      (λ v t a m. sound_then K (cost_under K.costs g.bound) (cost_under K.costs own) _ _ (part_sound K N i g tg low_g (λ v k. inl (inr (inl k))) t m)
      (λ w z b l. charged_more K Iterate (sizes (v ∷ w ∷ [])) (sizes_of (f.type ∷ g.type ∷ [])) (times c (length_of f.type)) _ (sizes_within (f.type ∷ g.type ∷ []) (v ∷ w ∷ []) (a, (b, tt)))
      (sound_known K (times c (length_of f.type)) _ used.callee _ z used.there
      (fold_sound_of u _ used f.type g.type v w a b (ruling_unbroken r (use_height u) (Both own (sum_of fs)) fs types) takes low_u z l))))))

  fold_use : OfUse K N (row_of Fold) (fold_verdict (row_of Fold)) (fold_form N.take N.enter (here K N))
  fold_use x at (e ∷ i ∷ []) u used count takes fs follows types low s n = fold_each x at u used takes e i fs follows types low s n
  fold_use x at [] u used count takes fs follows types low s n = let h = counted (LeafAt (Named x) at ∷ []) 3 count in absurd (omega (arith, h))
  fold_use x at (e ∷ []) u used count takes fs follows types low s n = let h = counted (LeafAt (Named x) at ∷ e ∷ []) 3 count in absurd (omega (arith, h))
  fold_use x at (e ∷ i ∷ d ∷ es) u used count takes fs follows types low s n = let h = counted (LeafAt (Named x) at ∷ e ∷ i ∷ d ∷ es) 3 count in absurd (omega (arith, h))

  pub fold_sound : (es : List Tree) → IsSoundShape K N (head_shape Fold (row_of Fold) N.context N.names es) (fold_form N.take N.enter (here K N) es)
  unfolding head_shape
  fold_sound = using_sound K N (row_of Fold) (fold_verdict (row_of Fold)) (fold_form N.take N.enter (here K N)) refl fold_use

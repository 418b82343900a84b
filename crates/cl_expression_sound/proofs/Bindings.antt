-- let and match.
use Rattle.std.proofs.Common.{◌≡◌, inl, inr, ℕ, zero, suc, ◌<◌, ◌≤◌, Bool, true, false, List, [], ◌∷◌, take, drop, length, Option, Some, None, Result, Ok, Err, refl, sym, subst, arith}
use Rattle.std.specs.Prelude.{◌||◌, not, nat_eq, filter_map, is_some}
use Rattle.std.specs.List.{cons_option}
use Rattle.cl_types.specs.Types.{PlainType, OptionalType, ResponseType, size_of as type_size}
use Rattle.cl_types.specs.Lattice.{least_supertype}
use Rattle.cl_types.specs.declared.sized.TyRefusal.{TyRefusal}
use Rattle.cl_types.specs.declared.sized.TyRefusal.TheVariants.{Differ, TooLarge, TooDeep, EmptyTuple, KeyTwice}
use Rattle.cl_shapes.specs.declared.cost.Cost5.{Cost5}
use Rattle.cl_shapes.specs.declared.name.CostName.TheVariants.{Control, Bind}
use Rattle.cl_shapes.specs.Costs.{plus, greater, zero_cost}
use Rattle.cl_sexpr.specs.declared.sexpr.Span.{Span}
use Rattle.cl_sexpr.specs.Tree.{Tree, LeafAt, ListAt, Named}
use Rattle.cl_values.specs.Tree.{Tree as Val}
use Rattle.cl_values.specs.Wire.{size_of}
use Rattle.cl_forms.specs.declared.head.Head.TheVariants.{Let, Match}
use Rattle.cl_forms.specs.Shapes.{trees_of, binding_of, bindings_of, and_binding, OptionalMatch, ResponseMatch}
use Rattle.cl_events.specs.State.{State}
use Rattle.cl_meaning.specs.Answers.{and_then, charged, with_known}
use Rattle.cl_meaning.specs.Scope.{binding, taken_with}
use Rattle.cl_meaning.specs.Control.{let_in, let_form, match_optional, match_response, match_taken, match_form}
use Rattle.cl_rules.specs.Faults.{type_rules}
use Rattle.cl_rules.specs.NativeTypes.{Ruled, fine, and_lub, lubbed}
use Rattle.cl_rules.specs.Bills.{Bill, Charge, Both, Greater, cost_under}
use Rattle.cl_rules.specs.Context.{bind}
use Rattle.cl_rules.specs.Verdicts.{Found, types_of, highest, sum_of}
use Rattle.cl_rules.specs.Shapes.{Ends, Part, Gives, parts as all_parts}
use Rattle.cl_rules.specs.ControlShapes.{last_of as last_type, last_row, let_plan, binds, let_verdict, let_with, optional_plan, response_plan, if_determined, bound_branch, matched, optional_verdict, response_verdict, match_verdict}
use Rattle.cl_rules.specs.Table.{head_shape}
use Rattle.cl_rules.proofs.Matches.{match_is_read}
use Rattle.cl_expression_sound.specs.Fitted.{Fitted, Follows, ends, part, gives}
use Rattle.cl_expression_sound.specs.Sound.{World, IsSound, IsThrown, IsAsFound, IsKept}
use Rattle.cl_expression_sound.proofs.Costs.{at_most, alone, turned, same_cost, more_of_both, less_charged, left_of_both, right_of_both, bindings_first, grouped}
use Rattle.cl_expression_sound.proofs.Logic.{sound_more, sound_less, sound_charged, sound_then, sound_last}
use Rattle.cl_expression_sound.proofs.Rules.{AreFineTypes, fine_shape, not_false}
use Rattle.cl_expression_sound.proofs.Thrown.{ThrownIn, MayThrow, ruling_fine}
use Rattle.cl_expression_sound.proofs.Values.{IsOptional, is_none, is_some_value, optional_of, IsResponse, is_ok, is_err, response_of}
use Rattle.cl_expression_sound.proofs.Choices.{lub_left, lub_right, last_sound}
use Rattle.cl_expression_sound.proofs.Stands.{Stands, here, within, part_sound, parts_sound, IsSoundShape, concluded_sound, as_many_found}
use Rattle.cl_values.specs.Typed.{IsOf}
use Rattle.cl_forms.specs.Heads.{row_of}
use Rattle.cl_values.proofs.OfTypes.{no_larger}
use Rattle.cl_types.specs.TypeKinds.{is_undetermined}

-- ---- match

lub_fine : (r : Result PlainType TyRefusal) → (and_lub r fine).faults.not_same ≡ false → (and_lub r fine).faults.too_large ≡ false → type_rules (and_lub r fine).faults ≡ []
lub_fine (Ok t) h k = refl
lub_fine (Err Differ) h k = absurd cc
lub_fine (Err TooLarge) h k = absurd cc
lub_fine (Err TooDeep) h k = absurd cc
lub_fine (Err EmptyTuple) h k = absurd cc
lub_fine (Err KeyTwice) h k = absurd cc

branches_fine : (b : Bool) (t u : PlainType) → AreFineTypes (if_determined b (lubbed t u)).faults → type_rules (lubbed t u).faults ≡ []
branches_fine b t u h = lub_fine (least_supertype t u) h.not_same h.too_large

module _ (K : World) (N : Stands K) where
  -- a branch that binds a name of this type
  branch_sound : {T : Val → Type 0} (x : List ℕ) (t : PlainType) (a : Tree) (f : Found) → Fitted N.context (bind x t N.names) a f → f.height ≤ N.depth → ((v : Val) → IsThrown f.thrown v → T v) → (w : Val) → IsOf w t → (s : State) → IsKept K s → IsSound K (λ v. IsOf v f.type) T (cost_under K.costs (bound_branch t f)) (taken_with N.take (here K N) x w a s)
  branch_sound x t a f fit low more w i s n =
      sound_more K (plus (cost_under K.costs (Charge Bind (size_of w))) (cost_under K.costs f.bound)) (cost_under K.costs (bound_branch t f)) _ (more_of_both (cost_under K.costs (Charge Bind (size_of w))) (cost_under K.costs (Charge Bind (type_size t))) (cost_under K.costs f.bound) (cost_under K.costs f.bound) (less_charged K.costs Bind (size_of w) (type_size t) (no_larger w t i)) (same_cost (cost_under K.costs f.bound)))
      (sound_charged K Bind (size_of w) (cost_under K.costs f.bound) _ (part_sound K (within K N x t w i) a f fit low more s n))

  match_some : (e : Tree) (x : List ℕ) (a b : Tree) (f fa fb : Found) (t : PlainType) → f.type ≡ OptionalType t → Fitted N.context N.names e f → Fitted N.context (bind x t N.names) a fa → Fitted N.context N.names b fb →
      type_rules (matched (not (is_undetermined t)) (Charge Control 4) f fa fb (bound_branch t fa) fb.bound).faults ≡ [] → (matched (not (is_undetermined t)) (Charge Control 4) f fa fb (bound_branch t fa) fb.bound).found.height ≤ suc N.depth →
      (s : State) → IsKept K s → IsAsFound K (matched (not (is_undetermined t)) (Charge Control 4) f fa fb (bound_branch t fa) fb.bound).found (match_taken N.take (here K N) (Some (OptionalMatch e x a b)) s)
  match_some e x a b f fa fb t is te ta tb types low s n =
      let fs : List Found = f ∷ fa ∷ fb ∷ [] in
      let r : Ruled = if_determined (not (is_undetermined t)) (lubbed fa.type fb.type) in
      let c : Cost5 = greater (cost_under K.costs (bound_branch t fa)) (cost_under K.costs fb.bound) in
      let w : Bill = Both (Charge Control 4) (Both f.bound (Greater (bound_branch t fa) fb.bound)) in
      let fine_r = branches_fine (not (is_undetermined t)) fa.type fb.type (ruling_fine r 0 w fs types) in
      let low_f : f.height ≤ N.depth = omega (arith, low) in
      let low_a : fa.height ≤ N.depth = omega (arith, low) in
      let low_b : fb.height ≤ N.depth = omega (arith, low) in
      concluded_sound K N r 0 w fs _ types
      (sound_charged K Control 4 (plus (cost_under K.costs f.bound) c) _
      (sound_then K (cost_under K.costs f.bound) c _ _ (part_sound K N e f te low_f (λ v k. inl (inl k)) s n)
      (λ v u i m. by low_a low_b fine_r v u (optional_of v t (subst (λ t. IsOf v t) is i)) m)))
    where
      c : Cost5
      c = greater (cost_under K.costs (bound_branch t fa)) (cost_under K.costs fb.bound)

      by : fa.height ≤ N.depth → fb.height ≤ N.depth → type_rules (lubbed fa.type fb.type).faults ≡ [] → (v : Val) (u : State) → IsOptional v t → IsKept K u → IsSound K (λ v. IsOf v (lubbed fa.type fb.type).type) (MayThrow (f ∷ fa ∷ fb ∷ []) (lubbed fa.type fb.type).throws) (greater (cost_under K.costs (bound_branch t fa)) (cost_under K.costs fb.bound)) (match_optional N.take (here K N) x a b v u)
      by low_a low_b fine_r v u (is_none e) m =
          subst (λ v. IsSound K (λ v. IsOf v (lubbed fa.type fb.type).type) (MayThrow (f ∷ fa ∷ fb ∷ []) (lubbed fa.type fb.type).throws) c (match_optional N.take (here K N) x a b v u)) (sym e)
          (sound_more K (cost_under K.costs fb.bound) c _ (right_of_both (cost_under K.costs (bound_branch t fa)) (cost_under K.costs fb.bound))
          (sound_less K (cost_under K.costs fb.bound) _ (λ v i. lub_right v fa.type fb.type fine_r i) (λ v k. k) (part_sound K N b fb tb low_b (λ v k. inl (inr (inr (inl k)))) u m)))
      by low_a low_b fine_r v u (is_some_value w e j) m =
          subst (λ v. IsSound K (λ v. IsOf v (lubbed fa.type fb.type).type) (MayThrow (f ∷ fa ∷ fb ∷ []) (lubbed fa.type fb.type).throws) c (match_optional N.take (here K N) x a b v u)) (sym e)
          (sound_more K (cost_under K.costs (bound_branch t fa)) c _ (left_of_both (cost_under K.costs (bound_branch t fa)) (cost_under K.costs fb.bound))
          (sound_less K (cost_under K.costs (bound_branch t fa)) _ (λ v i. lub_left v fa.type fb.type fine_r i) (λ v k. k) (branch_sound x t a fa ta low_a (λ v k. inl (inr (inl k))) w j u m)))

  match_two : (e : Tree) (x : List ℕ) (a b : Tree) (f : Found) (fs : List Found) (t : PlainType) → f.type ≡ OptionalType t → Fitted N.context N.names e f → Follows N.context (Part (bind x t N.names) a (Part N.names b Ends)) fs →
      type_rules (match_verdict true (Charge Control 4) (f ∷ fs)).faults ≡ [] → (match_verdict true (Charge Control 4) (f ∷ fs)).found.height ≤ suc N.depth →
      (s : State) → IsKept K s → IsAsFound K (match_verdict true (Charge Control 4) (f ∷ fs)).found (match_taken N.take (here K N) (Some (OptionalMatch e x a b)) s)
  match_two e x a b f _ t is te (part {f = fa} ta (part {f = fb} tb ends)) types low s n =
      subst (λ u. type_rules (optional_verdict (Charge Control 4) f fa fb u).faults ≡ [] → (optional_verdict (Charge Control 4) f fa fb u).found.height ≤ suc N.depth → IsAsFound K (optional_verdict (Charge Control 4) f fa fb u).found (match_taken N.take (here K N) (Some (OptionalMatch e x a b)) s)) (sym is)
      (λ types low. match_some e x a b f fa fb t is te ta tb types low s n) types low

  not_optional : (b : Tree) (f : Found) (fs : List Found) → Follows N.context (Part N.names b Ends) fs → type_rules (match_verdict true (Charge Control 4) (f ∷ fs)).faults ≡ [] → ⊥
  not_optional b f _ (part tb ends) types = absurd cc

  match_four : (e : Tree) (x : List ℕ) (a b : Tree) (f : Found) (fs : List Found) (t : PlainType) → f.type ≡ t → Fitted N.context N.names e f → Follows N.context (optional_plan N.names x a b t) fs →
      type_rules (match_verdict true (Charge Control 4) (f ∷ fs)).faults ≡ [] → (match_verdict true (Charge Control 4) (f ∷ fs)).found.height ≤ suc N.depth →
      (s : State) → IsKept K s → IsAsFound K (match_verdict true (Charge Control 4) (f ∷ fs)).found (match_taken N.take (here K N) (Some (OptionalMatch e x a b)) s)
  match_four e x a b f fs (OptionalType t) is te follows types low s n = match_two e x a b f fs t is te follows types low s n
  match_four e x a b f fs t is te follows types low s n = absurd (not_optional b f fs follows types)

  match_answer : (e : Tree) (x y : List ℕ) (a b : Tree) (f fa fb : Found) (t u : PlainType) → f.type ≡ ResponseType t u → Fitted N.context N.names e f → Fitted N.context (bind x t N.names) a fa → Fitted N.context (bind y u N.names) b fb →
      type_rules (matched (not (is_undetermined t || is_undetermined u)) (Charge Control 5) f fa fb (bound_branch t fa) (bound_branch u fb)).faults ≡ [] → (matched (not (is_undetermined t || is_undetermined u)) (Charge Control 5) f fa fb (bound_branch t fa) (bound_branch u fb)).found.height ≤ suc N.depth →
      (s : State) → IsKept K s → IsAsFound K (matched (not (is_undetermined t || is_undetermined u)) (Charge Control 5) f fa fb (bound_branch t fa) (bound_branch u fb)).found (match_taken N.take (here K N) (Some (ResponseMatch e x a y b)) s)
  match_answer e x y a b f fa fb t u is te ta tb types low s n =
      let fs : List Found = f ∷ fa ∷ fb ∷ [] in
      let r : Ruled = if_determined (not (is_undetermined t || is_undetermined u)) (lubbed fa.type fb.type) in
      let c : Cost5 = greater (cost_under K.costs (bound_branch t fa)) (cost_under K.costs (bound_branch u fb)) in
      let w : Bill = Both (Charge Control 5) (Both f.bound (Greater (bound_branch t fa) (bound_branch u fb))) in
      let fine_r = branches_fine (not (is_undetermined t || is_undetermined u)) fa.type fb.type (ruling_fine r 0 w fs types) in
      let low_f : f.height ≤ N.depth = omega (arith, low) in
      let low_a : fa.height ≤ N.depth = omega (arith, low) in
      let low_b : fb.height ≤ N.depth = omega (arith, low) in
      concluded_sound K N r 0 w fs _ types
      (sound_charged K Control 5 (plus (cost_under K.costs f.bound) c) _
      (sound_then K (cost_under K.costs f.bound) c _ _ (part_sound K N e f te low_f (λ v k. inl (inl k)) s n)
      (λ v z i m. by low_a low_b fine_r v z (response_of v t u (subst (λ t. IsOf v t) is i)) m)))
    where
      c : Cost5
      c = greater (cost_under K.costs (bound_branch t fa)) (cost_under K.costs (bound_branch u fb))

      by : fa.height ≤ N.depth → fb.height ≤ N.depth → type_rules (lubbed fa.type fb.type).faults ≡ [] → (v : Val) (z : State) → IsResponse v t u → IsKept K z → IsSound K (λ v. IsOf v (lubbed fa.type fb.type).type) (MayThrow (f ∷ fa ∷ fb ∷ []) (lubbed fa.type fb.type).throws) (greater (cost_under K.costs (bound_branch t fa)) (cost_under K.costs (bound_branch u fb))) (match_response N.take (here K N) x a y b v z)
      by low_a low_b fine_r v z (is_ok w e j) m =
          subst (λ v. IsSound K (λ v. IsOf v (lubbed fa.type fb.type).type) (MayThrow (f ∷ fa ∷ fb ∷ []) (lubbed fa.type fb.type).throws) c (match_response N.take (here K N) x a y b v z)) (sym e)
          (sound_more K (cost_under K.costs (bound_branch t fa)) c _ (left_of_both (cost_under K.costs (bound_branch t fa)) (cost_under K.costs (bound_branch u fb)))
          (sound_less K (cost_under K.costs (bound_branch t fa)) _ (λ v i. lub_left v fa.type fb.type fine_r i) (λ v k. k) (branch_sound x t a fa ta low_a (λ v k. inl (inr (inl k))) w j z m)))
      by low_a low_b fine_r v z (is_err w e j) m =
          subst (λ v. IsSound K (λ v. IsOf v (lubbed fa.type fb.type).type) (MayThrow (f ∷ fa ∷ fb ∷ []) (lubbed fa.type fb.type).throws) c (match_response N.take (here K N) x a y b v z)) (sym e)
          (sound_more K (cost_under K.costs (bound_branch u fb)) c _ (right_of_both (cost_under K.costs (bound_branch t fa)) (cost_under K.costs (bound_branch u fb)))
          (sound_less K (cost_under K.costs (bound_branch u fb)) _ (λ v i. lub_right v fa.type fb.type fine_r i) (λ v k. k) (branch_sound y u b fb tb low_b (λ v k. inl (inr (inr (inl k)))) w j z m)))

  match_both : (e : Tree) (x y : List ℕ) (a b : Tree) (f : Found) (fs : List Found) (t u : PlainType) → f.type ≡ ResponseType t u → Fitted N.context N.names e f → Follows N.context (Part (bind x t N.names) a (Part (bind y u N.names) b Ends)) fs →
      type_rules (match_verdict false (Charge Control 5) (f ∷ fs)).faults ≡ [] → (match_verdict false (Charge Control 5) (f ∷ fs)).found.height ≤ suc N.depth →
      (s : State) → IsKept K s → IsAsFound K (match_verdict false (Charge Control 5) (f ∷ fs)).found (match_taken N.take (here K N) (Some (ResponseMatch e x a y b)) s)
  match_both e x y a b f _ t u is te (part {f = fa} ta (part {f = fb} tb ends)) types low s n =
      subst (λ z. type_rules (response_verdict (Charge Control 5) f fa fb z).faults ≡ [] → (response_verdict (Charge Control 5) f fa fb z).found.height ≤ suc N.depth → IsAsFound K (response_verdict (Charge Control 5) f fa fb z).found (match_taken N.take (here K N) (Some (ResponseMatch e x a y b)) s)) (sym is)
      (λ types low. match_answer e x y a b f fa fb t u is te ta tb types low s n) types low

  not_response : (f : Found) (fs : List Found) → Follows N.context Ends fs → type_rules (match_verdict false (Charge Control 5) (f ∷ fs)).faults ≡ [] → ⊥
  not_response f _ ends types = absurd cc

  match_five : (e : Tree) (x y : List ℕ) (a b : Tree) (f : Found) (fs : List Found) (t : PlainType) → f.type ≡ t → Fitted N.context N.names e f → Follows N.context (response_plan N.names x a y b t) fs →
      type_rules (match_verdict false (Charge Control 5) (f ∷ fs)).faults ≡ [] → (match_verdict false (Charge Control 5) (f ∷ fs)).found.height ≤ suc N.depth →
      (s : State) → IsKept K s → IsAsFound K (match_verdict false (Charge Control 5) (f ∷ fs)).found (match_taken N.take (here K N) (Some (ResponseMatch e x a y b)) s)
  match_five e x y a b f fs (ResponseType t u) is te follows types low s n = match_both e x y a b f fs t u is te follows types low s n
  match_five e x y a b f fs t is te follows types low s n = absurd (not_response f fs follows types)

  optional_sound : (e : Tree) (x : List ℕ) (at : Span) (a b : Tree) → IsSoundShape K N (head_shape Match (row_of Match) N.context N.names (e ∷ LeafAt (Named x) at ∷ a ∷ b ∷ [])) (match_form N.take (here K N) (e ∷ LeafAt (Named x) at ∷ a ∷ b ∷ []))
  unfolding head_shape match_form
  optional_sound e x at a b = record { each = λ fs shape follows. by fs follows }
    where
      by : (fs : List Found) → Follows N.context (Gives N.names e (λ f. optional_plan N.names x a b f.type)) fs → type_rules (match_verdict true (Charge Control 4) fs).faults ≡ [] → (match_verdict true (Charge Control 4) fs).found.height ≤ suc N.depth → (s : State) → IsKept K s → IsAsFound K (match_verdict true (Charge Control 4) fs).found (match_taken N.take (here K N) (Some (OptionalMatch e x a b)) s)
      by _ (gives {f = f} {fs = fs} t ts) types low s n = match_four e x a b f fs f.type refl t ts types low s n

  response_sound : (e : Tree) (x : List ℕ) (at : Span) (a : Tree) (y : List ℕ) (at' : Span) (b : Tree) → IsSoundShape K N (head_shape Match (row_of Match) N.context N.names (e ∷ LeafAt (Named x) at ∷ a ∷ LeafAt (Named y) at' ∷ b ∷ [])) (match_form N.take (here K N) (e ∷ LeafAt (Named x) at ∷ a ∷ LeafAt (Named y) at' ∷ b ∷ []))
  unfolding head_shape match_form
  response_sound e x at a y at' b = record { each = λ fs shape follows. by fs follows }
    where
      by : (fs : List Found) → Follows N.context (Gives N.names e (λ f. response_plan N.names x a y b f.type)) fs → type_rules (match_verdict false (Charge Control 5) fs).faults ≡ [] → (match_verdict false (Charge Control 5) fs).found.height ≤ suc N.depth → (s : State) → IsKept K s → IsAsFound K (match_verdict false (Charge Control 5) fs).found (match_taken N.take (here K N) (Some (ResponseMatch e x a y b)) s)
      by _ (gives {f = f} {fs = fs} t ts) types low s n = match_five e x y a b f fs f.type refl t ts types low s n

  pub match_sound : (es : List Tree) → IsSoundShape K N (head_shape Match (row_of Match) N.context N.names es) (match_form N.take (here K N) es)
  unfolding head_shape
  match_sound es = record {
    each = λ fs shape.
        let fine = fine_shape (head_shape Match (row_of Match) N.context N.names es).faults shape in
        (match_is_read (λ es. IsSoundShape K N (head_shape Match (row_of Match) N.context N.names es) (match_form N.take (here K N) es)) optional_sound response_sound es fine.argument_count fine.bad_binding).each fs shape;
  }

-- ---- let

more_than_none : (n : ℕ) → nat_eq n 0 ≡ false → 0 < n
more_than_none zero h = absurd cc
more_than_none (suc n) h = omega arith

module _ (K : World) where
  let_body : (N : Stands K) (body : List Tree) (fs : List Found) → Follows N.context (all_parts N.names body) fs → 0 < length body → highest fs ≤ N.depth → (s : State) → IsKept K s → IsSound K (λ v. IsOf v (last_type (types_of fs))) (ThrownIn fs) (plus zero_cost (cost_under K.costs (sum_of fs))) (let_in N.take body (here K N) [] s)
  unfolding let_in
  let_body N body fs follows some low s n =
      let many = as_many_found K N body fs follows in
      let some_types : 0 < length (types_of fs) = omega (arith, many, some) in
      sound_more K (cost_under K.costs (sum_of fs)) (plus zero_cost (cost_under K.costs (sum_of fs))) _ (at_most (cost_under K.costs (sum_of fs)) (plus (cost_under K.costs (sum_of fs)) zero_cost) (plus zero_cost (cost_under K.costs (sum_of fs))) (alone (cost_under K.costs (sum_of fs))) (turned (cost_under K.costs (sum_of fs)) zero_cost))
      (sound_last K (cost_under K.costs (sum_of fs)) _ _ (parts_sound K N body fs follows low s n) (λ vs t is m. last_sound K (types_of fs) vs t is some_types m))

  let_each : (bs : List Tree) (N : Stands K) (body : List Tree) (fs : List Found) → is_some (bindings_of bs) ≡ true → Follows N.context (let_plan body N.names (filter_map binding_of bs)) fs → 0 < length body → highest fs ≤ N.depth → (s : State) → IsKept K s →
      IsSound K (λ v. IsOf v (last_type (types_of (drop (length bs) fs)))) (ThrownIn fs) (plus (cost_under K.costs (binds (types_of (take (length bs) fs)))) (cost_under K.costs (sum_of fs))) (let_in N.take body (here K N) bs s)
  unfolding let_in
  let_each [] N body fs are follows some low s n = let_body N body fs follows some low s n
  let_each (b ∷ bs) N body fs are follows some low s n =
      by (binding_of b) (bindings_of bs) are fs follows low (λ N fs are follows low s n. let_each bs N body fs are follows some low s n)
    where
      next : (p : List ℕ × Tree) (fs : List Found) → Follows N.context (let_plan body N.names (p ∷ filter_map binding_of bs)) fs → highest fs ≤ N.depth →
          ((N : Stands K) (fs : List Found) → Follows N.context (let_plan body N.names (filter_map binding_of bs)) fs → highest fs ≤ N.depth → (s : State) → IsKept K s →
          IsSound K (λ v. IsOf v (last_type (types_of (drop (length bs) fs)))) (ThrownIn fs) (plus (cost_under K.costs (binds (types_of (take (length bs) fs)))) (cost_under K.costs (sum_of fs))) (let_in N.take body (here K N) bs s)) →
          IsSound K (λ v. IsOf v (last_type (types_of (drop (length (b ∷ bs)) fs)))) (ThrownIn fs) (plus (cost_under K.costs (binds (types_of (take (length (b ∷ bs)) fs)))) (cost_under K.costs (sum_of fs)))
          (and_then (N.take (here K N) p.1 s) (λ v u. charged Bind (size_of v) (let_in N.take body (binding p.0 v (here K N)) bs u)))
      next p _ (gives {f = f} {fs = fs} t ts) low rest =
          let low_f : f.height ≤ N.depth = omega (arith, low) in
          let low_fs : highest fs ≤ N.depth = omega (arith, low) in
          let later : Cost5 = plus (cost_under K.costs (binds (types_of (take (length bs) fs)))) (cost_under K.costs (sum_of fs)) in
          sound_more K (plus (cost_under K.costs f.bound) (plus (cost_under K.costs (Charge Bind (type_size f.type))) later)) _ _ (bindings_first (cost_under K.costs f.bound) (cost_under K.costs (Charge Bind (type_size f.type))) (cost_under K.costs (binds (types_of (take (length bs) fs)))) (cost_under K.costs (sum_of fs)))
          (sound_then K (cost_under K.costs f.bound) (plus (cost_under K.costs (Charge Bind (type_size f.type))) later) _ _ (part_sound K N p.1 f t low_f (λ v k. inl k) s n)
          (λ v u i m. sound_more K (plus (cost_under K.costs (Charge Bind (size_of v))) later) (plus (cost_under K.costs (Charge Bind (type_size f.type))) later) _ (more_of_both (cost_under K.costs (Charge Bind (size_of v))) (cost_under K.costs (Charge Bind (type_size f.type))) later later (less_charged K.costs Bind (size_of v) (type_size f.type) (no_larger v f.type i)) (same_cost later))
          (sound_charged K Bind (size_of v) later _ (sound_less K later _ (λ v k. k) (λ v k. inr k) (rest (within K N p.0 f.type v i) fs ts low_fs u m)))))

      by : (o : Option (List ℕ × Tree)) (os : Option (List (List ℕ × Tree))) → is_some (and_binding o os) ≡ true → (fs : List Found) → Follows N.context (let_plan body N.names (cons_option o (filter_map binding_of bs))) fs → highest fs ≤ N.depth →
          ((N : Stands K) (fs : List Found) → is_some os ≡ true → Follows N.context (let_plan body N.names (filter_map binding_of bs)) fs → highest fs ≤ N.depth → (s : State) → IsKept K s →
          IsSound K (λ v. IsOf v (last_type (types_of (drop (length bs) fs)))) (ThrownIn fs) (plus (cost_under K.costs (binds (types_of (take (length bs) fs)))) (cost_under K.costs (sum_of fs))) (let_in N.take body (here K N) bs s)) →
          IsSound K (λ v. IsOf v (last_type (types_of (drop (length (b ∷ bs)) fs)))) (ThrownIn fs) (plus (cost_under K.costs (binds (types_of (take (length (b ∷ bs)) fs)))) (cost_under K.costs (sum_of fs)))
          (with_known o (λ p t. and_then (N.take (here K N) p.1 t) (λ v u. charged Bind (size_of v) (let_in N.take body (binding p.0 v (here K N)) bs u))) s)
      by (Some p) (Some ps) are fs follows low rest = next p fs follows low (λ N fs. rest N fs refl)
      by (Some p) None are fs follows low rest = absurd cc
      by None (Some ps) are fs follows low rest = absurd cc
      by None None are fs follows low rest = absurd cc

  let_by : (N : Stands K) (bs body : List Tree) (fs : List Found) → is_some (bindings_of bs) ≡ true → 0 < length body → Follows N.context (let_plan body N.names (filter_map binding_of bs)) fs → type_rules (let_verdict (length bs) (Charge Control (suc (length body))) fs).faults ≡ [] → (let_verdict (length bs) (Charge Control (suc (length body))) fs).found.height ≤ suc N.depth →
      (s : State) → IsKept K s → IsAsFound K (let_verdict (length bs) (Charge Control (suc (length body))) fs).found (charged Control (suc (length body)) (let_in N.take body (here K N) bs s))
  let_by N bs body fs are some follows types low s n =
      let r : Ruled = last_row (types_of (drop (length bs) fs)) in
      let own : Bill = Charge Control (suc (length body)) in
      let names : Bill = binds (types_of (take (length bs) fs)) in
      let w : Bill = Both (Both own names) (sum_of fs) in
      let low_fs : highest fs ≤ N.depth = omega (arith, low) in
      concluded_sound K N r 0 w fs _ types
      (sound_more K (plus (cost_under K.costs own) (plus (cost_under K.costs names) (cost_under K.costs (sum_of fs)))) (cost_under K.costs w) _ (grouped (cost_under K.costs own) (cost_under K.costs names) (cost_under K.costs (sum_of fs)))
      (sound_charged K Control (suc (length body)) (plus (cost_under K.costs names) (cost_under K.costs (sum_of fs))) _
      (sound_less K (plus (cost_under K.costs names) (cost_under K.costs (sum_of fs))) _ (λ v k. k) (λ v k. inl k) (let_each bs N body fs are follows some low_fs s n))))

  pub let_sound : (N : Stands K) (es : List Tree) → IsSoundShape K N (head_shape Let (row_of Let) N.context N.names es) (let_form N.take (here K N) es)
  unfolding head_shape let_form
  let_sound N [] = record { each = λ fs shape follows types low s n. absurd cc }
  let_sound N (ListAt bs at ∷ body) = record {
    each = λ fs shape follows types low s n.
        let fine = fine_shape (let_with (row_of Let) N.context N.names (trees_of bs) body).faults shape in
        let_by N (trees_of bs) body fs (not_false (is_some (bindings_of (trees_of bs))) fine.bad_binding) (more_than_none (length body) fine.argument_count) follows types low s n;
  }
  let_sound N (e ∷ body) = record { each = λ fs shape follows types low s n. let h = (fine_shape (head_shape Let (row_of Let) N.context N.names (e ∷ body)).faults shape).bad_binding in absurd cc }

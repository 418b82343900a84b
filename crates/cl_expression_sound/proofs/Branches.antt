-- if and begin.
use Rattle.std.proofs.Common.{◌≡◌, inl, inr, suc, ◌≤◌, ◌<◌, List, [], ◌∷◌, length, None, subst, arith}
use Rattle.cl_shapes.specs.declared.name.CostName.TheVariants.{Control}
use Rattle.cl_shapes.specs.Costs.{plus, greater}
use Rattle.cl_sexpr.specs.Tree.{Tree}
use Rattle.cl_forms.specs.declared.head.Head.TheVariants.{If, Begin}
use Rattle.cl_events.specs.State.{State}
use Rattle.cl_meaning.specs.Answers.{charged, and_then}
use Rattle.cl_meaning.specs.Scope.{parts}
use Rattle.cl_meaning.specs.Control.{if_form, begin_form, last_of}
use Rattle.cl_rules.specs.Faults.{type_rules}
use Rattle.cl_rules.specs.NativeTypes.{Ruled, lubbed, if_kind}
use Rattle.cl_rules.specs.Bills.{Bill, Charge, Both, Greater, cost_under}
use Rattle.cl_rules.specs.Verdicts.{Found, types_of, highest, sum_of}
use Rattle.cl_rules.specs.Shapes.{parts as all_parts}
use Rattle.cl_rules.specs.ControlShapes.{if_verdict, last_row}
use Rattle.cl_rules.specs.Table.{head_shape}
use Rattle.cl_expression_sound.specs.Fitted.{Follows, ends, part}
use Rattle.cl_expression_sound.specs.Sound.{World, IsSound, IsAsFound, IsKept}
use Rattle.cl_expression_sound.proofs.Costs.{left_of_both, right_of_both}
use Rattle.cl_expression_sound.proofs.Logic.{sound_more, sound_less, sound_charged, sound_then, sound_last}
use Rattle.cl_expression_sound.proofs.Rules.{fine_shape}
use Rattle.cl_expression_sound.proofs.Thrown.{MayThrow, ruling_fine}
use Rattle.cl_expression_sound.proofs.Values.{truth_of}
use Rattle.cl_expression_sound.proofs.Choices.{unbroken_kind, lub_left, lub_right, choice_sound, last_sound}
use Rattle.cl_expression_sound.proofs.Stands.{Stands, here, part_sound, parts_sound, IsSoundShape, concluded_sound, by_three, counted, some_are, as_many_found}
use Rattle.cl_values.specs.Typed.{IsOf}
use Rattle.cl_forms.specs.Heads.{row_of}
use Rattle.cl_types.specs.TypeKinds.{is_bool}

module _ (K : World) (N : Stands K) where
  if_each : (b x y : Tree) (fs : List Found) → Follows N.context (all_parts N.names (b ∷ x ∷ y ∷ [])) fs → type_rules (if_verdict (Charge Control 3) fs).faults ≡ [] → (if_verdict (Charge Control 3) fs).found.height ≤ suc N.depth → (s : State) → IsKept K s → IsAsFound K (if_verdict (Charge Control 3) fs).found (if_form N.take (here K N) (b ∷ x ∷ y ∷ []) s)
  unfolding if_form
  if_each b x y _ (part {f = c} tc (part {f = f} tf (part {f = g} tg ends))) types low s n =
      let r : Ruled = if_kind (is_bool c.type) (lubbed f.type g.type) in
      let w : Bill = Both (Charge Control 3) (Both c.bound (Greater f.bound g.bound)) in
      let fs : List Found = c ∷ f ∷ g ∷ [] in
      let fine = unbroken_kind (is_bool c.type) (lubbed f.type g.type) (ruling_fine r 0 w fs types) in
      let low_c : c.height ≤ N.depth = omega (arith, low) in
      let low_f : f.height ≤ N.depth = omega (arith, low) in
      let low_g : g.height ≤ N.depth = omega (arith, low) in
      concluded_sound K N r 0 w fs _ types
      (sound_charged K Control 3 (plus (cost_under K.costs c.bound) (greater (cost_under K.costs f.bound) (cost_under K.costs g.bound))) _
      (sound_then K (cost_under K.costs c.bound) (greater (cost_under K.costs f.bound) (cost_under K.costs g.bound)) _ _ (part_sound K N b c tc low_c (λ v k. inl (inl k)) s n)
      (λ v t i m. choice_sound K (greater (cost_under K.costs f.bound) (cost_under K.costs g.bound)) v _ _ t (truth_of v c.type fine.0 i)
      (sound_more K (cost_under K.costs f.bound) (greater (cost_under K.costs f.bound) (cost_under K.costs g.bound)) _ (left_of_both (cost_under K.costs f.bound) (cost_under K.costs g.bound))
      (sound_less K (cost_under K.costs f.bound) _ (λ v i. lub_left v f.type g.type fine.1 i) (λ v k. k) (part_sound K N x f tf low_f (λ v k. inl (inr (inl k))) t m)))
      (sound_more K (cost_under K.costs g.bound) (greater (cost_under K.costs f.bound) (cost_under K.costs g.bound)) _ (right_of_both (cost_under K.costs f.bound) (cost_under K.costs g.bound))
      (sound_less K (cost_under K.costs g.bound) _ (λ v i. lub_right v f.type g.type fine.1 i) (λ v k. k) (part_sound K N y g tg low_g (λ v k. inl (inr (inr (inl k)))) t m))))))

  -- a condition and the branch that it picks
  pub if_sound : (es : List Tree) → IsSoundShape K N (head_shape If (row_of If) N.context N.names es) (if_form N.take (here K N) es)
  unfolding head_shape
  if_sound =
      by_three K N (head_shape If (row_of If) N.context N.names) (if_form N.take (here K N)) (λ es h. counted es 3 h.argument_count)
      (λ b x y. record { each = λ fs shape follows types low s n. if_each b x y fs follows types low s n })

  -- ---- begin

  pub begin_sound : (es : List Tree) → IsSoundShape K N (head_shape Begin (row_of Begin) N.context N.names es) (begin_form N.take (here K N) es)
  unfolding head_shape begin_form
  begin_sound es = record {
    each = λ fs shape follows types low s n.
        let r : Ruled = last_row (types_of fs) in
        let w : Bill = Both (Charge Control (length (types_of fs))) (sum_of fs) in
        let many = as_many_found K N es fs follows in
        let some = some_are es (fine_shape (head_shape Begin (row_of Begin) N.context N.names es).faults shape).argument_count in
        let low_fs : highest fs ≤ N.depth = omega (arith, low) in
        let some_types : 0 < length (types_of fs) = omega (arith, many, some) in
        concluded_sound K N r 0 w fs _ types
        (subst (λ m. IsSound K (λ v. IsOf v r.type) (MayThrow fs None) (plus (cost_under K.costs (Charge Control (length (types_of fs)))) (cost_under K.costs (sum_of fs))) (charged Control m (and_then (parts N.take (here K N) es s) last_of))) many
        (sound_charged K Control (length (types_of fs)) (cost_under K.costs (sum_of fs)) _
        (sound_last K (cost_under K.costs (sum_of fs)) _ _ (sound_less K (cost_under K.costs (sum_of fs)) _ (λ vs k. k) (λ v k. inl k) (parts_sound K N es fs follows low_fs s n))
        (λ vs t is m. last_sound K (types_of fs) vs t is some_types m))));
  }

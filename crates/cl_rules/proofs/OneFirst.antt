-- The first break of a text is one.
use Rattle.std.proofs.Common.{◌≡◌, ℕ, List, length, slice_get, Contains, sym, ap, ◌∙◌, subst, arith}
use Rattle.cl_c32.specs.declared.principal.Principal.{Principal}
use Rattle.cl_shapes.specs.declared.cost.Dimension.{Dimension}
use Rattle.cl_shapes.specs.Costs.{first_above}
use Rattle.cl_sexpr.specs.declared.sexpr.Span.{Span}
use Rattle.cl_sexpr.specs.declared.rule.Rule.{Rule}
use Rattle.cl_sexpr.specs.declared.rule.Rule.TheVariants.{BoundTooLarge}
use Rattle.cl_forms.specs.Texts.{Text}
use Rattle.cl_forms.specs.Forms.{Form}
use Rattle.cl_rules.specs.Bills.{Bill, cost_under}
use Rattle.cl_rules.specs.Context.{CostTable, Known}
use Rattle.cl_rules.specs.FormRules.{Defined, nothing_defined}
use Rattle.cl_rules.specs.FormTyping.{FirstFormBreak}
use Rattle.cl_rules.specs.Acceptance.{Ordered, TypedAs, forms_at, FirstWriting, NoneWrites, most_cost, bound_of, FirstBound, DeploymentAbove, FirstBreakBeforeBounds, unordered, in_typing, in_writing, FirstBreakOf, before_bounds, in_bounds, in_deployment}
use Rattle.cl_rules.proofs.FormWalk.{forms_never_both, one_first_form}
use Rattle.cl_rules.proofs.Accepting.{some_same, none_some, form_in, ordered_same, never_unordered, typed_along, defined_same, typed_clean}
use Rattle.cl_rules.proofs.OneUnordered.{Firsts, Same, one_unordered}

module _ (known : Firsts) (deployed : List Known) (principal : Principal) (table : CostTable) (text : Text) where
  abbrev Start : Defined
  Start = nothing_defined deployed principal text.version (length text.bytes)

  -- ---- a break in one pass, and nothing broken in it

  break_typed : {forms again : List Form} {order places : List ℕ} {D : Defined} {r : Rule} {s : Span} → Ordered text forms order → FirstFormBreak Start (forms_at forms order) r s → TypedAs deployed principal text again places D → ⊥
  break_typed {forms = forms} {order = order} {D = D} {r = r} {s = s} o x t =
      let h = ordered_same known.reading t.is_ordered o in
      forms_never_both Start D (forms_at forms order) r s (typed_along known.reading deployed principal text h.0 h.1 t.are_typed) x

  bound_deployment : {forms again : List Form} {order places : List ℕ} {D E : Defined} {d e : Dimension} {s : Span} → TypedAs deployed principal text forms order D → FirstBound D forms order table d s → TypedAs deployed principal text again places E → DeploymentAbove E again table e → ⊥
  bound_deployment {forms = forms} {order = order} {d = d} t x u y =
      let h = ordered_same known.reading u.is_ordered t.is_ordered in
      none_some d (y.functions x.form x.bound (subst (λ fs. Contains fs x.form) (sym h.0) (form_in forms order x.place x.form x.there)) (ap (λ k. bound_of k x.form) (defined_same known.reading deployed principal text u t) ∙ x.bound_is)) x.above

  -- ---- two breaks in one pass

  two_writings : {forms gorms : List Form} {order places : List ℕ} {s u : Span} → Ordered text forms order → FirstWriting deployed principal forms order s → Ordered text gorms places → FirstWriting deployed principal gorms places u → s ≡ u
  two_writings {forms = forms} {gorms = gorms} {order = order} {places = places} {u = u} o x p y =
      let h = ordered_same known.reading p o in
      let z = subst (λ ps. FirstWriting deployed principal forms ps u) h.1 (subst (λ fs. FirstWriting deployed principal fs places u) h.0 y) in
      let n : x.place ≡ z.place = omega (arith, x.least z.place z.form z.there z.writes, z.least x.place x.form x.there x.writes) in
      let f = some_same x.form z.form (sym x.there ∙ ap (slice_get (forms_at forms order)) n ∙ z.there) in
      sym x.span_is ∙ ap (λ (g : Form). g.span) f ∙ z.span_is

  bound_same : {D : Defined} {forms : List Form} {order : List ℕ} {d e : Dimension} {s u : Span} → FirstBound D forms order table d s → FirstBound D forms order table e u → (d ≡ e) × (s ≡ u)
  bound_same {D = D} {forms = forms} {order = order} {d = d} {e = e} x z =
      let n : x.place ≡ z.place = omega (arith, x.least z.place z.form z.bound e z.there z.bound_is z.above, z.least x.place x.form x.bound d x.there x.bound_is x.above) in
      let f = some_same x.form z.form (sym x.there ∙ ap (slice_get (forms_at forms order)) n ∙ z.there) in
      let b = some_same x.bound z.bound (sym x.bound_is ∙ ap (bound_of D) f ∙ z.bound_is) in
      (some_same d e (sym x.above ∙ ap (λ (k : Bill). first_above most_cost (cost_under table k)) b ∙ z.above), sym x.span_is ∙ ap (λ (g : Form). g.span) f ∙ z.span_is)

  two_bounds : {forms gorms : List Form} {order places : List ℕ} {D E : Defined} {d e : Dimension} {s u : Span} → TypedAs deployed principal text forms order D → FirstBound D forms order table d s → TypedAs deployed principal text gorms places E → FirstBound E gorms places table e u → (d ≡ e) × (s ≡ u)
  two_bounds {forms = forms} {gorms = gorms} {order = order} {places = places} {D = D} {E = E} {e = e} {u = u} t x v y =
      let h = ordered_same known.reading v.is_ordered t.is_ordered in
      let a = subst (λ k. FirstBound k gorms places table e u) (defined_same known.reading deployed principal text v t) y in
      bound_same x (subst (λ ps. FirstBound D forms ps table e u) h.1 (subst (λ fs. FirstBound D fs places table e u) h.0 a))

  two_deployments : {forms gorms : List Form} {order places : List ℕ} {D E : Defined} {d e : Dimension} → TypedAs deployed principal text forms order D → DeploymentAbove D forms table d → TypedAs deployed principal text gorms places E → DeploymentAbove E gorms table e → d ≡ e
  two_deployments {d = d} {e = e} t x v y =
      some_same d e (sym x.above ∙ ap (λ (k : Defined). first_above most_cost (cost_under table k.deploy)) (defined_same known.reading deployed principal text t v) ∙ y.above)

  -- a typed contract in which none writes has no break before its bounds
  none_before : {forms : List Form} {order : List ℕ} {D : Defined} {r : Rule} {s : Span} {n : List (List ℕ)} → TypedAs deployed principal text forms order D → NoneWrites deployed principal forms → FirstBreakBeforeBounds deployed principal text r s n → ⊥
  none_before {r = r} {s = s} {n = n} t none x = typed_clean known.reading deployed principal text r s n t none x

  one_before : (r q : Rule) (s u : Span) (n m : List (List ℕ)) → FirstBreakBeforeBounds deployed principal text r s n → FirstBreakBeforeBounds deployed principal text q u m → Same r s n q u m
  one_before r q s u n m (unordered z) (unordered z') = one_unordered known text r q s u n m z z'
  one_before r q s u n m (unordered z) (in_typing forms order o x e) = absurd (never_unordered known.reading o z)
  one_before r q s u n m (unordered z) (in_writing forms order D t x e f) = absurd (never_unordered known.reading t.is_ordered z)
  one_before r q s u n m (in_typing forms order o x e) (unordered z) = absurd (never_unordered known.reading o z)
  one_before r q s u n m (in_typing forms order o x e) (in_typing forms' order' o' x' e') = let h = ordered_same known.reading o' o in let y = subst (λ fs. FirstFormBreak Start (forms_at fs order) q u) h.0 (subst (λ ps. FirstFormBreak Start (forms_at forms' ps) q u) h.1 x') in let z = one_first_form Start (forms_at forms order) r q s u x y in (z.0, z.1, e ∙ sym e')
  one_before r q s u n m (in_typing forms order o x e) (in_writing forms' order' D' t' x' e' f') = absurd (break_typed o x t')
  one_before r q s u n m (in_writing forms order D t x e f) (unordered z) = absurd (never_unordered known.reading t.is_ordered z)
  one_before r q s u n m (in_writing forms order D t x e f) (in_typing forms' order' o' x' e') = absurd (break_typed o' x' t)
  one_before r q s u n m (in_writing forms order D t x e f) (in_writing forms' order' D' t' x' e' f') = (e ∙ sym e', two_writings t.is_ordered x t'.is_ordered x', f ∙ sym f')

  pub one_first_of : (r q : Rule) (s u : Span) (n m : List (List ℕ)) → FirstBreakOf deployed principal table text r s n → FirstBreakOf deployed principal table text q u m → Same r s n q u m
  one_first_of r q s u n m (before_bounds x) (before_bounds y) = one_before r q s u n m x y
  one_first_of r q s u n m (before_bounds x) (in_bounds forms' order' D' d' t' w' y e' f') = absurd (none_before t' w' x)
  one_first_of r q s u n m (before_bounds x) (in_deployment forms' order' D' d' t' w' y e' f' g') = absurd (none_before t' w' x)
  one_first_of r q s u n m (in_bounds forms order D d t w x e f) (before_bounds y) = absurd (none_before t w y)
  one_first_of r q s u n m (in_deployment forms order D d t w x e f g) (before_bounds y) = absurd (none_before t w y)
  one_first_of r q s u n m (in_bounds forms order D d t w x e f) (in_bounds forms' order' D' d' t' w' x' e' f') = let h = two_bounds t x t' x' in (e ∙ ap BoundTooLarge h.0 ∙ sym e', h.1, f ∙ sym f')
  one_first_of r q s u n m (in_bounds forms order D d t w x e f) (in_deployment forms' order' D' d' t' w' x' e' f' g') = absurd (bound_deployment t x t' x')
  one_first_of r q s u n m (in_deployment forms order D d t w x e f g) (in_bounds forms' order' D' d' t' w' x' e' f') = absurd (bound_deployment t' x' t x)
  one_first_of r q s u n m (in_deployment forms order D d t w x e f g) (in_deployment forms' order' D' d' t' w' x' e' f' g') = (e ∙ ap BoundTooLarge (two_deployments t x t' x') ∙ sym e', f ∙ sym f', g ∙ sym g')

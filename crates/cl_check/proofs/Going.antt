-- Trees that stand for the forms of a text can stand in a text of its version.
use Rattle.std.proofs.Common.{◌≡◌, ℕ, zero, suc, ◌<◌, Bool, true, false, List, [], ◌∷◌, length, map, filter_map, slice_get, Option, Some, None, refl, sym, ap, ◌∙◌, arith}
use Rattle.std.specs.Prelude.{◌&&◌, ◌||◌, nat_eq}
use Rattle.std.specs.List.{cons_option, list_all}
use Rattle.std.proofs.lemmas.Bool.{and_parts, eqb-true}
use Rattle.std.proofs.lemmas.List.{length-map}
use Rattle.cl_forms.specs.declared.version.Version.{Version}
use Rattle.cl_forms.specs.Forms.{Form}
use Rattle.cl_forms.specs.Order.{is_in, IsGoodOrder}
use Rattle.cl_rules.specs.Context.{Context, Names}
use Rattle.cl_rules.specs.Verdicts.{Found}
use Rattle.cl_rules.specs.Shapes.{Plan, Ends, Part, Gives}
use Rattle.cl_rules.specs.Table.{shape}
use Rattle.cl_rules.specs.FormRules.{Defined, form_plan, defined_after}
use Rattle.cl_code.specs.declared.definition.Definition.{Definition}
use Rattle.cl_code.specs.Definitions.{form_defined}
use Rattle.cl_code.specs.Typed.{Typed, Typeds, TypedAs, NoTyped, MoreTyped, typeds, goes_by, all_go_by, has_version}
use Rattle.cl_contracts.specs.Seen.{kind_at, trees_of, goes}
use Rattle.cl_contracts.specs.Standing.{Stands, StandAll}
use Rattle.cl_contracts.specs.Standings.{AllStand}
use Rattle.cl_readonly.proofs.InOrder.{version_after}
use Rattle.cl_check.specs.JudgingForms.{StandingAs}

both : (a b : Bool) → a ≡ true → b ≡ true → (a && b) ≡ true
both a b h k = λ i. h i && k i

-- ---- what stands goes by the version of its context

mutual
  tree_goes : (G : Context) (B : Names) (q : Typed) (f : Found) → Stands G B q f → goes_by G.version q ≡ true
  tree_goes G B (TypedAs e t vs ps) f s = both (has_version vs G.version) (all_go_by G.version ps) s.6 (parts_go G (shape G B e).plan ps s.0 s.2)

  parts_go : (G : Context) (p : Plan) (ps : Typeds) (fs : List Found) → StandAll G p ps fs → all_go_by G.version ps ≡ true
  parts_go G Ends NoTyped [] s = refl
  parts_go G Ends NoTyped (f ∷ fs) s = absurd s
  parts_go G Ends (MoreTyped q qs) fs s = absurd s
  parts_go G (Part B e p) NoTyped fs s = absurd s
  parts_go G (Part B e p) (MoreTyped q qs) [] s = absurd s
  parts_go G (Part B e p) (MoreTyped q qs) (f ∷ fs) s = both (goes_by G.version q) (all_go_by G.version qs) (tree_goes G B q f s.1) (parts_go G p qs fs s.2)
  parts_go G (Gives B e k) NoTyped fs s = absurd s
  parts_go G (Gives B e k) (MoreTyped q qs) [] s = absurd s
  parts_go G (Gives B e k) (MoreTyped q qs) (f ∷ fs) s = both (goes_by G.version q) (all_go_by G.version qs) (tree_goes G B q f s.1) (parts_go G (k f) qs fs s.2)

definitions_go : (D E : Defined) (ds : List Definition) → AllStand D ds E → list_all (goes D.context.version) ds ≡ true
definitions_go D E [] s = refl
definitions_go D E (d ∷ ds) s =
    both (goes D.context.version d) (list_all (goes D.context.version) ds)
    (parts_go D.context (form_plan (kind_at d)) (typeds (trees_of d)) s.0 s.1.trees)
    (ap (λ (v : Version). list_all (goes v) ds) (sym (version_after D d s.0)) ∙ definitions_go (defined_after D (form_defined d) s.0) E ds s.2)

pub standing_goes : (D : Defined) (forms : List Form) (ds : List Definition) → StandingAs D forms ds → list_all (goes D.context.version) ds ≡ true
standing_goes D forms ds s = definitions_go D s.defined ds s.standing

-- ---- definitions in the order of evaluation, and in that of the text

module _ (p : Definition → Bool) where
  later : (o : Option Definition) (ds : List Definition) → list_all p (cons_option o ds) ≡ true → list_all p ds ≡ true
  later None ds h = h
  later (Some d) ds h = (and_parts (p d) (list_all p ds) h).1

  of_place : (ds : List Definition) (order : List ℕ) (n : ℕ) (d : Definition) → list_all p (filter_map (slice_get ds) order) ≡ true → is_in n order ≡ true → slice_get ds n ≡ Some d → p d ≡ true
  of_place ds [] n d h i there = absurd cc
  of_place ds (m ∷ order) n d h i there = by (nat_eq n m) refl i (λ j. of_place ds order n d (later (slice_get ds m) (filter_map (slice_get ds) order) h) j there)
    where
      by : (b : Bool) → nat_eq n m ≡ b → (b || is_in n order) ≡ true → (is_in n order ≡ true → p d ≡ true) → p d ≡ true
      by true e j rest =
          let here : slice_get ds m ≡ Some d = ap (slice_get ds) (sym (eqb-true n m e)) ∙ there in
          (and_parts (p d) (list_all p (filter_map (slice_get ds) order)) (ap (λ (o : Option Definition). list_all p (cons_option o (filter_map (slice_get ds) order))) (sym here) ∙ h)).0
      by false e j rest = rest j

  of_each_place : (ds : List Definition) → ((n : ℕ) (d : Definition) → n < length ds → slice_get ds n ≡ Some d → p d ≡ true) → list_all p ds ≡ true
  of_each_place [] h = refl
  of_each_place (d ∷ ds) h = both (p d) (list_all p ds) (h zero d (omega arith) refl) (of_each_place ds (λ n e low there. h (suc n) e (omega (arith, low)) there))

  -- what holds of each definition in the order of evaluation holds of each in the order of the text
  pub in_text : (ds : List Definition) (forms : List Form) (order : List ℕ) → IsGoodOrder forms order → map form_defined ds ≡ forms → list_all p (filter_map (slice_get ds) order) ≡ true → list_all p ds ≡ true
  in_text ds forms order good are h =
      let long : length ds ≡ length forms = sym (length-map ds form_defined) ∙ ap length are in
      of_each_place ds (λ n d low there. of_place ds order n d h (good.complete n (omega (arith, low, long))) there)

-- What the plain program answers is so.
use Rattle.std.proofs.Common.{◌≡◌, ℕ, zero, suc, List, [], ◌∷◌, refl}
use Rattle.cl_sexpr.specs.declared.rule.Rule.{Rule}
use Rattle.cl_sexpr.specs.Tree.{Tree, span_of}
use Rattle.cl_forms.specs.Forms.{Form}
use Rattle.cl_rules.specs.Faults.{form_rules}
use Rattle.cl_rules.specs.Context.{Context, Names}
use Rattle.cl_rules.specs.Verdicts.{Found}
use Rattle.cl_rules.specs.Shapes.{Plan, Ends, Part, Gives}
use Rattle.cl_rules.specs.Table.{shape}
use Rattle.cl_rules.specs.Typing.{broken_shape, broken_types, found_by, Typed, typed, Follows, ends, part, gives}
use Rattle.cl_rules.specs.Walks.{Stops, at_shape, in_part, at_types, StopsIn, stops_part, later_part, stops_gives, later_gives, FormStops, in_plan, at_form, FormsStop, at_first, later}
use Rattle.cl_rules.specs.FormRules.{Defined, form_plan, form_faults, defined_after}
use Rattle.cl_rules.specs.FormTyping.{FormTyped, form_typed, FormsTyped, no_more, one_more}
use Rattle.cl_rules.specs.Judging.{Judged, Holds, Fails, Deeper, and_judged, unless_broken, walked, judged, nesting, form_judged, forms_judged}

module _ (G : Context) where
  abbrev pub IsSo : Names → Tree → Judged Found → Type 0
  IsSo B e (Holds f) = Typed G B e f
  IsSo B e (Fails r s) = Stops G B e r s
  IsSo B e Deeper = Unit {0}

  abbrev pub IsSoIn : Plan → Judged (List Found) → Type 0
  IsSoIn p (Holds fs) = Follows G p fs
  IsSoIn p (Fails r s) = StopsIn G p r s
  IsSoIn p Deeper = Unit {0}

  part_so : (B : Names) (e : Tree) (p : Plan) (j : Judged Found) (w : Judged (List Found)) → IsSo B e j → IsSoIn p w → IsSoIn (Part B e p) (and_judged j (λ f. and_judged w (λ fs. Holds (f ∷ fs))))
  part_so B e p (Holds f) (Holds fs) h k = part h k
  part_so B e p (Holds f) (Fails r s) h k = later_part h k
  part_so B e p (Holds f) Deeper h k = tt
  part_so B e p (Fails r s) w h k = stops_part h
  part_so B e p Deeper w h k = tt

  given_so : (B : Names) (e : Tree) (k : Found → Plan) (f : Found) (w : Judged (List Found)) → Typed G B e f → IsSoIn (k f) w → IsSoIn (Gives B e k) (and_judged w (λ fs. Holds (f ∷ fs)))
  given_so B e k f (Holds fs) h i = gives h i
  given_so B e k f (Fails r s) h i = later_gives h i
  given_so B e k f Deeper h i = tt

  gives_so : (B : Names) (e : Tree) (k : Found → Plan) (j : Judged Found) (w : Found → Judged (List Found)) → IsSo B e j → ((f : Found) → IsSoIn (k f) (w f)) → IsSoIn (Gives B e k) (and_judged j (λ f. and_judged (w f) (λ fs. Holds (f ∷ fs))))
  gives_so B e k (Holds f) w h i = given_so B e k f (w f) h (i f)
  gives_so B e k (Fails r s) w h i = stops_gives h
  gives_so B e k Deeper w h i = tt

  pub walk_so : (judge : Names → Tree → Judged Found) → ((B : Names) (e : Tree) → IsSo B e (judge B e)) → (p : Plan) → IsSoIn p (walked judge p)
  walk_so judge h Ends = ends
  walk_so judge h (Part B e p) = part_so B e p (judge B e) (walked judge p) (h B e) (walk_so judge h p)
  walk_so judge h (Gives B e k) = gives_so B e k (judge B e) (λ f. walked judge (k f)) (h B e) (λ f. walk_so judge h (k f))

  types_so : (B : Names) (e : Tree) (fs : List Found) → broken_shape G B e ≡ [] → Follows G (shape G B e).plan fs → (rs : List Rule) → broken_types G B e fs ≡ rs → IsSo B e (unless_broken rs (span_of e) (λ _. Holds (found_by G B e fs)))
  types_so B e fs b h [] c = typed fs b h c refl
  types_so B e fs b h (r ∷ rs) c = at_types fs rs b h c

  parts_so : (B : Names) (e : Tree) → broken_shape G B e ≡ [] → (w : Judged (List Found)) → IsSoIn (shape G B e).plan w → IsSo B e (and_judged w (λ fs. unless_broken (broken_types G B e fs) (span_of e) (λ _. Holds (found_by G B e fs))))
  parts_so B e b (Holds fs) h = types_so B e fs b h (broken_types G B e fs) refl
  parts_so B e b (Fails r s) h = in_part b h
  parts_so B e b Deeper h = tt

  shape_so : (B : Names) (e : Tree) (w : Judged (List Found)) → IsSoIn (shape G B e).plan w → (rs : List Rule) → broken_shape G B e ≡ rs → IsSo B e (unless_broken rs (span_of e) (λ _. and_judged w (λ fs. unless_broken (broken_types G B e fs) (span_of e) (λ _. Holds (found_by G B e fs)))))
  shape_so B e w h [] b = parts_so B e b w h
  shape_so B e w h (r ∷ rs) b = at_shape rs b

  pub judged_so : (d : ℕ) (B : Names) (e : Tree) → IsSo B e (judged d G B e)
  unfolding judged
  judged_so zero = λ B e. tt
  judged_so (suc d) = λ B e. shape_so B e (walked (judged d G) (shape G B e).plan) (walk_so (judged d G) (judged_so d) (shape G B e).plan) (broken_shape G B e) refl

abbrev pub FormIsSo : Defined → Form → Judged Defined → Type 0
FormIsSo D form (Holds E) = FormTyped D form E
FormIsSo D form (Fails r s) = FormStops D form r s
FormIsSo D form Deeper = Unit {0}

form_types_so : (D : Defined) (form : Form) (fs : List Found) → Follows D.context (form_plan form.kind) fs → (rs : List Rule) → form_rules (form_faults form.kind fs) ≡ rs → FormIsSo D form (unless_broken rs form.span (λ _. Holds (defined_after D form fs)))
form_types_so D form fs h [] c = form_typed fs h c refl
form_types_so D form fs h (r ∷ rs) c = at_form fs rs h c refl

form_parts_so : (D : Defined) (form : Form) (w : Judged (List Found)) → IsSoIn D.context (form_plan form.kind) w → FormIsSo D form (and_judged w (λ fs. unless_broken (form_rules (form_faults form.kind fs)) form.span (λ _. Holds (defined_after D form fs))))
form_parts_so D form (Holds fs) h = form_types_so D form fs h (form_rules (form_faults form.kind fs)) refl
form_parts_so D form (Fails r s) h = in_plan h
form_parts_so D form Deeper h = tt

pub form_so : (D : Defined) (form : Form) → FormIsSo D form (form_judged D form)
unfolding form_judged
form_so D form = form_parts_so D form (walked (judged nesting D.context) (form_plan form.kind)) (walk_so D.context (judged nesting D.context) (judged_so D.context nesting) (form_plan form.kind))

abbrev pub FormsAreSo : Defined → List Form → Judged Defined → Type 0
FormsAreSo D forms (Holds E) = FormsTyped D forms E
FormsAreSo D forms (Fails r s) = FormsStop D forms r s
FormsAreSo D forms Deeper = Unit {0}

more_so : (D E : Defined) (form : Form) (forms : List Form) → FormTyped D form E → (w : Judged Defined) → FormsAreSo E forms w → FormsAreSo D (form ∷ forms) w
more_so D E form forms h (Holds F) k = one_more h k
more_so D E form forms h (Fails r s) k = later h k
more_so D E form forms h Deeper k = tt

next_so : (D : Defined) (form : Form) (forms : List Form) (j : Judged Defined) (w : Defined → Judged Defined) → FormIsSo D form j → ((E : Defined) → FormsAreSo E forms (w E)) → FormsAreSo D (form ∷ forms) (and_judged j w)
next_so D form forms (Holds E) w h k = more_so D E form forms h (w E) (k E)
next_so D form forms (Fails r s) w h k = at_first h
next_so D form forms Deeper w h k = tt

pub forms_so : (forms : List Form) (D : Defined) → FormsAreSo D forms (forms_judged D forms)
unfolding forms_judged
forms_so [] = λ D. no_more refl
forms_so (form ∷ forms) = λ D. next_so D form forms (form_judged D form) (λ E. forms_judged E forms) (form_so D form) (forms_so forms)

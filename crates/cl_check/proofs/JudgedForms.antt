-- Forms are judged with the definitions that stand for them.
use Rattle.std.proofs.Common.{◌≡◌, ℕ, ◌+◌, inr, add-one, List, [], ◌∷◌, ◌++◌, Option, Some, None, Result, Ok, Err, refl, ap, sym, subst, ◌∙◌}
use Rattle.cl_types.specs.Types.{PlainType, NoType}
use Rattle.std.specs.Prelude.{unwrap_or}
use Rattle.std.specs.Global.{Vec}
use Rattle.std.specs.Result.{IsErrAnd}
use Rattle.cl_types.specs.declared.fault.Fault.{Fault}
use Rattle.cl_types.specs.declared.fault.Fault.TheVariants.{Refused, NoMemory}
use Rattle.cl_types.specs.declared.sized.Access.{Access}
use Rattle.cl_sexpr.specs.declared.sexpr.Span.{Span}
use Rattle.cl_sexpr.specs.declared.rule.Rule.{Rule}
use Rattle.cl_sexpr.specs.declared.rule.Break.{Break}
use Rattle.cl_sexpr.specs.Tree.{Tree}
use Rattle.cl_forms.specs.Forms.{Form, FormKind, ConstantForm, VariableForm, MapForm, FungibleForm, NonFungibleForm, FunctionForm, ExpressionForm}
use Rattle.cl_code.specs.Typed.{Typed, expression_of, type_of, MoreTyped, NoTyped}
use Rattle.cl_code.specs.declared.definition.Definition.{Definition}
use Rattle.cl_code.specs.declared.definition.Definition.TheVariants.{Constant, Variable, MapOf, Fungible, NonFungible, Function, TopLevel}
use Rattle.cl_rules.specs.Faults.{form_rules}
use Rattle.cl_rules.specs.Context.{Context, Signature}
use Rattle.cl_rules.specs.Verdicts.{Found}
use Rattle.cl_rules.specs.FormRules.{Defined, form_plan, form_faults, defined_after, signature_of, return_of}
use Rattle.cl_rules.specs.Judging.{Judged, Holds, Fails, Deeper, and_judged, unless_broken, walked, judged, nesting, form_judged}
use Rattle.cl_contracts.specs.Standing.{Stands, StandAll}
use Rattle.cl_typing.specs.declared.concluding.Checked.{Checked}
use Rattle.cl_typing.specs.Verdicts.{Facts, facts}
use Rattle.cl_judging.specs.declared.context.Context.{Context as CodeContext}
use Rattle.cl_judging.specs.declared.context.Signature.{Signature as CodeSignature}
use Rattle.cl_judging.specs.Seen.{Shown, Shows, seen_under, shown}
use Rattle.cl_check.specs.declared.kinds.Body.{Body}
use Rattle.cl_check.specs.JudgingForms.{kind_judged, HoldsKind, FindsKind, FindsBody, IsDefined, FindsForm, AddsName}

-- ---- a form is judged as its kind is

parted : {A : Type 0} (j : Judged (List Found)) (rules : List Found → List Rule) (at : Span) (g : List Found → A) →
    and_judged j (λ fs. unless_broken (rules fs) at (λ _. Holds (g fs))) ≡ and_judged (and_judged j (λ fs. unless_broken (rules fs) at (λ _. Holds fs))) (λ fs. Holds (g fs))
parted (Holds fs) rules at g = by (rules fs)
  where
    by : (rs : List Rule) → unless_broken rs at (λ _. Holds (g fs)) ≡ and_judged (unless_broken rs at (λ _. Holds fs)) (λ gs. Holds (g gs))
    by [] = refl
    by (r ∷ rs) = refl
parted (Fails r s) rules at g = refl
parted Deeper rules at g = refl

form_by_kind : (D : Defined) (form : Form) → form_judged D form ≡ and_judged (kind_judged D form.kind form.span) (λ fs. Holds (defined_after D form fs))
unfolding form_judged
form_by_kind D form = parted (walked (judged nesting D.context) (form_plan form.kind)) (λ fs. form_rules (form_faults form.kind fs)) form.span (defined_after D form)

-- ---- refusals

pub form_fails : (c d : CodeContext) (name : Option (List ℕ)) (kind : FormKind) (at : Span) (g : Fault Break) → FindsKind c kind at (Err g) → FindsForm c (record { name = name; kind = kind; span = at }) (Err g) d
form_fails c d name kind at (Refused b) h = λ D shows.
    let form : Form = record { name = name; kind = kind; span = at } in
    form_by_kind D form ∙ ap (λ (j : Judged (List Found)). and_judged j (λ fs. Holds (defined_after D form fs))) (h D shows)
form_fails c d name kind at NoMemory h = tt

pub body_back : (c : CodeContext) (kind : FormKind) (at : Span) (g : Fault Break) → FindsBody c kind at (Err g) → FindsKind c kind at (Err g)
body_back c kind at (Refused b) h = h
body_back c kind at NoMemory h = tt

-- ---- definitions

type_is : {D : Defined} {kind : FormKind} {at : Span} {x : Checked} (k : HoldsKind D kind at x) → k.found.type ≡ type_of x.code
type_is k = ap (λ (y : Facts). y.type) k.facts

judged_so : (D : Defined) (form : Form) (x : Checked) (k : HoldsKind D form.kind form.span x) → form_judged D form ≡ Holds (defined_after D form (k.found ∷ []))
judged_so D form x k = form_by_kind D form ∙ ap (λ (j : Judged (List Found)). and_judged j (λ fs. Holds (defined_after D form fs))) k.judged

module _ (c d : CodeContext) (name : List ℕ) (at : Span) where
  abbrev named : FormKind → Form
  named kind = record { name = Some name; kind = kind; span = at }

  pub constant_holds : (e : Tree) (x : Checked) → FindsKind c (ConstantForm e) at (Ok x) → expression_of x.code ≡ e → AddsName c (Some name) d →
      ((G : Context) → Shows c G → Shows d (record G { constants = G.constants ++ (name, type_of x.code) ∷ [] })) → IsDefined c (named (ConstantForm e)) (Constant (record { name = name; value = x.code; span = at })) d
  constant_holds e x h text names added = record {
    defined = ap (λ (t : Tree). named (ConstantForm t)) text;
    names = names;
    holds = λ D shows. let k = h D shows in record {
      found = k.found ∷ [];
      judged = judged_so D (named (ConstantForm e)) x k;
      stands = record { trees = (refl, k.stands.1, tt); sound = k.sound; facts = tt };
      shows = subst (λ (t : PlainType). Shows d (record D.context { constants = D.context.constants ++ (name, t) ∷ [] })) (sym (type_is k)) (added D.context shows);
    };
  }

  pub variable_holds : (t : PlainType) (e : Tree) (x : Checked) → FindsKind c (VariableForm t e) at (Ok x) → expression_of x.code ≡ e → AddsName c (Some name) d →
      ((G : Context) → Shows c G → Shows d (record G { variables = G.variables ++ (name, t) ∷ [] })) → IsDefined c (named (VariableForm t e)) (Variable (record { name = name; ty = t; value = x.code; span = at })) d
  variable_holds t e x h text names added = record {
    defined = ap (λ (q : Tree). named (VariableForm t q)) text;
    names = names;
    holds = λ D shows. let k = h D shows in record {
      found = k.found ∷ [];
      judged = judged_so D (named (VariableForm t e)) x k;
      stands = record { trees = (refl, k.stands.1, tt); sound = k.sound; facts = tt };
      shows = added D.context shows;
    };
  }

  pub supplied_holds : (e : Tree) (x : Checked) → FindsKind c (FungibleForm (Some e)) at (Ok x) → expression_of x.code ≡ e → AddsName c (Some name) d →
      ((G : Context) → Shows c G → Shows d (record G { fungibles = G.fungibles ++ name ∷ [] })) → IsDefined c (named (FungibleForm (Some e))) (Fungible (record { name = name; supply = Some x.code; span = at })) d
  supplied_holds e x h text names added = record {
    defined = ap (λ (q : Tree). named (FungibleForm (Some q))) text;
    names = names;
    holds = λ D shows. let k = h D shows in record {
      found = k.found ∷ [];
      judged = judged_so D (named (FungibleForm (Some e))) x k;
      stands = record { trees = (refl, k.stands.1, tt); sound = k.sound; facts = tt };
      shows = added D.context shows;
    };
  }

  pub map_holds : (key value : PlainType) → AddsName c (Some name) d → ((G : Context) → Shows c G → Shows d (record G { maps = G.maps ++ (name, (key, value)) ∷ [] })) →
      IsDefined c (named (MapForm key value)) (MapOf (record { name = name; key = key; value = value; span = at })) d
  unfolding form_judged
  map_holds key value names added = record {
    defined = refl;
    names = names;
    holds = λ D shows. record { found = []; judged = refl; stands = record { trees = tt; sound = refl; facts = tt }; shows = added D.context shows };
  }

  pub fungible_holds : AddsName c (Some name) d → ((G : Context) → Shows c G → Shows d (record G { fungibles = G.fungibles ++ name ∷ [] })) →
      IsDefined c (named (FungibleForm None)) (Fungible (record { name = name; supply = None; span = at })) d
  unfolding form_judged
  fungible_holds names added = record {
    defined = refl;
    names = names;
    holds = λ D shows. record { found = []; judged = refl; stands = record { trees = tt; sound = refl; facts = tt }; shows = added D.context shows };
  }

  pub nonfungible_holds : (id : PlainType) → AddsName c (Some name) d → ((G : Context) → Shows c G → Shows d (record G { nonfungibles = G.nonfungibles ++ (name, id) ∷ [] })) →
      IsDefined c (named (NonFungibleForm id)) (NonFungible (record { name = name; id = id; span = at })) d
  unfolding form_judged
  nonfungible_holds id names added = record {
    defined = refl;
    names = names;
    holds = λ D shows. record { found = []; judged = refl; stands = record { trees = tt; sound = refl; facts = tt }; shows = added D.context shows };
  }

  signature_is : (access : Access) (params : List (List ℕ × PlainType)) (b : Body) (f : Found) (g : CodeSignature) → shown g ≡ record { access = access; params = params; returns = b.returns; height = b.height } → (return_of f).type ≡ Some b.returns → b.height ≡ f.height + 1 →
      seen_under (signature_of name access params f) ≡ (name, shown g)
  signature_is access params b f g is returns height =
      (λ i. (name, let s : Shown = record { access = access; params = params; returns = unwrap_or (returns i) NoType; height = (sym (height ∙ add-one f.height)) i } in s))
      ∙ ap (λ (s : Shown). (name, s)) (sym is)

  body_stands : (D : Defined) (access : Access) (qs ps : List (List ℕ × PlainType)) (e : Tree) (b : Body) (found : Found) → qs ≡ ps → StandAll D.context (form_plan (FunctionForm access ps e)) (MoreTyped b.checked.code NoTyped) (found ∷ []) →
      StandAll D.context (form_plan (FunctionForm access qs (expression_of b.checked.code))) (MoreTyped b.checked.code NoTyped) (found ∷ [])
  body_stands D access qs ps e b found same s = (refl, subst (λ (ns : List (List ℕ × PlainType)). Stands D.context ns b.checked.code found) (sym same) s.1, tt)

  pub function_holds : (access : Access) (params : Vec (List ℕ × PlainType)) (ps : List (List ℕ × PlainType)) (e : Tree) (b : Body) (g : CodeSignature) → params.items ≡ ps → FindsBody c (FunctionForm access ps e) at (Ok b) → expression_of b.checked.code ≡ e →
      shown g ≡ record { access = access; params = ps; returns = b.returns; height = b.height } → AddsName c (Some name) d →
      ((G : Context) (f : Signature) → Shows c G → seen_under f ≡ (name, shown g) → Shows d (record G { functions = G.functions ++ f ∷ [] })) →
      IsDefined c (named (FunctionForm access ps e)) (Function (record { name = name; access = access; params = params; returns = b.returns; height = b.height; body = b.checked.code; span = at })) d
  function_holds access params ps e b g same h text is names added = record {
    defined = λ i. named (FunctionForm access (same i) (text i));
    names = names;
    holds = λ D shows. let k = h D shows in let found = k.holds.found in record {
      found = found ∷ [];
      judged = judged_so D (named (FunctionForm access ps e)) b.checked k.holds;
      stands = record {
        trees = body_stands D access params.items ps e b found same k.holds.stands;
        sound = k.holds.sound;
        facts = (k.returns, k.height ∙ add-one found.height);
      };
      shows = added D.context (signature_of name access ps found) shows (signature_is access ps b found g is k.returns k.height);
    };
  }

-- ---- definitions that are made of copies

module _ (c d : CodeContext) (name : List ℕ) (at : Span) (names : AddsName c (Some name) d) where
  pub constant_made : (e : Tree) (x : Checked) (t : PlainType) (q : Typed) → t ≡ type_of x.code → q ≡ x.code → FindsKind c (ConstantForm e) at (Ok x) → expression_of x.code ≡ e →
      ((G : Context) → Shows c G → Shows d (record G { constants = G.constants ++ (name, t) ∷ [] })) → IsDefined c (named c d name at (ConstantForm e)) (Constant (record { name = name; value = q; span = at })) d
  constant_made e x t q pt pq h text added =
      subst (λ (r : Typed). IsDefined c (named c d name at (ConstantForm e)) (Constant (record { name = name; value = r; span = at })) d) (sym pq)
      (constant_holds c d name at e x h text names (λ G s. subst (λ (u : PlainType). Shows d (record G { constants = G.constants ++ (name, u) ∷ [] })) pt (added G s)))

  pub variable_made : (t : PlainType) (e : Tree) (x : Checked) (kept u : PlainType) (q : Typed) → kept ≡ t → u ≡ t → q ≡ x.code → FindsKind c (VariableForm t e) at (Ok x) → expression_of x.code ≡ e →
      ((G : Context) → Shows c G → Shows d (record G { variables = G.variables ++ (name, kept) ∷ [] })) → IsDefined c (named c d name at (VariableForm t e)) (Variable (record { name = name; ty = u; value = q; span = at })) d
  variable_made t e x kept u q pk pu pq h text added =
      subst (λ (r : Typed). IsDefined c (named c d name at (VariableForm t e)) (Variable (record { name = name; ty = u; value = r; span = at })) d) (sym pq)
      (subst (λ (v : PlainType). IsDefined c (named c d name at (VariableForm t e)) (Variable (record { name = name; ty = v; value = x.code; span = at })) d) (sym pu)
      (variable_holds c d name at t e x h text names (λ G s. subst (λ (v : PlainType). Shows d (record G { variables = G.variables ++ (name, v) ∷ [] })) pk (added G s))))

  pub supplied_made : (e : Tree) (x : Checked) (q : Typed) → q ≡ x.code → FindsKind c (FungibleForm (Some e)) at (Ok x) → expression_of x.code ≡ e →
      ((G : Context) → Shows c G → Shows d (record G { fungibles = G.fungibles ++ name ∷ [] })) → IsDefined c (named c d name at (FungibleForm (Some e))) (Fungible (record { name = name; supply = Some q; span = at })) d
  supplied_made e x q pq h text added =
      subst (λ (r : Typed). IsDefined c (named c d name at (FungibleForm (Some e))) (Fungible (record { name = name; supply = Some r; span = at })) d) (sym pq) (supplied_holds c d name at e x h text names added)

  pub map_made : (key value k v l u : PlainType) → k ≡ key → v ≡ value → l ≡ key → u ≡ value → ((G : Context) → Shows c G → Shows d (record G { maps = G.maps ++ (name, (k, v)) ∷ [] })) →
      IsDefined c (named c d name at (MapForm key value)) (MapOf (record { name = name; key = l; value = u; span = at })) d
  map_made key value k v l u pk pv pl pu added =
      subst (λ (t : PlainType). IsDefined c (named c d name at (MapForm key value)) (MapOf (record { name = name; key = l; value = t; span = at })) d) (sym pu)
      (subst (λ (t : PlainType). IsDefined c (named c d name at (MapForm key value)) (MapOf (record { name = name; key = t; value = value; span = at })) d) (sym pl)
      (map_holds c d name at key value names (λ G s. subst (λ (t : PlainType). Shows d (record G { maps = G.maps ++ (name, (key, t)) ∷ [] })) pv (subst (λ (t : PlainType). Shows d (record G { maps = G.maps ++ (name, (t, v)) ∷ [] })) pk (added G s)))))

  pub nonfungible_made : (id kept u : PlainType) → kept ≡ id → u ≡ id → ((G : Context) → Shows c G → Shows d (record G { nonfungibles = G.nonfungibles ++ (name, kept) ∷ [] })) →
      IsDefined c (named c d name at (NonFungibleForm id)) (NonFungible (record { name = name; id = u; span = at })) d
  nonfungible_made id kept u pk pu added =
      subst (λ (t : PlainType). IsDefined c (named c d name at (NonFungibleForm id)) (NonFungible (record { name = name; id = t; span = at })) d) (sym pu)
      (nonfungible_holds c d name at id names (λ G s. subst (λ (t : PlainType). Shows d (record G { nonfungibles = G.nonfungibles ++ (name, t) ∷ [] })) pk (added G s)))

-- where memory runs out, nothing is asked
pub no_memory : (c d : CodeContext) (form : Form) (result : Result Definition (Fault Break)) → IsErrAnd result (λ x. x ≡ NoMemory) → FindsForm c form result d
no_memory c d form (Ok t) e = absurd e
no_memory c d form (Err x) e = subst (λ (f : Fault Break). FindsForm c form (Err f) d) (sym e) tt

pub top_level_holds : (c : CodeContext) (at : Span) (e : Tree) (x : Checked) → FindsKind c (ExpressionForm e) at (Ok x) → expression_of x.code ≡ e → IsDefined c (record { name = None; kind = ExpressionForm e; span = at }) (TopLevel (record { value = x.code; span = at })) c
top_level_holds c at e x h text = record {
  defined = ap (λ (t : Tree). record { name = None; kind = ExpressionForm t; span = at }) text;
  names = λ y there. inr there;
  holds = λ D shows. let k = h D shows in record {
    found = k.found ∷ [];
    judged = judged_so D (record { name = None; kind = ExpressionForm e; span = at }) x k;
    stands = record { trees = (refl, k.stands.1, tt); sound = k.sound; facts = tt };
    shows = shows;
  };
}

pub top_level_made : (c : CodeContext) (at : Span) (e : Tree) (x : Checked) (q : Typed) → q ≡ x.code → FindsKind c (ExpressionForm e) at (Ok x) → expression_of x.code ≡ e → IsDefined c (record { name = None; kind = ExpressionForm e; span = at }) (TopLevel (record { value = q; span = at })) c
top_level_made c at e x q pq h text = subst (λ (r : Typed). IsDefined c (record { name = None; kind = ExpressionForm e; span = at }) (TopLevel (record { value = r; span = at })) c) (sym pq) (top_level_holds c at e x h text)

-- The functions of a contract of an accepted text: their forms, and their bodies, which are typed.
use Rattle.std.proofs.Common.{◌≡◌, inl, inr, ℕ, Bool, true, false, List, [], ◌∷◌, Option, Some, None, refl, sym, ap, subst, ◌∙◌}
use Rattle.std.specs.Prelude.{if◌then◌else◌, option_and_then, unwrap_or, Contains}
use Rattle.std.proofs.lemmas.List.Elements.{Contains-push, Contains-append_left, Contains-append_right}
use Rattle.cl_types.specs.Types.{PlainType}
use Rattle.cl_types.specs.declared.sized.Access.{Access}
use Rattle.cl_types.proofs.Lattice.{keys_equal}
use Rattle.cl_c32.specs.declared.principal.Principal.{Principal}
use Rattle.cl_sexpr.specs.Tree.{Tree}
use Rattle.cl_forms.specs.declared.version.Version.{Version}
use Rattle.cl_forms.specs.Forms.{Form, FormKind, ConstantForm, VariableForm, MapForm, FungibleForm, NonFungibleForm, FunctionForm, ExpressionForm}
use Rattle.cl_forms.specs.Order.{IsGoodOrder}
use Rattle.cl_forms.specs.Shapes.{trees_of}
use Rattle.cl_forms.specs.FormBreaks.{AreForms as AreFormsOf}
use Rattle.cl_order.proofs.Good.{order_good}
use Rattle.cl_meaning.specs.Deployed.{Contract, Function, has_name, form_of, as_function, function_in}
use Rattle.cl_meaning.specs.Deploying.{forms_at}
use Rattle.cl_meaning.specs.Kept.{IsAmong}
use Rattle.cl_rules.specs.Context.{Context, Known}
use Rattle.cl_rules.specs.Verdicts.{Found}
use Rattle.cl_rules.specs.Typing.{Typed, Follows, ends, part}
use Rattle.cl_rules.specs.FormRules.{Defined, form_plan, context_after}
use Rattle.cl_rules.specs.FormTyping.{form_typed, FormsTyped, one_more}
use Rattle.cl_contract_sound.specs.Nodes.{IsOfText}
use Rattle.cl_contract_sound.specs.Deployments.{AreItsForms}
use Rattle.cl_contract_sound.proofs.Naming.{all_at}
use Rattle.cl_contract_sound.proofs.OfTexts.{text_forms}

-- ---- forms

-- a form of a name
pub record IsFormOf (forms : List Form) (x : List ℕ) (kind : FormKind) : Type 0 where
  pub form : Form
  pub there : Contains forms form
  pub named : form.name ≡ Some x
  pub is : form.kind ≡ kind

pub form_there : (x : List ℕ) (forms : List Form) (kind : FormKind) → form_of x forms ≡ Some kind → IsFormOf forms x kind
form_there x [] kind h = absurd cc
form_there x (form ∷ forms) kind h = by (has_name x form.name) refl h (form_there x forms kind)
  where
    same_kind : (k l : FormKind) → Some k ≡ Some l → k ≡ l
    same_kind k l e = cc

    named : (o : Option (List ℕ)) → has_name x o ≡ true → o ≡ Some x
    named None e = absurd cc
    named (Some y) e = ap Some (keys_equal y x e)

    by : (b : Bool) → has_name x form.name ≡ b → (if b then Some form.kind else form_of x forms) ≡ Some kind → (form_of x forms ≡ Some kind → IsFormOf forms x kind) → IsFormOf (form ∷ forms) x kind
    by true e g more = record { form = form; there = Contains-append_left (form ∷ []) forms form (Contains-push [] form); named = named form.name e; is = same_kind form.kind kind g }
    by false e g more =
        let later = more g in
        record { form = later.form; there = Contains-append_right (form ∷ []) forms later.form later.there; named = later.named; is = later.is }

-- what a function of a name is
pub record IsFunctionOf (forms : List Form) (x : List ℕ) (f : Function) : Type 0 where
  pub named : f.name ≡ x
  pub form : form_of x forms ≡ Some (FunctionForm f.access f.params f.body)

pub function_there : (x : List ℕ) (forms : List Form) (f : Function) → function_in x forms ≡ Some f → IsFunctionOf forms x f
function_there x forms f h = by (form_of x forms) refl h
  where
    same_function : (g f : Function) → Some g ≡ Some f → g ≡ f
    same_function g f e = cc

    by : (o : Option FormKind) → form_of x forms ≡ o → option_and_then (as_function x) o ≡ Some f → IsFunctionOf forms x f
    by (Some (FunctionForm access params body)) e h =
        let same = same_function (record { name = x; access = access; params = params; body = body }) f h in
        record {
          named = ap (λ (f : Function). f.name) (sym same);
          form = e ∙ ap (λ (f : Function). Some (FunctionForm f.access f.params f.body)) same;
        }
    by None e h = absurd cc
    by (Some (ConstantForm d)) e h = absurd cc
    by (Some (VariableForm t d)) e h = absurd cc
    by (Some (MapForm k v)) e h = absurd cc
    by (Some (FungibleForm supply)) e h = absurd cc
    by (Some (NonFungibleForm t)) e h = absurd cc
    by (Some (ExpressionForm d)) e h = absurd cc

-- ---- bodies

-- a body is typed in a context of this contract and of this version, after these
pub record IsBody (p : Principal) (version : Version) (before : List Known) (params : List (List ℕ × PlainType)) (body : Tree) : Type 0 where
  pub context : Context
  pub found : Found
  pub typed : Typed context params body found
  pub principal : context.principal ≡ p
  pub version_is : context.version ≡ version
  pub deployed : context.deployed ≡ before

same_home : (G : Context) (name : List ℕ) (kind : FormKind) (fs : List Found) → ((context_after G name kind fs).principal ≡ G.principal) × ((context_after G name kind fs).version ≡ G.version) × ((context_after G name kind fs).deployed ≡ G.deployed)
same_home G name (ConstantForm e) (f ∷ fs) = (refl, refl, refl)
same_home G name (ConstantForm e) [] = (refl, refl, refl)
same_home G name (VariableForm u e) fs = (refl, refl, refl)
same_home G name (MapForm k v) fs = (refl, refl, refl)
same_home G name (FungibleForm supply) fs = (refl, refl, refl)
same_home G name (NonFungibleForm u) fs = (refl, refl, refl)
same_home G name (FunctionForm access params body) (f ∷ fs) = (refl, refl, refl)
same_home G name (FunctionForm access params body) [] = (refl, refl, refl)
same_home G name (ExpressionForm e) fs = (refl, refl, refl)

module _ (c : Contract) (x : List ℕ) (access : Access) (params : List (List ℕ × PlainType)) (body : Tree) (is : form_of x c.forms ≡ Some (FunctionForm access params body)) where
  here_typed : (D : Defined) (kind : FormKind) (fs : List Found) → kind ≡ FunctionForm access params body → Follows D.context (form_plan kind) fs → IsBody D.context.principal D.context.version D.context.deployed params body
  here_typed D kind fs e follows = by fs (subst (λ kind. Follows D.context (form_plan kind) fs) e follows)
    where
      by : (fs : List Found) → Follows D.context (form_plan (FunctionForm access params body)) fs → IsBody D.context.principal D.context.version D.context.deployed params body
      by _ (part {f = f} t ends) = record { context = D.context; found = f; typed = t; principal = refl; version_is = refl; deployed = refl }

  body_among : (D E : Defined) (forms : List Form) → AreItsForms c forms → FormsTyped D forms E → IsAmong x forms → IsBody D.context.principal D.context.version D.context.deployed params body
  body_among D E [] its t among = absurd among
  body_among D E (form ∷ forms) its (one_more {E = F} (form_typed fs follows sound after) later) (inr among) =
      let more = body_among F E forms its.2 later among in
      let same = same_home D.context (unwrap_or form.name []) form.kind fs in
      record {
        context = more.context;
        found = more.found;
        typed = more.typed;
        principal = more.principal ∙ ap (λ (F : Defined). F.context.principal) (sym after) ∙ same.0;
        version_is = more.version_is ∙ ap (λ (F : Defined). F.context.version) (sym after) ∙ same.1;
        deployed = more.deployed ∙ ap (λ (F : Defined). F.context.deployed) (sym after) ∙ same.2;
      }
  body_among D E (form ∷ forms) its (one_more {E = F} (form_typed fs follows sound after) later) (inl among) =
      here_typed D form.kind fs (same_kind form.kind (FunctionForm access params body) (sym (its.0 among.0) ∙ ap (λ y. form_of y c.forms) among.1 ∙ is)) follows
    where
      same_kind : (k l : FormKind) → Some k ≡ Some l → k ≡ l
      same_kind k l e = cc

pub body_typed : (before : List Known) (c : Contract) (k : Known) → (h : IsOfText before c k) → (x : List ℕ) (f : Function) → function_in x c.forms ≡ Some f → IsBody c.principal h.text.version before f.params f.body
body_typed before c k h x f there =
    let o = h.accepted.typed.is_ordered in
    let form = (function_there x c.forms f there).form in
    let its = text_forms before h.table h.text c h.accepted h.forms in
    let all = all_at (trees_of o.items) c (subst (AreFormsOf h.text.version (trees_of o.items)) (sym h.forms) o.are_forms) h.accepted.order (subst (λ fs. IsGoodOrder fs h.accepted.order) (sym h.forms) (order_good h.accepted.forms h.accepted.order o.order_is)) in
    let among = subst (λ fs. IsAmong x (forms_at fs h.accepted.order)) h.forms (all x (FunctionForm f.access f.params f.body) form) in
    body_among c x f.access f.params f.body form _ h.accepted.defined (forms_at h.accepted.forms h.accepted.order) its h.accepted.typed.are_typed among

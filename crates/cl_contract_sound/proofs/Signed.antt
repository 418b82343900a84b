-- Each function that evaluations find in a contract of an accepted text has a signature, which callers see.
use Rattle.std.proofs.Common.{◌≡◌, ◌⊎◌, inl, inr, ℕ, Bool, true, false, List, [], ◌∷◌, ◌++◌, Option, Some, None, refl, sym, ap, subst, ◌∙◌}
use Rattle.std.specs.Prelude.{if◌then◌else◌, option_and_then, unwrap_or, IsSome}
use Rattle.cl_types.proofs.Lattice.{key_same}
use Rattle.cl_c32.specs.declared.principal.Principal.{Principal}
use Rattle.cl_events.proofs.Holders.{holders_apart}
use Rattle.cl_values.specs.Valid.{IsPrincipal}
use Rattle.cl_forms.specs.Forms.{Form, FormKind, ConstantForm, VariableForm, MapForm, FungibleForm, NonFungibleForm, FunctionForm, ExpressionForm}
use Rattle.cl_forms.specs.Order.{IsGoodOrder}
use Rattle.cl_forms.specs.Shapes.{trees_of}
use Rattle.cl_forms.specs.FormBreaks.{AreForms as AreFormsOf}
use Rattle.cl_order.proofs.Good.{order_good}
use Rattle.cl_meaning.specs.Deployed.{Contract, Deployed, Function, contract_at, form_of, as_function, function_in}
use Rattle.cl_meaning.specs.Deploying.{forms_at}
use Rattle.cl_meaning.specs.Kept.{IsAmong}
use Rattle.cl_rules.specs.Context.{Known, Signature, same, known_at, signature_in}
use Rattle.cl_rules.specs.Verdicts.{Found}
use Rattle.cl_rules.specs.Typing.{Follows, ends, part}
use Rattle.cl_rules.specs.FormRules.{Defined, form_plan, signature_of, context_after}
use Rattle.cl_rules.specs.FormTyping.{form_typed, FormsTyped, no_more, one_more}
use Rattle.cl_contract_sound.specs.Nodes.{IsOfText, AreOfTexts, none_yet, and_one, AreContracts}
use Rattle.cl_contract_sound.specs.Deployments.{AreItsForms}
use Rattle.cl_contract_sound.specs.Laws.{IsSigned}
use Rattle.cl_contract_sound.proofs.Serving.{known_split}
use Rattle.cl_contract_sound.proofs.States.{at_contains, some_contract}
use Rattle.cl_contract_sound.proofs.Naming.{all_at}
use Rattle.cl_contract_sound.proofs.OfTexts.{text_forms, found_principal}

-- ---- signatures

signature_more : (x : List ℕ) (gs hs : List Signature) → IsSome (signature_in x gs) → IsSome (signature_in x (gs ++ hs))
signature_more x [] hs h = absurd cc
signature_more x (g ∷ gs) hs h = by (same g.name x) h (signature_more x gs hs)
  where
    by : (b : Bool) → IsSome (if b then Some g else signature_in x gs) → (IsSome (signature_in x gs) → IsSome (signature_in x (gs ++ hs))) → IsSome (if b then Some g else signature_in x (gs ++ hs))
    by true h more = refl
    by false h more = more h

signature_last : (x : List ℕ) (gs : List Signature) (g : Signature) → g.name ≡ x → IsSome (signature_in x (gs ++ g ∷ []))
signature_last x [] g e = by (same g.name x) (ap (λ y. same y x) e ∙ key_same x)
  where
    by : (b : Bool) → b ≡ true → IsSome (if b then Some g else None)
    by true h = refl
    by false h = absurd cc
signature_last x (f ∷ gs) g e = by (same f.name x) (signature_last x gs g e)
  where
    by : (b : Bool) → IsSome (signature_in x (gs ++ g ∷ [])) → IsSome (if b then Some f else signature_in x (gs ++ g ∷ []))
    by true h = refl
    by false h = h

-- more forms keep what was signed
signed_more : (x : List ℕ) (D E : Defined) (forms : List Form) → FormsTyped D forms E → IsSome (signature_in x D.context.functions) → IsSome (signature_in x E.context.functions)
signed_more x D E [] (no_more e) h = subst (λ (E : Defined). IsSome (signature_in x E.context.functions)) e h
signed_more x D E (form ∷ forms) (one_more {E = F} (form_typed fs follows sound is) later) h =
    signed_more x F E forms later (subst (λ (F : Defined). IsSome (signature_in x F.context.functions)) is (by form.kind fs))
  where
    by : (kind : FormKind) (fs : List Found) → IsSome (signature_in x (context_after D.context (unwrap_or form.name []) kind fs).functions)
    by (ConstantForm e) (f ∷ fs) = h
    by (ConstantForm e) [] = h
    by (VariableForm t e) fs = h
    by (MapForm k v) fs = h
    by (FungibleForm supply) fs = h
    by (NonFungibleForm t) fs = h
    by (FunctionForm access params body) (f ∷ fs) = signature_more x D.context.functions (signature_of (unwrap_or form.name []) access params f ∷ []) h
    by (FunctionForm access params body) [] = h
    by (ExpressionForm e) fs = h

abbrev IsFunction : FormKind → Type 0
IsFunction (FunctionForm access params body) = Unit {0}
IsFunction kind = ⊥

-- one of the forms is the function of the name
abbrev IsFunctionAmong : List ℕ → List Form → Type 0
IsFunctionAmong x [] = ⊥
IsFunctionAmong x (form ∷ forms) = (IsFunction form.kind × (unwrap_or form.name [] ≡ x)) ⊎ IsFunctionAmong x forms

signed : (x : List ℕ) (D E : Defined) (forms : List Form) → FormsTyped D forms E → IsFunctionAmong x forms → IsSome (signature_in x E.context.functions)
signed x D E [] t h = absurd h
signed x D E (form ∷ forms) (one_more {E = F} t later) (inr h) = signed x F E forms later h
signed x D E (form ∷ forms) (one_more {E = F} (form_typed fs follows sound is) later) (inl h) =
    signed_more x F E forms later (subst (λ (F : Defined). IsSome (signature_in x F.context.functions)) is (by form.kind fs follows h.0))
  where
    by : (kind : FormKind) (fs : List Found) → Follows D.context (form_plan kind) fs → IsFunction kind → IsSome (signature_in x (context_after D.context (unwrap_or form.name []) kind fs).functions)
    by (FunctionForm access params body) _ (part {f = f} t ends) k = signature_last x D.context.functions (signature_of (unwrap_or form.name []) access params f) h.1
    by (ConstantForm e) fs g k = absurd k
    by (VariableForm t e) fs g k = absurd k
    by (MapForm key v) fs g k = absurd k
    by (FungibleForm supply) fs g k = absurd k
    by (NonFungibleForm t) fs g k = absurd k
    by (ExpressionForm e) fs g k = absurd k

-- ---- the forms of a contract

function_among : (c : Contract) (order : List Form) → AreItsForms c order → (x : List ℕ) (kind : FormKind) → IsFunction kind → form_of x c.forms ≡ Some kind → IsAmong x order → IsFunctionAmong x order
function_among c [] its x kind k h a = absurd a
function_among c (form ∷ order) its x kind k h (inr a) = inr (function_among c order its.2 x kind k h a)
function_among c (form ∷ order) its x kind k h (inl a) = inl (subst IsFunction (same_kind kind form.kind (sym h ∙ ap (λ y. form_of y c.forms) (sym a.1) ∙ its.0 a.0)) k, a.1)
  where
    same_kind : (k l : FormKind) → Some k ≡ Some l → k ≡ l
    same_kind k l e = cc

function_kind : (x : List ℕ) (o : Option FormKind) (f : Function) → option_and_then (as_function x) o ≡ Some f → (kind : FormKind) × (o ≡ Some kind) × IsFunction kind
function_kind x None f h = absurd cc
function_kind x (Some (FunctionForm access params body)) f h = (FunctionForm access params body, refl, tt)
function_kind x (Some (ConstantForm e)) f h = absurd cc
function_kind x (Some (VariableForm t e)) f h = absurd cc
function_kind x (Some (MapForm k v)) f h = absurd cc
function_kind x (Some (FungibleForm supply)) f h = absurd cc
function_kind x (Some (NonFungibleForm t)) f h = absurd cc
function_kind x (Some (ExpressionForm e)) f h = absurd cc

-- ---- contracts that are known

-- what callers see at a principal is of a text
pub record IsTextAt (W : Deployed) (p : Principal) (k : Known) : Type 0 where
  pub before : List Known
  pub contract : Contract
  pub of_text : IsOfText before contract k
  pub there : contract_at contract.principal W ≡ Some contract

pub text_there : (W : Deployed) (ks : List Known) → AreOfTexts W ks → (p : Principal) (k : Known) → known_at p ks ≡ Some k → (IsTextAt W p k) × (k.principal ≡ p)
text_there W ks (none_yet e) p k h = none_at (ap (known_at p) (sym e) ∙ h)
  where
    none_at : None ≡ Some k → (IsTextAt W p k) × (k.principal ≡ p)
    none_at e = absurd cc
text_there W after (and_one {before = before} c n texts new h there is) p k e = by (known_split p before n k (ap (known_at p) (sym is) ∙ e)) (text_there W before texts p k)
  where
    by : (known_at p before ≡ Some k) ⊎ ((n.principal ≡ p) × (n ≡ k)) → (known_at p before ≡ Some k → (IsTextAt W p k) × (k.principal ≡ p)) → (IsTextAt W p k) × (k.principal ≡ p)
    by (inl g) more = more g
    by (inr g) more = (record { before = before; contract = c; of_text = subst (IsOfText before c) g.1 h; there = there }, sym (ap (λ (k : Known). k.principal) g.1) ∙ g.0)

some_there : {A : Type 0} (o : Option A) → IsSome o → (a : A) × (o ≡ Some a)
some_there None h = absurd cc
some_there (Some a) h = (a, refl)

pub each_signed : (W : Deployed) (ks : List Known) → AreContracts W ks → (p : Principal) → IsPrincipal p → (c : Contract) → contract_at p W ≡ Some c → (x : List ℕ) (f : Function) → function_in x c.forms ≡ Some f → IsSigned ks p x
each_signed W ks A p valid c at x f is =
    let here = at_contains p W c at in
    let same_principal : c.principal ≡ p = holders_apart c.principal p (A.distinct.valid c here) valid (found_principal p W c at) in
    let known = some_there (known_at p ks) (subst (λ q. IsSome (known_at q ks)) same_principal (A.known c here)) in
    let t = text_there W ks A.texts p known.0 known.1 in
    let d = t.0.contract in
    let h = t.0.of_text in
    let principal : d.principal ≡ p = sym (ap (λ (k : Known). k.principal) h.known) ∙ t.1 in
    let one : d ≡ c = some_contract d c (sym t.0.there ∙ ap (λ q. contract_at q W) principal ∙ at) in
    let kind = function_kind x (form_of x d.forms) f (ap (λ (c : Contract). function_in x c.forms) one ∙ is) in
    let o = h.accepted.typed.is_ordered in
    let its = text_forms t.0.before h.table h.text d h.accepted h.forms in
    let all = all_at (trees_of o.items) d (subst (AreFormsOf h.text.version (trees_of o.items)) (sym h.forms) o.are_forms) h.accepted.order (subst (λ fs. IsGoodOrder fs h.accepted.order) (sym h.forms) (order_good h.accepted.forms h.accepted.order o.order_is)) in
    let among = subst (λ fs. IsAmong x (forms_at fs h.accepted.order)) h.forms (all x kind.0 kind.1) in
    let g = some_there (signature_in x h.accepted.defined.context.functions) (signed x _ h.accepted.defined (forms_at h.accepted.forms h.accepted.order) h.accepted.typed.are_typed (function_among d (forms_at h.accepted.forms h.accepted.order) its x kind.0 kind.2 kind.1 among)) in
    record { known = known.0; signature = g.0; there = known.1; told = ap (λ (k : Known). signature_in x k.functions) h.known ∙ g.1 }

-- the contract of a principal is of some text
pub record IsOfSomeText (c : Contract) : Type 0 where
  pub before : List Known
  pub known : Known
  pub of_text : IsOfText before c known

pub contract_text : (W : Deployed) (ks : List Known) → AreContracts W ks → (p : Principal) → IsPrincipal p → (c : Contract) → contract_at p W ≡ Some c → IsOfSomeText c
contract_text W ks A p valid c at =
    let here = at_contains p W c at in
    let same_principal : c.principal ≡ p = holders_apart c.principal p (A.distinct.valid c here) valid (found_principal p W c at) in
    let known = some_there (known_at p ks) (subst (λ q. IsSome (known_at q ks)) same_principal (A.known c here)) in
    let t = text_there W ks A.texts p known.0 known.1 in
    let principal : t.0.contract.principal ≡ p = sym (ap (λ (k : Known). k.principal) t.0.of_text.known) ∙ t.1 in
    let one : t.0.contract ≡ c = some_contract t.0.contract c (sym t.0.there ∙ ap (λ q. contract_at q W) principal ∙ at) in
    record { before = t.0.before; known = known.0; of_text = subst (λ (d : Contract). IsOfText t.0.before d known.0) one t.0.of_text }

-- Contexts of deployed contracts serve: constants, functions, and functions of other contracts.
use Rattle.std.proofs.Common.{◌≡◌, ◌⊎◌, inl, inr, ℕ, Bool, true, false, List, [], ◌∷◌, ◌++◌, Option, Some, None, refl, sym, ap, subst, ◌∙◌, append-nil}
use Rattle.std.specs.Prelude.{if◌then◌else◌, option_and_then, unwrap_or}
use Rattle.cl_types.specs.Types.{PlainType}
use Rattle.cl_types.specs.declared.sized.Access.{Access}
use Rattle.cl_types.specs.declared.sized.Access.TheVariants.{Public, ReadOnly, Private}
use Rattle.cl_c32.specs.declared.principal.Principal.{Principal}
use Rattle.cl_c32.proofs.Principals.{principals_equal}
use Rattle.cl_values.specs.Valid.{IsPrincipal}
use Rattle.cl_forms.specs.Forms.{Form, FormKind, ConstantForm, VariableForm, MapForm, FungibleForm, NonFungibleForm, FunctionForm, ExpressionForm}
use Rattle.cl_forms.specs.Heads.{native}
use Rattle.cl_forms.specs.Shapes.{open_to_others}
use Rattle.cl_events.proofs.Holders.{same_by_key}
use Rattle.cl_meaning.specs.Deployed.{Contract, Deployed, Function, contract_at, as_function, function_in, native_of, function_of, constant_of}
use Rattle.cl_meaning.specs.Calls.{callable}
use Rattle.cl_rules.specs.Context.{CostTable, Context, Known, Signature, same_principal, named_in, known_at, signature_in, if_callable, target_at}
use Rattle.cl_rules.specs.Verdicts.{Found}
use Rattle.cl_rules.specs.FormRules.{Defined, nothing_defined, context_after}
use Rattle.cl_rules.specs.FormTyping.{form_typed, FormsTyped, no_more, one_more}
use Rattle.cl_rules.specs.Acceptance.{known_of}
use Rattle.cl_meaning.specs.Kept.{Stage}
use Rattle.cl_expression_sound.specs.Sound.{IsServed, IsServedThere, IsServedAcross, deployed_world}
use Rattle.cl_expression_sound.specs.Stages.{IsTypedAs, AreKnown, none_known, and_known, IsContext, IsThere}
use Rattle.cl_contract_sound.proofs.Contexts.{IsFunctionOf, stands_in, named_more}

-- ---- what more forms define

constants_more : (D E : Defined) (forms : List Form) (x : List ℕ) (t : PlainType) → FormsTyped D forms E → named_in x D.context.constants ≡ Some t → named_in x E.context.constants ≡ Some t
constants_more D E [] x t (no_more e) h = subst (λ (E : Defined). named_in x E.context.constants ≡ Some t) e h
constants_more D E (form ∷ forms) x t (one_more {E = F} (form_typed fs follows sound is) later) h =
    constants_more F E forms x t later (subst (λ (F : Defined). named_in x F.context.constants ≡ Some t) is (by form.kind fs))
  where
    by : (kind : FormKind) (fs : List Found) → named_in x (context_after D.context (unwrap_or form.name []) kind fs).constants ≡ Some t
    by (ConstantForm e) (f ∷ fs) = named_more x D.context.constants _ t h
    by (ConstantForm e) [] = h
    by (VariableForm u e) fs = h
    by (MapForm k v) fs = h
    by (FungibleForm supply) fs = h
    by (NonFungibleForm u) fs = h
    by (FunctionForm access params body) (f ∷ fs) = h
    by (FunctionForm access params body) [] = h
    by (ExpressionForm e) fs = h

deployed_same : (D E : Defined) (forms : List Form) → FormsTyped D forms E → E.context.deployed ≡ D.context.deployed
deployed_same D E [] (no_more e) = ap (λ (D : Defined). D.context.deployed) (sym e)
deployed_same D E (form ∷ forms) (one_more {E = F} (form_typed fs follows sound is) later) =
    deployed_same F E forms later ∙ ap (λ (F : Defined). F.context.deployed) (sym is) ∙ by form.kind fs
  where
    by : (kind : FormKind) (fs : List Found) → (context_after D.context (unwrap_or form.name []) kind fs).deployed ≡ D.context.deployed
    by (ConstantForm e) (f ∷ fs) = refl
    by (ConstantForm e) [] = refl
    by (VariableForm u e) fs = refl
    by (MapForm k v) fs = refl
    by (FungibleForm supply) fs = refl
    by (NonFungibleForm u) fs = refl
    by (FunctionForm access params body) (f ∷ fs) = refl
    by (FunctionForm access params body) [] = refl
    by (ExpressionForm e) fs = refl

version_same : (D E : Defined) (forms : List Form) → FormsTyped D forms E → E.context.version ≡ D.context.version
version_same D E [] (no_more e) = ap (λ (D : Defined). D.context.version) (sym e)
version_same D E (form ∷ forms) (one_more {E = F} (form_typed fs follows sound is) later) =
    version_same F E forms later ∙ ap (λ (F : Defined). F.context.version) (sym is) ∙ by form.kind fs
  where
    by : (kind : FormKind) (fs : List Found) → (context_after D.context (unwrap_or form.name []) kind fs).version ≡ D.context.version
    by (ConstantForm e) (f ∷ fs) = refl
    by (ConstantForm e) [] = refl
    by (VariableForm u e) fs = refl
    by (MapForm k v) fs = refl
    by (FungibleForm supply) fs = refl
    by (NonFungibleForm u) fs = refl
    by (FunctionForm access params body) (f ∷ fs) = refl
    by (FunctionForm access params body) [] = refl
    by (ExpressionForm e) fs = refl

-- ---- contracts that are known

-- a contract that callers see, as evaluations see it
pub record IsKnownAt (W : Deployed) (stage : Stage) (p : Principal) (k : Known) : Type 0 where
  pub before : List Known
  pub known : AreKnown W stage before
  pub contract : Contract
  pub defined : Defined
  pub accepted : IsTypedAs stage before contract defined
  pub there : contract_at contract.principal W ≡ Some contract
  pub is : known_of contract.principal contract.source_length defined ≡ k
  pub at : contract.principal ≡ p

-- the context behind all forms of a contract that callers see
abbrev pub whole_context : (W : Deployed) (stage : Stage) (p : Principal) (k : Known) (a : IsKnownAt W stage p k) → IsContext W stage a.defined.context
whole_context W stage p k a = record {
  before = a.before;
  known = a.known;
  contract = a.contract;
  defined = a.defined;
  accepted = a.accepted;
  there = a.there;
  so_far = a.defined;
  done = a.accepted.order;
  rest = [];
  order = sym (append-nil a.accepted.order);
  typed = a.accepted.typed;
  more = no_more refl;
  context = refl;
}

pub known_split : (p : Principal) (ks : List Known) (n k : Known) → known_at p (ks ++ n ∷ []) ≡ Some k → (known_at p ks ≡ Some k) ⊎ ((n.principal ≡ p) × (n ≡ k))
known_split p [] n k h = by (same_principal n.principal p) refl h
  where
    same_value : (n k : Known) → Some n ≡ Some k → n ≡ k
    same_value n k e = cc

    by : (b : Bool) → same_principal n.principal p ≡ b → (if b then Some n else None) ≡ Some k → (None ≡ Some k) ⊎ ((n.principal ≡ p) × (n ≡ k))
    by true e g = inr (principals_equal n.principal p e, same_value n k g)
    by false e g = absurd cc
known_split p (l ∷ ks) n k h = by (same_principal l.principal p) h (known_split p ks n k)
  where
    by : (b : Bool) → (if b then Some l else known_at p (ks ++ n ∷ [])) ≡ Some k → (known_at p (ks ++ n ∷ []) ≡ Some k → (known_at p ks ≡ Some k) ⊎ ((n.principal ≡ p) × (n ≡ k))) → ((if b then Some l else known_at p ks) ≡ Some k) ⊎ ((n.principal ≡ p) × (n ≡ k))
    by true g more = inl g
    by false g more = more g

module _ (W : Deployed) (stage : Stage) where
  pub known_there : (ks : List Known) → AreKnown W stage ks → (p : Principal) (k : Known) → known_at p ks ≡ Some k → IsKnownAt W stage p k
  known_there ks (none_known e) p k h = none_at (ap (known_at p) (sym e) ∙ h)
    where
      none_at : None ≡ Some k → IsKnownAt W stage p k
      none_at e = absurd cc
  known_there after (and_known {ks = ks} c E known accepted there is) p k h = by (known_split p ks (known_of c.principal c.source_length E) k (ap (known_at p) (sym is) ∙ h)) (known_there ks known p k)
    where
      by : (known_at p ks ≡ Some k) ⊎ ((c.principal ≡ p) × (known_of c.principal c.source_length E ≡ k)) → (known_at p ks ≡ Some k → IsKnownAt W stage p k) → IsKnownAt W stage p k
      by (inl g) more = more g
      by (inr g) more = record { before = ks; known = known; contract = c; defined = E; accepted = accepted; there = there; is = g.1; at = g.0 }

module _ (costs : CostTable) (W : Deployed) (stage : Stage) where
  -- ---- constants

  pub constants_serve : (G : Context) → IsContext W stage G → (x : List ℕ) (t : PlainType) → named_in x G.constants ≡ Some t → IsThere (constant_of x (contract_at G.principal W)) t
  constants_serve G I x t h =
      let S = stands_in W stage G I in
      let before : named_in x I.so_far.context.constants ≡ Some t = ap (λ (G : Context). named_in x G.constants) I.context ∙ h in
      subst (λ o. IsThere (constant_of x o) t) (sym (ap (λ p. contract_at p W) S.home ∙ I.there))
      (I.accepted.constants x t (constants_more I.so_far I.defined I.rest x t I.more before))

  -- ---- natives

  pub natives_serve : (G : Context) → IsContext W stage G → (x : List ℕ) → native_of x (contract_at G.principal W) ≡ native G.version x
  natives_serve G I x =
      let S = stands_in W stage G I in
      let start = nothing_defined I.before I.contract.principal I.contract.version I.contract.source_length in
      let version : I.contract.version ≡ G.version = sym (version_same start I.so_far I.done I.typed) ∙ ap (λ (G : Context). G.version) I.context in
      ap (λ p. native_of x (contract_at p W)) S.home ∙ ap (native_of x) I.there ∙ ap (λ v. native v x) version

  -- ---- functions

  pub as_served : (c : Contract) (x : List ℕ) (g : Signature) → IsFunctionOf W stage c x g → (fn : Function) × (function_in x c.forms ≡ Some fn) × IsServed (deployed_world costs W stage) c.principal g fn
  as_served c x g f = (
    record { name = x; access = f.access; params = f.params; body = f.body },
    ap (option_and_then (as_function x)) f.form,
    record { inner = f.inner; good = f.good; home = f.home; found = f.found; typed = f.typed; sound = f.sound; signature = f.signature },
  )

  pub functions_serve : (G : Context) → IsContext W stage G → (x : List ℕ) (g : Signature) → signature_in x G.functions ≡ Some g → IsServedThere (deployed_world costs W stage) G.principal x g
  functions_serve G I x g h =
      let S = stands_in W stage G I in
      let f = as_served I.contract x g (S.functions x g h) in
      record {
        function = f.0;
        there = ap (λ p. function_of x (contract_at p W)) S.home ∙ ap (function_of x) I.there ∙ f.1;
        served = subst (λ p. IsServed (deployed_world costs W stage) p g f.0) (sym S.home) f.2;
      }

  -- ---- functions of other contracts

  callable_is : (o : Option Signature) (g : Signature) → if_callable o ≡ Some g → (o ≡ Some g) × ((fn : Function) → fn.access ≡ g.access → callable fn ≡ Some fn)
  callable_is None g h = absurd cc
  callable_is (Some f) g h = by f.access refl h
    where
      same_value : (f g : Signature) → Some f ≡ Some g → f ≡ g
      same_value f g e = cc

      by : (a : Access) → f.access ≡ a → elim a [ Public ↦ Some f | ReadOnly ↦ Some f | Private ↦ None ] ≡ Some g → (Some f ≡ Some g) × ((fn : Function) → fn.access ≡ g.access → callable fn ≡ Some fn)
      by Public e h = (h, λ fn k. ap (λ (a : Access). open_to_others a fn) (k ∙ sym (ap (λ (g : Signature). g.access) (same_value f g h)) ∙ e))
      by ReadOnly e h = (h, λ fn k. ap (λ (a : Access). open_to_others a fn) (k ∙ sym (ap (λ (g : Signature). g.access) (same_value f g h)) ∙ e))
      by Private e h = absurd cc

  other_is : (b : Bool) (o : Option Known) (k : Known) → (if b then None else o) ≡ Some k → (b ≡ false) × (o ≡ Some k)
  other_is true o k h = absurd cc
  other_is false o k h = (refl, h)

  pub across_serve : (G : Context) → IsContext W stage G → (p : Principal) (k : Known) → target_at G p ≡ Some k → (x : List ℕ) (g : Signature) → if_callable (signature_in x k.functions) ≡ Some g → IsServedAcross (deployed_world costs W stage) G p k x g
  across_serve G I p k h x g j =
      let S = stands_in W stage G I in
      let o = other_is (same_principal p G.principal) (known_at p G.deployed) k h in
      let deployed : I.before ≡ G.deployed = sym (deployed_same (nothing_defined I.before I.contract.principal I.contract.version I.contract.source_length) I.so_far I.done I.typed) ∙ ap (λ (G : Context). G.deployed) I.context in
      let a = known_there W stage I.before I.known p k (ap (known_at p) deployed ∙ o.1) in
      let there_g = callable_is (signature_in x k.functions) g j in
      let T = stands_in W stage a.defined.context (whole_context W stage p k a) in
      let f = as_served a.contract x g (T.functions x g (ap (λ (k : Known). signature_in x k.functions) a.is ∙ there_g.0)) in
      record {
        contract = a.contract;
        another = same_by_key p G.principal (subst IsPrincipal a.at a.accepted.valid) (subst IsPrincipal (sym S.home) I.accepted.valid) ∙ o.0;
        there = ap (λ p. contract_at p W) (sym a.at) ∙ a.there;
        length = ap (λ (k : Known). k.length) a.is;
        function = f.0;
        callable_there = ap (option_and_then callable) f.1 ∙ there_g.1 f.0 (ap (λ (g : Signature). g.access) f.2.signature);
        inner = a.defined.context;
        home = T.home;
        valid = a.accepted.valid;
        served = subst (λ p. IsServed (deployed_world costs W stage) p g f.0) (sym T.home) f.2;
      }

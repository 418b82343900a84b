-- What stands in the context of a deployed contract's code: each thing is of a form of the contract.
use Rattle.std.proofs.Common.{◌≡◌, ◌⊎◌, inl, inr, ℕ, Bool, true, false, List, [], ◌∷◌, ◌++◌, Option, Some, None, refl, sym, ap, subst, ◌∙◌, append_assoc}
use Rattle.std.specs.Prelude.{if◌then◌else◌, unwrap_or, ◌||◌}
use Rattle.std.specs.List.{list_any}
use Rattle.cl_types.specs.Types.{PlainType}
use Rattle.cl_types.specs.declared.sized.Access.{Access}
use Rattle.cl_types.proofs.Lattice.{keys_equal}
use Rattle.cl_sexpr.specs.Tree.{Tree}
use Rattle.cl_forms.specs.Forms.{Form, FormKind, ConstantForm, VariableForm, MapForm, FungibleForm, NonFungibleForm, FunctionForm, ExpressionForm}
use Rattle.cl_meaning.specs.Deployed.{Contract, Deployed, contract_at, form_of}
use Rattle.cl_rules.specs.Faults.{form_rules}
use Rattle.cl_rules.specs.Context.{Context, Known, Signature, same, named_in, signature_in}
use Rattle.cl_rules.specs.Verdicts.{Found}
use Rattle.cl_rules.specs.FormRules.{Defined, nothing_defined, form_plan, form_faults, function_faults, signature_of, context_after}
use Rattle.cl_rules.specs.FormTyping.{FormTyped, form_typed, FormsTyped, no_more, one_more}
use Rattle.cl_rules.specs.Typing.{Follows, ends, part}
use Rattle.cl_meaning.specs.Kept.{Stage, IsDefinition, IsSoFar}
use Rattle.cl_forms.specs.Fits.{KindFits}
use Rattle.cl_expression_sound.specs.Fitted.{Fitted}
use Rattle.cl_expression_sound.specs.Stages.{IsDefining, AreForms, IsTypedAs, AreKnown, IsContext}
use Rattle.cl_expression_sound.proofs.Fitting.{is_fitted}

-- ---- forms one after another

pub behind : {D E F : Defined} {form : Form} (forms : List Form) → FormsTyped D forms E → FormTyped E form F → FormsTyped D (forms ++ form ∷ []) F
behind {F = F} {form = form} [] (no_more e) t = one_more (subst (λ D. FormTyped D form F) (sym e) t) (no_more refl)
behind (f ∷ forms) (one_more h more) t = one_more h (behind forms more t)

pub both_typed : {D E F : Defined} (forms more : List Form) → FormsTyped D forms E → FormsTyped E more F → FormsTyped D (forms ++ more) F
both_typed {F = F} [] more (no_more e) t = subst (λ D. FormsTyped D more F) (sym e) t
both_typed (f ∷ forms) more (one_more h later) t = one_more h (both_typed forms more later t)

first_forms : (stage : Stage) (c : Contract) (done rest : List Form) → AreForms stage c (done ++ rest) → AreForms stage c done
first_forms stage c [] rest h = tt
first_forms stage c (form ∷ done) rest h = (h.0, h.1, h.2, first_forms stage c done rest h.3)

-- ---- lists that grow

pub named_split : {A : Type 0} (x y : List ℕ) (xs : List (List ℕ × A)) (t u : A) → named_in x (xs ++ (y, t) ∷ []) ≡ Some u → (named_in x xs ≡ Some u) ⊎ ((y ≡ x) × (t ≡ u))
named_split {A = A} x y [] t u h = by (same y x) refl h
  where
    same_value : (t u : A) → Some t ≡ Some u → t ≡ u
    same_value t u k = cc

    by : (b : Bool) → same y x ≡ b → (if b then Some t else None) ≡ Some u → (None ≡ Some u) ⊎ ((y ≡ x) × (t ≡ u))
    by true e k = inr (keys_equal y x e, same_value t u k)
    by false e k = absurd cc
named_split x y (e ∷ xs) t u h = by (same e.0 x) h (named_split x y xs t u)
  where
    by : (b : Bool) → (if b then Some e.1 else named_in x (xs ++ (y, t) ∷ [])) ≡ Some u → (named_in x (xs ++ (y, t) ∷ []) ≡ Some u → (named_in x xs ≡ Some u) ⊎ ((y ≡ x) × (t ≡ u))) → ((if b then Some e.1 else named_in x xs) ≡ Some u) ⊎ ((y ≡ x) × (t ≡ u))
    by true k more = inl k
    by false k more = more k

pub named_more : {A : Type 0} (x : List ℕ) (xs ys : List (List ℕ × A)) (t : A) → named_in x xs ≡ Some t → named_in x (xs ++ ys) ≡ Some t
named_more x [] ys t h = absurd cc
named_more x (e ∷ xs) ys t h = by (same e.0 x) h (named_more x xs ys t)
  where
    by : (b : Bool) → (if b then Some e.1 else named_in x xs) ≡ Some t → (named_in x xs ≡ Some t → named_in x (xs ++ ys) ≡ Some t) → (if b then Some e.1 else named_in x (xs ++ ys)) ≡ Some t
    by true k more = k
    by false k more = more k

pub signature_split : (x : List ℕ) (gs : List Signature) (g h : Signature) → signature_in x (gs ++ g ∷ []) ≡ Some h → (signature_in x gs ≡ Some h) ⊎ ((g.name ≡ x) × (g ≡ h))
signature_split x [] g h k = by (same g.name x) refl k
  where
    same_value : (t u : Signature) → Some t ≡ Some u → t ≡ u
    same_value t u k = cc

    by : (b : Bool) → same g.name x ≡ b → (if b then Some g else None) ≡ Some h → (None ≡ Some h) ⊎ ((g.name ≡ x) × (g ≡ h))
    by true e k = inr (keys_equal g.name x e, same_value g h k)
    by false e k = absurd cc
signature_split x (f ∷ gs) g h k = by (same f.name x) k (signature_split x gs g h)
  where
    by : (b : Bool) → (if b then Some f else signature_in x (gs ++ g ∷ [])) ≡ Some h → (signature_in x (gs ++ g ∷ []) ≡ Some h → (signature_in x gs ≡ Some h) ⊎ ((g.name ≡ x) × (g ≡ h))) → ((if b then Some f else signature_in x gs) ≡ Some h) ⊎ ((g.name ≡ x) × (g ≡ h))
    by true k more = inl k
    by false k more = more k

pub among_split : (x y : List ℕ) (xs : List (List ℕ)) → list_any (same x) (xs ++ y ∷ []) ≡ true → (list_any (same x) xs ≡ true) ⊎ (x ≡ y)
among_split x y [] h = by (same x y) refl h
  where
    by : (b : Bool) → same x y ≡ b → (b || false) ≡ true → (false ≡ true) ⊎ (x ≡ y)
    by true e k = inr (keys_equal x y e)
    by false e k = inl k
among_split x y (z ∷ xs) h = by (same x z) h (among_split x y xs)
  where
    by : (b : Bool) → (b || list_any (same x) (xs ++ y ∷ [])) ≡ true → (list_any (same x) (xs ++ y ∷ []) ≡ true → (list_any (same x) xs ≡ true) ⊎ (x ≡ y)) → ((b || list_any (same x) xs) ≡ true) ⊎ (x ≡ y)
    by true k more = inl refl
    by false k more = more k

-- ---- what stands in a context

module _ (W : Deployed) (stage : Stage) (c : Contract) where
  -- a function of the contract, whose body was typed in a context of it
  pub record IsFunctionOf (x : List ℕ) (g : Signature) : Type 0 where
    pub access : Access
    pub params : List (List ℕ × PlainType)
    pub body : Tree
    pub form : form_of x c.forms ≡ Some (FunctionForm access params body)
    pub inner : Context
    pub good : IsContext W stage inner
    pub home : inner.principal ≡ c.principal
    pub found : Found
    pub typed : Fitted inner params body found
    pub sound : form_rules (function_faults access found) ≡ []
    pub signature : signature_of x access params found ≡ g

  pub record IsVariableOf (x : List ℕ) (t : PlainType) : Type 0 where
    pub initial : Tree
    pub form : form_of x c.forms ≡ Some (VariableForm t initial)
    pub there : IsSoFar stage c.principal x

  pub record IsFungibleOf (x : List ℕ) : Type 0 where
    pub supply : Option Tree
    pub form : form_of x c.forms ≡ Some (FungibleForm supply)
    pub there : IsSoFar stage c.principal x

  pub record Stand (G : Context) : Type 0 where
    pub home : G.principal ≡ c.principal
    pub functions : (x : List ℕ) (g : Signature) → signature_in x G.functions ≡ Some g → IsFunctionOf x g
    pub variables : (x : List ℕ) (t : PlainType) → named_in x G.variables ≡ Some t → IsVariableOf x t
    pub maps : (x : List ℕ) (t : PlainType × PlainType) → named_in x G.maps ≡ Some t → form_of x c.forms ≡ Some (MapForm t.0 t.1)
    pub fungibles : (x : List ℕ) → list_any (same x) G.fungibles ≡ true → IsFungibleOf x
    pub nonfungibles : (x : List ℕ) (t : PlainType) → named_in x G.nonfungibles ≡ Some t → (form_of x c.forms ≡ Some (NonFungibleForm t)) × IsSoFar stage c.principal x

  -- one more form
  stand_by : (G : Context) → IsContext W stage G → Stand G → (name : Option (List ℕ)) (kind : FormKind) (fs : List Found) → (IsDefinition kind → form_of (unwrap_or name []) c.forms ≡ Some kind) → (IsDefinition kind → IsSoFar stage c.principal (unwrap_or name [])) → KindFits kind → Follows G (form_plan kind) fs → form_rules (form_faults kind fs) ≡ [] → Stand (context_after G (unwrap_or name []) kind fs)
  stand_by G good S name (ConstantForm e) _ own now fit (part t ends) sound = record { home = S.home; functions = S.functions; variables = S.variables; maps = S.maps; fungibles = S.fungibles; nonfungibles = S.nonfungibles }
  stand_by G good S name (VariableForm t e) _ own now fit (part u ends) sound = record {
    home = S.home;
    functions = S.functions;
    variables = λ x v h. by x v (named_split x (unwrap_or name []) G.variables t v h);
    maps = S.maps;
    fungibles = S.fungibles;
    nonfungibles = S.nonfungibles;
  }
    where
      by : (x : List ℕ) (v : PlainType) → (named_in x G.variables ≡ Some v) ⊎ ((unwrap_or name [] ≡ x) × (t ≡ v)) → IsVariableOf x v
      by x v (inl h) = S.variables x v h
      by x v (inr h) = record { initial = e; form = ap (λ x. form_of x c.forms) (sym h.0) ∙ own tt ∙ ap (λ t. Some (VariableForm t e)) h.1; there = subst (IsSoFar stage c.principal) h.0 (now tt) }
  stand_by G good S name (MapForm k v) _ own now fit ends sound = record {
    home = S.home;
    functions = S.functions;
    variables = S.variables;
    maps = λ x t h. by x t (named_split x (unwrap_or name []) G.maps (k, v) t h);
    fungibles = S.fungibles;
    nonfungibles = S.nonfungibles;
  }
    where
      by : (x : List ℕ) (t : PlainType × PlainType) → (named_in x G.maps ≡ Some t) ⊎ ((unwrap_or name [] ≡ x) × ((k, v) ≡ t)) → form_of x c.forms ≡ Some (MapForm t.0 t.1)
      by x t (inl h) = S.maps x t h
      by x t (inr h) = ap (λ x. form_of x c.forms) (sym h.0) ∙ own tt ∙ ap (λ (t : PlainType × PlainType). Some (MapForm t.0 t.1)) h.1
  stand_by G good S name (FungibleForm supply) fs own now fit follows sound = record {
    home = S.home;
    functions = S.functions;
    variables = S.variables;
    maps = S.maps;
    fungibles = λ x h. by x (among_split x (unwrap_or name []) G.fungibles h);
    nonfungibles = S.nonfungibles;
  }
    where
      by : (x : List ℕ) → (list_any (same x) G.fungibles ≡ true) ⊎ (x ≡ unwrap_or name []) → IsFungibleOf x
      by x (inl h) = S.fungibles x h
      by x (inr h) = record { supply = supply; form = ap (λ x. form_of x c.forms) h ∙ own tt; there = subst (IsSoFar stage c.principal) (sym h) (now tt) }
  stand_by G good S name (NonFungibleForm t) _ own now fit ends sound = record {
    home = S.home;
    functions = S.functions;
    variables = S.variables;
    maps = S.maps;
    fungibles = S.fungibles;
    nonfungibles = λ x u h. by x u (named_split x (unwrap_or name []) G.nonfungibles t u h);
  }
    where
      by : (x : List ℕ) (u : PlainType) → (named_in x G.nonfungibles ≡ Some u) ⊎ ((unwrap_or name [] ≡ x) × (t ≡ u)) → (form_of x c.forms ≡ Some (NonFungibleForm u)) × IsSoFar stage c.principal x
      by x u (inl h) = S.nonfungibles x u h
      by x u (inr h) = (ap (λ x. form_of x c.forms) (sym h.0) ∙ own tt ∙ ap (λ t. Some (NonFungibleForm t)) h.1, subst (IsSoFar stage c.principal) h.0 (now tt))
  stand_by G good S name (FunctionForm access params body) _ own now fit (part {f = f} t ends) sound = record {
    home = S.home;
    functions = λ x g h. by x g (signature_split x G.functions (signature_of (unwrap_or name []) access params f) g h);
    variables = S.variables;
    maps = S.maps;
    fungibles = S.fungibles;
    nonfungibles = S.nonfungibles;
  }
    where
      by : (x : List ℕ) (g : Signature) → (signature_in x G.functions ≡ Some g) ⊎ ((unwrap_or name [] ≡ x) × (signature_of (unwrap_or name []) access params f ≡ g)) → IsFunctionOf x g
      by x g (inl h) = S.functions x g h
      by x g (inr h) = record {
        access = access;
        params = params;
        body = body;
        form = ap (λ x. form_of x c.forms) (sym h.0) ∙ own tt;
        inner = G;
        good = good;
        home = S.home;
        found = f;
        typed = is_fitted G t fit;
        sound = sound;
        signature = ap (λ x. signature_of x access params f) (sym h.0) ∙ h.1;
      }
  stand_by G good S name (ExpressionForm e) _ own now fit (part t ends) sound = record { home = S.home; functions = S.functions; variables = S.variables; maps = S.maps; fungibles = S.fungibles; nonfungibles = S.nonfungibles }

  stand_none : (before : List Known) → Stand (nothing_defined before c.principal c.version c.source_length).context
  stand_none before = record {
    home = refl;
    functions = λ x g h. absurd cc;
    variables = λ x t h. absurd cc;
    maps = λ x t h. absurd cc;
    fungibles = λ x h. absurd cc;
    nonfungibles = λ x t h. absurd cc;
  }

  stand_after : (D E : Defined) (form : Form) → IsContext W stage D.context → Stand D.context → (IsDefinition form.kind → IsDefining c form) → (IsDefinition form.kind → IsSoFar stage c.principal (unwrap_or form.name [])) → KindFits form.kind → FormTyped D form E → Stand E.context
  stand_after D E form good S own now fit (form_typed fs follows sound is) = subst (λ (E : Defined). Stand E.context) is (stand_by D.context good S form.name form.kind fs own now fit follows sound)

  -- what the forms so far define stands in the context, and so does what more of them define
  walk : (before : List Known) (known : AreKnown W stage before) (defined : Defined) (accepted : IsTypedAs stage before c defined) (there : contract_at c.principal W ≡ Some c) (E : Defined) (rest : List Form) → FormsTyped E rest defined → (D : Defined) (done forms : List Form) → AreForms stage c forms → accepted.order ≡ (done ++ forms) ++ rest → FormsTyped (nothing_defined before c.principal c.version c.source_length) done D → Stand D.context → FormsTyped D forms E → Stand E.context
  walk before known defined accepted there E rest more D done [] own order typed S (no_more e) = subst (λ (E : Defined). Stand E.context) e S
  walk before known defined accepted there E rest more D done (form ∷ forms) own order typed S (one_more {E = F} h later) =
      walk before known defined accepted there E rest more F (done ++ form ∷ []) forms own.3
      (order ∙ ap (λ fs. fs ++ rest) (sym (append_assoc done (form ∷ []) forms)))
      (behind done typed h)
      (stand_after D F form here_good S own.0 own.1 own.2 h) later
    where
      here_good : IsContext W stage D.context
      here_good = record {
        before = before;
        known = known;
        contract = c;
        defined = defined;
        accepted = accepted;
        there = there;
        so_far = D;
        done = done;
        rest = (form ∷ forms) ++ rest;
        order = order ∙ append_assoc done (form ∷ forms) rest;
        typed = typed;
        more = both_typed (form ∷ forms) rest (one_more h later) more;
        context = refl;
      }

-- what stands in each context of a deployed contract
pub stands_in : (W : Deployed) (stage : Stage) (G : Context) (I : IsContext W stage G) → Stand W stage I.contract G
stands_in W stage G I =
    subst (Stand W stage I.contract) I.context
    (walk W stage I.contract I.before I.known I.defined I.accepted I.there I.so_far I.rest I.more (nothing_defined I.before I.contract.principal I.contract.version I.contract.source_length) [] I.done
    (first_forms stage I.contract I.done I.rest (subst (AreForms stage I.contract) I.order I.accepted.forms)) I.order (no_more refl) (stand_none W stage I.contract I.before) I.typed)

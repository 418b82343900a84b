-- In the middle of a deployment: the contract stands in front of the deployed ones, with the forms so far.
use Rattle.std.proofs.Common.{◌≡◌, ◌⊎◌, inl, inr, ℕ, zero, suc, Bool, true, false, List, [], ◌∷◌, ◌++◌, Option, Some, None, refl, sym, ap, subst, ◌∙◌, arith}
use Rattle.std.specs.Prelude.{if◌then◌else◌, unwrap_or, Contains}
use Rattle.cl_types.specs.Types.{PlainType}
use Rattle.cl_events.proofs.Holders.{holders_apart}
use Rattle.cl_sexpr.specs.Tree.{Tree}
use Rattle.cl_values.specs.Valid.{IsPrincipal}
use Rattle.cl_maps.proofs.MapLaws.{self_equal}
use Rattle.cl_forms.specs.Forms.{Form, FormKind, VariableForm, MapForm, FungibleForm, NonFungibleForm}
use Rattle.cl_events.specs.State.{State, holder, is_principal, place, spot}
use Rattle.cl_meaning.specs.Deployed.{Contract, Deployed, contract_at, form_of}
use Rattle.cl_meaning.specs.Kept.{Defines, Stands, Stage, Whole, Behind, Kept, IsDefinition, IsAmong, IsSoFar}
use Rattle.cl_rules.specs.Context.{Known}
use Rattle.cl_expression_sound.specs.Stages.{IsDefining, AreForms, AreKnown, none_known, and_known, AreDistinct}

-- ---- the contract in front

pub in_front : (W : Deployed) (c d : Contract) → Contains (c ∷ W) d → (c ≡ d) ⊎ Contains W d
in_front W c d (zero, low, is) = inl is
in_front W c d (suc k, low, is) = inr (k, omega (arith, low), is)

behind_front : (W : Deployed) (c d : Contract) → Contains W d → Contains (c ∷ W) d
behind_front W c d (k, low, is) = (suc k, omega (arith, low), is)

front : (W : Deployed) (c : Contract) → Contains (c ∷ W) c
front W c = (0, omega arith, refl)

none_some : (c : Contract) → None ≡ Some c → ⊥
none_some c e = cc

if_front : (b : Bool) (c d : Contract) (o : Option Contract) → b ≡ false → o ≡ Some d → (if b then Some c else o) ≡ Some d
if_front true c d o e h = absurd cc
if_front false c d o e h = h

if_same : (b : Bool) (c : Contract) (o : Option Contract) → b ≡ true → (if b then Some c else o) ≡ Some c
if_same true c o e = refl
if_same false c o e = absurd cc

module _ (W : Deployed) (A : AreDistinct W) (c : Contract) (valid : IsPrincipal c.principal) (new : contract_at c.principal W ≡ None) where
  pub found_front : contract_at c.principal (c ∷ W) ≡ Some c
  found_front = if_same (is_principal c.principal c.principal) c (contract_at c.principal W) (self_equal (holder c.principal))

  -- no deployed contract has its principal
  pub another : (d : Contract) → contract_at d.principal W ≡ Some d → d.principal ≡ c.principal → ⊥
  another d h e = none_some d (sym new ∙ ap (λ p. contract_at p W) (sym e) ∙ h)

  pub found_behind : (d : Contract) → IsPrincipal d.principal → contract_at d.principal W ≡ Some d → contract_at d.principal (c ∷ W) ≡ Some d
  found_behind d k h = if_front (is_principal c.principal d.principal) c d (contract_at d.principal W) (by (is_principal c.principal d.principal) refl) h
    where
      by : (b : Bool) → is_principal c.principal d.principal ≡ b → b ≡ false
      by true e = absurd (another d h (sym (holders_apart c.principal d.principal valid k e)))
      by false e = refl

  pub distinct_front : AreDistinct (c ∷ W)
  distinct_front = record {
    valid = λ d h. valid_in d (in_front W c d h);
    found = λ d h. found_in d (in_front W c d h);
  }
    where
      valid_in : (d : Contract) → (c ≡ d) ⊎ Contains W d → IsPrincipal d.principal
      valid_in d (inl e) = subst (λ (c : Contract). IsPrincipal c.principal) e valid
      valid_in d (inr h) = A.valid d h

      found_in : (d : Contract) → (c ≡ d) ⊎ Contains W d → contract_at d.principal (c ∷ W) ≡ Some d
      found_in d (inl e) = subst (λ d. contract_at d.principal (c ∷ W) ≡ Some d) e found_front
      found_in d (inr h) = found_behind d (A.valid d h) (A.found d h)

  -- ---- known contracts

  forms_behind : (done : List Form) (d : Contract) (forms : List Form) → (d.principal ≡ c.principal → ⊥) → AreForms Whole d forms → AreForms (Behind c.principal done) d forms
  forms_behind done d [] h k = tt
  forms_behind done d (form ∷ forms) h k = (k.0, λ i e. absurd (h e), k.2, forms_behind done d forms h k.3)

  pub known_behind : (done : List Form) (ks : List Known) → AreKnown W Whole ks → AreKnown (c ∷ W) (Behind c.principal done) ks
  known_behind done ks (none_known e) = none_known e
  known_behind done ks (and_known {ks = before} d E known accepted there is) =
      and_known d E (known_behind done before known)
      (record { valid = accepted.valid; order = accepted.order; forms = forms_behind done d accepted.order (another d there) accepted.forms; typed = accepted.typed; constants = accepted.constants })
      (found_behind d accepted.valid there) is

  -- ---- states

  -- what is there before the deployment, is
  pub kept_front : (s : State) → Kept W Whole s → Kept (c ∷ W) (Behind c.principal []) s
  kept_front s n = record {
    variables_there = λ d x t e h now. n.variables_there d x t e (before d x (VariableForm t e) h now) tt;
    variables = λ key v h. let o = n.variables key v h in record { contract = o.contract; name = o.name; type = o.type; initial = o.initial; defined = after o.contract o.name (VariableForm o.type o.initial) o.defined; place = o.place; typed = o.typed };
    entries = λ key v h. let o = n.entries key v h in record { contract = o.contract; name = o.name; key_type = o.key_type; value_type = o.value_type; defined = after o.contract o.name (MapForm o.key_type o.value_type) o.defined; entry_key = o.entry_key; spot = o.spot; key_typed = o.key_typed; typed = o.typed };
    fungibles_there = λ d x e h now. n.fungibles_there d x e (before d x (FungibleForm e) h now) tt;
    fungibles = λ key v h. let o = n.fungibles key v h in record { contract = o.contract; name = o.name; supply = o.supply; defined = after o.contract o.name (FungibleForm o.supply) o.defined; place = o.place; held = o.held; capped = o.capped };
    nonfungibles_there = λ d x t h now. n.nonfungibles_there d x t (before d x (NonFungibleForm t) h now) tt;
    nonfungibles = λ key v h. let o = n.nonfungibles key v h in record { contract = o.contract; name = o.name; type = o.type; defined = after o.contract o.name (NonFungibleForm o.type) o.defined; place = o.place; owned = o.owned };
    stx = n.stx;
    uncapped = n.uncapped;
  }
    where
      before : (d : Contract) (x : List ℕ) (k : FormKind) → Defines (c ∷ W) d x k → IsSoFar (Behind c.principal []) d.principal x → Defines W d x k
      before d x k h now = by (in_front W c d h.there)
        where
          by : (c ≡ d) ⊎ Contains W d → Defines W d x k
          by (inl e) = absurd (now (ap (λ (c : Contract). c.principal) (sym e)))
          by (inr g) = record { there = g; form = h.form }

      after : (d : Contract) (x : List ℕ) (k : FormKind) → Defines W d x k → Defines (c ∷ W) d x k
      after d x k h = record { there = behind_front W c d h.there; form = h.form }

-- ---- one more form

pub among_more : (x : List ℕ) (done : List Form) (form : Form) → IsAmong x (done ++ form ∷ []) → IsAmong x done ⊎ (IsDefinition form.kind × (unwrap_or form.name [] ≡ x))
among_more x [] form (inl h) = inr h
among_more x [] form (inr h) = absurd h
among_more x (f ∷ done) form (inl h) = inl (inl h)
among_more x (f ∷ done) form (inr h) = by (among_more x done form h)
  where
    by : IsAmong x done ⊎ (IsDefinition form.kind × (unwrap_or form.name [] ≡ x)) → IsAmong x (f ∷ done) ⊎ (IsDefinition form.kind × (unwrap_or form.name [] ≡ x))
    by (inl h) = inl (inr h)
    by (inr h) = inr h

-- what is new stands there
abbrev pub IsNewThere : Contract → List ℕ → FormKind → State → Type 0
IsNewThere c x (VariableForm t e) s = Stands s.variables (place c.principal x)
IsNewThere c x (FungibleForm e) s = Stands s.fungibles (place c.principal x)
IsNewThere c x (NonFungibleForm t) s = Stands s.nonfungibles (place c.principal x)
IsNewThere c x kind s = Unit {0}

same_kind : (k l : FormKind) → Some k ≡ Some l → k ≡ l
same_kind k l e = cc

module _ (W : Deployed) (A : AreDistinct W) (c : Contract) (valid : IsPrincipal c.principal) (new : contract_at c.principal W ≡ None) where
  -- a name that is defined now was so before, or is the new one, which stands there
  grown_by : (done : List Form) (form : Form) → (IsDefinition form.kind → IsDefining c form) → (s : State) → IsNewThere c (unwrap_or form.name []) form.kind s → (d : Contract) (x : List ℕ) (k : FormKind) → Defines (c ∷ W) d x k → IsSoFar (Behind c.principal (done ++ form ∷ [])) d.principal x → IsSoFar (Behind c.principal done) d.principal x ⊎ IsNewThere d x k s
  grown_by done form own s fresh d x k h now = by (in_front W c d h.there)
    where
      here : (c ≡ d) → IsAmong x done ⊎ (IsDefinition form.kind × (unwrap_or form.name [] ≡ x)) → IsSoFar (Behind c.principal done) d.principal x ⊎ IsNewThere d x k s
      here e (inl g) = inl (λ q. g)
      here e (inr g) =
          let same : form.kind ≡ k = same_kind form.kind k (sym (own g.0) ∙ (λ i. form_of (g.1 i) (e i).forms) ∙ h.form) in
          inr (subst (λ x. IsNewThere d x k s) g.1 (subst (λ k. IsNewThere d (unwrap_or form.name []) k s) same (subst (λ c. IsNewThere c (unwrap_or form.name []) form.kind s) e fresh)))

      by : (c ≡ d) ⊎ Contains W d → IsSoFar (Behind c.principal done) d.principal x ⊎ IsNewThere d x k s
      by (inl e) = here e (among_more x done form (now (ap (λ (c : Contract). c.principal) (sym e))))
      by (inr g) = inl (λ q. absurd (another W A c valid new d (A.found d g) q))

  pub grown : (done : List Form) (form : Form) → (IsDefinition form.kind → IsDefining c form) → (s : State) → Kept (c ∷ W) (Behind c.principal done) s → IsNewThere c (unwrap_or form.name []) form.kind s → Kept (c ∷ W) (Behind c.principal (done ++ form ∷ [])) s
  grown done form own s n fresh = record {
    variables_there = λ d x t e h now. variable d x t e h (grown_by done form own s fresh d x (VariableForm t e) h now);
    variables = n.variables;
    entries = n.entries;
    fungibles_there = λ d x e h now. fungible d x e h (grown_by done form own s fresh d x (FungibleForm e) h now);
    fungibles = n.fungibles;
    nonfungibles_there = λ d x t h now. nonfungible d x t h (grown_by done form own s fresh d x (NonFungibleForm t) h now);
    nonfungibles = n.nonfungibles;
    stx = n.stx;
    uncapped = n.uncapped;
  }
    where
      variable : (d : Contract) (x : List ℕ) (t : PlainType) (e : Tree) → Defines (c ∷ W) d x (VariableForm t e) → IsSoFar (Behind c.principal done) d.principal x ⊎ IsNewThere d x (VariableForm t e) s → Stands s.variables (place d.principal x)
      variable d x t e h (inl now) = n.variables_there d x t e h now
      variable d x t e h (inr g) = g

      fungible : (d : Contract) (x : List ℕ) (e : Option Tree) → Defines (c ∷ W) d x (FungibleForm e) → IsSoFar (Behind c.principal done) d.principal x ⊎ IsNewThere d x (FungibleForm e) s → Stands s.fungibles (place d.principal x)
      fungible d x e h (inl now) = n.fungibles_there d x e h now
      fungible d x e h (inr g) = g

      nonfungible : (d : Contract) (x : List ℕ) (t : PlainType) → Defines (c ∷ W) d x (NonFungibleForm t) → IsSoFar (Behind c.principal done) d.principal x ⊎ IsNewThere d x (NonFungibleForm t) s → Stands s.nonfungibles (place d.principal x)
      nonfungible d x t h (inl now) = n.nonfungibles_there d x t h now
      nonfungible d x t h (inr g) = g

-- ---- the contract with other constants

module _ (W : Deployed) (c d : Contract) (principal : d.principal ≡ c.principal) (forms : d.forms ≡ c.forms) where
  instead : (b : Contract) (x : List ℕ) (k : FormKind) → Defines (c ∷ W) b x k → (a : Contract) × Defines (d ∷ W) a x k × (a.principal ≡ b.principal)
  instead b x k h = by (in_front W c b h.there)
    where
      by : (c ≡ b) ⊎ Contains W b → (a : Contract) × Defines (d ∷ W) a x k × (a.principal ≡ b.principal)
      by (inl e) = (d, record { there = front W d; form = ap (form_of x) (forms ∙ ap (λ (c : Contract). c.forms) e) ∙ h.form }, principal ∙ ap (λ (c : Contract). c.principal) e)
      by (inr g) = (b, record { there = behind_front W d b g; form = h.form }, refl)

module _ (W : Deployed) (stage : Stage) (c d : Contract) (principal : d.principal ≡ c.principal) (forms : d.forms ≡ c.forms) where
  pub with_others : (s : State) → Kept (c ∷ W) stage s → Kept (d ∷ W) stage s
  with_others s n = record {
    variables_there = λ b x t e h now. let a = back b x (VariableForm t e) h in subst (λ p. Stands s.variables (place p x)) a.2 (n.variables_there a.0 x t e a.1 (subst (λ p. IsSoFar stage p x) (sym a.2) now));
    variables = λ key v h.
        let o = n.variables key v h in
        let a = instead W c d principal forms o.contract o.name (VariableForm o.type o.initial) o.defined in
        record { contract = a.0; name = o.name; type = o.type; initial = o.initial; defined = a.1; place = o.place ∙ ap (λ p. place p o.name) (sym a.2); typed = o.typed };
    entries = λ key v h.
        let o = n.entries key v h in
        let a = instead W c d principal forms o.contract o.name (MapForm o.key_type o.value_type) o.defined in
        record { contract = a.0; name = o.name; key_type = o.key_type; value_type = o.value_type; defined = a.1; entry_key = o.entry_key; spot = o.spot ∙ ap (λ p. spot p o.name o.entry_key) (sym a.2); key_typed = o.key_typed; typed = o.typed };
    fungibles_there = λ b x e h now. let a = back b x (FungibleForm e) h in subst (λ p. Stands s.fungibles (place p x)) a.2 (n.fungibles_there a.0 x e a.1 (subst (λ p. IsSoFar stage p x) (sym a.2) now));
    fungibles = λ key v h.
        let o = n.fungibles key v h in
        let a = instead W c d principal forms o.contract o.name (FungibleForm o.supply) o.defined in
        record { contract = a.0; name = o.name; supply = o.supply; defined = a.1; place = o.place ∙ ap (λ p. place p o.name) (sym a.2); held = o.held; capped = o.capped };
    nonfungibles_there = λ b x t h now. let a = back b x (NonFungibleForm t) h in subst (λ p. Stands s.nonfungibles (place p x)) a.2 (n.nonfungibles_there a.0 x t a.1 (subst (λ p. IsSoFar stage p x) (sym a.2) now));
    nonfungibles = λ key v h.
        let o = n.nonfungibles key v h in
        let a = instead W c d principal forms o.contract o.name (NonFungibleForm o.type) o.defined in
        record { contract = a.0; name = o.name; type = o.type; defined = a.1; place = o.place ∙ ap (λ p. place p o.name) (sym a.2); owned = o.owned };
    stx = n.stx;
    uncapped = n.uncapped;
  }
    where
      back : (b : Contract) (x : List ℕ) (k : FormKind) → Defines (d ∷ W) b x k → (a : Contract) × Defines (c ∷ W) a x k × (a.principal ≡ b.principal)
      back b x k h = instead W d c (sym principal) (sym forms) b x k h

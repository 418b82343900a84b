-- The lines behind a block have the bounds and types of the functions of deployed contracts.
use Rattle.std.proofs.Common.{◌≡◌, ◌⊎◌, inl, inr, ℕ, ◌&&◌, Bool, true, false, List, [], ◌∷◌, ◌++◌, Option, Some, None, refl, sym, ap, subst, ◌∙◌}
use Rattle.std.specs.Prelude.{if◌then◌else◌, unwrap_or, option_map, filter_map, flat_map}
use Rattle.std.specs.List.{cons_option}
use Rattle.cl_types.proofs.Lattice.{keys_equal, key_same}
use Rattle.cl_c32.specs.declared.principal.Principal.{Principal}
use Rattle.cl_c32.proofs.Principals.{principals_equal, principal_itself}
use Rattle.cl_forms.specs.Forms.{Form, FormKind, ConstantForm, VariableForm, MapForm, FungibleForm, NonFungibleForm, FunctionForm, ExpressionForm}
use Rattle.cl_events.specs.State.{is_principal}
use Rattle.cl_meaning.specs.Deployed.{Contract, Deployed, contract_at}
use Rattle.cl_meaning.specs.Limits.{Costs}
use Rattle.cl_rules.specs.Context.{Known, Signature, known_at, same, same_principal, signature_in}
use Rattle.cl_contract_sound.specs.Nodes.{AreOfTexts}
use Rattle.cl_contract_sound.proofs.Signed.{text_there}
use Rattle.cl_contract_sound.proofs.States.{some_contract}
use Rattle.cl_tx.specs.declared.outcome.Rebound.{Rebound}
use Rattle.cl_tx.specs.Rebounds.{functions_of, functions_at, line_of, line_by, rebound_line, rebounds_of}
use Rattle.cl_node_sound.specs.Told.{FunctionLine, line_under, rebound_in}
use Rattle.cl_node_sound.proofs.BoundsSeen.{IsFunctionKind, IsAmong, accepted_among}

some_signature : (f g : Signature) → Some f ≡ Some g → f ≡ g
some_signature f g e = cc

module _ (costs : Costs) (p : Principal) (x : List ℕ) (g : Signature) where
  -- the line is the function's
  abbrev IsRight : Option FunctionLine → Type 0
  IsRight o = o ≡ Some (line_under costs g)

  module _ (q : Principal) (fs : List Signature) (own : same_principal q p ≡ true → signature_in x fs ≡ Some g) where
    -- the line of another form doesn't hide it
    skip : (kind : FormKind) (name : List ℕ) (more rest : List Rebound) → IsRight (rebound_in (more ++ rest) p x) → IsRight (rebound_in (cons_option (line_by costs q fs kind name) more ++ rest) p x)
    skip (FunctionForm access params body) name more rest h = by (signature_in name fs) refl
      where
        both : (f : Signature) → signature_in name fs ≡ Some f → (s : Bool) → same_principal q p ≡ s → (t : Bool) → same name x ≡ t → IsRight (if s && t then Some (line_under costs f) else rebound_in (more ++ rest) p x)
        both f e true i true j = ap (λ (f : Signature). Some (line_under costs f)) (some_signature f g (sym e ∙ ap (λ y. signature_in y fs) (keys_equal name x j) ∙ own i))
        both f e true i false j = h
        both f e false i true j = h
        both f e false i false j = h

        by : (o : Option Signature) → signature_in name fs ≡ o → IsRight (rebound_in (cons_option (option_map (line_of costs q name) o) more ++ rest) p x)
        by None e = h
        by (Some f) e = both f e (same_principal q p) refl (same name x) refl
    skip (ConstantForm e) name more rest h = h
    skip (VariableForm t e) name more rest h = h
    skip (MapForm k v) name more rest h = h
    skip (FungibleForm supply) name more rest h = h
    skip (NonFungibleForm t) name more rest h = h
    skip (ExpressionForm e) name more rest h = h

    -- its own line tells it
    head : (kind : FormKind) → IsFunctionKind kind → (name : List ℕ) → name ≡ x → q ≡ p → signature_in name fs ≡ Some g → (more rest : List Rebound) → IsRight (rebound_in (cons_option (line_by costs q fs kind name) more ++ rest) p x)
    head (FunctionForm access params body) is name e at s more rest =
        ap (λ o. rebound_in (cons_option (option_map (line_of costs q name) o) more ++ rest) p x) s
        ∙ ap (λ (b : Bool). if b then Some (line_under costs g) else rebound_in (more ++ rest) p x)
        ((λ i. same_principal (at i) p && same (e i) x) ∙ (λ i. principal_itself p i && key_same x i))
    head (ConstantForm b) is name e at s more rest = absurd is
    head (VariableForm t b) is name e at s more rest = absurd is
    head (MapForm k v) is name e at s more rest = absurd is
    head (FungibleForm supply) is name e at s more rest = absurd is
    head (NonFungibleForm t) is name e at s more rest = absurd is
    head (ExpressionForm b) is name e at s more rest = absurd is

    -- the lines of a contract, and those behind them
    lines_right : (forms : List Form) (rest : List Rebound) → ((q ≡ p) × IsAmong x forms) ⊎ IsRight (rebound_in rest p x) → IsRight (rebound_in (filter_map (rebound_line costs q fs) forms ++ rest) p x)
    lines_right [] rest (inl h) = absurd h.1
    lines_right [] rest (inr h) = h
    lines_right (form ∷ forms) rest (inl (at, inl h)) =
        head form.kind h.0 (unwrap_or form.name []) h.1 at (ap (λ y. signature_in y fs) h.1 ∙ own (ap (λ r. same_principal r p) at ∙ principal_itself p)) (filter_map (rebound_line costs q fs) forms) rest
    lines_right (form ∷ forms) rest (inl (at, inr h)) = skip form.kind (unwrap_or form.name []) (filter_map (rebound_line costs q fs) forms) rest (lines_right forms rest (inl (at, h)))
    lines_right (form ∷ forms) rest (inr h) = skip form.kind (unwrap_or form.name []) (filter_map (rebound_line costs q fs) forms) rest (lines_right forms rest (inr h))

  -- one of the contracts has the function
  abbrev HasIt : Deployed → Type 0
  HasIt [] = ⊥
  HasIt (c ∷ W) = ((c.principal ≡ p) × IsAmong x c.forms) ⊎ HasIt W

  has_it : (c : Contract) → (c.principal ≡ p) × IsAmong x c.forms → (W : Deployed) → contract_at c.principal W ≡ Some c → HasIt W
  has_it c h [] e = absurd cc
  has_it c h (d ∷ W) e = by (is_principal d.principal c.principal) e (has_it c h W)
    where
      by : (b : Bool) → (if b then Some d else contract_at c.principal W) ≡ Some c → (contract_at c.principal W ≡ Some c → HasIt W) → HasIt (d ∷ W)
      by true e more = inl (subst (λ (c : Contract). (c.principal ≡ p) × IsAmong x c.forms) (sym (some_contract d c e)) h)
      by false e more = inr (more e)

  module _ (ks : List Known) (k : Known) (there : known_at p ks ≡ Some k) (told : signature_in x k.functions ≡ Some g) where
    own_at : (q : Principal) → same_principal q p ≡ true → signature_in x (functions_at q ks) ≡ Some g
    own_at q e = ap (λ r. signature_in x (functions_at r ks)) (principals_equal q p e) ∙ ap (λ o. signature_in x (functions_of o)) there ∙ told

    all_right : (W : Deployed) → HasIt W → IsRight (rebound_in (flat_map (rebounds_of costs ks) W) p x)
    all_right [] h = absurd h
    all_right (c ∷ W) (inl h) = lines_right c.principal (functions_at c.principal ks) (own_at c.principal) c.forms (flat_map (rebounds_of costs ks) W) (inl h)
    all_right (c ∷ W) (inr h) = lines_right c.principal (functions_at c.principal ks) (own_at c.principal) c.forms (flat_map (rebounds_of costs ks) W) (inr (all_right W h))

    -- of deployed contracts
    pub rebounds_right : (W : Deployed) → AreOfTexts W ks → IsRight (rebound_in (flat_map (rebounds_of costs ks) W) p x)
    rebounds_right W texts =
        let t = text_there W ks texts p k there in
        let c : Contract = t.0.contract in
        let h = t.0.of_text in
        let principal : c.principal ≡ p = sym (ap (λ (k : Known). k.principal) h.known) ∙ t.1 in
        let among : IsAmong x c.forms = subst (IsAmong x) (sym h.forms) (accepted_among h.table t.0.before c.principal h.text h.accepted x g (sym (ap (λ (k : Known). signature_in x k.functions) h.known) ∙ told)) in
        all_right W (has_it c (principal, among) W t.0.there)

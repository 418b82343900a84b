-- Contracts of accepted texts are typed, and evaluations find no contract that callers don't see.
use Rattle.std.proofs.Common.{◌≡◌, Bool, true, false, List, [], ◌∷◌, ◌++◌, Option, Some, None, refl, sym, ap, subst, ◌∙◌}
use Rattle.std.specs.Prelude.{if◌then◌else◌, IsSome}
use Rattle.cl_c32.specs.declared.principal.Principal.{Principal}
use Rattle.cl_c32.proofs.Principals.{principal_itself}
use Rattle.cl_events.proofs.Holders.{holders_apart}
use Rattle.cl_sexpr.proofs.LiteralsFit.{items_fit}
use Rattle.cl_values.specs.Valid.{IsPrincipal}
use Rattle.cl_forms.specs.Texts.{Text}
use Rattle.cl_forms.specs.Forms.{Form}
use Rattle.cl_forms.specs.Fits.{FormsFit}
use Rattle.cl_forms.specs.FormBreaks.{AreForms as AreFormsOf}
use Rattle.cl_forms.specs.Shapes.{trees_of}
use Rattle.cl_forms.proofs.ExpressionsFit.{forms_of_items_fit}
use Rattle.cl_events.specs.State.{is_principal}
use Rattle.cl_meaning.specs.Deployed.{Contract, Deployed, contract_at}
use Rattle.cl_meaning.specs.Deploying.{forms_at}
use Rattle.cl_meaning.specs.Kept.{Whole}
use Rattle.cl_rules.specs.Context.{CostTable, Known, same_principal, known_at}
use Rattle.cl_rules.specs.FormRules.{nothing_defined}
use Rattle.cl_rules.specs.FormTyping.{FormsTyped}
use Rattle.cl_rules.specs.Acceptance.{Accepted, known_of}
use Rattle.cl_expression_sound.specs.Stages.{AreForms, IsTypedAs, AreKnown, none_known, and_known}
use Rattle.cl_expression_sound.proofs.Leaves.{bound_there}
use Rattle.cl_contract_sound.specs.Nodes.{IsOfText, AreOfTexts, none_yet, and_one, AreContracts}
use Rattle.cl_contract_sound.specs.Deployments.{AreItsForms}
use Rattle.cl_contract_sound.proofs.States.{at_contains}
use Rattle.cl_contract_sound.proofs.Naming.{its_forms_at}

-- ---- contracts of accepted texts

whole_forms : (c : Contract) (forms : List Form) → AreItsForms c forms → AreForms Whole c forms
whole_forms c [] h = tt
whole_forms c (form ∷ forms) h = (h.0, λ i. tt, h.1, whole_forms c forms h.2)

-- the forms of an accepted text, in their order, are what their names stand for, and their literals fit
pub text_forms : (before : List Known) (costs : CostTable) (text : Text) (c : Contract) (accepted : Accepted before c.principal costs text) → c.forms ≡ accepted.forms → AreItsForms c (forms_at accepted.forms accepted.order)
text_forms before costs text c accepted same =
    let o = accepted.typed.is_ordered in
    let fits : FormsFit accepted.forms = forms_of_items_fit o.items accepted.forms (items_fit text.bytes o.items o.reads) o.are_forms in
    subst (λ fs. AreItsForms c (forms_at fs accepted.order)) same
    (its_forms_at (trees_of o.items) c (subst (AreFormsOf text.version (trees_of o.items)) (sym same) o.are_forms) (subst FormsFit (sym same) fits) accepted.order)

typed_as : (before : List Known) (c : Contract) (k : Known) (h : IsOfText before c k) → IsTypedAs Whole before c h.accepted.defined
typed_as before c k h = record {
  valid = h.valid;
  order = forms_at h.accepted.forms h.accepted.order;
  forms = whole_forms c (forms_at h.accepted.forms h.accepted.order) (text_forms before h.table h.text c h.accepted h.forms);
  typed = subst (λ v. FormsTyped (nothing_defined before c.principal v c.source_length) (forms_at h.accepted.forms h.accepted.order) h.accepted.defined) (sym h.version)
      (subst (λ n. FormsTyped (nothing_defined before c.principal h.text.version n) (forms_at h.accepted.forms h.accepted.order) h.accepted.defined) (sym h.size) h.accepted.typed.are_typed);
  constants = λ x t e. bound_there h.accepted.defined.context.constants c.constants x t h.constants e;
}

pub are_known : (W : Deployed) (ks : List Known) → AreOfTexts W ks → AreKnown W Whole ks
are_known W ks (none_yet e) = none_known e
are_known W ks (and_one {before = before} c k texts new h there is) =
    and_known c h.accepted.defined (are_known W before texts) (typed_as before c k h) there
    (is ∙ ap (λ k. before ++ k ∷ []) (h.known ∙ ap (λ n. known_of c.principal n h.accepted.defined) (sym h.size)))

-- ---- what callers see

pub known_last : (p : Principal) (ks : List Known) (k : Known) → k.principal ≡ p → IsSome (known_at p (ks ++ k ∷ []))
known_last p [] k e = by (same_principal k.principal p) (ap (λ q. same_principal q p) e ∙ principal_itself p)
  where
    by : (b : Bool) → b ≡ true → IsSome (if b then Some k else None)
    by true h = refl
    by false h = absurd cc
known_last p (l ∷ ks) k e = by (same_principal l.principal p) (known_last p ks k e)
  where
    by : (b : Bool) → IsSome (known_at p (ks ++ k ∷ [])) → IsSome (if b then Some l else known_at p (ks ++ k ∷ []))
    by true h = refl
    by false h = h

pub known_still : (p : Principal) (ks : List Known) (k : Known) → IsSome (known_at p ks) → IsSome (known_at p (ks ++ k ∷ []))
known_still p [] k h = absurd cc
known_still p (l ∷ ks) k h = by (same_principal l.principal p) h (known_still p ks k)
  where
    by : (b : Bool) → IsSome (if b then Some l else known_at p ks) → (IsSome (known_at p ks) → IsSome (known_at p (ks ++ k ∷ []))) → IsSome (if b then Some l else known_at p (ks ++ k ∷ []))
    by true h more = refl
    by false h more = more h

pub found_principal : (p : Principal) (W : Deployed) (c : Contract) → contract_at p W ≡ Some c → is_principal c.principal p ≡ true
found_principal p [] c h = absurd cc
found_principal p (d ∷ W) c h = by (is_principal d.principal p) refl h (found_principal p W c)
  where
    same_value : Some d ≡ Some c → d ≡ c
    same_value e = cc

    by : (b : Bool) → is_principal d.principal p ≡ b → (if b then Some d else contract_at p W) ≡ Some c → (contract_at p W ≡ Some c → is_principal c.principal p ≡ true) → is_principal c.principal p ≡ true
    by true e g more = subst (λ (c : Contract). is_principal c.principal p ≡ true) (same_value g) e
    by false e g more = more g

-- what callers don't see isn't found by evaluations
pub not_there : (W : Deployed) (ks : List Known) → AreContracts W ks → (p : Principal) → IsPrincipal p → known_at p ks ≡ None → contract_at p W ≡ None
not_there W ks A p valid new = by (contract_at p W) refl
  where
    nothing_known : {o : Option Contract} → IsSome {T = Known} None → o ≡ None
    nothing_known h = absurd cc

    by : (o : Option Contract) → contract_at p W ≡ o → o ≡ None
    by None e = refl
    by (Some c) e =
        let here = at_contains p W c e in
        let same : c.principal ≡ p = holders_apart c.principal p (A.distinct.valid c here) valid (found_principal p W c e) in
        nothing_known (subst IsSome (ap (λ q. known_at q ks) same ∙ new) (A.known c here))

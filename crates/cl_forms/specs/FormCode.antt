-- How a ghost variable stores a form.
use Rattle.std.specs.Prelude.{◌≡◌, ◌⊎◌, ℕ, zero, suc, List, Option, refl}
use Rattle.std.specs.Coded.{Coded, coded_list, coded_option, coded_ℕ, coded×, coded⊎, code_by}
use Rattle.std.proofs.Common.{inl, inr}
use Rattle.cl_types.specs.Types.{PlainType}
use Rattle.cl_types.specs.TypeCode.{type_code}
use Rattle.cl_types.specs.declared.sized.Access.{Access}
use Rattle.cl_types.specs.declared.sized.Access.TheVariants.{Public, ReadOnly, Private}
use Rattle.cl_sexpr.specs.declared.sexpr.Span.{Span}
use Rattle.cl_sexpr.specs.Tree.{Tree}
use Rattle.cl_sexpr.specs.TreeCode.{tree_code}
use Rattle.cl_forms.specs.Forms.{Form, FormKind, ConstantForm, VariableForm, MapForm, FungibleForm, NonFungibleForm, FunctionForm, ExpressionForm}

abbrev texts : Coded (List ℕ)
texts = coded_list coded_ℕ

abbrev span_code : Coded Span
span_code = code_by (ℕ × ℕ) (coded× coded_ℕ coded_ℕ) (λ s. (s.start, s.end)) (λ p. record { start = p.0; end = p.1 }) (λ _. refl)

abbrev access_number : Access → ℕ
access_number Public = 0
access_number ReadOnly = 1
access_number Private = 2

abbrev access_at : ℕ → Access
access_at zero = Public
access_at (suc zero) = ReadOnly
access_at (suc (suc n)) = Private

pub access_again : (access : Access) → access_at (access_number access) ≡ access
access_again Public = refl
access_again ReadOnly = refl
access_again Private = refl

abbrev access_code : Coded Access
access_code = code_by ℕ coded_ℕ access_number access_at access_again

abbrev Params : Type 0
Params = List (List ℕ × PlainType)

abbrev params_code : Coded Params
params_code = coded_list (coded× texts type_code)

abbrev Kinds : Type 0
Kinds = (Tree ⊎ (PlainType × Tree)) ⊎ ((PlainType × PlainType) ⊎ (Option Tree ⊎ (PlainType ⊎ ((Access × (Params × Tree)) ⊎ Tree))))

abbrev split : FormKind → Kinds
split (ConstantForm e) = inl (inl e)
split (VariableForm t e) = inl (inr (t, e))
split (MapForm k v) = inr (inl (k, v))
split (FungibleForm supply) = inr (inr (inl supply))
split (NonFungibleForm t) = inr (inr (inr (inl t)))
split (FunctionForm access params body) = inr (inr (inr (inr (inl (access, (params, body))))))
split (ExpressionForm e) = inr (inr (inr (inr (inr e))))

abbrev join : Kinds → FormKind
join (inl (inl e)) = ConstantForm e
join (inl (inr p)) = VariableForm p.0 p.1
join (inr (inl p)) = MapForm p.0 p.1
join (inr (inr (inl supply))) = FungibleForm supply
join (inr (inr (inr (inl t)))) = NonFungibleForm t
join (inr (inr (inr (inr (inl p))))) = FunctionForm p.0 p.1.0 p.1.1
join (inr (inr (inr (inr (inr e))))) = ExpressionForm e

pub join-split : (kind : FormKind) → join (split kind) ≡ kind
join-split (ConstantForm e) = refl
join-split (VariableForm t e) = refl
join-split (MapForm k v) = refl
join-split (FungibleForm supply) = refl
join-split (NonFungibleForm t) = refl
join-split (FunctionForm access params body) = refl
join-split (ExpressionForm e) = refl

abbrev kind_code : Coded FormKind
kind_code =
    code_by Kinds
    (coded⊎ (coded⊎ tree_code (coded× type_code tree_code))
    (coded⊎ (coded× type_code type_code)
    (coded⊎ (coded_option tree_code)
    (coded⊎ type_code
    (coded⊎ (coded× access_code (coded× params_code tree_code)) tree_code)))))
    split join join-split

abbrev pub form_code : Coded Form
form_code =
    code_by (Option (List ℕ) × (FormKind × Span)) (coded× (coded_option texts) (coded× kind_code span_code))
    (λ f. (f.name, (f.kind, f.span))) (λ p. record { name = p.0; kind = p.1.0; span = p.1.1 }) (λ _. refl)

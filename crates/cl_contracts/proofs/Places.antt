-- What stands under a name.
use Rattle.std.proofs.Common.{◌≡◌, ◌⊎◌, inl, inr, ℕ, zero, suc, ◌<◌, length, arith, Bool, true, false, cond, List, [], ◌∷◌, map, slice_get, Option, Some, None, refl, sym, ap, ◌∙◌, Bor}
use Rattle.std.specs.Prelude.{nat_eq, if◌then◌else◌, option_map, option_and_then, option_copied}
use Rattle.std.specs.Map.{lookup}
use Rattle.std.specs.Cmp.Lexicographic.{pointwise}
use Rattle.std.proofs.lemmas.Cmp.{nat_list_eq_equiv}
use Rattle.cl_types.proofs.Lattice.{keys_equal}
use Rattle.cl_forms.proofs.SameNames.{same_turned}
use Rattle.cl_values.specs.Tree.{Tree as Val}
use Rattle.cl_forms.specs.Forms.{Form}
use Rattle.cl_forms.specs.Names.{name_at}
use Rattle.cl_code.specs.declared.definition.Function.{Function as TypedFunction}
use Rattle.cl_code.specs.declared.definition.Definition.{Definition}
use Rattle.cl_code.specs.declared.definition.Definition.TheVariants.{Constant, Variable, MapOf, Fungible, NonFungible, Function, TopLevel}
use Rattle.cl_code.specs.Definitions.{form_defined}
use Rattle.cl_meaning.specs.Deployed.{has_name, form_of, value_of, function_in, as_function as function_by, Function as FunctionSeen}
use Rattle.cl_rules.specs.Context.{named_in}
use Rattle.cl_contracts.specs.declared.parts.Parts.{Parts as Checked}
use Rattle.cl_contracts.specs.Seen.{forms_of, kind_at, definition_under, as_function, function_under, function_seen, IsIndexed}

-- a table's look-up is that of the definitions
pub under_name : {A : Type 0} (x : List ℕ) (es : List (List ℕ × A)) → lookup (pointwise nat_eq x) es ≡ named_in x es
under_name {A = A} x [] = refl
under_name {A = A} x (e ∷ es) = ap (λ (s : Bool). cond s (Some e.1) (lookup (pointwise nat_eq x) es)) (same_turned x e.0) ∙ ap (λ (o : Option A). cond (pointwise nat_eq e.0 x) (Some e.1) o) (under_name x es)

pub value_under : (x : List ℕ) (es : List (List ℕ × Val)) → lookup (pointwise nat_eq x) es ≡ value_of x es
value_under x [] = refl
value_under x (e ∷ es) = ap (λ (s : Bool). cond s (Some e.1) (lookup (pointwise nat_eq x) es)) (same_turned x e.0) ∙ ap (λ (o : Option Val). cond (pointwise nat_eq e.0 x) (Some e.1) o) (value_under x es)

-- what is lent
pub lent : {A B : Type 0} (f : A → B) (o : Option (Bor A)) → option_map (λ (c : Bor A). f c.now) o ≡ option_map f (option_copied o)
lent f None = refl
lent f (Some c) = refl

-- ---- the first form of a name

pub record IsFirst (x : List ℕ) (forms : List Form) : Type 0 where
  pub place : ℕ
  pub form : Form
  pub there : slice_get forms place ≡ Some form
  pub named : name_at forms place ≡ Some x
  pub is : form_of x forms ≡ Some form.kind

pub record IsNowhere (x : List ℕ) (forms : List Form) : Type 0 where
  pub nowhere : (n : ℕ) → name_at forms n ≡ Some x → ⊥
  pub none : form_of x forms ≡ None

pub has_it : (x : List ℕ) (o : Option (List ℕ)) → has_name x o ≡ true → o ≡ Some x
has_it x None h = absurd cc
has_it x (Some y) h = ap (λ (z : List ℕ). Some z) (keys_equal y x h)

pub self_same : (x : List ℕ) → pointwise nat_eq x x ≡ true
self_same x = nat_list_eq_equiv.refl x

has_not : (x : List ℕ) (o : Option (List ℕ)) → has_name x o ≡ false → o ≡ Some x → ⊥
has_not x None h e = absurd cc
has_not x (Some y) h e =
    let same : y ≡ x = cc in
    let one : pointwise nat_eq y x ≡ true = ap (λ (z : List ℕ). pointwise nat_eq z x) same ∙ self_same x in
    cc

nowhere_on : (x : List ℕ) (f : Form) (fs : List Form) → has_name x f.name ≡ false → IsNowhere x fs → (n : ℕ) → name_at (f ∷ fs) n ≡ Some x → ⊥
nowhere_on x f fs h none zero e = has_not x f.name h e
nowhere_on x f fs h none (suc n) e = none.nowhere n e

pub first_of_name : (x : List ℕ) (fs : List Form) → IsFirst x fs ⊎ IsNowhere x fs
first_of_name x [] = inr (record { nowhere = λ n e. absurd cc; none = refl })
first_of_name x (f ∷ fs) = by (has_name x f.name) refl (first_of_name x fs)
  where
    by : (b : Bool) → has_name x f.name ≡ b → IsFirst x fs ⊎ IsNowhere x fs → IsFirst x (f ∷ fs) ⊎ IsNowhere x (f ∷ fs)
    by true e rest = inl (record { place = 0; form = f; there = refl; named = has_it x f.name e; is = ap (λ (b : Bool). if b then Some f.kind else form_of x fs) e })
    by false e (inl k) = inl (record { place = suc k.place; form = k.form; there = k.there; named = k.named; is = ap (λ (b : Bool). if b then Some f.kind else form_of x fs) e ∙ k.is })
    by false e (inr k) = inr (record { nowhere = nowhere_on x f fs e k; none = ap (λ (b : Bool). if b then Some f.kind else form_of x fs) e ∙ k.none })

-- ---- definitions by the index of names

pub get_map : (ds : List Definition) (n : ℕ) → slice_get (map form_defined ds) n ≡ option_map form_defined (slice_get ds n)
get_map [] n = refl
get_map (d ∷ ds) zero = refl
get_map (d ∷ ds) (suc n) = get_map ds n

pub within : (fs : List Form) (n : ℕ) (f : Form) → slice_get fs n ≡ Some f → n < length fs
within [] n f h = absurd cc
within (g ∷ fs) zero f h = omega arith
within (g ∷ fs) (suc n) f h = omega (arith, within fs n f h)

kind_some : (o : Option Definition) (f : Form) → option_map form_defined o ≡ Some f → option_map kind_at o ≡ Some f.kind
kind_some None f h = absurd cc
kind_some (Some d) f h = let one : form_defined d ≡ f = cc in ap (λ (g : Form). Some g.kind) one

pub form_under : (x : List ℕ) (c : Checked) → IsIndexed c → option_map kind_at (definition_under x c) ≡ form_of x (forms_of c)
form_under x c ok = by (first_of_name x (forms_of c))
  where
    none : (o : Option ℕ) → named_in x c.places.entries ≡ o → IsNowhere x (forms_of c) → option_map kind_at (option_and_then (slice_get c.definitions.items) o) ≡ None
    none None e k = refl
    none (Some n) e k = absurd (k.nowhere n (ok.named x n e))

    by : IsFirst x (forms_of c) ⊎ IsNowhere x (forms_of c) → option_map kind_at (definition_under x c) ≡ form_of x (forms_of c)
    by (inl k) =
        ap (λ (o : Option ℕ). option_map kind_at (option_and_then (slice_get c.definitions.items) o)) (ok.placed x k.place k.named)
        ∙ kind_some (slice_get c.definitions.items k.place) k.form (sym (get_map c.definitions.items k.place) ∙ k.there) ∙ sym k.is
    by (inr k) = none (named_in x c.places.entries) refl k ∙ sym k.none

-- ---- functions

-- what stands under a name has the name
pub under_named : (x : List ℕ) (c : Checked) (d : Definition) → IsIndexed c → definition_under x c ≡ Some d → (form_defined d).name ≡ Some x
under_named x c d ok h = by (named_in x c.places.entries) refl h
  where
    by : (o : Option ℕ) → named_in x c.places.entries ≡ o → option_and_then (slice_get c.definitions.items) o ≡ Some d → (form_defined d).name ≡ Some x
    by None e k = absurd cc
    by (Some n) e k =
        let there : slice_get (forms_of c) n ≡ Some (form_defined d) = get_map c.definitions.items n ∙ ap (option_map form_defined) k in
        sym (ap (option_and_then (λ (f : Form). f.name)) there) ∙ ok.named x n e

pub function_is : (x : List ℕ) (c : Checked) → IsIndexed c → option_map function_seen (function_under x c) ≡ function_in x (forms_of c)
function_is x c ok = by (definition_under x c) refl ∙ ap (option_and_then (function_by x)) (form_under x c ok)
  where
    named_so : (f : TypedFunction) → f.name ≡ x → function_seen f ≡ record { name = x; access = f.access; params = f.params.items; body = (function_seen f).body }
    named_so f e = ap (λ (y : List ℕ). let one : FunctionSeen = record { name = y; access = f.access; params = f.params.items; body = (function_seen f).body } in one) e

    one : (d : Definition) → (form_defined d).name ≡ Some x → option_map function_seen (as_function d) ≡ function_by x (kind_at d)
    one (Constant c) e = refl
    one (Variable c) e = refl
    one (MapOf c) e = refl
    one (Fungible c) e = refl
    one (NonFungible c) e = refl
    one (Function f) e = let y : f.name ≡ x = cc in ap (λ (g : FunctionSeen). Some g) (named_so f y)
    one (TopLevel c) e = refl

    by : (o : Option Definition) → definition_under x c ≡ o → option_map function_seen (option_and_then as_function o) ≡ option_and_then (function_by x) (option_map kind_at o)
    by None e = refl
    by (Some d) e = one d (under_named x c d ok e)

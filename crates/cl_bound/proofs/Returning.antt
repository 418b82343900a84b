-- What deployed functions return is what their callers see returned.
use Rattle.std.proofs.Common.{◌≡◌, ℕ, true, List, slice_get, Option, Some, None, sym, ap, subst, ◌∙◌}
use Rattle.std.specs.Prelude.{option_map, option_and_then}
use Rattle.std.specs.Cmp.{IsEquivalence}
use Rattle.std.specs.List.{IsDistinct}
use Rattle.std.specs.Map.{keys_of}
use Rattle.std.proofs.lemmas.Map.Entries.{lookup_from_place}
use Rattle.cl_c32.specs.declared.principal.Principal.{Principal}
use Rattle.cl_c32.specs.contracts.principal.PrincipalPartialEq.TheImpl.{eq-value}
use Rattle.cl_c32.proofs.Principals.{principal_itself, principals_turned, principals_equal, same_in_code}
use Rattle.cl_forms.specs.Forms.{Form}
use Rattle.cl_code.specs.Definitions.{form_defined}
use Rattle.cl_code.specs.declared.definition.Function.{Function as TypedFunction}
use Rattle.cl_code.specs.declared.definition.Definition.{Definition}
use Rattle.cl_code.specs.declared.definition.Definition.TheVariants.{Constant, Variable, MapOf, Fungible, NonFungible, Function, TopLevel}
use Rattle.cl_rules.specs.Context.{Known, Signature, known_at, signature_in}
use Rattle.cl_contracts.specs.declared.checked.Checked.{Checked}
use Rattle.cl_contracts.specs.declared.contract.Contract.{Contract}
use Rattle.cl_contracts.specs.declared.deployed.Deployed.{Deployed}
use Rattle.cl_contracts.specs.Seen.{AreIndexed, IsIndexed, as_function, contract_under, function_under}
use Rattle.cl_contracts.specs.Standings.{Knows}
use Rattle.cl_contracts.specs.Known.{Shown, seen, shown, AreKnownAs, IsKnownAs, KnownAsDeployed}
use Rattle.cl_contracts.proofs.Places.{get_map}
use Rattle.cl_contracts.proofs.Principals.{under_principal}
use Rattle.cl_tx.specs.Rebounds.{functions_of, functions_at}
use Rattle.cl_bound.specs.Reaches.{ReturnsAs, AllReturnAs}
use Rattle.cl_bound.proofs.Reaching.{entry_at}

equal_is : (p q : Principal) → eq-value.it p q ≡ true → p ≡ q
equal_is p q h = principals_equal p q (sym (same_in_code p q) ∙ h)

principals : IsEquivalence eq-value.it
principals = record {
  refl = λ p. same_in_code p p ∙ principal_itself p;
  symm = λ p q. same_in_code p q ∙ principals_turned p q ∙ sym (same_in_code q p);
  congr = λ p q r h. ap (λ (s : Principal). eq-value.it s r) (equal_is p q h);
}

-- a contract is found under its principal
found_there : (es : List (Principal × Contract)) (i : ℕ) (p : Principal) (c : Contract) → IsDistinct eq-value.it (keys_of es) → slice_get es i ≡ Some (p, c) → contract_under p es ≡ Some c
found_there es i p c distinct there = sym (under_principal p es) ∙ lookup_from_place principals es i p c distinct there

-- a function is found under its name
function_there : (c : Checked) (n : ℕ) (f : TypedFunction) → IsIndexed c → slice_get c.definitions.items n ≡ Some (Function f) → function_under f.name c ≡ Some f
function_there c n f indexed there =
    let form = get_map c.definitions.items n ∙ ap (option_map form_defined) there in
    let place = indexed.placed f.name n (ap (option_and_then (λ (g : Form). g.name)) form) in
    ap (λ (o : Option ℕ). option_and_then as_function (option_and_then (slice_get c.definitions.items) o)) place ∙ ap (option_and_then as_function) there

same_returns : (g : Option Signature) (s : Signature) (f : TypedFunction) → option_map seen g ≡ Some (shown f) → g ≡ Some s → s.returns ≡ f.returns
same_returns None s f h is = absurd cc
same_returns (Some g) s f h is =
    let one : seen g ≡ shown f = cc in
    let same : g ≡ s = cc in
    ap (λ (u : Signature). u.returns) (sym same) ∙ ap (λ (u : Shown). u.returns) one

module _ (c : Contract) (k : Known) (known : IsKnownAs c k) (indexed : IsIndexed c.checked) where
  returns_so : (n : ℕ) (d : Definition) → slice_get c.checked.definitions.items n ≡ Some d → ReturnsAs k.functions d
  returns_so n (Function f) there = λ g is. same_returns (signature_in f.name k.functions) g f (known.functions f.name ∙ ap (option_map shown) (function_there c.checked n f indexed there)) is
  returns_so n (Constant d) there = tt
  returns_so n (Variable d) there = tt
  returns_so n (MapOf d) there = tt
  returns_so n (Fungible d) there = tt
  returns_so n (NonFungible d) there = tt
  returns_so n (TopLevel d) there = tt

pub all_return : KnownAsDeployed → (d : Deployed) (callers : List Known) (i : ℕ) (p : Principal) (c : Contract) → AreIndexed d → Knows d callers → IsDistinct eq-value.it (keys_of d.contracts) → slice_get d.contracts i ≡ Some (p, c) → AllReturnAs (functions_at p callers) c.checked.definitions.items
all_return law d callers i p c indexed knows distinct there =
    by (contract_under p d.contracts) (known_at p callers) (law d callers indexed knows p) (found_there d.contracts i p c distinct there)
  where
    by : (o : Option Contract) (q : Option Known) → AreKnownAs o q → o ≡ Some c → AllReturnAs (functions_of q) c.checked.definitions.items
    by None q h e = absurd cc
    by (Some e) None h is = absurd h
    by (Some e) (Some k) h is =
        let same : e ≡ c = cc in
        returns_so c k (subst (λ (x : Contract). IsKnownAs x k) same h) (entry_at d.contracts i (p, c) indexed.each there).indexed

-- The contract of a principal in a table.
use Rattle.std.proofs.Common.{◌≡◌, Bool, true, false, cond, List, [], ◌∷◌, ◌++◌, map, Option, Some, None, refl, sym, ap, ◌∙◌}
use Rattle.std.specs.Prelude.{if◌then◌else◌, option_map}
use Rattle.std.specs.Cmp.{both_ways}
use Rattle.std.specs.Map.{lookup}
use Rattle.cl_c32.specs.declared.principal.Principal.{Principal}
use Rattle.cl_c32.specs.Principals.{same_principal}
use Rattle.cl_c32.specs.contracts.principal.PrincipalPartialEq.TheImpl.{eq-value}
use Rattle.cl_c32.proofs.Principals.{principal_itself, principals_equal, principals_turned, same_in_code}
use Rattle.cl_maps.proofs.MapLaws.{same_keys, self_equal}
use Rattle.cl_values.specs.Tree.{Tree, PrincipalV}
use Rattle.cl_values.specs.Wire.{wire}
use Rattle.cl_values.specs.Valid.{IsVal, IsPrincipal}
use Rattle.cl_values.proofs.Parts.{principal_is_val}
use Rattle.cl_events.specs.State.{holder, is_principal}
use Rattle.cl_meaning.specs.Deployed.{contract_at, Contract as ContractSeen}
use Rattle.cl_audit_steps.specs.declared.scope.Contract.{Contract}
use Rattle.cl_audit_steps.specs.Seen.{contract_seen, contracts_seen}
use Rattle.cl_audit_steps.specs.Tables.{IsOwn, EachOwn}

-- ---- principals

abbrev pub OwnSpelling : Type 0
OwnSpelling = (v w : Tree) → IsVal v → IsVal w → wire v ≡ wire w → v ≡ w

one_principal : OwnSpelling → (p q : Principal) → IsPrincipal p → IsPrincipal q → is_principal p q ≡ true → p ≡ q
one_principal own p q vp vq e =
    let spelled : wire (PrincipalV p) ≡ wire (PrincipalV q) = same_keys (holder p) (holder q) e in
    let same : PrincipalV p ≡ PrincipalV q = own (PrincipalV p) (PrincipalV q) (principal_is_val p vp) (principal_is_val q vq) spelled in
    cc

same_so : OwnSpelling → (p q : Principal) → IsPrincipal p → IsPrincipal q → same_principal p q ≡ is_principal p q
same_so own p q vp vq = both_ways (same_principal p q) (is_principal p q)
    (λ h. ap (λ (r : Principal). is_principal p r) (sym (principals_equal p q h)) ∙ self_equal (holder p))
    (λ h. ap (λ (r : Principal). same_principal p r) (sym (one_principal own p q vp vq h)) ∙ principal_itself p)

-- ---- look-ups

-- the test of a table is that of the definitions
test_is : OwnSpelling → (p : Principal) (e : Principal × Contract) → IsPrincipal p → IsOwn e → eq-value.it p e.0 ≡ is_principal e.1.principal p
test_is own p e vp ok = same_in_code p e.0 ∙ principals_turned p e.0 ∙ same_so own e.0 p ok.valid vp ∙ ap (λ (q : Principal). is_principal q p) (sym ok.principal)

-- what is found is what evaluations see
pub contract_is : OwnSpelling → (p : Principal) (es : List (Principal × Contract)) → IsPrincipal p → EachOwn es → option_map contract_seen (lookup (eq-value.it p) es) ≡ contract_at p (contracts_seen (map (λ e. e.1) es))
contract_is own p [] vp ok = refl
contract_is own p (e ∷ es) vp ok =
    ap (λ (b : Bool). option_map contract_seen (cond b (Some e.1) (lookup (eq-value.it p) es))) (test_is own p e vp ok.0)
    ∙ by (is_principal e.1.principal p) (lookup (eq-value.it p) es) (contract_at p (contracts_seen (map (λ d. d.1) es))) (contract_is own p es vp ok.1)
  where
    by : (b : Bool) (o : Option Contract) (r : Option ContractSeen) → option_map contract_seen o ≡ r → option_map contract_seen (cond b (Some e.1) o) ≡ (if b then Some (contract_seen e.1) else r)
    by true o r h = refl
    by false o r h = h

none_there : (o : Option Contract) → option_map contract_seen o ≡ None → o ≡ None
none_there None h = refl
none_there (Some c) h = absurd cc

pub absent : OwnSpelling → (p : Principal) (es : List (Principal × Contract)) → IsPrincipal p → EachOwn es → contract_at p (contracts_seen (map (λ e. e.1) es)) ≡ None → lookup (eq-value.it p) es ≡ None
absent own p es vp ok none = none_there (lookup (eq-value.it p) es) (contract_is own p es vp ok ∙ none)

-- ---- one more

pub own_more : (es : List (Principal × Contract)) (e : Principal × Contract) → EachOwn es → IsOwn e → EachOwn (es ++ e ∷ [])
own_more [] e ok one = (one, tt)
own_more (d ∷ es) e ok one = (ok.0, own_more es e ok.1 one)

pub contracts_more : (es : List (Principal × Contract)) (e : Principal × Contract) → map (λ (d : Principal × Contract). d.1) (es ++ e ∷ []) ≡ map (λ (d : Principal × Contract). d.1) es ++ e.1 ∷ []
contracts_more [] e = refl
contracts_more (d ∷ es) e = ap (λ cs. d.1 ∷ cs) (contracts_more es e)

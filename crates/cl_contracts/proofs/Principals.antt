-- The contract of a principal.
use Rattle.std.proofs.Common.{◌≡◌, Bool, true, false, cond, List, [], ◌∷◌, ◌++◌, map, Option, Some, None, refl, sym, ap, subst, ◌∙◌, Bor}
use Rattle.std.specs.Prelude.{if◌then◌else◌, option_map, option_copied, IfSome}
use Rattle.std.specs.Cmp.{both_ways}
use Rattle.std.specs.Map.{lookup}
use Rattle.cl_c32.specs.declared.principal.Principal.{Principal}
use Rattle.cl_c32.specs.contracts.principal.PrincipalPartialEq.TheImpl.{eq-value}
use Rattle.cl_c32.proofs.Principals.{principal_itself, principals_turned, same_in_code}
pub use Rattle.cl_c32.proofs.Principals.{principals_equal, principals_turned as same_principal_turned}
use Rattle.cl_maps.proofs.MapLaws.{same_keys, self_equal}
use Rattle.cl_values.specs.Tree.{Tree, PrincipalV}
use Rattle.cl_values.specs.Wire.{wire}
use Rattle.cl_values.specs.Valid.{IsVal, IsPrincipal}
use Rattle.cl_values.proofs.Parts.{principal_is_val}
use Rattle.cl_events.specs.State.{holder, is_principal}
use Rattle.cl_meaning.specs.Deployed.{contract_at}
use Rattle.cl_rules.specs.Context.{same_principal}
use Rattle.cl_contracts.specs.Contents.{ContractParts as Contract}
use Rattle.cl_contracts.specs.Seen.{contract_seen, contract_under, IsEntry, AreEntries}

-- ---- principals

abbrev pub OwnSpelling : Type 0
OwnSpelling = (v w : Tree) → IsVal v → IsVal w → wire v ≡ wire w → v ≡ w

-- principals with one key are one
pub one_principal : OwnSpelling → (p q : Principal) → IsPrincipal p → IsPrincipal q → is_principal p q ≡ true → p ≡ q
one_principal own p q vp vq e =
    let spelled : wire (PrincipalV p) ≡ wire (PrincipalV q) = same_keys (holder p) (holder q) e in
    let same : PrincipalV p ≡ PrincipalV q = own (PrincipalV p) (PrincipalV q) (principal_is_val p vp) (principal_is_val q vq) spelled in
    cc

-- the test by parts is the test by keys
pub same_so : OwnSpelling → (p q : Principal) → IsPrincipal p → IsPrincipal q → same_principal p q ≡ is_principal p q
same_so own p q vp vq = both_ways (same_principal p q) (is_principal p q)
    (λ h. ap (λ (r : Principal). is_principal p r) (sym (principals_equal p q h)) ∙ self_equal (holder p))
    (λ h. ap (λ (r : Principal). same_principal p r) (sym (one_principal own p q vp vq h)) ∙ principal_itself p)

-- ---- look-ups

-- a table's look-up is that of the definitions
pub under_principal : (p : Principal) (es : List (Principal × Contract)) → lookup (eq-value.it p) es ≡ contract_under p es
under_principal p [] = refl
under_principal p (e ∷ es) = ap (λ (b : Bool). cond b (Some e.1) (lookup (eq-value.it p) es)) (same_in_code p e.0 ∙ principals_turned p e.0) ∙ ap (λ (o : Option Contract). cond (same_principal e.0 p) (Some e.1) o) (under_principal p es)

-- what is found is what evaluations see
pub contract_is : OwnSpelling → (p : Principal) (es : List (Principal × Contract)) → IsPrincipal p → AreEntries es → option_map (λ (c : Contract). contract_seen (p, c)) (contract_under p es) ≡ contract_at p (map contract_seen es)
contract_is own p [] vp ok = refl
contract_is own p (e ∷ es) vp ok =
    by (same_principal e.0 p) refl (contract_is own p es vp ok.1) ∙ ap (λ (b : Bool). if b then Some (contract_seen e) else contract_at p (map contract_seen es)) (same_so own e.0 p ok.0.valid vp)
  where
    by : (b : Bool) → same_principal e.0 p ≡ b → option_map (λ (c : Contract). contract_seen (p, c)) (contract_under p es) ≡ contract_at p (map contract_seen es) → option_map (λ (c : Contract). contract_seen (p, c)) (if b then Some e.1 else contract_under p es) ≡ (if b then Some (contract_seen e) else contract_at p (map contract_seen es))
    by true h rest = ap (λ (q : Principal). Some (contract_seen (q, e.1))) (sym (principals_equal e.0 p h))
    by false h rest = rest

abbrev pub EntryIf : Principal → Option Contract → Type 0
EntryIf p None = Unit {0}
EntryIf p (Some c) = IsEntry (p, c)

pub entry_is : (p : Principal) (es : List (Principal × Contract)) → AreEntries es → EntryIf p (contract_under p es)
entry_is p [] ok = tt
entry_is p (e ∷ es) ok = by (same_principal e.0 p) refl (entry_is p es ok.1)
  where
    by : (b : Bool) → same_principal e.0 p ≡ b → EntryIf p (contract_under p es) → EntryIf p (if b then Some e.1 else contract_under p es)
    by true h rest = subst (λ (q : Principal). IsEntry (q, e.1)) (principals_equal e.0 p h) ok.0
    by false h rest = rest

pub entries_more : (es : List (Principal × Contract)) (e : Principal × Contract) → AreEntries es → IsEntry e → AreEntries (es ++ e ∷ [])
entries_more [] e ok one = (one, tt)
entries_more (d ∷ es) e ok one = (ok.0, entries_more es e ok.1 one)

pub entry_lent : (p : Principal) (o : Option (Bor Contract)) → EntryIf p (option_copied o) → IfSome o (λ c. IsEntry (p, c.now))
entry_lent p None h = tt
entry_lent p (Some c) h = h

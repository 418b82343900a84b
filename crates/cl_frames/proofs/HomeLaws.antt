-- The contracts of principals, as the code finds them.
use Rattle.std.proofs.Common.{◌≡◌, ℕ, Bool, true, false, List, [], ◌∷◌, Option, Some, None, refl, sym, ap, ◌∙◌, rules}
use Rattle.std.specs.Prelude.{if◌then◌else◌, option_and_then}
use Rattle.cl_c32.specs.declared.principal.Principal.{Principal}
use Rattle.cl_maps.proofs.MapLaws.{same_keys}
use Rattle.cl_rules.specs.Context.{same_principal}
use Rattle.cl_events.specs.State.{holder, is_principal}
use Rattle.cl_tokens.specs.Table.{is_key}
use Rattle.cl_meaning.specs.Deployed.{Contract, Deployed, contract_at, native_of}
use Rattle.cl_contracts.proofs.Principals.{OwnSpelling, same_so}
use Rattle.cl_c32.specs.contracts.principal.PrincipalPartialEq.TheImpl.{eq-value}
use Rattle.cl_contracts.specs.Contents.{ContractParts as ContractOfCode}
use Rattle.cl_contracts.specs.declared.deployed.Deployed.{Deployed as DeployedOfCode}
use Rattle.cl_contracts.specs.declared.parts.Parts.{Parts}
use Rattle.cl_contracts.specs.Seen.{contract_seen, forms_of, deployed_seen}
use Rattle.cl_values.specs.Valid.{IsPrincipal}
use Rattle.cl_forms.specs.Shapes.{beside}
use Rattle.cl_code.specs.declared.op.Target.{Target}
use Rattle.cl_code.specs.declared.op.Target.TheVariants.{Standing, Local}
use Rattle.cl_code.specs.Expression.{target}
use Rattle.cl_meaning.specs.Scope.{Scope}
use Rattle.cl_meaning.specs.Calls.{other_contract, target_of}
use Rattle.cl_frames.specs.declared.frame.Frame.{Frame as FrameOfCode}
use Rattle.cl_frames.specs.declared.home.Home.{Home}
use Rattle.cl_frames.specs.declared.context.Context.{Context}
use Rattle.cl_frames.specs.Homes.{home_seen, with_opening, IsHome}
use Rattle.cl_values.specs.Tree.{Tree as Val}
use Rattle.cl_frames.specs.Seen.{IsOfVersion, scope_of, version_of}
use Rattle.cl_frames.specs.Across.{principal_in, there, IsAt}

key_step : (p : Principal) (d c : Contract) (rest : Option Contract) (b : Bool) → is_principal d.principal p ≡ b → (if b then Some d else rest) ≡ Some c → (rest ≡ Some c → holder c.principal ≡ holder p) → holder c.principal ≡ holder p
key_step p d c rest true e k next =
    let same : d ≡ c = cc in
    ap (λ (x : Contract). holder x.principal) (sym same) ∙ same_keys (holder d.principal) (holder p) e
key_step p d c rest false e k next = next k

-- a contract that is found has the key of its principal
found_key : (p : Principal) (W : Deployed) (c : Contract) → contract_at p W ≡ Some c → holder c.principal ≡ holder p
found_key p [] c h = absurd cc
found_key p (d ∷ W) c h = key_step p d c (contract_at p W) (is_principal d.principal p) refl h (found_key p W c)

same_found : (p q : Principal) (W : Deployed) → holder p ≡ holder q → contract_at p W ≡ contract_at q W
same_found p q [] h = refl
same_found p q (d ∷ W) h = λ i. if is_key (holder d.principal) (h i) then Some d else same_found p q W h i

-- it is found under its own principal too
pub found_at_home : (p : Principal) (W : Deployed) (c : Contract) → contract_at p W ≡ Some c → contract_at c.principal W ≡ Some c
found_at_home p W c h = same_found c.principal p W (found_key p W c h) ∙ h

-- a deployed contract is seen alike in its home, which has its parts and the values of its constants
pub seen_at_home : (p : Principal) (c : ContractOfCode) (h : Home) → c.checked.principal ≡ p → h.checked.now ≡ c.checked → h.constants.now.entries ≡ c.constants → contract_seen (p, c) ≡ home_seen h
seen_at_home p c h at checked constants = λ i.
    record { principal = own i; version = (sym checked i).version; forms = forms_of (sym checked i); source_length = (sym checked i).source_length; constants = sym constants i }
  where
    own : p ≡ h.checked.now.principal
    own = sym at ∙ ap (λ (q : Parts). q.principal) (sym checked)

-- ---- targets

pub no_other : (S : Scope) (t : Target) (p : Principal) → p ≡ principal_in S.frame.contract t → is_principal p S.frame.contract ≡ true → option_and_then (other_contract S) (target_of S (target t)) ≡ None
no_other S (Standing q at) p h k = ap (λ (b : Bool). if b then None else contract_at q S.deployed) (ap (λ (r : Principal). is_principal r S.frame.contract) (sym h) ∙ k)
no_other S (Local c at) p h k = ap (λ (b : Bool). if b then None else contract_at (beside S.frame.contract c) S.deployed) (ap (λ (r : Principal). is_principal r S.frame.contract) (sym h) ∙ k)

pub another : (S : Scope) (t : Target) (p : Principal) (o : Option Contract) → p ≡ principal_in S.frame.contract t → is_principal p S.frame.contract ≡ false → contract_at p S.deployed ≡ o → option_and_then (other_contract S) (target_of S (target t)) ≡ o
another S (Standing q at) p o h k e = ap (λ (b : Bool). if b then None else contract_at q S.deployed) (ap (λ (r : Principal). is_principal r S.frame.contract) (sym h) ∙ k) ∙ ap (λ (r : Principal). contract_at r S.deployed) (sym h) ∙ e
another S (Local c at) p o h k e = ap (λ (b : Bool). if b then None else contract_at (beside S.frame.contract c) S.deployed) (ap (λ (r : Principal). is_principal r S.frame.contract) (sym h) ∙ k) ∙ ap (λ (r : Principal). contract_at r S.deployed) (sym h) ∙ e

pub is_at : (c : Context) (h : Home) (p : Principal) → there c p ≡ Some (home_seen h) → IsAt c h
is_at c h p e = record { found = found_at_home p (with_opening c.opening (deployed_seen c.deployed.now)) (home_seen h) e }

-- the frame of a contract that is called has that contract
pub fits_there : (c : Context) (h : Home) (F : FrameOfCode) → F.contract ≡ h.checked.now.principal → IsAt c h → IsHome c.deployed.now c.opening c.home c.frame.now → IsHome c.deployed.now c.opening h F
fits_there c h F e at fits = record {
  found = ap (λ (p : Principal). contract_at p (with_opening c.opening (deployed_seen c.deployed.now))) e ∙ at.found;
}

equal_so : (p q : Principal) → eq-value.it p q ≡ same_principal p q
equal_so p q = search rules

pub is_same : OwnSpelling → (p q : Principal) → IsPrincipal p → IsPrincipal q → eq-value.it p q ≡ is_principal p q
is_same own p q i j = equal_so p q ∙ same_so own p q i j

pub fits_called : (d : DeployedOfCode) (c : ContractOfCode) (h : Home) (F : FrameOfCode) → contract_at F.contract (deployed_seen d) ≡ Some (contract_seen (F.contract, c)) → c.checked.principal ≡ F.contract → h.checked.now ≡ c.checked → h.constants.now.entries ≡ c.constants → IsHome d None h F
fits_called d c h F found at checked constants = record { found = found ∙ ap (λ (k : Contract). Some k) (seen_at_home F.contract c h at checked constants) }

-- names are looked up in a context's scopes as in a text of its home contract's version
pub of_version : (c : Context) (bound : List (List ℕ × Val)) → IsHome c.deployed.now c.opening c.home c.frame.now → IsOfVersion (version_of c) (scope_of c bound)
of_version c bound fits x = ap (native_of x) fits.found

-- Two principals have one key where they are one.
use Rattle.std.proofs.Common.{◌≡◌, true, sym, ap, ◌∙◌}
use Rattle.std.specs.Cmp.{both_ways}
use Rattle.cl_c32.specs.declared.principal.Principal.{Principal}
use Rattle.cl_c32.specs.Principals.{same_principal}
use Rattle.cl_c32.proofs.Principals.{principals_equal, principal_itself}
use Rattle.cl_maps.proofs.MapLaws.{same_keys, self_equal}
use Rattle.cl_values.specs.Tree.{PrincipalV}
use Rattle.cl_values.specs.Valid.{IsPrincipal}
use Rattle.cl_values.proofs.Spellings.{own_wire}
use Rattle.cl_values.proofs.Parts.{principal_is_val}
use Rattle.cl_events.specs.State.{holder, is_principal}

pub holders_apart : (p q : Principal) → IsPrincipal p → IsPrincipal q → is_principal p q ≡ true → p ≡ q
holders_apart p q vp vq e =
    let same : PrincipalV p ≡ PrincipalV q = own_wire (PrincipalV p) (PrincipalV q) (principal_is_val p vp) (principal_is_val q vq) (same_keys (holder p) (holder q) e) in
    cc

pub same_by_key : (p q : Principal) → IsPrincipal p → IsPrincipal q → is_principal p q ≡ same_principal p q
same_by_key p q vp vq = both_ways (is_principal p q) (same_principal p q)
    (λ h. ap (λ (r : Principal). same_principal p r) (sym (holders_apart p q vp vq h)) ∙ principal_itself p)
    (λ h. ap (λ (r : Principal). is_principal p r) (sym (principals_equal p q h)) ∙ self_equal (holder p))

-- When two principals are the same.
use Rattle.std.proofs.Common.{◌≡◌, true, sym, ap, ◌∙◌}
use Rattle.std.specs.Cmp.{both_ways}
use Rattle.cl_c32.specs.declared.principal.Principal.{Principal}
use Rattle.cl_c32.specs.Principals.{same_principal}
use Rattle.cl_c32.specs.contracts.principal.PrincipalPartialEq.TheImpl.{eq-value}
use Rattle.cl_c32.proofs.Principals.{principal_itself, principals_equal, same_in_code}
use Rattle.cl_maps.proofs.MapLaws.{same_keys, self_equal}
use Rattle.cl_values.specs.Tree.{Tree, PrincipalV}
use Rattle.cl_values.specs.Wire.{wire}
use Rattle.cl_values.specs.Valid.{IsVal, IsPrincipal}
use Rattle.cl_values.proofs.Parts.{principal_is_val}
use Rattle.cl_events.specs.State.{holder, is_principal}

abbrev pub OwnSpelling : Type 0
OwnSpelling = (v w : Tree) → IsVal v → IsVal w → wire v ≡ wire w → v ≡ w

one_principal : OwnSpelling → (p q : Principal) → IsPrincipal p → IsPrincipal q → is_principal p q ≡ true → p ≡ q
one_principal own p q vp vq e =
    let spelled : wire (PrincipalV p) ≡ wire (PrincipalV q) = same_keys (holder p) (holder q) e in
    let same : PrincipalV p ≡ PrincipalV q = own (PrincipalV p) (PrincipalV q) (principal_is_val p vp) (principal_is_val q vq) spelled in
    cc

pub same_so : OwnSpelling → (p q : Principal) → IsPrincipal p → IsPrincipal q → eq-value.it p q ≡ is_principal p q
same_so own p q vp vq = same_in_code p q ∙ both_ways (same_principal p q) (is_principal p q)
    (λ h. ap (λ (r : Principal). is_principal p r) (sym (principals_equal p q h)) ∙ self_equal (holder p))
    (λ h. ap (λ (r : Principal). same_principal p r) (sym (one_principal own p q vp vq h)) ∙ principal_itself p)

-- The laws of the test whether two principals are one.
use Rattle.std.proofs.Common.{◌≡◌, ℕ, true, List, Option, Some, None, refl, ap, rules}
use Rattle.std.specs.Prelude.{◌&&◌, nat_eq}
use Rattle.std.specs.Str.{bytes_eq}
use Rattle.std.proofs.lemmas.Bool.{and_parts, eqb-true}
use Rattle.std.proofs.lemmas.Cmp.{nat_eq_equiv, nat_list_eq_equiv}
use Rattle.std.proofs.lemmas.Slice.Eq.{bytes_eq-Decides}
use Rattle.cl_c32.specs.declared.principal.Principal.{Principal}
use Rattle.cl_c32.specs.contracts.principal.PrincipalPartialEq.TheImpl.{eq-value}
use Rattle.cl_c32.specs.Principals.{same_part, same_principal}

part_equal : (p q : Option (List ℕ)) → same_part p q ≡ true → p ≡ q
part_equal None None h = refl
part_equal None (Some y) h = absurd cc
part_equal (Some x) None h = absurd cc
part_equal (Some x) (Some y) h = ap (λ (z : List ℕ). Some z) ((bytes_eq-Decides x y).0 h)

part_itself : (p : Option (List ℕ)) → same_part p p ≡ true
part_itself None = refl
part_itself (Some x) = nat_list_eq_equiv.refl x

part_turned : (p q : Option (List ℕ)) → same_part p q ≡ same_part q p
part_turned None None = refl
part_turned None (Some y) = refl
part_turned (Some x) None = refl
part_turned (Some x) (Some y) = nat_list_eq_equiv.symm x y

pub principals_equal : (p q : Principal) → same_principal p q ≡ true → p ≡ q
principals_equal p q h =
    let both = and_parts (nat_eq p.address.version q.address.version && bytes_eq p.address.hash q.address.hash) (same_part p.contract q.contract) h in
    let front = and_parts (nat_eq p.address.version q.address.version) (bytes_eq p.address.hash q.address.hash) both.0 in
    let version : p.address.version ≡ q.address.version = eqb-true p.address.version q.address.version front.0 in
    let hash : p.address.hash ≡ q.address.hash = (bytes_eq-Decides p.address.hash q.address.hash).0 front.1 in
    let part : p.contract ≡ q.contract = part_equal p.contract q.contract both.1 in
    λ i. record { address = record { version = version i; hash = hash i }; contract = part i }

pub principal_itself : (p : Principal) → same_principal p p ≡ true
principal_itself p = λ i. nat_eq_equiv.refl p.address.version i && nat_list_eq_equiv.refl p.address.hash i && part_itself p.contract i

pub principals_turned : (p q : Principal) → same_principal p q ≡ same_principal q p
principals_turned p q = λ i. nat_eq_equiv.symm p.address.version q.address.version i && nat_list_eq_equiv.symm p.address.hash q.address.hash i && part_turned p.contract q.contract i

-- the code's equality of principals
pub same_in_code : (p q : Principal) → eq-value.it p q ≡ same_principal p q
same_in_code p q = search rules

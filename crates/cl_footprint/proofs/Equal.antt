-- The code's equality of places and of spots is equality.
use Rattle.std.proofs.Common.{◌≡◌, Bool, true, false, ◌&&◌, rules, refl, sym, ap, ◌∙◌}
use Rattle.std.specs.Prelude.{nat_eq}
use Rattle.std.specs.Cmp.Lexicographic.{pointwise, nat_list_eq_equiv}
use Rattle.std.proofs.lemmas.Bool.{and_from, and_parts}
use Rattle.cl_maps.proofs.MapLaws.{same_keys}
use Rattle.cl_tokens.proofs.Slots.{same_test}
use Rattle.cl_c32.specs.Principals.{same_principal}
use Rattle.cl_c32.proofs.Principals.{principal_itself, principals_equal}
use Rattle.cl_tables.specs.declared.place.Place.{Place}
use Rattle.cl_tables.specs.contracts.place.PlacePartialEq.TheImpl as places
use Rattle.cl_tables.specs.declared.spot.Spot.{Spot}
use Rattle.cl_tables.specs.declared.spot.Spot.TheVariants.{Variable, MapOf, Token, Stx}
use Rattle.cl_tables.specs.contracts.spot.SpotPartialEq.TheImpl as spots

abbrev same_place : Place → Place → Bool
same_place a b = same_principal a.contract b.contract && pointwise nat_eq a.name b.name

equal_so : (a b : Place) → places.eq-value.it a b ≡ same_place a b
equal_so a b = search rules

pub place_exact : (a b : Place) → places.eq-value.it a b ≡ true → a ≡ b
place_exact a b h =
    let both = and_parts (same_principal a.contract b.contract) (pointwise nat_eq a.name b.name) (sym (equal_so a b) ∙ h) in
    let contract = principals_equal a.contract b.contract both.0 in
    let name : a.name ≡ b.name = same_keys a.name b.name (sym (same_test a.name b.name) ∙ both.1) in
    λ i. record { contract = contract i; name = name i }

pub place_itself : (a : Place) → places.eq-value.it a a ≡ true
place_itself a = equal_so a a ∙ and_from (same_principal a.contract a.contract) (pointwise nat_eq a.name a.name) (principal_itself a.contract) (nat_list_eq_equiv.refl a.name)

abbrev same_spot : Spot → Spot → Bool
same_spot (Variable a) (Variable b) = places.eq-value.it a b
same_spot (MapOf a) (MapOf b) = places.eq-value.it a b
same_spot (Token a) (Token b) = places.eq-value.it a b
same_spot Stx Stx = true
same_spot a b = false

spot_so : (a b : Spot) → spots.eq-value.it a b ≡ same_spot a b
spot_so a b = search rules

same_exact : (a b : Spot) → same_spot a b ≡ true → a ≡ b
same_exact (Variable a) (Variable b) h = ap Variable (place_exact a b h)
same_exact (MapOf a) (MapOf b) h = ap MapOf (place_exact a b h)
same_exact (Token a) (Token b) h = ap Token (place_exact a b h)
same_exact Stx Stx h = refl
same_exact a b h = absurd cc

pub spot_exact : (a b : Spot) → spots.eq-value.it a b ≡ true → a ≡ b
spot_exact a b h = same_exact a b (sym (spot_so a b) ∙ h)

same_itself : (a : Spot) → same_spot a a ≡ true
same_itself (Variable a) = place_itself a
same_itself (MapOf a) = place_itself a
same_itself (Token a) = place_itself a
same_itself Stx = refl

pub spot_itself : (a : Spot) → spots.eq-value.it a a ≡ true
spot_itself a = spot_so a a ∙ same_itself a

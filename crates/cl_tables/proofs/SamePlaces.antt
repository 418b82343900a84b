-- The code's equality of places is that of their keys.
use Rattle.std.proofs.Common.{◌≡◌, Bool, ◌&&◌, rules, sym, ap, ◌∙◌}
use Rattle.std.specs.Prelude.{true, nat_eq}
use Rattle.std.specs.Cmp.{both_ways}
use Rattle.std.specs.Cmp.Lexicographic.{pointwise, nat_list_eq_equiv}
use Rattle.std.proofs.lemmas.Bool.{and_from, and_parts}
use Rattle.cl_maps.proofs.MapLaws.{same_keys, self_equal}
use Rattle.cl_tokens.specs.Table.{is_key}
use Rattle.cl_tokens.proofs.Slots.{same_test}
use Rattle.cl_c32.specs.Principals.{same_principal}
use Rattle.cl_c32.proofs.Principals.{principal_itself, principals_equal}
use Rattle.cl_tables.specs.declared.place.Place.{Place}
use Rattle.cl_tables.specs.contracts.place.PlacePartialEq.TheImpl.{eq-value}
use Rattle.cl_tables.specs.Variables.{IsPlace, key_of}
use Rattle.cl_tables.proofs.PlaceKeys.{keys_apart}

abbrev same_place : Place → Place → Bool
same_place a b = same_principal a.contract b.contract && pointwise nat_eq a.name b.name

equal_so : (a b : Place) → eq-value.it a b ≡ same_place a b
equal_so a b = search rules

place_equal : (a b : Place) → same_place a b ≡ true → a ≡ b
place_equal a b h =
    let both = and_parts (same_principal a.contract b.contract) (pointwise nat_eq a.name b.name) h in
    let contract = principals_equal a.contract b.contract both.0 in
    let name : a.name ≡ b.name = same_keys a.name b.name (sym (same_test a.name b.name) ∙ both.1) in
    λ i. record { contract = contract i; name = name i }

place_itself : (a : Place) → same_place a a ≡ true
place_itself a =
    and_from (same_principal a.contract a.contract) (pointwise nat_eq a.name a.name) (principal_itself a.contract) (nat_list_eq_equiv.refl a.name)

pub equal_is : (a b : Place) → IsPlace a → IsPlace b → eq-value.it a b ≡ is_key (key_of a) (key_of b)
equal_is a b real_a real_b =
    equal_so a b
    ∙ both_ways (same_place a b) (is_key (key_of a) (key_of b))
    (λ h. ap (λ p. is_key (key_of a) (key_of p)) (sym (place_equal a b h)) ∙ self_equal (key_of a))
    (λ h. ap (same_place a) (sym (keys_apart a b real_a real_b (same_keys (key_of a) (key_of b) h))) ∙ place_itself a)

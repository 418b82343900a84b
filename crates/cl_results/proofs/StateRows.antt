-- The rows of a kept state can be listed.
use Rattle.std.proofs.Common.{◌≡◌, ◌⊎◌, inl, inr, ℕ, ◌<◌, ◌&&◌, List, [], ◌++◌, length, get_or, drop, refl, sym, ap, subst, ◌∙◌, arith, append_assoc}
use Rattle.std.specs.Prelude.{Bool, true, false, Option, Some, None, nat_le, nat_lt}
use Rattle.std.proofs.lemmas.Bool.{ltb-true, ltb-false, leb-true, le-leb, and_from, and_parts}
use Rattle.cl_types.specs.Name.{IsName, fits_pattern}
use Rattle.cl_c32.specs.declared.principal.Principal.{Principal}
use Rattle.cl_values.specs.Tree.{Tree}
use Rattle.cl_values.specs.Valid.{IsPrincipal, IsVal}
use Rattle.cl_values.specs.Wire.{wire, name_wire}
use Rattle.cl_maps.specs.Maps.{Map, get, or_zero}
use Rattle.cl_maps.proofs.MapLaws.{self_equal}
use Rattle.cl_tokens.specs.Table.{is_key}
use Rattle.cl_tokens.specs.Ledger.{Ledger, balance}
use Rattle.cl_events.specs.State.{State, holder, place, spot}
use Rattle.cl_events.proofs.Holders.{holders_apart}
use Rattle.cl_tables.specs.declared.place.Place.{Place}
use Rattle.cl_tables.specs.declared.row.StateRow.{StateRow}
use Rattle.cl_tables.specs.Variables.{IsPlace, key_of}
use Rattle.cl_tables.specs.StateRows.{variable_row, entry_row, supply_row, owner_row, IsRow, OfVariable, OfEntry, OfBalance, OfSupply, OfAsset, OfStx}
use Rattle.cl_tables.specs.RowParts.{principal_size, holding_row}
use Rattle.cl_tables.proofs.PlaceKeys.{first_part, second_part, keys_apart}
use Rattle.cl_tables.proofs.KeyReading.{OwnSpelling, ends_at, spots_apart}
use Rattle.cl_meaning.specs.Deployed.{Deployed}
use Rattle.cl_meaning.specs.Kept.{IsHolder, Whole, Kept}
use Rattle.cl_expression_sound.specs.Stages.{AreDistinct}
use Rattle.cl_results.proofs.Listing.{Listed, OfMap, never_both, none_listed, one_listed, same_listed, both_listed, map_listed}

-- ---- keys that begin with a principal

same_start : (p q : Principal) (xs ys : List ℕ) → IsPrincipal p → IsPrincipal q → holder p ++ xs ≡ holder q ++ ys → xs ≡ ys
same_start p q xs ys valid also is =
    second_part (holder p) (holder q) xs ys (sym (ends_at p xs valid) ∙ ap (λ bytes. principal_size bytes) is ∙ ends_at q ys also) is

same_name : (p q : Principal) (x y : List ℕ) (xs ys : List ℕ) → IsPrincipal p → IsPrincipal q → place p x ++ xs ≡ place q y ++ ys → x ≡ y
same_name p q x y xs ys valid also is =
    let rest : name_wire x ++ xs ≡ name_wire y ++ ys = same_start p q (name_wire x ++ xs) (name_wire y ++ ys) valid also (sym (append_assoc (holder p) (name_wire x) xs) ∙ is ∙ append_assoc (holder q) (name_wire y) ys) in
    let sizes : length x ≡ length y = ap (λ bytes. get_or bytes 0 0) rest in
    first_part x y xs ys sizes (ap (drop 1) rest)

abbrev is_name : List ℕ → Bool
is_name x = fits_pattern x && nat_le (length x) 128

name_of_test : (x : List ℕ) → is_name x ≡ true → IsName x
name_of_test x e = let both = and_parts (fits_pattern x) (nat_le (length x) 128) e in record { pattern = both.0; within = leb-true (length x) 128 both.1 }

test_of_name : (x : List ℕ) → IsName x → is_name x ≡ false → ⊥
test_of_name x name e = never_both (is_name x) e (and_from (fits_pattern x) (nat_le (length x) 128) name.pattern (le-leb (length x) 128 name.within))

-- ---- what has a place

-- the key is that of a place, or of none
abbrev MaybePlace : List ℕ → Type 0
MaybePlace key = ((at : Place) × IsPlace at × (key ≡ key_of at)) ⊎ ((at : Place) → IsPlace at → key ≡ key_of at → ⊥)

maybe_place : (key : List ℕ) (p : Principal) (x : List ℕ) → IsPrincipal p → key ≡ place p x → MaybePlace key
maybe_place key p x valid is = by (is_name x) refl
  where
    by : (b : Bool) → is_name x ≡ b → MaybePlace key
    by true e = inl (record { contract = p; name = x }, (valid, name_of_test x e), is)
    by false e = inr (λ at real also. test_of_name x (subst IsName (same_name at.contract p at.name x [] [] real.0 valid (ap (λ bytes. bytes ++ []) (sym also ∙ is))) real.1) e)

abbrev OfPlace : List ℕ → (Place → StateRow → Type 0) → StateRow → Type 0
OfPlace key Q r = (at : Place) × IsPlace at × (key ≡ key_of at) × Q at r

place_listed : (key : List ℕ) (Q : Place → StateRow → Type 0) → MaybePlace key → ((at : Place) → Listed (Q at)) → Listed (OfPlace key Q)
place_listed key Q (inl here) given =
    same_listed (Q here.0) (OfPlace key Q) (λ r h. (here.0, here.1, here.2, h))
    (λ r h. subst (λ at. Q at r) (keys_apart h.0 here.0 h.1 here.1 (sym h.2 ∙ here.2)) h.3) (given here.0)
place_listed key Q (inr never) given = none_listed (OfPlace key Q) (λ r h. never h.0 h.1 h.2)

-- ---- holders

same_holder : (p q : Principal) → IsPrincipal p → IsPrincipal q → holder p ≡ holder q → p ≡ q
same_holder p q valid also is = holders_apart p q valid also (ap (λ bytes. is_key (holder p) bytes) (sym is) ∙ self_equal (holder p))

abbrev OfHolder : Option Place → Map ℕ → List ℕ → ℕ → StateRow → Type 0
OfHolder of m key n r = (who : Principal) × IsPrincipal who × (key ≡ holder who) × (0 < balance (holder who) m) × (r ≡ holding_row of who (balance (holder who) m))

holder_listed : (of : Option Place) (m : Map ℕ) (key : List ℕ) (n : ℕ) → IsHolder key → Listed (OfHolder of m key n)
holder_listed of m key n is = by (nat_lt 0 (balance (holder is.principal) m)) refl
  where
    same_who : (who : Principal) → IsPrincipal who → key ≡ holder who → who ≡ is.principal
    same_who who valid also = same_holder who is.principal valid is.valid (sym also ∙ is.spelled)

    by : (b : Bool) → nat_lt 0 (balance (holder is.principal) m) ≡ b → Listed (OfHolder of m key n)
    by true some =
        one_listed (OfHolder of m key n) (holding_row of is.principal (balance (holder is.principal) m))
        (is.principal, is.valid, is.spelled, ltb-true 0 (balance (holder is.principal) m) some, refl)
        (λ r h. h.4 ∙ ap (λ who. holding_row of who (balance (holder who) m)) (same_who h.0 h.1 h.2))
    by false none = none_listed (OfHolder of m key n) (λ r h.
        let positive : 0 < balance (holder is.principal) m = subst (λ who. 0 < balance (holder who) m) (same_who h.0 h.1 h.2) h.3 in
        let low = ltb-false 0 (balance (holder is.principal) m) none in omega (arith, positive, low))

abbrev OfHolders : Option Place → Map ℕ → StateRow → Type 0
OfHolders of m = OfMap m (OfHolder of m)

holders_listed : (of : Option Place) (m : Map ℕ) → ((key : List ℕ) (n : ℕ) → get key m ≡ Some n → IsHolder key) → Listed (OfHolders of m)
holders_listed of m are = map_listed m (OfHolder of m) (λ key n is. holder_listed of m key n (are key n is))

some_balance : (who : List ℕ) (m : Map ℕ) → 0 < balance who m → (n : ℕ) × (get who m ≡ Some n)
unfolding balance
some_balance who m positive = by (get who m) refl
  where
    by : (o : Option ℕ) → get who m ≡ o → (n : ℕ) × (get who m ≡ Some n)
    by (Some n) is = (n, is)
    by None is = let zero : or_zero (get who m) ≡ 0 = ap or_zero is in absurd (omega (arith, zero, positive))

-- ---- owners

abbrev OfOwner : Place → List ℕ → List ℕ → StateRow → Type 0
OfOwner at key owner r = (id : Tree) × (who : Principal) × IsVal id × IsPrincipal who × (key ≡ wire id) × (owner ≡ holder who) × (r ≡ owner_row at id who)

module _ (own : OwnSpelling) where
  owner_listed : (at : Place) (key owner : List ℕ) → (id : Tree) → IsVal id → key ≡ wire id → IsHolder owner → Listed (OfOwner at key owner)
  owner_listed at key owner id valid spelled is =
      one_listed (OfOwner at key owner) (owner_row at id is.principal) (id, is.principal, valid, is.valid, spelled, is.spelled, refl)
      (λ r h.
      let same : h.0 ≡ id = own h.0 id h.2 valid (sym h.4 ∙ spelled) in
      let who : h.1 ≡ is.principal = same_holder h.1 is.principal h.3 is.valid (sym h.5 ∙ is.spelled) in
      h.6 ∙ (λ i. owner_row at (same i) (who i)))

  -- ---- variables, entries and tokens

  abbrev OfVariables : State → StateRow → Type 0
  OfVariables s = OfMap s.variables (λ key v. OfPlace key (λ at r. r ≡ variable_row at v))

  abbrev OfSpot : List ℕ → Tree → StateRow → Type 0
  OfSpot key v r = (at : Place) × (k : Tree) × IsPlace at × IsVal k × (key ≡ spot at.contract at.name k) × (r ≡ entry_row at k v)

  abbrev OfEntries : State → StateRow → Type 0
  OfEntries s = OfMap s.entries OfSpot

  abbrev OfToken : Ledger → Place → StateRow → Type 0
  OfToken l at r = (r ≡ supply_row at l.supply) ⊎ OfHolders (Some at) l.balances r

  abbrev OfFungibles : State → StateRow → Type 0
  OfFungibles s = OfMap s.fungibles (λ key l. OfPlace key (OfToken l))

  abbrev OfAssets : State → StateRow → Type 0
  OfAssets s = OfMap s.nonfungibles (λ key owners. OfPlace key (λ at. OfMap owners (OfOwner at)))

  abbrev OfParts : State → StateRow → Type 0
  OfParts s r = OfVariables s r ⊎ (OfEntries s r ⊎ (OfFungibles s r ⊎ (OfAssets s r ⊎ OfHolders None s.stx.balances r)))

  spot_listed : (key : List ℕ) (v : Tree) (p : Principal) (x : List ℕ) (k : Tree) → IsPrincipal p → IsVal k → key ≡ spot p x k → Listed (OfSpot key v)
  spot_listed key v p x k valid fits is = by (is_name x) refl
    where
      by : (b : Bool) → is_name x ≡ b → Listed (OfSpot key v)
      by true e =
          let at : Place = record { contract = p; name = x } in
          let real : IsPlace at = (valid, name_of_test x e) in
          one_listed (OfSpot key v) (entry_row at k v) (at, k, real, fits, is, refl)
          (λ r h. let same = spots_apart own h.0 at h.1 k h.2 real h.3 fits (sym h.4 ∙ is) in h.5 ∙ (λ i. entry_row (same.0 i) (same.1 i) v))
      by false e = none_listed (OfSpot key v) (λ r h. test_of_name x (subst IsName (same_name h.0.contract p h.0.name x (wire h.1) (wire k) h.2.0 valid (sym h.4 ∙ is)) h.2.1) e)

  module _ (W : Deployed) (distinct : AreDistinct W) (s : State) (kept : Kept W Whole s) where
    variables_listed : Listed (OfVariables s)
    variables_listed = map_listed s.variables (λ key v. OfPlace key (λ at r. r ≡ variable_row at v)) (λ key v is.
        let variable = kept.variables key v is in
        place_listed key (λ at r. r ≡ variable_row at v) (maybe_place key variable.contract.principal variable.name (distinct.valid variable.contract variable.defined.there) variable.place)
        (λ at. one_listed (λ r. r ≡ variable_row at v) (variable_row at v) refl (λ r h. h)))

    entries_listed : Listed (OfEntries s)
    entries_listed = map_listed s.entries OfSpot (λ key v is.
        let entry = kept.entries key v is in
        spot_listed key v entry.contract.principal entry.name entry.entry_key (distinct.valid entry.contract entry.defined.there) entry.key_typed.valid entry.spot)

    fungibles_listed : Listed (OfFungibles s)
    fungibles_listed = map_listed s.fungibles (λ key l. OfPlace key (OfToken l)) (λ key l is.
        let token = kept.fungibles key l is in
        place_listed key (OfToken l) (maybe_place key token.contract.principal token.name (distinct.valid token.contract token.defined.there) token.place)
        (λ at. both_listed (λ r. r ≡ supply_row at l.supply) (OfHolders (Some at) l.balances) (one_listed (λ r. r ≡ supply_row at l.supply) (supply_row at l.supply) refl (λ r h. h)) (holders_listed (Some at) l.balances token.held.holders)))

    assets_listed : Listed (OfAssets s)
    assets_listed = map_listed s.nonfungibles (λ key owners. OfPlace key (λ at. OfMap owners (OfOwner at))) (λ key owners is.
        let token = kept.nonfungibles key owners is in
        place_listed key (λ at. OfMap owners (OfOwner at)) (maybe_place key token.contract.principal token.name (distinct.valid token.contract token.defined.there) token.place)
        (λ at. map_listed owners (OfOwner at) (λ id owner there.
        let asset = token.owned.assets id owner there in
        owner_listed at id owner asset.value asset.typed.valid asset.spelled (token.owned.principals id owner there))))

    row_from : (r : StateRow) → OfParts s r → IsRow s r
    row_from r (inl (key, v, is, (at, real, key_is, row))) = subst (IsRow s) (sym row) (OfVariable at v real (subst (λ k. get k s.variables ≡ Some v) key_is is))
    row_from r (inr (inl (key, v, is, (at, k, real, valid, key_is, row)))) = subst (IsRow s) (sym row) (OfEntry at k v real valid (subst (λ k. get k s.entries ≡ Some v) key_is is))
    row_from r (inr (inr (inl (key, l, is, (at, real, key_is, inl row))))) = subst (IsRow s) (sym row) (OfSupply at l real (subst (λ k. get k s.fungibles ≡ Some l) key_is is))
    row_from r (inr (inr (inl (key, l, is, (at, real, key_is, inr h))))) = subst (IsRow s) (sym h.3.4) (OfBalance at l h.3.0 real (subst (λ k. get k s.fungibles ≡ Some l) key_is is) h.3.1 h.3.3)
    row_from r (inr (inr (inr (inl (key, owners, is, (at, real, key_is, h)))))) =
        let o = h.3 in
        subst (IsRow s) (sym o.6) (OfAsset at owners o.0 o.1 real (subst (λ k. get k s.nonfungibles ≡ Some owners) key_is is) o.2 o.3 (subst (λ k. get k owners ≡ Some (holder o.1)) o.4 (h.2 ∙ ap Some o.5)))
    row_from r (inr (inr (inr (inr h)))) = subst (IsRow s) (sym h.3.4) (OfStx h.3.0 h.3.1 h.3.3)

    row_to : (r : StateRow) → IsRow s r → OfParts s r
    row_to r (OfVariable at v real is) = inl (key_of at, v, is, (at, real, refl, refl))
    row_to r (OfEntry at key v real valid is) = inr (inl (spot at.contract at.name key, v, is, (at, key, real, valid, refl, refl)))
    row_to r (OfBalance at token who real is valid more) =
        let some = some_balance (holder who) token.balances more in
        inr (inr (inl (key_of at, token, is, (at, real, refl, inr (holder who, some.0, some.1, (who, valid, refl, more, refl))))))
    row_to r (OfSupply at token real is) = inr (inr (inl (key_of at, token, is, (at, real, refl, inl refl))))
    row_to r (OfAsset at owners id owner real is valid owned owner_is) = inr (inr (inr (inl (key_of at, owners, is, (at, real, refl, (wire id, holder owner, owner_is, (id, owner, valid, owned, refl, refl, refl)))))))
    row_to r (OfStx who valid more) = let some = some_balance (holder who) s.stx.balances more in inr (inr (inr (inr (holder who, some.0, some.1, (who, valid, refl, more, refl)))))

    pub rows_listed : Listed (IsRow s)
    rows_listed =
        same_listed (OfParts s) (IsRow s) row_from row_to
        (both_listed (OfVariables s) _ variables_listed
        (both_listed (OfEntries s) _ entries_listed
        (both_listed (OfFungibles s) _ fungibles_listed
        (both_listed (OfAssets s) (OfHolders None s.stx.balances) assets_listed (holders_listed None s.stx.balances kept.stx.holders)))))

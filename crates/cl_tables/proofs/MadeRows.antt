-- The rows of each kind are just those of what a table has.
use Rattle.std.proofs.Common.{◌≡◌, ℕ, ◌<◌, List, [], ◌++◌, refl, ap, sym, subst, ◌∙◌, arith}
use Rattle.std.specs.Prelude.{Option, None, Some, Result, Ok, Err, OnOk}
use Rattle.std.specs.List.Sorted.{IsPermutation}
use Rattle.cl_c32.specs.declared.principal.Principal.{Principal}
use Rattle.cl_values.specs.Tree.{Tree, UintV, PrincipalV}
use Rattle.cl_values.specs.Wire.{wire}
use Rattle.cl_values.specs.Valid.{IsPrincipal}
use Rattle.cl_values.proofs.Parts.{principal_is_val}
use Rattle.cl_maps.specs.Maps.{Map, get, or_zero}
use Rattle.cl_tokens.specs.Ledger.{balance}
use Rattle.cl_tokens.specs.Owners.{Owners}
use Rattle.cl_events.specs.State.{holder, spot, place}
use Rattle.cl_tables.specs.declared.place.Place.{Place}
use Rattle.cl_tables.specs.declared.row.StateRow.{StateRow}
use Rattle.cl_tables.specs.declared.row.RowKind.TheVariants.{StxBalance}
use Rattle.cl_tables.specs.Codes.{principal_of}
use Rattle.cl_tables.specs.Variables.{key_of}
use Rattle.cl_tables.specs.StateRows.{variable_row, entry_row, owner_row, stx_row}
use Rattle.cl_tables.specs.RowParts.{IsVariableRow, IsEntryRow, holding_row, IsHolding, IsOwnerRow, Lists, Adds, OfVariables, OfEntries, OfHoldings, OfNonFungible}
use Rattle.cl_tables.proofs.PlaceKeys.{keys_apart}
use Rattle.cl_tables.proofs.KeyReading.{OwnSpelling, spots_apart}
use Rattle.cl_tables.proofs.RowLists.{OfMap, just_of_map, adds_so}

-- ------------------------------------------------------------ what keys rows have

abbrev pub place_bytes : Option Principal → Option (List ℕ) → List ℕ
place_bytes (Some contract) (Some name) = place contract name
place_bytes None name = []
place_bytes (Some contract) None = []

abbrev key_bytes : Option Tree → List ℕ
key_bytes (Some key) = wire key
key_bytes None = []

abbrev pub place_of_row : StateRow → List ℕ
place_of_row r = place_bytes r.contract r.name

abbrev key_of_row : StateRow → List ℕ
key_of_row r = key_bytes r.key

abbrev spot_of_row : StateRow → List ℕ
spot_of_row r = place_of_row r ++ key_of_row r

-- what holds of what was done
pub on_ok : {A E : Type 0} (r : Result A E) (P Q : Type 0) → (P → Q) → OnOk r P → OnOk r Q
on_ok (Ok a) P Q f h = f h
on_ok (Err e) P Q f h = tt

pub stx_made : (key v : Tree) (who : Principal) (n : ℕ) → key ≡ PrincipalV who → v ≡ UintV n
    → ◌≡◌ {A = StateRow} (record { kind = StxBalance; contract = None; name = None; key = Some key; value = v }) (stx_row who n)
stx_made key v who n key_is value_is = λ i. record { kind = StxBalance; contract = None; name = None; key = Some (key_is i); value = value_is i }

-- ------------------------------------------------------------ variables

variable_key : (e : List ℕ × Tree) (r : StateRow) → IsVariableRow e r → e.0 ≡ place_of_row r
variable_key e r is = is.2 ∙ sym (ap place_of_row is.3)

variable_one : (e : List ℕ × Tree) (r q : StateRow) → IsVariableRow e r → IsVariableRow e q → r ≡ q
variable_one e r q is also = is.3 ∙ ap (λ at. variable_row at e.1) (keys_apart is.0 also.0 is.1 also.1 (sym is.2 ∙ also.2)) ∙ sym also.3

variable_from : (m : Map Tree) (r : StateRow) → OfMap m IsVariableRow place_of_row variable_key variable_one r → OfVariables m r
variable_from m r (e, is, row) = (row.0, e.1, row.1, subst (λ k. get k m ≡ Some e.1) row.2 is, row.3)

variable_to : (m : Map Tree) (r : StateRow) → OfVariables m r → OfMap m IsVariableRow place_of_row variable_key variable_one r
variable_to m r is = ((key_of is.0, is.1), is.3, (is.0, is.2, refl, is.4))

pub variables_added : (m : Map Tree) (es : List (List ℕ × Tree)) (a b : List StateRow) → IsPermutation es m.list → Lists IsVariableRow es a b → Adds (OfVariables m) a b
variables_added m es a b moved lists =
    adds_so (OfMap m IsVariableRow place_of_row variable_key variable_one) (OfVariables m) a b (just_of_map m IsVariableRow place_of_row variable_key variable_one es a b moved lists) (variable_from m) (variable_to m)

-- ------------------------------------------------------------ entries of maps

entry_key : (e : List ℕ × Tree) (r : StateRow) → IsEntryRow e r → e.0 ≡ spot_of_row r
entry_key e r is = is.4 ∙ sym (ap spot_of_row is.5)

module _ (own : OwnSpelling) where
  entry_one : (e : List ℕ × Tree) (r q : StateRow) → IsEntryRow e r → IsEntryRow e q → r ≡ q
  entry_one e r q is also =
      let same = spots_apart own is.0 also.0 is.1 also.1 is.2 also.2 is.3 also.3 (sym is.4 ∙ also.4) in
      is.5 ∙ (λ i. entry_row (same.0 i) (same.1 i) e.1) ∙ sym also.5

  entry_from : (m : Map Tree) (r : StateRow) → OfMap m IsEntryRow spot_of_row entry_key entry_one r → OfEntries m r
  entry_from m r (e, is, row) = (row.0, row.1, e.1, row.2, row.3, subst (λ k. get k m ≡ Some e.1) row.4 is, row.5)

  entry_to : (m : Map Tree) (r : StateRow) → OfEntries m r → OfMap m IsEntryRow spot_of_row entry_key entry_one r
  entry_to m r is = ((spot is.0.contract is.0.name is.1, is.2), is.5, (is.0, is.1, is.3, is.4, refl, is.6))

  pub entries_added : (m : Map Tree) (es : List (List ℕ × Tree)) (a b : List StateRow) → IsPermutation es m.list → Lists IsEntryRow es a b → Adds (OfEntries m) a b
  entries_added m es a b moved lists =
      adds_so (OfMap m IsEntryRow spot_of_row entry_key entry_one) (OfEntries m) a b (just_of_map m IsEntryRow spot_of_row entry_key entry_one es a b moved lists) (entry_from m) (entry_to m)

  -- ------------------------------------------------------------ balances

  same_holder : (p q : Principal) → IsPrincipal p → IsPrincipal q → holder p ≡ holder q → p ≡ q
  same_holder p q real_p real_q is = ap principal_of (own (PrincipalV p) (PrincipalV q) (principal_is_val p real_p) (principal_is_val q real_q) is)

  holding_bytes : (of : Option Place) (who : Principal) (n : ℕ) → key_of_row (holding_row of who n) ≡ holder who
  holding_bytes None who n = refl
  holding_bytes (Some at) who n = refl

  holding_key : (of : Option Place) (e : List ℕ × ℕ) (r : StateRow) → IsHolding of e r → e.0 ≡ key_of_row r
  holding_key of e r is = is.2 ∙ sym (holding_bytes of is.0 e.1) ∙ sym (ap key_of_row is.3)

  holding_one : (of : Option Place) (e : List ℕ × ℕ) (r q : StateRow) → IsHolding of e r → IsHolding of e q → r ≡ q
  holding_one of e r q is also = is.3 ∙ ap (λ p. holding_row of p e.1) (same_holder is.0 also.0 is.1 also.1 (sym is.2 ∙ also.2)) ∙ sym also.3

  balance_is : (who : List ℕ) (m : Map ℕ) (n : ℕ) → get who m ≡ Some n → balance who m ≡ n
  unfolding balance
  balance_is who m n is = ap or_zero is

  held_step : (who : List ℕ) (m : Map ℕ) (o : Option ℕ) → get who m ≡ o → 0 < balance who m → get who m ≡ Some (balance who m)
  unfolding balance
  held_step who m None is some = let none : or_zero (get who m) ≡ 0 = ap or_zero is in absurd (omega (arith, none, some))
  held_step who m (Some n) is some = is ∙ ap Some (sym (ap or_zero is))

  module _ (of : Option Place) (m : Map ℕ) (positive : (who : List ℕ) (n : ℕ) → get who m ≡ Some n → 0 < n) where
    holding_from : (r : StateRow) → OfMap m (IsHolding of) key_of_row (holding_key of) (holding_one of) r → OfHoldings of m r
    holding_from r (e, is, row) =
        let found : get (holder row.0) m ≡ Some e.1 = subst (λ k. get k m ≡ Some e.1) row.2 is in
        let amount : balance (holder row.0) m ≡ e.1 = balance_is (holder row.0) m e.1 found in
        (row.0, row.1, subst (λ n. 0 < n) (sym amount) (positive (holder row.0) e.1 found), row.3 ∙ ap (holding_row of row.0) (sym amount))

    holding_to : (r : StateRow) → OfHoldings of m r → OfMap m (IsHolding of) key_of_row (holding_key of) (holding_one of) r
    holding_to r is = ((holder is.0, balance (holder is.0) m), held_step (holder is.0) m (get (holder is.0) m) refl is.2, (is.0, is.1, refl, is.3))

    pub holdings_added : (es : List (List ℕ × ℕ)) (a b : List StateRow) → IsPermutation es m.list → Lists (IsHolding of) es a b → Adds (OfHoldings of m) a b
    holdings_added es a b moved lists =
        adds_so (OfMap m (IsHolding of) key_of_row (holding_key of) (holding_one of)) (OfHoldings of m) a b
        (just_of_map m (IsHolding of) key_of_row (holding_key of) (holding_one of) es a b moved lists) holding_from holding_to

  -- ------------------------------------------------------------ owners

  owner_key : (at : Place) (e : List ℕ × List ℕ) (r : StateRow) → IsOwnerRow at e r → e.0 ≡ key_of_row r
  owner_key at e r is = is.4 ∙ sym (ap key_of_row is.6)

  owner_one : (at : Place) (e : List ℕ × List ℕ) (r q : StateRow) → IsOwnerRow at e r → IsOwnerRow at e q → r ≡ q
  owner_one at e r q is also =
      let id : is.0 ≡ also.0 = own is.0 also.0 is.2 also.2 (sym is.4 ∙ also.4) in
      let owner : is.1 ≡ also.1 = same_holder is.1 also.1 is.3 also.3 (sym is.5 ∙ also.5) in
      is.6 ∙ (λ i. owner_row at (id i) (owner i)) ∙ sym also.6

  module _ (at : Place) (m : Owners) where
    owner_from : (r : StateRow) → OfMap m (IsOwnerRow at) key_of_row (owner_key at) (owner_one at) r → OfNonFungible at m r
    owner_from r (e, is, row) =
        (row.0, row.1, row.2, row.3, subst (λ k. get k m ≡ Some (holder row.1)) row.4 (is ∙ ap Some row.5), row.6)

    owner_to : (r : StateRow) → OfNonFungible at m r → OfMap m (IsOwnerRow at) key_of_row (owner_key at) (owner_one at) r
    owner_to r is = ((wire is.0, holder is.1), is.4, (is.0, is.1, is.2, is.3, refl, refl, is.5))

    pub owners_added : (es : List (List ℕ × List ℕ)) (a b : List StateRow) → IsPermutation es m.list → Lists (IsOwnerRow at) es a b → Adds (OfNonFungible at m) a b
    owners_added es a b moved lists =
        adds_so (OfMap m (IsOwnerRow at) key_of_row (owner_key at) (owner_one at)) (OfNonFungible at m) a b
        (just_of_map m (IsOwnerRow at) key_of_row (owner_key at) (owner_one at) es a b moved lists) owner_from owner_to

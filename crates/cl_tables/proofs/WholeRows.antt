-- The rows of all parts of a state are its rows.
use Rattle.std.proofs.Common.{◌≡◌, ℕ, ◌≤◌, List, [], refl, ap, sym, subst, arith}
use Rattle.std.specs.Prelude.{◌⊎◌, Some, None}
use mathlib.Core.Logic.{inl, inr}
use Rattle.cl_tokens.specs.Ledger.{Ledger}
use Rattle.cl_tokens.specs.Owners.{Owners}
use Rattle.cl_events.specs.State.{State}
use Rattle.cl_tables.specs.declared.place.Place.{Place}
use Rattle.cl_tables.specs.declared.row.RowKind.{RowKind}
use Rattle.cl_tables.specs.declared.row.RowKind.TheVariants.{Variable, MapEntry, Balance, Supply, Owner, StxBalance}
use Rattle.cl_tables.specs.declared.row.StateRow.{StateRow}
use Rattle.cl_tables.specs.Variables.{key_of}
use Rattle.cl_tables.specs.Numbered.{by_place}
use Rattle.cl_tables.specs.Notes.{Held, state_of}
use Rattle.cl_tables.specs.StateRows.{IsRow, OfVariable, OfEntry, OfBalance, OfSupply, OfAsset, OfStx, AreRows}
use Rattle.cl_tables.specs.RowParts.{Adds, OfVariables, OfEntries, OfHoldings, OfFungible, OfNonFungible, OfPlaced}
use Rattle.cl_tables.proofs.RowLists.{adds_more, adds_so, all_added}
use Rattle.cl_tables.proofs.MadeRows.{place_of_row}

-- ------------------------------------------------------------ which parts have rows of which kind

abbrev part_number : RowKind → ℕ
part_number Variable = 0
part_number MapEntry = 1
part_number Balance = 2
part_number Supply = 3
part_number Owner = 4
part_number StxBalance = 5

abbrev number_of : StateRow → ℕ
number_of r = part_number r.kind

variable_number : (h : Held) (r : StateRow) → OfVariables h.variables r → number_of r ≡ 0
variable_number h r is = ap number_of is.4

entry_number : (h : Held) (r : StateRow) → OfEntries h.entries r → number_of r ≡ 1
entry_number h r is = ap number_of is.6

balance_number : (at : Place) (l : Ledger) (r : StateRow) → OfHoldings (Some at) l.balances r → number_of r ≡ 2
balance_number at l r is = ap number_of is.3

fungible_number : (at : Place) (l : Ledger) (r : StateRow) → OfFungible at l r → (2 ≤ number_of r) × (number_of r ≤ 3)
fungible_number at l r (inl is) = let number : number_of r ≡ 3 = ap number_of is in (omega (arith, number), omega (arith, number))
fungible_number at l r (inr is) = let number = balance_number at l r is in (omega (arith, number), omega (arith, number))

owner_number : (at : Place) (m : Owners) (r : StateRow) → OfNonFungible at m r → number_of r ≡ 4
owner_number at m r is = ap number_of is.5

stx_number : (l : Ledger) (r : StateRow) → OfHoldings None l.balances r → number_of r ≡ 5
stx_number l r is = ap number_of is.3

-- ------------------------------------------------------------ a fungible token

pub fungible_added : (at : Place) (l : Ledger) (a b c : List StateRow) (supply : StateRow) → Adds (λ r. r ≡ supply) a b → number_of supply ≡ 3 → Adds (OfHoldings (Some at) l.balances) b c → Adds (λ r. (r ≡ supply) ⊎ OfHoldings (Some at) l.balances r) a c
fungible_added at l a b c supply first third more =
    adds_more (λ r. r ≡ supply) (OfHoldings (Some at) l.balances) a b c first more (λ r is also. let own : number_of r ≡ number_of supply = ap number_of is in let other = balance_number at l r also in omega (arith, own, third, other))

pub fungible_place : (r : StateRow) (at : Place) (l : Ledger) → OfFungible at l r → place_of_row r ≡ key_of at
fungible_place r at l (inl is) = ap place_of_row is
fungible_place r at l (inr is) = ap place_of_row is.3

pub owner_place : (r : StateRow) (at : Place) (m : Owners) → OfNonFungible at m r → place_of_row r ≡ key_of at
owner_place r at m is = ap place_of_row is.5

-- ------------------------------------------------------------ all parts

abbrev OfParts : Held → StateRow → Type 0
OfParts h r = (((OfVariables h.variables r ⊎ OfEntries h.entries r) ⊎ OfPlaced OfFungible (by_place h.fungibles) r) ⊎ OfPlaced OfNonFungible (by_place h.nonfungibles) r) ⊎ OfHoldings None h.stx.balances r

two_parts : (h : Held) (r : StateRow) → OfVariables h.variables r ⊎ OfEntries h.entries r → number_of r ≤ 1
two_parts h r (inl is) = let number = variable_number h r is in omega (arith, number)
two_parts h r (inr is) = let number = entry_number h r is in omega (arith, number)

three_parts : (h : Held) (r : StateRow) → (OfVariables h.variables r ⊎ OfEntries h.entries r) ⊎ OfPlaced OfFungible (by_place h.fungibles) r → number_of r ≤ 3
three_parts h r (inl is) = let number = two_parts h r is in omega (arith, number)
three_parts h r (inr is) = (fungible_number is.0 is.1 r is.4).1

four_parts : (h : Held) (r : StateRow) → ((OfVariables h.variables r ⊎ OfEntries h.entries r) ⊎ OfPlaced OfFungible (by_place h.fungibles) r) ⊎ OfPlaced OfNonFungible (by_place h.nonfungibles) r → number_of r ≤ 4
four_parts h r (inl is) = let number = three_parts h r is in omega (arith, number)
four_parts h r (inr is) = let number = owner_number is.0 is.1 r is.4 in omega (arith, number)

row_from : (h : Held) (r : StateRow) → OfParts h r → IsRow (state_of h) r
row_from h r (inl (inl (inl (inl is)))) = subst (IsRow (state_of h)) (sym is.4) (OfVariable is.0 is.1 is.2 is.3)
row_from h r (inl (inl (inl (inr is)))) = subst (IsRow (state_of h)) (sym is.6) (OfEntry is.0 is.1 is.2 is.3 is.4 is.5)
row_from h r (inl (inl (inr (at, token, real, found, inl is)))) = subst (IsRow (state_of h)) (sym is) (OfSupply at token real found)
row_from h r (inl (inl (inr (at, token, real, found, inr is)))) = subst (IsRow (state_of h)) (sym is.3) (OfBalance at token is.0 real found is.1 is.2)
row_from h r (inl (inr (at, owners, real, found, is))) = subst (IsRow (state_of h)) (sym is.5) (OfAsset at owners is.0 is.1 real found is.2 is.3 is.4)
row_from h r (inr is) = subst (IsRow (state_of h)) (sym is.3) (OfStx is.0 is.1 is.2)

row_to : (h : Held) (r : StateRow) → IsRow (state_of h) r → OfParts h r
row_to h r (OfVariable at v real is) = inl (inl (inl (inl (at, v, real, is, refl))))
row_to h r (OfEntry at key v real valid is) = inl (inl (inl (inr (at, key, v, real, valid, is, refl))))
row_to h r (OfBalance at token who real is valid more) = inl (inl (inr (at, token, real, is, inr (who, valid, more, refl))))
row_to h r (OfSupply at token real is) = inl (inl (inr (at, token, real, is, inl refl)))
row_to h r (OfAsset at owners id owner real is valid owned owner_is) = inl (inr (at, owners, real, is, (id, owner, valid, owned, owner_is, refl)))
row_to h r (OfStx who valid more) = inr (who, valid, more, refl)

pub parts_added : (h : Held) (a b c d e f : List StateRow) → Adds (OfVariables h.variables) a b → Adds (OfEntries h.entries) b c → Adds (OfPlaced OfFungible (by_place h.fungibles)) c d
    → Adds (OfPlaced OfNonFungible (by_place h.nonfungibles)) d e → Adds (OfHoldings None h.stx.balances) e f → Adds (IsRow (state_of h)) a f
parts_added h a b c d e f variables entries fungibles nonfungibles stx =
    let two = adds_more (OfVariables h.variables) (OfEntries h.entries) a b c variables entries
    (λ r is also. let low = variable_number h r is in let high = entry_number h r also in omega (arith, low, high)) in
    let three = adds_more (λ r. OfVariables h.variables r ⊎ OfEntries h.entries r) (OfPlaced OfFungible (by_place h.fungibles)) a c d two fungibles
    (λ r is also. let low = two_parts h r is in let high = (fungible_number also.0 also.1 r also.4).0 in omega (arith, low, high)) in
    let four = adds_more (λ r. (OfVariables h.variables r ⊎ OfEntries h.entries r) ⊎ OfPlaced OfFungible (by_place h.fungibles) r) (OfPlaced OfNonFungible (by_place h.nonfungibles)) a d e three nonfungibles
    (λ r is also. let low = three_parts h r is in let high = owner_number also.0 also.1 r also.4 in omega (arith, low, high)) in
    let five = adds_more (λ r. ((OfVariables h.variables r ⊎ OfEntries h.entries r) ⊎ OfPlaced OfFungible (by_place h.fungibles) r) ⊎ OfPlaced OfNonFungible (by_place h.nonfungibles) r) (OfHoldings None h.stx.balances) a e f four stx
    (λ r is also. let low = four_parts h r is in let high = stx_number h.stx r also in omega (arith, low, high)) in
    adds_so (OfParts h) (IsRow (state_of h)) a f five (row_from h) (row_to h)

pub rows_of : (s : State) (a rows : List StateRow) → a ≡ [] → Adds (IsRow s) a rows → AreRows rows s
rows_of s a rows none adds =
    let all = all_added (IsRow s) rows (subst (λ xs. Adds (IsRow s) xs rows) none adds) in
    record { sound = all.0; whole = all.1; once = all.2 }

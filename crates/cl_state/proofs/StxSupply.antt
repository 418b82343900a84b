-- What an act is to the supply of STX.
use Rattle.std.proofs.Common.{◌≡◌, refl, sym, ap, subst, ◌∙◌, ℕ, ◌+◌, ◌-◌, List, arith}
use Rattle.std.specs.Prelude.{T, Bool, true, false, ◌==◌, if◌then◌else◌, None, Some, Result, Ok, Err, is_ok}
use Rattle.cl_c32.specs.declared.principal.Principal.{Principal}
use Rattle.cl_values.specs.Wire.{wire}
use Rattle.cl_maps.specs.Maps.{get}
use Rattle.cl_tokens.specs.declared.refusal.TokenRefusal.{TokenRefusal}
use Rattle.cl_tokens.specs.declared.refusal.TokenRefusal.TheVariants.{Code}
use Rattle.cl_tokens.specs.Ledger.{Ledger, IsLedger, minted, sent, burnt}
use Rattle.cl_tokens.specs.Owners.{Owners, asset_minted, asset_sent, asset_burnt}
use Rattle.cl_tokens.proofs.Balances.{balance-le-supply}
use Rattle.cl_tokens.proofs.Acts.{sent_supply, burnt_is}
use Rattle.cl_events.specs.declared.event.EventKind.{EventKind}
use Rattle.cl_events.specs.declared.event.EventKind.TheVariants.{Print, FtMint, FtTransfer, FtBurn, NftMint, NftTransfer, NftBurn, StxTransfer, StxBurn}
use Rattle.cl_events.specs.State.{State, holder, place, with_event, with_stx}
use Rattle.cl_events.specs.Acts.{Acted, acted, changed, moved, told, on_ledger, on_owners, burnt_stx}
use Rattle.cl_state.specs.Sums.{stx_burnt_by}
use Rattle.cl_tables.proofs.Spelled.{state_or, is_done, part_done, ledger_done, owners_done}

-- the supply is the same, and nothing of it is burnt
none_burnt : (s u : State) → u.stx.supply ≡ s.stx.supply → u.stx.supply + 0 ≡ s.stx.supply
none_burnt s u same = omega (arith, same)

on_token : (contract : Principal) (token : List ℕ) (f : Ledger → Result Ledger TokenRefusal) (s u : State) → on_ledger (place contract token) f s ≡ Some (Ok u) → u.stx.supply + 0 ≡ s.stx.supply
on_token contract token f s u e = none_burnt s u (sym (ap (λ (x : State). x.stx.supply) (ledger_done (place contract token) f s u (get (place contract token) s.fungibles) refl e).4))

on_assets : (contract : Principal) (token : List ℕ) (f : Owners → Result Owners TokenRefusal) (s u : State) → on_owners (place contract token) f s ≡ Some (Ok u) → u.stx.supply + 0 ≡ s.stx.supply
on_assets contract token f s u e = none_burnt s u (sym (ap (λ (x : State). x.stx.supply) (owners_done (place contract token) f s u (get (place contract token) s.nonfungibles) refl e).4))

some_burnt : (amount : ℕ) (from : List ℕ) (l m : Ledger) (b : Bool) → ◌≡◌ {A = Result Ledger TokenRefusal} (if b then Err (Code 3) else burnt amount from l) (Ok m) → burnt amount from l ≡ Ok m
some_burnt amount from l m true e = absurd (subst (λ (x : Result Ledger TokenRefusal). T (is_ok x)) (sym e) tt)
some_burnt amount from l m false e = e

-- what is burnt is there
burnt_supply : (amount : ℕ) (from : List ℕ) (l m : Ledger) → IsLedger l → burnt amount from l ≡ Ok m → m.supply + amount ≡ l.supply
burnt_supply amount from l m sums e =
    let is = burnt_is amount from l m e in
    let held = balance-le-supply l from sums in
    let less : l.supply - amount ≡ m.supply = ap (λ (x : Ledger). x.supply) is.1 in
    omega (arith, is.0, held, less)

changed_supply : (contract : Principal) (kind : EventKind) (s u : State) → IsLedger s.stx → changed contract kind s ≡ Some (Ok u) → u.stx.supply + stx_burnt_by kind ≡ s.stx.supply
unfolding changed
changed_supply contract (Print v) s u sums e = absurd (subst T (ap is_done (sym e)) tt)
changed_supply contract (FtMint token amount to) s u sums e = on_token contract token (minted amount (holder to)) s u e
changed_supply contract (FtTransfer token amount from to) s u sums e = on_token contract token (sent amount (holder from) (holder to)) s u e
changed_supply contract (FtBurn token amount from) s u sums e = on_token contract token (burnt amount (holder from)) s u e
changed_supply contract (NftMint token id to) s u sums e = on_assets contract token (asset_minted (wire id) (holder to)) s u e
changed_supply contract (NftTransfer token id from to) s u sums e = on_assets contract token (asset_sent (wire id) (holder from) (holder to)) s u e
changed_supply contract (NftBurn token id from) s u sums e = on_assets contract token (asset_burnt (wire id) (holder from)) s u e
changed_supply contract (StxTransfer amount from to) s u sums e =
    let r = part_done (λ m. with_stx m s) (sent amount (holder from) (holder to) s.stx) u e in
    none_burnt s u (sym (ap (λ (x : State). x.stx.supply) r.2) ∙ sent_supply amount (holder from) (holder to) s.stx r.0 r.1)
changed_supply contract (StxBurn amount from) s u sums e =
    let r = part_done (λ m. with_stx m s) (burnt_stx amount (holder from) s.stx) u e in
    ap (λ (x : State). x.stx.supply + amount) (sym r.2) ∙ burnt_supply amount (holder from) s.stx r.0 sums (some_burnt amount (holder from) s.stx r.0 (amount == 0) r.1)

moved_stx : (contract : Principal) (kind : EventKind) (s : State) → (moved contract kind s).stx ≡ s.stx
unfolding moved
moved_stx contract (Print v) s = refl
moved_stx contract (FtMint token amount to) s = refl
moved_stx contract (FtTransfer token amount from to) s = refl
moved_stx contract (FtBurn token amount from) s = refl
moved_stx contract (NftMint token id to) s = refl
moved_stx contract (NftTransfer token id from to) s = refl
moved_stx contract (NftBurn token id from) s = refl
moved_stx contract (StxTransfer amount from to) s = refl
moved_stx contract (StxBurn amount from) s = refl

told_is : (contract : Principal) (kind : EventKind) (x : Acted) (t : State) → told contract kind x ≡ Some (Ok t) → (u : State) × (x ≡ Some (Ok u)) × (moved contract kind (with_event contract kind u) ≡ t)
told_is contract kind None t e = absurd (subst T (ap is_done (sym e)) tt)
told_is contract kind (Some (Err r)) t e = absurd (subst T (ap is_done (sym e)) tt)
told_is contract kind (Some (Ok u)) t e = (u, refl, ap (state_or u) e)

-- a burn of STX takes its amount off the supply, and no other act changes it
pub acted_supply : (contract : Principal) (kind : EventKind) (s t : State) → IsLedger s.stx → acted contract kind s ≡ Some (Ok t) → t.stx.supply + stx_burnt_by kind ≡ s.stx.supply
unfolding acted
acted_supply contract kind s t sums e =
    let r = told_is contract kind (changed contract kind s) t e in
    let u : State = r.0 in
    let same : u.stx ≡ t.stx = sym (moved_stx contract kind (with_event contract kind u)) ∙ ap (λ (x : State). x.stx) r.2 in
    ap (λ (l : Ledger). l.supply + stx_burnt_by kind) (sym same) ∙ changed_supply contract kind s u sums r.1

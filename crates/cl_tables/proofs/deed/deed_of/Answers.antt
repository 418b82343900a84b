use Rattle.std.proofs.Common.{◌≡◌, refl, sym, ap, subst, ◌∙◌}
use Rattle.std.specs.Prelude.{Result, Ok, Err, IfOk, Some}
use Rattle.cl_c32.specs.declared.principal.Principal.{Principal}
use Rattle.cl_values.specs.Wire.{wire}
use Rattle.cl_values.specs.Valid.{IsPrincipal, IsVal}
use Rattle.cl_tokens.specs.declared.act.Act.{Act}
use Rattle.cl_tokens.specs.declared.act.Act.TheVariants.{Mint, Transfer, Burn}
use Rattle.cl_tokens.specs.declared.act.AssetAct.TheVariants as asset
use Rattle.cl_events.specs.declared.event.EventKind.{EventKind}
use Rattle.cl_events.specs.declared.event.EventKind.TheVariants.{FtMint, FtTransfer, FtBurn, NftMint, NftTransfer, NftBurn, StxTransfer, StxBurn}
use Rattle.cl_events.specs.State.{holder}
use Rattle.cl_tables.specs.declared.deed.Deed.{Deed}
use Rattle.cl_tables.specs.declared.deed.Deed.TheVariants.{OnStx, OnFungible, OnAsset}
use Rattle.cl_tables.specs.Deeds.{deed, IsSoundDeed}
use Rattle.cl_tables.proofs.Spelled.{sound_deed}
use Rattle.cl_tables.proofs.deed.deed_of.Goals as goal

meant : {E : Type 0} (contract : Principal) (kind event : EventKind) (r : Result Deed E) (x : Deed) → kind ≡ event → deed contract event ≡ Some x → IfOk r (λ d. d ≡ x) → IfOk r (λ d. deed contract kind ≡ Some d)
meant contract kind event (Ok d) x is means made = ap (deed contract) is ∙ means ∙ ap Some (sym made)
meant contract kind event (Err e) x is means made = tt

-- a deed is by an act that was made
module _ {E F : Type 0} (on : Act → Deed) where
  abbrev IsBy : Result Deed E → Result Act F → Type 0
  IsBy r acted = IfOk r (λ d. (a : Act) × (acted ≡ Ok a) × (d ≡ on a))

  by_act : (r : Result Deed E) (acted : Result Act F) (act : Act) → IsBy r acted → IfOk acted (λ a. a ≡ act) → IfOk r (λ d. d ≡ on act)
  by_act (Ok d) acted act by made = by.2 ∙ ap on (subst (λ (x : Result Act F). IfOk x (λ a. a ≡ act)) by.1 made)
  by_act (Err e) acted act by made = tt

  then : (r : Result Deed E) (acted : Result Act F) (P : Type 0) → IsBy r acted → IfOk acted (λ a. P) → IfOk r (λ d. P)
  then (Ok d) acted P by holds = subst (λ (x : Result Act F). IfOk x (λ a. P)) by.1 holds
  then (Err e) acted P by holds = tt

  sound_act : (r : Result Deed E) (acted : Result Act F) (act : Act) (A B : Type 0) → IsBy r acted → IfOk acted (λ a. a ≡ act) → IfOk acted (λ a. A) → IfOk acted (λ a. B) → (A → B → IsSoundDeed (on act)) → IfOk r (λ d. IsSoundDeed d)
  sound_act r acted act A B by made a b sound = sound_deed r (on act) A B (by_act r acted act by made) (then r acted A by a) (then r acted B by b) sound

pub returns-in-FtMint-clause-made : goal.returns-in-FtMint-clause-made
returns-in-FtMint-clause-made c =
    let act = Mint c.in-FtMint.amount (holder c.in-FtMint.to) in
    meant c.args.contract.now c.args.kind.now (FtMint c.in-FtMint.token c.in-FtMint.amount c.in-FtMint.to) c.ft_mint.result (OnFungible c.place_of.result act) c.in-FtMint.is
    (ap (λ at. Some (OnFungible at act)) (sym c.place_of.ensures)) c.ft_mint.ensures.made

pub returns-in-FtMint-clause-sound : goal.returns-in-FtMint-clause-sound
returns-in-FtMint-clause-sound c =
    sound_deed c.ft_mint.result (OnFungible c.place_of.result (Mint c.in-FtMint.amount (holder c.in-FtMint.to))) (IsPrincipal c.in-FtMint.to) (IsPrincipal c.in-FtMint.to) c.ft_mint.ensures.made
    c.ft_mint.ensures.ranges c.ft_mint.ensures.ranges (λ person same. (c.in-FtMint.to, person, refl))

pub returns-in-FtTransfer-clause-made : goal.returns-in-FtTransfer-clause-made
returns-in-FtTransfer-clause-made c =
    let act = Transfer c.in-FtTransfer.amount (holder c.in-FtTransfer.from) (holder c.in-FtTransfer.to) in
    meant c.args.contract.now c.args.kind.now (FtTransfer c.in-FtTransfer.token c.in-FtTransfer.amount c.in-FtTransfer.from c.in-FtTransfer.to) c.on_fungible.result (OnFungible c.place_of-in-FtTransfer.result act) c.in-FtTransfer.is (ap (λ at. Some (OnFungible at act)) (sym c.place_of-in-FtTransfer.ensures))
    (by_act (OnFungible c.place_of-in-FtTransfer.result) c.on_fungible.result c.transfer.result act c.on_fungible.ensures c.transfer.ensures.made)

pub returns-in-FtTransfer-clause-sound : goal.returns-in-FtTransfer-clause-sound
returns-in-FtTransfer-clause-sound c =
    sound_act (OnFungible c.place_of-in-FtTransfer.result) c.on_fungible.result c.transfer.result (Transfer c.in-FtTransfer.amount (holder c.in-FtTransfer.from) (holder c.in-FtTransfer.to)) (IsPrincipal c.in-FtTransfer.from) (IsPrincipal c.in-FtTransfer.to) c.on_fungible.ensures c.transfer.ensures.made
    c.transfer.ensures.from c.transfer.ensures.to (λ gives takes. ((c.in-FtTransfer.from, gives, refl), (c.in-FtTransfer.to, takes, refl)))

pub returns-in-FtBurn-clause-made : goal.returns-in-FtBurn-clause-made
returns-in-FtBurn-clause-made c =
    let act = Burn c.in-FtBurn.amount (holder c.in-FtBurn.from) in
    meant c.args.contract.now c.args.kind.now (FtBurn c.in-FtBurn.token c.in-FtBurn.amount c.in-FtBurn.from) c.on_fungible-in-FtBurn.result (OnFungible c.place_of-in-FtBurn.result act) c.in-FtBurn.is (ap (λ at. Some (OnFungible at act)) (sym c.place_of-in-FtBurn.ensures))
    (by_act (OnFungible c.place_of-in-FtBurn.result) c.on_fungible-in-FtBurn.result c.burn.result act c.on_fungible-in-FtBurn.ensures c.burn.ensures.made)

pub returns-in-FtBurn-clause-sound : goal.returns-in-FtBurn-clause-sound
returns-in-FtBurn-clause-sound c =
    sound_act (OnFungible c.place_of-in-FtBurn.result) c.on_fungible-in-FtBurn.result c.burn.result (Burn c.in-FtBurn.amount (holder c.in-FtBurn.from)) (IsPrincipal c.in-FtBurn.from) (IsPrincipal c.in-FtBurn.from) c.on_fungible-in-FtBurn.ensures c.burn.ensures.made
    c.burn.ensures.ranges c.burn.ensures.ranges (λ gives same. (c.in-FtBurn.from, gives, refl))

pub returns-in-NftMint-clause-made : goal.returns-in-NftMint-clause-made
returns-in-NftMint-clause-made c =
    let id = wire c.in-NftMint.id in
    let act = asset.Mint (holder c.in-NftMint.to) in
    meant c.args.contract.now c.args.kind.now (NftMint c.in-NftMint.token c.in-NftMint.id c.in-NftMint.to) c.nft_mint.result (OnAsset c.place_of-in-NftMint.result id act) c.in-NftMint.is
    (ap (λ at. Some (OnAsset at id act)) (sym c.place_of-in-NftMint.ensures)) c.nft_mint.ensures.made

pub returns-in-NftMint-clause-sound : goal.returns-in-NftMint-clause-sound
returns-in-NftMint-clause-sound c =
    sound_deed c.nft_mint.result (OnAsset c.place_of-in-NftMint.result (wire c.in-NftMint.id) (asset.Mint (holder c.in-NftMint.to))) (IsVal c.in-NftMint.id) (IsPrincipal c.in-NftMint.to) c.nft_mint.ensures.made c.nft_mint.ensures.asset c.nft_mint.ensures.ranges
    (λ valid person. ((c.in-NftMint.id, valid, refl), (c.in-NftMint.to, person, refl)))

pub returns-in-NftTransfer-clause-made : goal.returns-in-NftTransfer-clause-made
returns-in-NftTransfer-clause-made c =
    let id = wire c.in-NftTransfer.id in
    let act = asset.Transfer (holder c.in-NftTransfer.from) (holder c.in-NftTransfer.to) in
    meant c.args.contract.now c.args.kind.now (NftTransfer c.in-NftTransfer.token c.in-NftTransfer.id c.in-NftTransfer.from c.in-NftTransfer.to) c.nft_transfer.result (OnAsset c.place_of-in-NftTransfer.result id act) c.in-NftTransfer.is
    (ap (λ at. Some (OnAsset at id act)) (sym c.place_of-in-NftTransfer.ensures)) c.nft_transfer.ensures.made

pub returns-in-NftTransfer-clause-sound : goal.returns-in-NftTransfer-clause-sound
returns-in-NftTransfer-clause-sound c =
    sound_deed c.nft_transfer.result (OnAsset c.place_of-in-NftTransfer.result (wire c.in-NftTransfer.id) (asset.Transfer (holder c.in-NftTransfer.from) (holder c.in-NftTransfer.to))) (IsVal c.in-NftTransfer.id) (IsPrincipal c.in-NftTransfer.to)
    c.nft_transfer.ensures.made c.nft_transfer.ensures.asset c.nft_transfer.ensures.ranges (λ valid person. ((c.in-NftTransfer.id, valid, refl), (c.in-NftTransfer.to, person, refl)))

pub returns-in-NftBurn-clause-made : goal.returns-in-NftBurn-clause-made
returns-in-NftBurn-clause-made c =
    let id = wire c.in-NftBurn.id in
    let act = asset.Burn (holder c.in-NftBurn.from) in
    meant c.args.contract.now c.args.kind.now (NftBurn c.in-NftBurn.token c.in-NftBurn.id c.in-NftBurn.from) c.nft_burn.result (OnAsset c.place_of-in-NftBurn.result id act) c.in-NftBurn.is
    (ap (λ at. Some (OnAsset at id act)) (sym c.place_of-in-NftBurn.ensures)) c.nft_burn.ensures.made

pub returns-in-NftBurn-clause-sound : goal.returns-in-NftBurn-clause-sound
returns-in-NftBurn-clause-sound c =
    sound_deed c.nft_burn.result (OnAsset c.place_of-in-NftBurn.result (wire c.in-NftBurn.id) (asset.Burn (holder c.in-NftBurn.from))) (IsVal c.in-NftBurn.id) (IsVal c.in-NftBurn.id) c.nft_burn.ensures.made
    c.nft_burn.ensures.asset c.nft_burn.ensures.asset (λ valid same. ((c.in-NftBurn.id, valid, refl), tt))

pub returns-in-StxTransfer-clause-made : goal.returns-in-StxTransfer-clause-made
returns-in-StxTransfer-clause-made c =
    let act = Transfer c.in-StxTransfer.amount (holder c.in-StxTransfer.from) (holder c.in-StxTransfer.to) in
    meant c.args.contract.now c.args.kind.now (StxTransfer c.in-StxTransfer.amount c.in-StxTransfer.from c.in-StxTransfer.to) c.on_stx.result (OnStx act) c.in-StxTransfer.is refl
    (by_act OnStx c.on_stx.result c.transfer-in-StxTransfer.result act c.on_stx.ensures c.transfer-in-StxTransfer.ensures.made)

pub returns-in-StxTransfer-clause-sound : goal.returns-in-StxTransfer-clause-sound
returns-in-StxTransfer-clause-sound c =
    sound_act OnStx c.on_stx.result c.transfer-in-StxTransfer.result (Transfer c.in-StxTransfer.amount (holder c.in-StxTransfer.from) (holder c.in-StxTransfer.to)) (IsPrincipal c.in-StxTransfer.from) (IsPrincipal c.in-StxTransfer.to) c.on_stx.ensures c.transfer-in-StxTransfer.ensures.made
    c.transfer-in-StxTransfer.ensures.from c.transfer-in-StxTransfer.ensures.to (λ gives takes. ((c.in-StxTransfer.from, gives, refl), (c.in-StxTransfer.to, takes, refl)))

pub returns-in-StxBurn-clause-made : goal.returns-in-StxBurn-clause-made
returns-in-StxBurn-clause-made c =
    let act = Burn c.in-StxBurn.amount (holder c.in-StxBurn.from) in
    meant c.args.contract.now c.args.kind.now (StxBurn c.in-StxBurn.amount c.in-StxBurn.from) c.on_stx-in-StxBurn.result (OnStx act) c.in-StxBurn.is refl
    (by_act OnStx c.on_stx-in-StxBurn.result c.burn-in-StxBurn.result act c.on_stx-in-StxBurn.ensures c.burn-in-StxBurn.ensures.made)

pub returns-in-StxBurn-clause-sound : goal.returns-in-StxBurn-clause-sound
returns-in-StxBurn-clause-sound c =
    sound_act OnStx c.on_stx-in-StxBurn.result c.burn-in-StxBurn.result (Burn c.in-StxBurn.amount (holder c.in-StxBurn.from)) (IsPrincipal c.in-StxBurn.from) (IsPrincipal c.in-StxBurn.from) c.on_stx-in-StxBurn.ensures c.burn-in-StxBurn.ensures.made
    c.burn-in-StxBurn.ensures.ranges c.burn-in-StxBurn.ensures.ranges (λ gives same. (c.in-StxBurn.from, gives, refl))

-- What was told and moved changes no amount and no row.
use Rattle.std.proofs.Common.{◌≡◌, refl, List}
use Rattle.cl_c32.specs.declared.principal.Principal.{Principal}
use Rattle.cl_events.specs.declared.event.Event.{Event}
use Rattle.cl_events.specs.declared.event.Move.{Move}
use Rattle.cl_events.specs.declared.event.Asset.{Asset}
use Rattle.cl_events.specs.declared.event.Asset.TheVariants.{Stx, Ft, Nft}
use Rattle.cl_events.specs.State.{State}
use Rattle.cl_tables.specs.declared.row.StateRow.{StateRow}
use Rattle.cl_tables.specs.Amounts.{amount_of}
use Rattle.cl_tables.specs.StateRows.{IsRow, OfVariable, OfEntry, OfBalance, OfSupply, OfAsset, OfStx, AreRows}
use Rattle.cl_state.specs.Rows.{with_told}

pub amount_told : (asset : Asset) (who : Principal) (es : List Event) (ms : List Move) (s : State) → amount_of asset who s ≡ amount_of asset who (with_told es ms s)
amount_told Stx who es ms s = refl
amount_told (Ft contract token) who es ms s = refl
amount_told (Nft contract token id) who es ms s = refl

told : (s : State) (es : List Event) (ms : List Move) (r : StateRow) → IsRow s r → IsRow (with_told es ms s) r
told s es ms r (OfVariable at v real is) = OfVariable at v real is
told s es ms r (OfEntry at key v real valid is) = OfEntry at key v real valid is
told s es ms r (OfBalance at token who real is valid more) = OfBalance at token who real is valid more
told s es ms r (OfSupply at token real is) = OfSupply at token real is
told s es ms r (OfAsset at owners id owner real is valid owned owner_is) = OfAsset at owners id owner real is valid owned owner_is
told s es ms r (OfStx who valid more) = OfStx who valid more

untold : (s : State) (es : List Event) (ms : List Move) (r : StateRow) → IsRow (with_told es ms s) r → IsRow s r
untold s es ms r (OfVariable at v real is) = OfVariable at v real is
untold s es ms r (OfEntry at key v real valid is) = OfEntry at key v real valid is
untold s es ms r (OfBalance at token who real is valid more) = OfBalance at token who real is valid more
untold s es ms r (OfSupply at token real is) = OfSupply at token real is
untold s es ms r (OfAsset at owners id owner real is valid owned owner_is) = OfAsset at owners id owner real is valid owned owner_is
untold s es ms r (OfStx who valid more) = OfStx who valid more

pub rows_told : (s : State) (es : List Event) (ms : List Move) (rows : List StateRow) → AreRows rows s → AreRows rows (with_told es ms s)
rows_told s es ms rows are = record { sound = λ k d low. told s es ms _ (are.sound k d low); whole = λ r is. are.whole r (untold s es ms r is); once = are.once }

-- What an act on an asset of a non-fungible token gives.
use Rattle.std.specs.Prelude.{ℕ, List, Result}
use Rattle.cl_tokens.specs.declared.refusal.TokenRefusal.{TokenRefusal}
use Rattle.cl_tokens.specs.declared.act.AssetAct.{AssetAct}
use Rattle.cl_tokens.specs.declared.act.AssetAct.TheVariants.{Mint, Transfer, Burn}
use Rattle.cl_tokens.specs.Owners.{Owners, asset_minted, asset_sent, asset_burnt}

abbrev pub done : List ℕ → AssetAct → Owners → Result Owners TokenRefusal
done asset (Mint to) m = asset_minted asset to m
done asset (Transfer from to) m = asset_sent asset from to m
done asset (Burn from) m = asset_burnt asset from m

use Rattle.std.proofs.Common.{◌∙◌, sym}
use Rattle.std.specs.Ordering.{ordering_then}
use Rattle.cl_values.specs.Wire.{wire}
use Rattle.cl_post.specs.Holdings.{asset_parts, parts_cmp}
use Rattle.cl_post.proofs.Orders.{asset_cmp}
use Rattle.cl_post.proofs.holding.compare_assets.Goals as goal

pub returns-in-Nft-Nft : goal.returns-in-Nft-Nft
returns-in-Nft-Nft c =
    c.then-in-Nft-Nft-2.ensures
    ∙ (λ i. ordering_then ((c.then-in-Nft-Nft.ensures ∙ (λ j. ordering_then (c.compare_principals-in-Nft-Nft.ensures j) (c.cmp-in-Nft-Nft.ensures j))) i) (c.compare.ensures.order i))
    ∙ asset_cmp c.in-Nft-Nft.p c.in-Nft-Nft.q c.in-Nft-Nft.name c.in-Nft-Nft.other (wire c.in-Nft-Nft.id) (wire c.in-Nft-Nft.other_id)
    ∙ sym (λ i. parts_cmp (asset_parts (c.in-Nft-Nft.is-0 i)) (asset_parts (c.in-Nft-Nft.is-1 i)))

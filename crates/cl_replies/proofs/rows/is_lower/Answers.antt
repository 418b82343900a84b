use Rattle.std.proofs.Common.{◌≡◌, ◌∙◌}
use Rattle.std.proofs.lemmas.Option.{get_or_from_slice_get}
use Rattle.std.proofs.lemmas.Result.{IfOk-weaker}
use Rattle.cl_maps.specs.Maps.{key_cmp}
use Rattle.cl_root.specs.RowBytes.{key_bytes}
use Rattle.cl_replies.specs.Kept.{is_less}
use Rattle.cl_replies.proofs.rows.is_lower.Goals as goal

pub returns : goal.returns
returns c =
    let rows = c.args.rows.now in
    IfOk-weaker c.is_below.result _ _
    (λ below is row old at there.
    let first : c.index-rows-place.result ≡ row = c.index-rows-place.is ∙ get_or_from_slice_get rows c.args.place row c.index-rows-place.result at in
    let second : c.index-rows-other.result ≡ old = c.index-rows-other.is ∙ get_or_from_slice_get rows c.args.other old c.index-rows-other.result there in
    is ∙ (λ i. is_less (key_cmp (key_bytes (first i)) (key_bytes (second i)))))
    c.is_below.ensures

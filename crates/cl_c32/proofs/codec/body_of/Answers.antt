use Rattle.std.proofs.Common.{◌++◌, ap, ◌∙◌}
use Rattle.cl_c32.specs.Codec.{body_of}
use Rattle.cl_c32.proofs.Padding.{put_mid-filled}
use Rattle.cl_c32.proofs.codec.body_of.Goals as goal

pub returns : goal.returns
returns c =
    put_mid-filled c.copy_from_slice.new.self c.copy_from_slice-2.new.self c.copy_from_slice.ensures.len
    ∙ (λ i. c.copy_from_slice.ensures.after i ++ (c.copy_from_slice-2.ensures.after ∙ c.checksum_of-checksum.ensures) i)
    ∙ ap body_of c.address.view_is

use Rattle.std.proofs.Common.{Ok, sym, ap, ◌∙◌}
use Rattle.cl_c32.proofs.Texts.{checked_address-right, checked_address-wrong, checksum_of-part}
use Rattle.cl_c32.proofs.codec.checked_address.Goals as goal

pub returns-then-eq : goal.returns-then-eq
returns-then-eq c =
    ap Ok c.new.ensures
    ∙ sym (checked_address-right c.args.version c.args.body.now c.copy_from_slice.new.self c.copy_from_slice-2.new.self c.checksum_of-computed.result c.copy_from_slice.ensures.after (c.copy_from_slice-2.ensures.after ∙ checksum_of-part c.args.body.now c.told-body) c.checksum_of-computed.ensures (sym c.eq.ensures ∙ c.if-eq.true))

pub returns-else-eq : goal.returns-else-eq
returns-else-eq c =
    sym (checked_address-wrong c.args.version c.args.body.now c.copy_from_slice.new.self c.copy_from_slice-2.new.self c.checksum_of-computed.result c.copy_from_slice.ensures.after (c.copy_from_slice-2.ensures.after ∙ checksum_of-part c.args.body.now c.told-body) c.checksum_of-computed.ensures (sym c.eq.ensures ∙ c.if-eq.false))

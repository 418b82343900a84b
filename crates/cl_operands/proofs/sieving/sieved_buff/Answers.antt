use Rattle.cl_operands.proofs.SieveLaws.{applied_so, sieved_bytes}
use Rattle.cl_operands.proofs.sieving.sieved_buff.Goals as goal

pub returns : goal.returns
returns c = applied_so _ _ _ (sieved_bytes c.args.bytes.items c.args.flags.now _ c.in_ok-kept.ensures) c.within.ensures

use Rattle.cl_operands.proofs.SieveLaws.{applied_so, sieved_unicode}
use Rattle.cl_operands.proofs.sieving.sieved_string.Goals as goal

pub returns : goal.returns
returns c = applied_so _ _ _ (sieved_unicode c.args.text.items c.args.flags.now _ c.in_ok-kept.ensures) c.within.ensures

use Rattle.cl_frames.proofs.Sieving.{computes_so, sieved_bytes}
use Rattle.cl_steps.proofs.sieving.sieved_buff.Goals as goal

pub returns : goal.returns
returns c = computes_so _ _ _ (sieved_bytes c.args.bytes.items c.args.flags.now _ c.in_ok-kept.ensures) c.within.ensures

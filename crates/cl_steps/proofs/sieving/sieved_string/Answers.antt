use Rattle.cl_frames.proofs.Sieving.{computes_so, sieved_unicode}
use Rattle.cl_steps.proofs.sieving.sieved_string.Goals as goal

pub returns : goal.returns
returns c = computes_so _ _ _ (sieved_unicode c.args.characters.items c.args.flags.now _ c.in_ok-kept.ensures) c.within.ensures

use Rattle.std.proofs.Common.{sym, ◌∙◌}
use Rattle.cl_frames.proofs.Sieving.{sieved_only}
use Rattle.cl_steps.proofs.sieving.only_sieved.Goals as goal

pub returns-in-Some : goal.returns-in-Some
returns-in-Some c v only = sieved_only v c.in-Some.sequence c.pop.new.self.items c.args.flags.now _ (sym only ∙ c.in-Some.ensures.items) c.sieved.ensures

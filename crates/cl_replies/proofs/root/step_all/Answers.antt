use Rattle.cl_replies.proofs.SteppedFiles.{reached_first}
use Rattle.cl_replies.proofs.root.step_all.Goals as goal

pub loop-place-init : goal.loop-place-init
loop-place-init c = reached_first c.args.costs.now c.args.file.now c.args.node.now c.requires.holders c.requires.first
